-- Members of the house set, and kinds: each is computed from its definition.
-- Assumes nothing.
use Rattle.std.specs.Prelude.{◌≡◌, true, false, [], ◌∷◌}
use Rattle.punctuation.specs.declared.kinds.CharacterKind.TheVariants.{Whitespace, Punctuation, Other}
use Rattle.punctuation.specs.Kinds.{kind_at}
use Rattle.punctuation.specs.RangeLists.{range_member, house}
use Rattle.punctuation.specs.Sets.{nothing}

-- the house set as a range list, and as what it means
abbrev pub HouseMembers : Type 0
HouseMembers =
    (range_member (0x2010 ∷ 0x2027 ∷ 0x2030 ∷ 0x205E ∷ []) 0x2010 ≡ true)
    × (range_member (0x2010 ∷ 0x2027 ∷ 0x2030 ∷ 0x205E ∷ []) 0x2028 ≡ false)
    × (range_member (0x2010 ∷ 0x2027 ∷ 0x2030 ∷ 0x205E ∷ []) 0x205E ≡ true)
    × (house 0x2014 ≡ true)
    × (house 0x205F ≡ false)

-- the dash U+2014 alone in a note, by the house set and by none; a no-break space; an underscore; the end
abbrev pub KindsTold : Type 0
KindsTold =
    (kind_at house (0xE2 ∷ 0x80 ∷ 0x94 ∷ []) 0 ≡ Punctuation)
    × (kind_at nothing (0xE2 ∷ 0x80 ∷ 0x94 ∷ []) 0 ≡ Other)
    × (kind_at house (0xC2 ∷ 0xA0 ∷ []) 0 ≡ Whitespace)
    × (kind_at nothing (0x5F ∷ []) 0 ≡ Punctuation)
    × (kind_at house [] 0 ≡ Whitespace)
