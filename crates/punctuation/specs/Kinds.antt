-- The kind of a character, and of a place of a note. A punctuation set is given by its membership.
-- Assumes nothing.
use Rattle.std.specs.Prelude.{ℕ, Bool, cond, List, [], ◌∷◌, Some, None, Option, nat_lt}
use Rattle.punctuation.specs.declared.kinds.CharacterKind.{CharacterKind}
use Rattle.punctuation.specs.declared.kinds.CharacterKind.TheVariants.{Whitespace, Punctuation, Other}
use Rattle.characters.specs.Utf8.{character_at}
use Rattle.characters.specs.WhiteSpace.{in_ranges, white_space}

-- ! to /, : to @, [ to `, { to ~
abbrev pub ascii_punctuation : List (ℕ × ℕ)
ascii_punctuation = (33, 47) ∷ (58, 64) ∷ (91, 96) ∷ (123, 126) ∷ []

-- the set has its say from 128 up alone
abbrev pub punctuation : (ℕ → Bool) → ℕ → Bool
punctuation member c = cond (nat_lt c 128) (in_ranges ascii_punctuation c) (member c)

-- white space comes first: no set makes it punctuation
abbrev pub kind_of : (ℕ → Bool) → ℕ → CharacterKind
kind_of member c = cond (white_space c) Whitespace (cond (punctuation member c) Punctuation Other)

abbrev pub kind_or_end : (ℕ → Bool) → Option ℕ → CharacterKind
kind_or_end member None = Whitespace
kind_or_end member (Some c) = kind_of member c

-- that of the character at place i of s; the end of the note, and all past it, is white space
abbrev pub kind_at : (ℕ → Bool) → List ℕ → ℕ → CharacterKind
kind_at member s i = kind_or_end member (character_at s i)
