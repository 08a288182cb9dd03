-- Characters at places of some bytes, computed from the definition.
-- Assumes nothing.
use Rattle.std.specs.Prelude.{◌≡◌, [], ◌∷◌, Some, None}
use Rattle.characters.specs.Utf8.{character_at}

abbrev pub CharactersRead : Type 0
CharactersRead =
    (character_at (0x61 ∷ []) 0 ≡ Some 0x61)
    × (character_at (0x61 ∷ 0xC3 ∷ 0xA9 ∷ []) 1 ≡ Some 0xE9)
    × (character_at (0xE2 ∷ 0x80 ∷ 0x94 ∷ 0x61 ∷ []) 0 ≡ Some 0x2014)
    × (character_at (0xF0 ∷ 0x9F ∷ 0x91 ∷ 0x8D ∷ []) 0 ≡ Some 0x1F44D)
    × (character_at (0xC0 ∷ 0x80 ∷ []) 0 ≡ Some 0xFFFD)
    × (character_at (0xED ∷ 0xA0 ∷ 0x80 ∷ []) 0 ≡ Some 0xFFFD)
    × (character_at (0xE2 ∷ 0x80 ∷ []) 0 ≡ Some 0xFFFD)
    × (character_at (0xF4 ∷ 0x90 ∷ 0x80 ∷ 0x80 ∷ []) 0 ≡ Some 0xFFFD)
    × (character_at (0x61 ∷ []) 1 ≡ None)
