-- The characters of some bytes in turn, each with its place.
-- Assumes nothing.
use Rattle.std.specs.Prelude.{ℕ, zero, suc, ◌+◌, ◌-◌, List, [], ◌∷◌, length, Some, None, Option}
use Rattle.characters.specs.Utf8.{character_at}
use Rattle.characters.specs.Widths.{character_width}

-- the character at place i, if there is one, and then the others
abbrev pub with_place : ℕ → Option ℕ → List (ℕ × ℕ) → List (ℕ × ℕ)
with_place i None others = []
with_place i (Some c) others = (i, c) ∷ others

-- of the first n characters from place i on
abbrev pub next_characters : ℕ → List ℕ → ℕ → List (ℕ × ℕ)
next_characters zero s i = []
next_characters (suc n) s i = with_place i (character_at s i) (next_characters n s (i + character_width s i))

-- each character from place i to the end: there are no more than bytes
abbrev pub characters_from : List ℕ → ℕ → List (ℕ × ℕ)
characters_from s i = next_characters (length s - i) s i
