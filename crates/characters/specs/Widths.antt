-- How many bytes the character at a place has.
-- Assumes nothing.
use Rattle.std.specs.Prelude.{ℕ, ◌+◌, ◌<◌, ◌≤◌, cond, List, [], ◌∷◌, length, take, drop, Some, None, Option, ◌==◌}
use Rattle.std.proofs.Math.Utf8.{encode}
use Rattle.text.specs.Bytes.{same}
use Rattle.characters.specs.Utf8.{character_at}

-- U+FFFD stands for a byte that begins no character, unless it is written out, as EF BF BD
abbrev pub replacement_width : List ℕ → ℕ
replacement_width bs = cond (same (take 3 bs) (0xEF ∷ 0xBF ∷ 0xBD ∷ [])) 3 1

abbrev pub width_of : List ℕ → Option ℕ → ℕ
width_of bs None = 0
width_of bs (Some c) = cond (c == 0xFFFD) (replacement_width bs) (length (encode c))

-- as many as are written of the character; none at the end or past it
abbrev pub character_width : List ℕ → ℕ → ℕ
character_width s i = width_of (drop i s) (character_at s i)

-- a character has at least one byte, and ends within the bytes
abbrev pub EndsWithin : List ℕ → ℕ → ℕ → Type 0
EndsWithin s i width = i < length s → (0 < width) × (i + width ≤ length s)
