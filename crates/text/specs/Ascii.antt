-- The ASCII letters, digits and lower case.
-- Assumes nothing.
use Rattle.std.specs.Prelude.{ℕ, ◌+◌, Bool, cond, ◌||◌, List, map}
use Rattle.text.specs.Bytes.{within, same}

abbrev pub letter : ℕ → Bool
letter b = within 65 90 b || within 97 122 b

abbrev pub digit : ℕ → Bool
digit b = within 48 57 b

abbrev pub letter_or_digit : ℕ → Bool
letter_or_digit b = letter b || digit b

-- A to Z become a to z, and every other byte stays
abbrev pub lower_case : ℕ → ℕ
lower_case b = cond (within 65 90 b) (b + 32) b

-- the bytes are those of the word in any case; the word has no capitals
abbrev pub reads : List ℕ → List ℕ → Bool
reads word bytes = same word (map lower_case bytes)
