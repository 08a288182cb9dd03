-- The words of a line, and numbers. A word is what stands between white space.
-- Assumes nothing.
use denote.Ref.{Bor}
use Rattle.std.specs.Prelude.{◌≡◌, ℕ, ◌+◌, ◌-◌, ◌*◌, ◌^◌, Bool, cond, not, List, [], ◌∷◌, length, drop, take_while, Some, None, Option, Ok, Err, Result, ◌==◌, nat_lt}
use Rattle.std.specs.Char.{is_ascii_whitespace, is_ascii_digit}
use Rattle.std.specs.List.{prefix_len}
use Rattle.scripts.specs.declared.errors.Expected.{Expected}
use Rattle.scripts.specs.declared.errors.Expected.TheVariants as expected

abbrev pub is_in_word : ℕ → Bool
is_in_word b = not (is_ascii_whitespace b)

-- without the white space in front
abbrev pub skip_space : List ℕ → List ℕ
skip_space text = drop (prefix_len is_ascii_whitespace text) text

-- a text that begins with a word: that word, and what stands behind it
abbrev pub word : List ℕ → List ℕ
word text = take_while is_in_word text

abbrev pub behind_word : List ℕ → List ℕ
behind_word text = drop (prefix_len is_in_word text) text

-- nothing but white space
abbrev pub ended : List ℕ → Result (Unit {0}) Expected
ended text = cond (length (skip_space text) == 0) (Ok tt) (Err expected.EndOfLine)

-- ---- numbers

-- a number that 64 bits hold
abbrev pub held_number : ℕ → Option ℕ
held_number n = cond (nat_lt n (2 ^ 64)) (Some n) None

abbrev pub digit_more : Option ℕ → ℕ → Option ℕ
digit_more None d = None
digit_more (Some n) d = cond (is_ascii_digit d) (held_number (n * 10 + (d - 48))) None

-- the number with these digits behind those of n
abbrev pub number_from : Option ℕ → List ℕ → Option ℕ
number_from n [] = n
number_from n (d ∷ ds) = number_from (digit_more n d) ds

-- one decimal digit or more
abbrev pub number_of : List ℕ → Option ℕ
number_of [] = None
number_of (d ∷ ds) = number_from (Some 0) (d ∷ ds)

abbrev pub number_or : Option ℕ → List ℕ → Result (ℕ × List ℕ) Expected
number_or None rest = Err expected.Number
number_or (Some n) rest = Ok (n, rest)

-- the number that the next word is, and what stands behind it
abbrev pub number_in_front : List ℕ → Result (ℕ × List ℕ) Expected
number_in_front text = number_or (number_of (word (skip_space text))) (behind_word (skip_space text))

-- the same of a part of a text, which lies where that text lies
abbrev pub IsNumberInFront : List ℕ → Result (ℕ × Bor (List ℕ)) Expected → Type 0
IsNumberInFront text (Ok r) = number_in_front text ≡ Ok (r.0, r.1.now)
IsNumberInFront text (Err e) = number_in_front text ≡ Err e
