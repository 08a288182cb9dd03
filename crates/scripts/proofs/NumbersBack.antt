-- Numbers that are written in decimal read back.
-- Assumes nothing.
use Rattle.std.proofs.Common.{◌≡◌, ℕ, ◌+◌, ◌-◌, ◌*◌, ◌^◌, ◌<◌, ◌≤◌, true, false, cond, not, ltb, List, [], ◌∷◌, ◌++◌, length, take, drop, Some, None, Ok, decimal, refl, sym, ap, ◌∙◌, subst, arith}
use Rattle.std.proofs.Math.Seq.{take-append_seam, drop-append_seam}
use Rattle.std.proofs.lemmas.Bool.{cond-true, lt-ltb}
use Rattle.std.proofs.lemmas.Bool.Decides.{nat_tests}
use Rattle.std.proofs.lemmas.Fmt.{decimal_is_IsNumeral}
use Rattle.std.proofs.lemmas.Str.{digit_value_digit}
use Rattle.std.proofs.lemmas.Str.Parse.{digit_from_value}
use Rattle.std.specs.Char.{is_ascii_whitespace, is_ascii_digit, digit_value}
use Rattle.std.specs.Int.{IsInRange}
use Rattle.std.specs.List.{prefix_len}
use Rattle.std.specs.Str.Parse.{AllDigits, digits_value_after}
use Rattle.scripts.specs.Words.{is_in_word, skip_space, word, behind_word, digit_more, number_from, number_of, number_or, number_in_front}

-- ---- digits

digit_no_space : (c : ℕ) → IsInRange 48 57 c → is_ascii_whitespace c ≡ false
digit_no_space c h = grind (arith, nat_tests)

digit_is : (c : ℕ) → IsInRange 48 57 c → is_ascii_digit c ≡ true
digit_is c h = grind (arith, nat_tests)

not_below : (n : ℕ) (ds : List ℕ) → n ≤ digits_value_after 10 n ds
not_below n [] = omega arith
not_below n (d ∷ ds) = omega (arith, not_below (n * 10 + digit_value d) ds)

more_is : (n d : ℕ) → digit_value d < 10 → n * 10 + digit_value d < 2 ^ 64 → digit_more (Some n) d ≡ Some (n * 10 + digit_value d)
more_is n d h small =
    let r = digit_from_value d h in
    let is : d - 48 ≡ digit_value d = omega (arith, digit_value_digit d r) in
    cond-true (is_ascii_digit d) _ None (digit_is d r)
    ∙ ap (λ k. cond (ltb (n * 10 + k) (2 ^ 64)) (Some (n * 10 + k)) None) is
    ∙ cond-true (ltb (n * 10 + digit_value d) (2 ^ 64)) _ None (lt-ltb (n * 10 + digit_value d) (2 ^ 64) small)

from_is : (n : ℕ) (ds : List ℕ) → AllDigits 10 ds → digits_value_after 10 n ds < 2 ^ 64 → number_from (Some n) ds ≡ Some (digits_value_after 10 n ds)
from_is n [] h small = refl
from_is n (d ∷ ds) h small =
    ap (λ k. number_from k ds) (more_is n d h.0 (omega (arith, not_below (n * 10 + digit_value d) ds, small)))
    ∙ from_is (n * 10 + digit_value d) ds h.1 small

of_is : (ds : List ℕ) → 0 < length ds → AllDigits 10 ds → digits_value_after 10 0 ds < 2 ^ 64 → number_of ds ≡ Some (digits_value_after 10 0 ds)
of_is [] some h small = absurd (omega (arith, some))
of_is (d ∷ ds) some h small = from_is 0 (d ∷ ds) h small

-- ---- a word of digits

-- nothing, or a space first
abbrev pub Apart : List ℕ → Type 0
Apart [] = Unit {0}
Apart (b ∷ bs) = b ≡ 32

word_ends : (rest : List ℕ) → Apart rest → prefix_len is_in_word rest ≡ 0
word_ends [] apart = refl
word_ends (b ∷ bs) apart = ap (λ c. cond (is_in_word c) (1 + prefix_len is_in_word bs) 0) apart

word_digits : (ds rest : List ℕ) → AllDigits 10 ds → Apart rest → prefix_len is_in_word (ds ++ rest) ≡ length ds
word_digits [] rest h apart = word_ends rest apart
word_digits (d ∷ ds) rest h apart =
    ap (λ w. cond (not w) (1 + prefix_len is_in_word (ds ++ rest)) 0) (digit_no_space d (digit_from_value d h.0))
    ∙ ap (λ k. 1 + k) (word_digits ds rest h.1 apart)
    ∙ omega arith

skip_one : (d : ℕ) (xs : List ℕ) → is_ascii_whitespace d ≡ false → skip_space (32 ∷ d ∷ xs) ≡ d ∷ xs
skip_one d xs h = ap (λ w. drop (1 + cond w (1 + prefix_len is_ascii_whitespace xs) 0) (32 ∷ d ∷ xs)) h

skip_to_digits : (ds rest : List ℕ) → 0 < length ds → AllDigits 10 ds → skip_space (32 ∷ (ds ++ rest)) ≡ ds ++ rest
skip_to_digits [] rest some h = absurd (omega (arith, some))
skip_to_digits (d ∷ ds) rest some h = skip_one d (ds ++ rest) (digit_no_space d (digit_from_value d h.0))

front_is : (ds rest : List ℕ) → 0 < length ds → AllDigits 10 ds → digits_value_after 10 0 ds < 2 ^ 64 → Apart rest → number_in_front (32 ∷ (ds ++ rest)) ≡ Ok (digits_value_after 10 0 ds, rest)
front_is ds rest some h small apart =
    let whole = word_digits ds rest h apart in
    ap (λ t. number_or (number_of (word t)) (behind_word t)) (skip_to_digits ds rest some h)
    ∙ ap (λ k. number_or (number_of (take k (ds ++ rest))) (drop k (ds ++ rest))) whole
    ∙ (λ i. number_or (number_of (take-append_seam ds rest i)) (drop-append_seam ds rest i))
    ∙ ap (λ n. number_or n rest) (of_is ds some h small)

-- a number behind a space
pub number_back : (n : ℕ) (rest : List ℕ) → n < 2 ^ 64 → Apart rest → number_in_front (32 ∷ (decimal n ++ rest)) ≡ Ok (n, rest)
number_back n rest small apart =
    let d = decimal_is_IsNumeral n small in
    front_is (decimal n) rest d.0.0 d.0.1 (subst (λ k. k < 2 ^ 64) (sym d.1) small) apart ∙ ap (λ k. Ok (k, rest)) d.1
