-- Numbers in groups of seven bits read back, and none takes fewer bytes.
-- Assumes nothing.
use Rattle.std.proofs.Common.{◌≡◌, ℕ, zero, suc, ◌+◌, ◌-◌, ◌*◌, ◌/◌, ◌%◌, ◌^◌, ◌<◌, ◌≤◌, ltb, List, [], ◌∷◌, ◌++◌, length, Some, Option, sym, ap, ◌∙◌, subst, ⊎_elim, arith}
use Rattle.std.specs.Option.{option_and_then}
use Rattle.std.specs.List.{AllByRecursion}
use Rattle.std.proofs.lemmas.Bool.{cond-true, cond-false, lt-ltb, le-ltb, cases_lt}
use Rattle.std.proofs.lemmas.Option.{option_and_then_some}
use Rattle.written.specs.Numbers.{groups, number, read_number, NumbersAreShortest}

one_group : (k n : ℕ) → n < 128 → groups (suc k) n ≡ n ∷ []
one_group k n lt = cond-true (ltb n 128) (n ∷ []) ((n % 128 + 128) ∷ groups k (n / 128)) (lt-ltb n 128 lt)

more_groups : (k n : ℕ) → 128 ≤ n → groups (suc k) n ≡ (n % 128 + 128) ∷ groups k (n / 128)
more_groups k n ge = cond-false (ltb n 128) (n ∷ []) ((n % 128 + 128) ∷ groups k (n / 128)) (le-ltb n 128 ge)

pub number-one : (n : ℕ) → n < 128 → number n ≡ n ∷ []
unfolding number
number-one n lt = one_group 8 n lt

pub number-two : (n : ℕ) → 128 ≤ n → n < 16384 → number n ≡ (n % 128 + 128) ∷ (n / 128) ∷ []
unfolding number
number-two n ge lt = more_groups 8 n ge ∙ ap (λ l. (n % 128 + 128) ∷ l) (one_group 7 (n / 128) (omega arith))

some_group : (k n : ℕ) → 0 < length (groups k n)
some_group zero n = omega arith
some_group (suc k) n =
    ⊎_elim
    (λ lt. subst (λ (l : List ℕ). 0 < length l) (sym (one_group k n lt)) (omega arith))
    (λ ge. subst (λ (l : List ℕ). 0 < length l) (sym (more_groups k n ge)) (omega arith))
    (cases_lt n 128)

pub number_some : (n : ℕ) → 0 < length (number n)
unfolding number
number_some n = some_group 9 n

-- ---- reading back

-- the last of so many groups has no high bit
abbrev HeldBy : ℕ → ℕ → Type 0
HeldBy zero n = n < 128
HeldBy (suc k) n = HeldBy k (n / 128)

-- what a group with a high bit makes of the number behind it
abbrev with_group : ℕ → ℕ × List ℕ → Option (ℕ × List ℕ)
with_group b r = Some (b - 128 + 128 * r.0, r.1)

read_last : (b : ℕ) (bs : List ℕ) → b < 128 → read_number (b ∷ bs) ≡ Some (b, bs)
read_last b bs lt = cond-true (ltb b 128) (Some (b, bs)) (option_and_then (with_group b) (read_number bs)) (lt-ltb b 128 lt)

read_group : (b : ℕ) (bs : List ℕ) → 128 ≤ b → read_number (b ∷ bs) ≡ option_and_then (with_group b) (read_number bs)
read_group b bs ge = cond-false (ltb b 128) (Some (b, bs)) (option_and_then (with_group b) (read_number bs)) (le-ltb b 128 ge)

held_small : (k n : ℕ) → n < 128 → HeldBy k n
held_small zero n lt = lt
held_small (suc k) n lt = held_small k (n / 128) (omega arith)

read_groups : (k n : ℕ) (more : List ℕ) → HeldBy k n → read_number (groups k n ++ more) ≡ Some (n, more)
read_groups zero n more h = read_last n more h
read_groups (suc k) n more h =
    ⊎_elim
    (λ lt. ap (λ (l : List ℕ). read_number (l ++ more)) (one_group k n lt) ∙ read_last n more lt)
    (λ ge.
    let whole : n % 128 + 128 - 128 + 128 * (n / 128) ≡ n = omega arith in
    ap (λ (l : List ℕ). read_number (l ++ more)) (more_groups k n ge)
    ∙ read_group (n % 128 + 128) (groups k (n / 128) ++ more) (omega arith)
    ∙ ap (option_and_then (with_group (n % 128 + 128))) (read_groups k (n / 128) more h)
    ∙ ap (λ (m : ℕ). Some (m, more)) whole)
    (cases_lt n 128)

-- ---- no fewer bytes

first_of : {A B : Type 0} (p q : A × B) → ◌≡◌ {A = Option (A × B)} (Some p) (Some q) → p ≡ q
first_of p q e = cc

no_fewer : (k n : ℕ) (bytes : List ℕ) → AllByRecursion (λ b. b < 256) bytes → read_number bytes ≡ Some (n, []) → length (groups k n) ≤ length bytes
no_fewer k n [] h e = cc
no_fewer zero n (b ∷ bs) h e = omega arith
no_fewer (suc k) n (b ∷ bs) h e =
    ⊎_elim
    (λ lt. omega (arith, ap length (one_group k n lt)))
    (λ ge.
    ⊎_elim
    (λ lt.
    let same = first_of (b, bs) (n, []) (sym (read_last b bs lt) ∙ e) in
    let is : b ≡ n = ap (λ p. p.0) same in
    omega arith)
    (λ high.
    option_and_then_some (with_group b) (read_number bs) (n, []) (sym (read_group b bs high) ∙ e)
    (λ x is made.
    let same = first_of (b - 128 + 128 * x.0, x.1) (n, []) made in
    let whole : b - 128 + 128 * x.0 ≡ n = ap (λ p. p.0) same in
    let none : x.1 ≡ [] = ap (λ p. p.1) same in
    let quotient : x.0 ≡ n / 128 = omega (arith, h.0) in
    let rest = no_fewer k (n / 128) bs h.1 (is ∙ (λ i. Some (quotient i, none i))) in
    omega (arith, rest, ap length (more_groups k n ge))))
    (cases_lt b 128))
    (cases_lt n 128)

held_word : (n : ℕ) → n < 2 ^ 64 → HeldBy 9 n
held_word n lt = omega arith

pub numbers_are_shortest : NumbersAreShortest
unfolding number
numbers_are_shortest = record {
  read_back = λ n more lt. read_groups 9 n more (held_word n lt);
  shortest = λ n bytes h e. no_fewer 9 n bytes h e;
}

pub read-small : (n : ℕ) (more : List ℕ) → n ≤ 1024 → read_number (number n ++ more) ≡ Some (n, more)
read-small n more le = numbers_are_shortest.read_back n more (omega arith)
