-- The supplied sets have scalar values from 128 up and no others: proofs, which the sets carry.
-- Assumes nothing.
use Rattle.std.specs.Prelude.{◌≡◌, ℕ, zero, suc, ◌<◌, ◌≤◌, min, Bool, true, not, List}
use Rattle.std.proofs.Common.{sym, ⊎_elim, arith}
use Rattle.std.proofs.Math.Utf8.{scalar}
use Rattle.std.proofs.lemmas.Bool.{and_parts, or_cases, true≢false, not-false}
use Rattle.std.proofs.lemmas.Bool.Decides.{nat_tests}
use Rattle.text.specs.Bytes.{within}
use Rattle.text.proofs.Firsts.{seek-first}
use Rattle.punctuation.specs.RangeLists.{first_of, last_of, lawful, range_count, taken_up, in_first, range_member}
use Rattle.punctuation.specs.Sets.{AreHighScalars, nothing, either}

pub nothing_high : AreHighScalars nothing
nothing_high c e = absurd (true≢false (sym e))

pub either_high : (p q : ℕ → Bool) → AreHighScalars p → AreHighScalars q → AreHighScalars (either p q)
either_high p q f g c e = ⊎_elim (f c) (g c) (or_cases (p c) (q c) e)

-- a number in lawful ranges is 128 or more
in_first_high : (xs : List ℕ) (n c : ℕ) → ((k : ℕ) → k < n → lawful xs k ≡ true) → in_first xs n c ≡ true → 128 ≤ c
in_first_high xs zero c h e = absurd (true≢false (sym e))
in_first_high xs (suc n) c h e =
    ⊎_elim
    (λ below. in_first_high xs n c (λ k lt. h k (omega arith)) below)
    (λ here. let r = h n (omega arith) in grind (arith, nat_tests))
    (or_cases (in_first xs n c) (within (first_of xs n) (last_of xs n) c) e)

pub range_member_high : (xs : List ℕ) → AreHighScalars (range_member xs)
range_member_high xs c e =
    let p = and_parts (scalar c) (in_first xs (taken_up xs) c) e in
    let lawful_ones : (k : ℕ) → k < taken_up xs → lawful xs k ≡ true = λ k lt. not-false (lawful xs k) ((seek-first (λ k. not (lawful xs k)) (min (range_count xs) 512) 0).none k (omega arith) lt) in
    (in_first_high xs (taken_up xs) c lawful_ones p.1, p.0)
