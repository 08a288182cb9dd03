-- The first place with a property: what it is, and how a loop that looks for it steps.
-- Assumes nothing.
use Rattle.std.proofs.Common.{◌≡◌, ℕ, zero, suc, ◌+◌, ◌-◌, ◌<◌, ◌≤◌, Bool, true, false, List, length, sym, ap, ◌∙◌, subst, ⊎_elim, add-one, arith}
use Rattle.std.proofs.lemmas.Bool.{both_ways, cases_Bool, cases_lt, cond-true, cond-false}
use Rattle.text.specs.Bytes.{seek, first}

-- r is the first of the n places from i on where p holds, or i + n where it holds at none
pub record First (p : ℕ → Bool) (n i r : ℕ) : Type 0 where
  pub low : i ≤ r
  pub high : r ≤ i + n
  pub none : (j : ℕ) → i ≤ j → j < r → p j ≡ false
  pub here : r < i + n → p r ≡ true

pub seek-first : (p : ℕ → Bool) (n i : ℕ) → First p n i (seek p n i)
seek-first p zero i = record { low = omega arith; high = omega arith; none = λ j a b. absurd (omega arith); here = λ h. absurd (omega arith) }
seek-first p (suc n) i =
    ⊎_elim
    (λ now. subst (First p (suc n) i) (sym (cond-true (p i) _ _ now)) (record { low = omega arith; high = omega arith; none = λ j a b. absurd (omega arith); here = λ h. now }))
    (λ later.
    let f = seek-first p n (suc i) in
    subst (First p (suc n) i) (sym (cond-false (p i) _ _ later))
    (record {
      low = omega (arith, f.low);
      high = omega (arith, f.high);
      none = λ j a b. ⊎_elim (λ lt. f.none j lt b) (λ le. let e : i ≡ j = omega arith in subst (λ k. p k ≡ false) e later) (cases_lt i j);
      here = λ h. f.here (omega arith);
    }))
    (cases_Bool (p i))

-- there is only one
pub first-seek : (p : ℕ → Bool) (n i r : ℕ) → First p n i r → seek p n i ≡ r
first-seek p zero i r f = omega (arith, f.low, f.high)
first-seek p (suc n) i r f =
    ⊎_elim
    (λ now. cond-true (p i) _ _ now ∙
    ⊎_elim (λ lt. absurd (both_ways (p i) (f.none i (omega arith) lt) now)) (λ le. omega (arith, f.low)) (cases_lt i r))
    (λ later. cond-false (p i) _ _ later ∙
    ⊎_elim
    (λ lt. first-seek p n (suc i) r (record { low = lt; high = omega (arith, f.high); none = λ j a b. f.none j (omega arith) b; here = λ h. f.here (omega arith) }))
    (λ le. let e : r ≡ i = omega (arith, f.low) in absurd (both_ways (p i) later (subst (λ k. p k ≡ true) e (f.here (omega arith)))))
    (cases_lt i r))
    (cases_Bool (p i))

-- ---- the first place of a list: one step on, here, and at the end

pub first_more : (p : ℕ → Bool) (s : List ℕ) (i : ℕ) → i < length s → p i ≡ false → first p s i ≡ first p s (i + 1)
first_more p s i lt h =
    let e : length s - i ≡ suc (length s - (i + 1)) = omega arith in
    ap (λ k. seek p k i) e ∙ cond-false (p i) _ _ h ∙ ap (seek p (length s - (i + 1))) (sym (add-one i))

pub first_here : (p : ℕ → Bool) (s : List ℕ) (i : ℕ) → i < length s → p i ≡ true → first p s i ≡ i
first_here p s i lt h =
    let e : length s - i ≡ suc (length s - (i + 1)) = omega arith in
    ap (λ k. seek p k i) e ∙ cond-true (p i) _ _ h

pub first-end : (p : ℕ → Bool) (s : List ℕ) (i : ℕ) → length s ≤ i → first p s i ≡ i
first-end p s i le = let e : length s - i ≡ 0 = omega arith in ap (λ k. seek p k i) e

-- from a place within the list it lies between that place and the end
pub record Within (p : ℕ → Bool) (s : List ℕ) (i r : ℕ) : Type 0 where
  pub low : i ≤ r
  pub high : r ≤ length s
  pub none : (j : ℕ) → i ≤ j → j < r → p j ≡ false
  pub here : r < length s → p r ≡ true

pub first-within : (p : ℕ → Bool) (s : List ℕ) (i : ℕ) → i ≤ length s → Within p s i (first p s i)
first-within p s i le =
    let f = seek-first p (length s - i) i in
    record { low = f.low; high = omega (arith, f.high); none = f.none; here = λ lt. f.here (omega arith) }
