-- Parts of a list of bytes, what holds of their bytes, and where a run of bytes starts.
-- Assumes nothing.
use Rattle.std.proofs.Common.{◌≡◌, ℕ, suc, ◌+◌, ◌-◌, ◌<◌, ◌≤◌, Bool, true, false, ◌||◌, List, [], ◌∷◌, ◌++◌, length, get_or, take, drop, sym, refl, ap, ◌∙◌, ⊎_elim, arith}
use Rattle.std.proofs.lemmas.Bool.{or_cases, true≢false}
use Rattle.std.proofs.lemmas.List.{get_or-take, get_or-drop, length-take, length-drop}
use Rattle.std.proofs.lemmas.List.Edits.{between_more}
use Rattle.std.proofs.lemmas.List.Recursion.{and_from_places, and_fails_at, or_push}
use Rattle.text.specs.Bytes.{some, each, part, run_start}
use Rattle.text.proofs.Firsts.{seek-first, first-seek}

pub part_length : (a b : ℕ) (s : List ℕ) → b ≤ length s → length (part a b s) ≡ b - a
part_length a b s h = simp (length-take, length-drop) (omega arith)

pub part_at : (a b : ℕ) (s : List ℕ) (j : ℕ) → j < b - a → get_or (part a b s) j 0 ≡ get_or s (a + j) 0
part_at a b s j h = rw (get_or-take, get_or-drop)

-- ---- each byte, and some byte

each_true : (p : ℕ → Bool) (xs : List ℕ) → ((j : ℕ) → j < length xs → p (get_or xs j 0) ≡ true) → each p xs ≡ true
each_true p xs h = and_from_places (each p) p refl (λ x rest. refl) xs 0 h

each_false : (p : ℕ → Bool) (xs : List ℕ) (j : ℕ) → j < length xs → p (get_or xs j 0) ≡ false → each p xs ≡ false
each_false p xs j lt h = and_fails_at (each p) p refl (λ x rest. refl) xs j 0 lt h

pub some_at : (p : ℕ → Bool) (xs : List ℕ) → some p xs ≡ true → (j : ℕ) × (j < length xs) × (p (get_or xs j 0) ≡ true)
some_at p [] e = absurd (true≢false (sym e))
some_at p (x ∷ xs) e =
    ⊎_elim
    (λ here. (0, omega arith, here))
    (λ later. let w = some_at p xs later in (suc w.0, omega (arith, w.1), w.2))
    (or_cases (p x) (some p xs) e)

some-push : (p : ℕ → Bool) (xs : List ℕ) (x : ℕ) → some p (xs ++ x ∷ []) ≡ (some p xs || p x)
some-push p xs x = or_push (some p) p refl (λ y rest. refl) xs x

pub some_more : (p : ℕ → Bool) (s : List ℕ) (a i : ℕ) → a ≤ i → i < length s → some p (part a (i + 1) s) ≡ (some p (part a i s) || p (get_or s i 0))
some_more p s a i le lt = ap (some p) (between_more s a i 0 le lt) ∙ some-push p (part a i s) (get_or s i 0)

pub some-none : (p : ℕ → Bool) (s : List ℕ) (a : ℕ) → some p (part a a s) ≡ false
some-none p s a = let e : a - a ≡ 0 = omega arith in ap (λ n. some p (take n (drop a s))) e

-- ---- where a run starts

-- a is where the run of p before k starts, looking back to c
pub run_start-is : (p : ℕ → Bool) (s : List ℕ) (c k a : ℕ) → k ≤ length s → c ≤ a → a ≤ k → ((j : ℕ) → a ≤ j → j < k → p (get_or s j 0) ≡ true) → (c < a → p (get_or s (a - 1) 0) ≡ false) → run_start p s c k ≡ a
run_start-is p s c k a fits low high run edge =
    first-seek (λ x. each p (part x k s)) (k - c) c a (record {
      low = low;
      high = omega arith;
      none = λ j from below.
          each_false p (part j k s) (a - 1 - j) (rw (part_length j k s fits) (omega arith))
          (let lt : a - 1 - j < k - j = omega arith in
          let e : j + (a - 1 - j) ≡ a - 1 = omega arith in
          ap p (part_at j k s (a - 1 - j) lt ∙ ap (λ i. get_or s i 0) e) ∙ edge (omega arith));
      here = λ _.
          each_true p (part a k s)
          (λ j lt.
          let lt' : j < k - a = omega (arith, part_length a k s fits) in
          ap p (part_at a k s j lt') ∙ run (a + j) (omega arith) (omega arith));
    })

pub run_start-within : (p : ℕ → Bool) (s : List ℕ) (c k : ℕ) → c ≤ k → (c ≤ run_start p s c k) × (run_start p s c k ≤ k)
run_start-within p s c k le =
    let f = seek-first (λ x. each p (part x k s)) (k - c) c in
    (f.low, omega (arith, f.high))
