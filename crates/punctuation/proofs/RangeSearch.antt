-- Lawful ranges ascend, so that a number is found among them by halves. And how the first unlawful one is looked for.
-- Assumes nothing.
use Rattle.std.proofs.Common.{◌≡◌, ℕ, zero, suc, ◌+◌, ◌-◌, ◌*◌, ◌<◌, ◌≤◌, min, Bool, true, false, not, List, length, sym, refl, ap, ◌∙◌, subst, ⊎_elim, add-one, arith}
use Rattle.std.proofs.lemmas.Bool.{or_left, or_right, or_from, not-false, cases_eq, cases_lt, cond-true, cond-false}
use Rattle.std.proofs.lemmas.Bool.Decides.{nat_tests}
use Rattle.text.specs.Bytes.{within, seek}
use Rattle.punctuation.specs.RangeLists.{first_of, last_of, range_count, lawful, lawful_front, taken_up, in_first}
use Rattle.text.proofs.Firsts.{seek-first}

-- ---- the first of n places, looked for from i on

module _ (p : ℕ → Bool) (n i : ℕ) where
  pub seek-more : i < n → p i ≡ false → seek p (n - i) i ≡ seek p (n - (i + 1)) (i + 1)
  seek-more lt h =
      let e : n - i ≡ suc (n - (i + 1)) = omega arith in
      ap (λ k. seek p k i) e ∙ cond-false (p i) _ _ h ∙ ap (seek p (n - (i + 1))) (sym (add-one i))

  pub seek_here : i < n → p i ≡ true → seek p (n - i) i ≡ i
  seek_here lt h = let e : n - i ≡ suc (n - (i + 1)) = omega arith in ap (λ k. seek p k i) e ∙ cond-true (p i) _ _ h

-- ---- the ranges that are taken up

module _ (xs : List ℕ) where
  pub taken_within : 2 * taken_up xs ≤ length xs
  taken_within = let f = seek-first (λ k. not (lawful xs k)) (min (range_count xs) 512) 0 in omega (arith, f.high)

  pub taken_few : taken_up xs ≤ 512
  taken_few = let f = seek-first (λ k. not (lawful xs k)) (min (range_count xs) 512) 0 in omega (arith, f.high)

  pub taken_lawful : (k : ℕ) → k < taken_up xs → lawful xs k ≡ true
  taken_lawful k lt = let f = seek-first (λ k. not (lawful xs k)) (min (range_count xs) 512) 0 in not-false (lawful xs k) (f.none k (omega arith) lt)

  pub front_within : (n : ℕ) → lawful_front xs n ≤ n
  front_within n = let f = seek-first (λ k. not (lawful xs k)) n 0 in omega (arith, f.high)

  -- ---- lawful ranges ascend

  pub high_last : (k : ℕ) → lawful xs k ≡ true → 128 ≤ last_of xs k
  high_last k h = grind (arith, nat_tests)

  module _ (n : ℕ) (each : (k : ℕ) → k < n → lawful xs k ≡ true) where
    pub upright : (k : ℕ) → k < n → first_of xs k ≤ last_of xs k
    upright k lt = let h = each k lt in grind (arith, nat_tests)

    pub ascending : (i j : ℕ) → i < j → j < n → last_of xs i < first_of xs j
    ascending i zero lt le = absurd (omega arith)
    ascending i (suc j) lt le =
        let step : last_of xs j < first_of xs (suc j) = let h = each (suc j) le in grind (arith, nat_tests) in
        ⊎_elim
        (λ same. subst (λ k. last_of xs k < first_of xs (suc j)) (sym same) step)
        (λ apart. omega (arith, ascending i j (omega arith) (omega arith), upright j (omega arith)))
        (cases_eq i j)

    -- ---- one step of the search, from the range m in the middle

    -- c lies below range m, and so below each range from m on
    pub all_above : (c m : ℕ) → m < n → c < first_of xs m → (k : ℕ) → m ≤ k → k < n → c < first_of xs k
    all_above c m lt below k from to =
        ⊎_elim
        (λ same. subst (λ j. c < first_of xs j) same below)
        (λ apart. omega (arith, ascending m k (omega arith) to, upright m lt))
        (cases_eq m k)

    -- c lies above range m, and so above each range up to m
    pub all_below : (c m : ℕ) → m < n → last_of xs m < c → (k : ℕ) → k < m + 1 → last_of xs k < c
    all_below c m lt above k to =
        ⊎_elim
        (λ same. subst (λ j. last_of xs j < c) (sym same) above)
        (λ apart. omega (arith, ascending k m (omega arith) lt, upright m lt))
        (cases_eq k m)

  -- ---- what the search found

  pub found : (n c k : ℕ) → k < n → first_of xs k ≤ c → c ≤ last_of xs k → in_first xs n c ≡ true
  found zero c k lt a b = absurd (omega arith)
  found (suc n) c k lt a b =
      ⊎_elim
      (λ same. let here : within (first_of xs k) (last_of xs k) c ≡ true = grind (arith, nat_tests) in or_right (in_first xs n c) _ (subst (λ j. within (first_of xs j) (last_of xs j) c ≡ true) same here))
      (λ apart. or_left (in_first xs n c) _ (found n c k (omega arith) a b))
      (cases_eq k n)

  -- each range lies on one side of c
  pub not_found : (n c i : ℕ) → ((k : ℕ) → k < i → last_of xs k < c) → ((k : ℕ) → i ≤ k → k < n → c < first_of xs k) → in_first xs n c ≡ false
  not_found zero c i below above = refl
  not_found (suc n) c i below above =
      let here : within (first_of xs n) (last_of xs n) c ≡ false = ⊎_elim (λ lt. let h = below n lt in grind (arith, nat_tests)) (λ le. let h = above n le (omega arith) in grind (arith, nat_tests)) (cases_lt n i) in
      or_from (in_first xs n c) _ (not_found n c i below (λ k from to. above k from (omega arith))) here
