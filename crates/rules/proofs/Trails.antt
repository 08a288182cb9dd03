-- Trails, one item after another.
-- Assumes nothing.
use Rattle.std.proofs.Common.{◌≡◌, ℕ, zero, suc, ◌+◌, ◌-◌, ◌<◌, ◌≤◌, Bool, true, false, cond, ◌&&◌, ◌||◌, eqb, ltb, List, [], ◌∷◌, length, get_or, drop, sym, refl, ap, ◌∙◌, ⊎_elim, add-zero, zero-add, arith}
use Rattle.std.specs.List.{prefix_len}
use Rattle.std.proofs.lemmas.List.Sums.{prefix_len-drop_yes, prefix_len-drop_no, prefix_len-drop_all}
use Rattle.std.proofs.lemmas.List.{get_or_past, drop-drop, length-drop, drop_more, drop_all}
use Rattle.std.proofs.lemmas.Bool.{cases_Bool, cases_lt, cond-true, cond-false, eq-eqb, ne_eqb, lt-ltb, le-ltb, or_cases, or_from, or_left, or_right, and_left, and_right, both_ways, true≢false}
use Rattle.text.specs.Ascii.{letter}
use Rattle.punctuation.specs.Kinds.{kind_of}
use Rattle.rules.specs.Web.{is_white, white_at, mark, reference_length, item_length, items_length, run_end, stop, trail}
use Rattle.rules.proofs.KindsAtPlaces.{among-each, byte_kind}

-- ---- runs of items

items_skip : (c : Bool) (n : ℕ) (xs : List ℕ) → n ≤ length xs → items_length c n xs ≡ n + items_length c 0 (drop n xs)
items_skip c zero [] h = refl
items_skip c (suc n) [] h = absurd (omega arith)
items_skip c zero (b ∷ r) h = sym (zero-add (items_length c 0 (b ∷ r)))
items_skip c (suc n) (b ∷ r) h = omega (arith, items_skip c n r (omega arith))

items_none : (c : Bool) (xs : List ℕ) → item_length c xs ≡ 0 → items_length c 0 xs ≡ 0
items_none c [] h = refl
items_none c (b ∷ r) h = cond-true _ _ _ (eq-eqb _ 0 h)

items_item : (c : Bool) (xs : List ℕ) (n : ℕ) → item_length c xs ≡ suc n → suc n ≤ length xs → items_length c 0 xs ≡ suc n + items_length c 0 (drop (suc n) xs)
items_item c [] n h fits = absurd (omega arith)
items_item c (b ∷ r) n h fits =
    cond-false _ _ _ (ne_eqb _ 0 (λ z. let q : suc n ≡ 0 = sym h ∙ z in absurd (omega arith)))
    ∙ ap (λ k. suc (items_length c k r)) (let q : item_length c (b ∷ r) - 1 ≡ n = omega (arith, h) in q)
    ∙ omega (arith, items_skip c n r (omega arith))

-- ---- where a run ends

module _ (c : Bool) (s : List ℕ) (j : ℕ) where
  run_none : item_length c (drop j s) ≡ 0 → run_end c s j ≡ j
  run_none h = ap (λ k. j + k) (items_none c (drop j s) h) ∙ add-zero j

  run_item : (n : ℕ) → item_length c (drop j s) ≡ suc n → j + suc n ≤ length s → run_end c s j ≡ run_end c s (j + suc n)
  run_item n h fits =
      let e = items_item c (drop j s) n h (omega (arith, length-drop j s)) in
      let d = ap (items_length c 0) (drop-drop (suc n) j s) in
      omega (arith, e, d)

-- ---- the rest of a trail from j on, where bracket says whether the item before j is a `]`

abbrev pub goes : (ℕ → Bool) → Bool → Bool → List ℕ → ℕ → Bool
goes m c bracket s j = stop m s (cond (ltb j (run_end c s j)) (eqb (get_or s (run_end c s j - 1) 0) 93) bracket) (run_end c s j)

cond_and : (x y : Bool) → cond x y false ≡ (x && y)
cond_and true y = refl
cond_and false y = refl

pub trail_goes : (m : ℕ → Bool) (c : Bool) (s : List ℕ) (i : ℕ) → trail m c s i ≡ goes m c false s i
trail_goes m c s i = ap (λ t. stop m s t (run_end c s i)) (sym (cond_and (ltb i (run_end c s i)) (eqb (get_or s (run_end c s i - 1) 0) 93)))

module _ (m : ℕ → Bool) (c bracket : Bool) (s : List ℕ) (j : ℕ) where
  -- no item at j: it is a stop or it is not
  pub goes_stop : item_length c (drop j s) ≡ 0 → goes m c bracket s j ≡ stop m s bracket j
  goes_stop h =
      ap (λ e. stop m s (cond (ltb j e) (eqb (get_or s (e - 1) 0) 93) bracket) e) (run_none c s j h)
      ∙ ap (λ t. stop m s t j) (cond-false (ltb j j) _ _ (le-ltb j j (omega arith)))

  -- an item at j: the trail goes on after it
  pub goes_item : (n : ℕ) → item_length c (drop j s) ≡ suc n → j + suc n ≤ length s → goes m c bracket s j ≡ goes m c (eqb (get_or s (j + n) 0) 93) s (j + suc n)
  goes_item n h fits =
      let e = run_item c s j n h fits in
      ap (λ k. stop m s (cond (ltb j k) (eqb (get_or s (k - 1) 0) 93) bracket) k) e
      ∙ ap (λ t. stop m s t (run_end c s (j + suc n)))
      (cond-true (ltb j (run_end c s (j + suc n))) _ _ (lt-ltb j _ (omega arith))
      ∙ ⊎_elim
      (λ lt. sym (cond-true (ltb (j + suc n) (run_end c s (j + suc n))) _ _ (lt-ltb _ _ lt)))
      (λ le.
      let same : run_end c s (j + suc n) - 1 ≡ j + n = omega arith in
      ap (λ k. eqb (get_or s k 0) 93) same ∙ sym (cond-false (ltb (j + suc n) (run_end c s (j + suc n))) _ _ (le-ltb _ _ le)))
      (cases_lt (j + suc n) (run_end c s (j + suc n))))

-- a `]` before a place adds to the stops there, and takes none away
stop-more : (m : ℕ → Bool) (s : List ℕ) (x y : Bool) (j : ℕ) → (x ≡ true → y ≡ true) → stop m s x j ≡ true → stop m s y j ≡ true
stop-more m s false true j h e =
    ⊎_elim
    (λ a. or_left (white_at m s j || eqb (get_or s j 0) 60) _ a)
    (λ a. absurd (true≢false (sym a)))
    (or_cases (white_at m s j || eqb (get_or s j 0) 60) false e)
stop-more m s false false j h e = e
stop-more m s true true j h e = e
stop-more m s true false j h e = absurd (true≢false (sym (h refl)))

goes_more : (m : ℕ → Bool) (c bracket : Bool) (s : List ℕ) (j : ℕ) → goes m c false s j ≡ true → goes m c bracket s j ≡ true
goes_more m c bracket s j e = stop-more m s _ _ (run_end c s j) (more (ltb j (run_end c s j)) _ bracket) e
  where
    more : (x y z : Bool) → cond x y false ≡ true → cond x y z ≡ true
    more true y z e = e
    more false y z e = absurd (true≢false (sym e))

-- ---- what begins a trail

module _ (m : ℕ → Bool) (c : Bool) (s : List ℕ) (i : ℕ) where
  -- an item of one byte, and a trail after it
  pub trail_more : i < length s → item_length c (drop i s) ≡ 1 → trail m c s (i + 1) ≡ true → trail m c s i ≡ true
  trail_more lt h e =
      trail_goes m c s i
      ∙ goes_item m c false s i 0 h (omega arith)
      ∙ goes_more m c (eqb (get_or s (i + 0) 0) 93) s (i + 1) (sym (trail_goes m c s (i + 1)) ∙ e)

  byte_item : (b : ℕ) → i < length s → get_or s i 0 ≡ b → (mark b || (c && eqb b 41)) ≡ true → item_length c (drop i s) ≡ 1
  byte_item b lt e h =
      ap (item_length c) (drop_more s i 0 lt)
      ∙ ap (λ x. item_length c (x ∷ drop (i + 1) s)) e
      ∙ cond-true (mark b || (c && eqb b 41)) 1 _ h

  pub trail_mark : i < length s → mark (get_or s i 0) ≡ true → trail m c s (i + 1) ≡ true → trail m c s i ≡ true
  trail_mark lt h e = trail_more lt (byte_item (get_or s i 0) lt refl (or_left (mark (get_or s i 0)) _ h)) e

  pub trail-closing : i < length s → c ≡ true → get_or s i 0 ≡ 41 → trail m c s (i + 1) ≡ true → trail m c s i ≡ true
  trail-closing lt closing b e = trail_more lt (byte_item 41 lt b (ap (λ x. x && true) closing)) e

  -- white space is no item
  white_no_item : i < length s → white_at m s i ≡ true → item_length c (drop i s) ≡ 0
  white_no_item lt w =
      let b = get_or s i 0 in
      let clash : (x : ℕ) → x < 128 → is_white (kind_of m x) ≡ false → get_or s i 0 ≡ x → ⊥ = λ x low h q. both_ways (white_at m s i) (ap is_white (byte_kind m s i x low lt q) ∙ h) w in
      ap (item_length c) (drop_more s i 0 lt)
      ∙ cond-false (mark b || (c && eqb b 41)) 1 (reference_length (b ∷ drop (i + 1) s))
      (or_from (mark b) (c && eqb b 41)
      (⊎_elim
      (λ t. absurd (among-each (λ x. get_or s i 0 ≡ x → ⊥) (33 ∷ 34 ∷ 39 ∷ 42 ∷ 44 ∷ 46 ∷ 58 ∷ 59 ∷ 63 ∷ 95 ∷ 126 ∷ 93 ∷ [])
      (clash 33 (omega arith) refl, (clash 34 (omega arith) refl, (clash 39 (omega arith) refl, (clash 42 (omega arith) refl, (clash 44 (omega arith) refl, (clash 46 (omega arith) refl, (clash 58 (omega arith) refl, (clash 59 (omega arith) refl, (clash 63 (omega arith) refl, (clash 95 (omega arith) refl, (clash 126 (omega arith) refl, (clash 93 (omega arith) refl, tt))))))))))))
      b t refl))
      (λ f. f)
      (cases_Bool (mark b)))
      (and_right c (eqb b 41) (ne_eqb b 41 (clash 41 (omega arith) refl))))
      ∙ cond-false (eqb b 38 && ltb 0 (prefix_len letter (drop (i + 1) s)) && eqb (get_or (drop (i + 1) s) (prefix_len letter (drop (i + 1) s)) 0) 59) _ 0
      (and_left _ _ (and_left (eqb b 38) _ (ne_eqb b 38 (clash 38 (omega arith) refl))))

  -- white space and the end are trails by themselves
  pub trail_white : white_at m s i ≡ true → trail m c s i ≡ true
  trail_white w =
      trail_goes m c s i
      ∙ goes_stop m c false s i (⊎_elim (λ lt. white_no_item lt w) (λ le. ap (item_length c) (drop_all i s le)) (cases_lt i (length s)))
      ∙ or_left _ _ (or_left (white_at m s i) _ w)

  -- so is `<`
  pub trail_angle : i < length s → get_or s i 0 ≡ 60 → trail m c s i ≡ true
  trail_angle lt b =
      trail_goes m c s i
      ∙ goes_stop m c false s i (ap (item_length c) (drop_more s i 0 lt) ∙ ap (λ x. item_length c (x ∷ drop (i + 1) s)) b ∙ no_item c (drop (i + 1) s))
      ∙ or_left _ _ (or_right (white_at m s i) (eqb (get_or s i 0) 60) (eq-eqb (get_or s i 0) 60 b))
    where
      no_item : (c : Bool) (bs : List ℕ) → item_length c (60 ∷ bs) ≡ 0
      no_item true bs = refl
      no_item false bs = refl

-- ---- a reference, from the place after its `&` on

abbrev pub reference_goes : (ℕ → Bool) → Bool → List ℕ → ℕ → Bool
reference_goes m c s q = eqb (get_or s (q + prefix_len letter (drop q s)) 0) 59 && goes m c false s (q + prefix_len letter (drop q s) + 1)

module _ (m : ℕ → Bool) (c : Bool) (s : List ℕ) (q : ℕ) where
  -- a letter
  pub reference_letter : q < length s → letter (get_or s q 0) ≡ true → reference_goes m c s q ≡ reference_goes m c s (q + 1)
  reference_letter lt h =
      let e : q + prefix_len letter (drop q s) ≡ q + 1 + prefix_len letter (drop (q + 1) s) = omega (arith, prefix_len-drop_yes letter s q 0 lt h) in
      ap (λ k. eqb (get_or s k 0) 59 && goes m c false s (k + 1)) e

  -- neither a letter nor the end: it is a `;`, and the trail goes on, or it is not
  pub reference_other : q < length s → letter (get_or s q 0) ≡ false → reference_goes m c s q ≡ (eqb (get_or s q 0) 59 && goes m c false s (q + 1))
  reference_other lt h =
      let e : q + prefix_len letter (drop q s) ≡ q = omega (arith, prefix_len-drop_no letter s q 0 lt h) in
      ap (λ k. eqb (get_or s k 0) 59 && goes m c false s (k + 1)) e

  pub reference_end : length s ≤ q → reference_goes m c s q ≡ false
  reference_end h =
      let e : q + prefix_len letter (drop q s) ≡ q = omega (arith, prefix_len-drop_all letter s q h) in
      ap (λ k. eqb (get_or s k 0) 59 && goes m c false s (k + 1)) e ∙ ap (λ b. eqb b 59 && goes m c false s (q + 1)) (get_or_past s q 0 h)
