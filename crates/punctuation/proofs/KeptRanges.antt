-- A list's numbers as ranges: the first unlawful one, the lawful front that a set keeps, and what a binary search of it tells.
-- Assumes nothing.
use Rattle.std.proofs.Common.{◌≡◌, ℕ, zero, suc, ◌+◌, ◌*◌, ◌<◌, ◌≤◌, min, Bool, true, false, cond, not, ◌&&◌, ◌||◌, leb, ltb, List, [], ◌∷◌, length, get_or, take, drop, Ok, Err, Result, sym, refl, ap, ◌∙◌, subst, ⊎_elim, arith}
use lib.Utf8.{scalar}
use Rattle.std.proofs.lemmas.Bool.{cond-true, cond-false, cases_lt, cases_eq, lt-ltb, le-ltb}
use Rattle.std.proofs.lemmas.Bool.Decides.{nat_tests}
use Rattle.std.proofs.lemmas.List.{get_or-take, length-take-le, take-take}
use Rattle.std.specs.Simd.{first_chunks}
use Rattle.std.specs.declared.cmp.Ordering.{Ordering}
use Rattle.std.specs.declared.cmp.Ordering.TheVariants.{Less, Equal, Greater}
use Rattle.std.specs.List.Sorted.{IsBinarySearchResult, IsSearchInRange, IsNonDecreasingBy}
use Rattle.std.specs.Ordering.{ordering_index}
use Rattle.std.specs.Result.{is_ok}
use Rattle.text.specs.Bytes.{within}
use Rattle.text.proofs.Firsts.{seek-first, first-seek}
use Rattle.punctuation.specs.RangeLists.{first_of, last_of, range_count, lawful, lawful_after, beyond_the_one_before, lawful_front, taken_up, numbers_of, in_first, range_member}
use Rattle.punctuation.proofs.RangeSearch.{taken_lawful, high_last, front_within, taken_few, upright, ascending, found, not_found}

-- ---- the front of a list has its ranges

module _ (xs : List ℕ) (n : ℕ) where
  first_same : (k : ℕ) → k < n → first_of (take (2 * n) xs) k ≡ first_of xs k
  first_same k h = get_or-take (2 * n) xs (2 * k) 0 (omega arith)

  last_same : (k : ℕ) → k < n → last_of (take (2 * n) xs) k ≡ last_of xs k
  last_same k h = get_or-take (2 * n) xs (2 * k + 1) 0 (omega arith)

  beyond_same : (k : ℕ) → k < n → beyond_the_one_before (take (2 * n) xs) k ≡ beyond_the_one_before xs k
  beyond_same zero h = refl
  beyond_same (suc k) h = let p = last_same k (omega arith) in let q = first_same (suc k) h in λ i. ltb (p i) (q i)

  lawful_same : (k : ℕ) → k < n → lawful (take (2 * n) xs) k ≡ lawful xs k
  lawful_same k h =
      let p = first_same k h in
      let q = last_same k h in
      let r = beyond_same k h in
      λ i. leb 128 (p i) && leb (p i) (q i) && leb (q i) 1114111 && r i

  in_first_same : (k c : ℕ) → k ≤ n → in_first (take (2 * n) xs) k c ≡ in_first xs k c
  in_first_same zero c h = refl
  in_first_same (suc k) c h =
      let p = first_same k h in
      let q = last_same k h in
      let r = in_first_same k c (omega arith) in
      λ i. r i || within (p i) (q i) c

  front_same : lawful_front (take (2 * n) xs) n ≡ lawful_front xs n
  front_same =
      let f = seek-first (λ k. not (lawful xs k)) n 0 in
      first-seek (λ k. not (lawful (take (2 * n) xs) k)) n 0 (lawful_front xs n)
      (record {
        low = f.low;
        high = f.high;
        none = λ j from below. ap not (lawful_same j (omega (arith, f.high))) ∙ f.none j from below;
        here = λ more. ap not (lawful_same (lawful_front xs n) (omega arith)) ∙ f.here more;
      })

  taken_whole : n ≤ 512 → 2 * n ≤ length xs → ((k : ℕ) → k < n → lawful xs k ≡ true) → taken_up (take (2 * n) xs) ≡ n
  taken_whole few fits each =
      let long : length (take (2 * n) xs) ≡ 2 * n = length-take-le (2 * n) xs fits in
      first-seek (λ k. not (lawful (take (2 * n) xs) k)) (min (range_count (take (2 * n) xs)) 512) 0 n
      (record { low = omega arith; high = omega arith; none = λ j from below. ap not (lawful_same j below ∙ each j below); here = λ more. absurd (omega arith) })

-- ---- the first numbers of a list as ranges

numbers_take : (n : ℕ) (rs : List (List ℕ)) → n ≤ length rs → numbers_of (take n rs) ≡ take (2 * n) (numbers_of rs)
numbers_take zero rs h = refl
numbers_take (suc n) [] h = absurd (omega arith)
numbers_take (suc n) (r ∷ rs) h =
    let e : suc (suc (2 * n)) ≡ 2 * suc n = omega arith in
    ap (λ l. get_or r 0 0 ∷ get_or r 1 0 ∷ l) (numbers_take n rs (omega arith)) ∙ ap (λ j. take j (numbers_of (r ∷ rs))) e

numbers_chunks : (m : ℕ) (xs : List ℕ) → 2 * m ≤ length xs → numbers_of (first_chunks 2 m xs) ≡ take (2 * m) xs
numbers_chunks zero xs k = refl
numbers_chunks (suc m) [] k = absurd (omega arith)
numbers_chunks (suc m) (a ∷ []) k = absurd (omega arith)
numbers_chunks (suc m) (a ∷ b ∷ rest) k =
    let e : suc (suc (2 * m)) ≡ 2 * suc m = omega arith in
    ap (λ l. a ∷ b ∷ l) (numbers_chunks m rest (omega arith)) ∙ ap (λ j. take j (a ∷ b ∷ rest)) e

length-chunks : (m : ℕ) (xs : List ℕ) → length (first_chunks 2 m xs) ≡ m
length-chunks zero xs = refl
length-chunks (suc m) xs = ap suc (length-chunks m (drop 2 xs))

-- the ranges are the first of the list, unchanged
pub record Leads (xs : List ℕ) (rs : List (List ℕ)) (n : ℕ) : Type 0 where
  pub count : length rs ≡ n
  pub within_list : 2 * n ≤ length xs
  pub lent : numbers_of rs ≡ take (2 * n) xs

pub leads_chunks : (xs : List ℕ) (rs : List (List ℕ)) → rs ≡ first_chunks 2 (range_count xs) xs → Leads xs rs (range_count xs)
leads_chunks xs rs e =
    let fits : 2 * range_count xs ≤ length xs = omega arith in
    record { count = ap length e ∙ length-chunks (range_count xs) xs; within_list = fits; lent = ap numbers_of e ∙ numbers_chunks (range_count xs) xs fits }

pub leads_take : (xs : List ℕ) (rs : List (List ℕ)) (m n : ℕ) → n ≤ m → Leads xs rs m → Leads xs (take n rs) n
leads_take xs rs m n le h =
    record {
      count = length-take-le n rs (omega (arith, h.count));
      within_list = omega (arith, h.within_list);
      lent = numbers_take n rs (omega (arith, h.count)) ∙ ap (take (2 * n)) h.lent ∙ take-take (2 * n) (2 * m) xs (omega arith);
    }

pub leads_front : (xs : List ℕ) (rs : List (List ℕ)) (n : ℕ) → Leads xs rs n → lawful_front (numbers_of rs) (length rs) ≡ lawful_front xs n
leads_front xs rs n h = ap (lawful_front (numbers_of rs)) h.count ∙ ap (λ l. lawful_front l n) h.lent ∙ front_same xs n

pub leads_taken : (xs : List ℕ) (rs : List (List ℕ)) → Leads xs rs (taken_up xs) → taken_up (numbers_of rs) ≡ length rs
leads_taken xs rs h = ap taken_up h.lent ∙ taken_whole xs (taken_up xs) (taken_few xs) h.within_list (taken_lawful xs) ∙ sym h.count

pub leads_members : (xs : List ℕ) (rs : List (List ℕ)) → Leads xs rs (taken_up xs) → range_member (numbers_of rs) ≡ range_member xs
leads_members xs rs h =
    let taken = leads_taken xs rs h ∙ h.count in
    λ i c. scalar c && (ap (λ j. in_first (numbers_of rs) j c) taken ∙ ap (λ l. in_first l (taken_up xs) c) h.lent ∙ in_first_same xs (taken_up xs) (taken_up xs) c (omega arith)) i

-- what is kept of a list: of at most 512 ranges those before the first unlawful one
pub kept : (xs : List ℕ) (rs : List (List ℕ)) (m n : ℕ) → rs ≡ first_chunks 2 (range_count xs) xs → m ≡ min (length rs) 512 → n ≡ lawful_front (numbers_of (take m rs)) (length (take m rs)) → (n ≡ taken_up xs) × Leads xs (take n (take m rs)) (taken_up xs)
kept xs rs m n e most is =
    let all = leads_chunks xs rs e in
    let few : m ≡ min (range_count xs) 512 = most ∙ ap (λ j. min j 512) all.count in
    let some = leads_take xs rs (range_count xs) m (omega arith) all in
    let front : n ≡ lawful_front xs m = is ∙ leads_front xs (take m rs) m some in
    let same = front ∙ ap (lawful_front xs) few in
    (same, subst (Leads xs (take n (take m rs))) same (leads_take xs (take m rs) m n (omega (arith, front, front_within xs m)) some))

pub all_kept : (xs : List ℕ) (rs : List (List ℕ)) (n : ℕ) → rs ≡ first_chunks 2 (range_count xs) xs → n ≡ lawful_front (numbers_of rs) (length rs) → n ≡ lawful_front xs (range_count xs)
all_kept xs rs n e is = is ∙ leads_front xs rs (range_count xs) (leads_chunks xs rs e)

-- ---- the first unlawful range

-- the numbers of range k
pub pair_at : (rs : List (List ℕ)) (k : ℕ) (d : List ℕ) → k < length rs → (first_of (numbers_of rs) k ≡ get_or (get_or rs k d) 0 0) × (last_of (numbers_of rs) k ≡ get_or (get_or rs k d) 1 0)
pair_at [] k d h = absurd (omega arith)
pair_at (r ∷ rs) zero d h = (refl, refl)
pair_at (r ∷ rs) (suc k) d h =
    let e : 2 * suc k ≡ suc (suc (2 * k)) = omega arith in
    let f : 2 * suc k + 1 ≡ suc (suc (2 * k + 1)) = omega arith in
    let at = pair_at rs k d (omega arith) in
    (ap (λ j. get_or (numbers_of (r ∷ rs)) j 0) e ∙ at.0, ap (λ j. get_or (numbers_of (r ∷ rs)) j 0) f ∙ at.1)

-- the last number before range k
abbrev pub last_before : List ℕ → ℕ → ℕ
last_before xs zero = 127
last_before xs (suc k) = last_of xs k

plain_first : (f l : ℕ) → (ltb 127 f && leb f l && leb l 1114111) ≡ (leb 128 f && leb f l && leb l 1114111 && true)
plain_first f l = grind (arith, nat_tests)

plain_later : (b f l : ℕ) → 128 ≤ b → (ltb b f && leb f l && leb l 1114111) ≡ (leb 128 f && leb f l && leb l 1114111 && ltb b f)
plain_later b f l h = grind (arith, nat_tests)

-- after lawful ranges alone
lawful_here : (xs : List ℕ) (k : ℕ) → ((j : ℕ) → j < k → lawful xs j ≡ true) → (ltb (last_before xs k) (first_of xs k) && leb (first_of xs k) (last_of xs k) && leb (last_of xs k) 1114111) ≡ lawful xs k
lawful_here xs zero each = plain_first (first_of xs 0) (last_of xs 0)
lawful_here xs (suc k) each = plain_later (last_of xs k) (first_of xs (suc k)) (last_of xs (suc k)) (high_last xs k (each k (omega arith)))

pub lawful_step : (rs : List (List ℕ)) (k : ℕ) (d : List ℕ) (b : ℕ) → k < length rs → ((j : ℕ) → j < k → lawful (numbers_of rs) j ≡ true) → b ≡ last_before (numbers_of rs) k → lawful_after b (get_or rs k d) ≡ lawful (numbers_of rs) k
lawful_step rs k d b lt each is =
    let p = pair_at rs k d lt in
    let f = sym p.0 in
    let l = sym p.1 in
    (λ i. ltb (is i) (f i) && leb (f i) (l i) && leb (l i) 1114111) ∙ lawful_here (numbers_of rs) k each

pub first_unlawful : (xs : List ℕ) (n k : ℕ) → ((j : ℕ) → j < k → lawful xs j ≡ true) → k ≤ n → (k < n → lawful xs k ≡ false) → k ≡ lawful_front xs n
first_unlawful xs n k each le here =
    sym (first-seek (λ j. not (lawful xs j)) n 0 k (record { low = omega arith; high = omega arith; none = λ j from below. ap not (each j below); here = λ more. ap not (here (omega arith)) }))

-- ---- what a binary search tells

-- on which side of c a range lies
abbrev pub side : ℕ → List ℕ → Ordering
side c r = cond (ltb c (get_or r 0 0)) Greater (cond (ltb (get_or r 1 0) c) Less Equal)

above_side : (c : ℕ) (r : List ℕ) → c < get_or r 0 0 → side c r ≡ Greater
above_side c r h = cond-true _ _ _ (lt-ltb c (get_or r 0 0) h)

below_side : (c : ℕ) (r : List ℕ) → get_or r 0 0 ≤ get_or r 1 0 → get_or r 1 0 < c → side c r ≡ Less
below_side c r u h = cond-false _ _ _ (le-ltb c (get_or r 0 0) (omega arith)) ∙ cond-true _ _ _ (lt-ltb (get_or r 1 0) c h)

equal_means : (c : ℕ) (r : List ℕ) → side c r ≡ Equal → (get_or r 0 0 ≤ c) × (c ≤ get_or r 1 0)
equal_means c r e = grind (arith, nat_tests)

less_means : (c : ℕ) (r : List ℕ) → side c r ≡ Less → get_or r 1 0 < c
less_means c r e = grind (arith, nat_tests)

greater_means : (c : ℕ) (r : List ℕ) → side c r ≡ Greater → c < get_or r 0 0
greater_means c r e = grind (arith, nat_tests)

module _ (rs : List (List ℕ)) (c : ℕ) (each : (k : ℕ) → k < length rs → lawful (numbers_of rs) k ≡ true) where
  sides_rise : IsNonDecreasingBy (λ r. ordering_index (side c r)) rs
  sides_rise i j d le lt =
      let p = pair_at rs i d (omega arith) in
      let q = pair_at rs j d lt in
      ⊎_elim (λ same. let e = ap (λ k. ordering_index (side c (get_or rs k d))) same in omega (arith, e))
      (λ apart.
      let step = ascending (numbers_of rs) (length rs) each i j (omega arith) lt in
      let up = upright (numbers_of rs) (length rs) each i (omega arith) in
      ⊎_elim
      (λ below. let e = ap ordering_index (above_side c (get_or rs j d) below) in grind (arith, e))
      (λ not_below. let e = ap ordering_index (below_side c (get_or rs i d) (omega (arith, p, up)) (omega (arith, p, q, step))) in omega (arith, e))
      (cases_lt c (get_or (get_or rs j d) 0 0)))
      (cases_eq i j)

  pub search_tells : (r : Result ℕ ℕ) → IsSearchInRange r (length rs) → IsBinarySearchResult (side c) rs r → is_ok r ≡ in_first (numbers_of rs) (length rs) c
  search_tells (Ok i) lt at =
      let e = equal_means c (get_or rs i []) (at []) in
      let p = pair_at rs i [] lt in
      sym (found (numbers_of rs) (length rs) c i lt (omega (arith, e, p)) (omega (arith, e, p)))
  search_tells (Err i) le gap =
      let split = gap sides_rise in
      sym (not_found (numbers_of rs) (length rs) c i
      (λ k lt. omega (arith, pair_at rs k [] (omega arith), less_means c (get_or rs k []) (split.0 k [] (omega arith) lt)))
      (λ k from to. omega (arith, pair_at rs k [] to, greater_means c (get_or rs k []) (split.1 k [] from to))))

pub member_told : (rs : List (List ℕ)) (c code : ℕ) (r : Bool) → code ≡ c → scalar c ≡ true → taken_up (numbers_of rs) ≡ length rs → r ≡ in_first (numbers_of rs) (length rs) code → r ≡ range_member (numbers_of rs) c
member_told rs c code r is sc taken told =
    told ∙ ap (in_first (numbers_of rs) (length rs)) is ∙ ap (λ n. in_first (numbers_of rs) n c) (sym taken) ∙ ap (λ b. b && in_first (numbers_of rs) (taken_up (numbers_of rs)) c) (sym sc)
