-- Ranks among the entries of a map: which entry stands at a place, and what a change there leaves in order.
-- Assumes nothing.
use Rattle.std.proofs.Common.{◌≡◌, ℕ, zero, suc, ◌+◌, ◌<◌, ◌≤◌, true, false, ◌&&◌, ltb, leb, List, [], ◌∷◌, length, get_or, take, set, sym, refl, ◌∙◌, subst, ⊎_elim, MatchResult, Ok, Err, Result, arith}
use Rattle.std.specs.List.{All, insert, sum_by}
use Rattle.std.specs.List.Sorted.{IsSearchInRange, IsBinarySearchResult, IsNonDecreasingBy}
use Rattle.std.specs.Ordering.{nat_cmp, ordering_index}
use Rattle.std.proofs.lemmas.Bool.{and_from, and_parts, leb-true, le-leb, ltb-true, ltb-false, lt-ltb, le-ltb, cond-true, cond-false, cases_Bool}
use Rattle.std.proofs.lemmas.Bool.Decides.{nat_tests}
use Rattle.std.proofs.lemmas.Cmp.{ranked}
use Rattle.std.proofs.lemmas.List.{get_or_default}
use Rattle.std.proofs.lemmas.List.Sorted.{IsNonDecreasingBy-from_default}
use Rattle.std.proofs.lemmas.List.Sums.{sum_by-cons}
use Rattle.edit_map.specs.declared.entries.Entry.{Entry}
use Rattle.edit_map.specs.Entries.{entry, total, well_formed, rank_of, At, NoneAt}

-- r stands at the place, with the rank i
pub data Here (place : ℕ) : List Entry → ℕ → Entry → Type 0 where
  here : {r : Entry} {rs : List Entry} → r.place ≡ place → Here place (r ∷ rs) 0 r
  past : {q r : Entry} {rs : List Entry} {i : ℕ} → q.place < place → Here place rs i r → Here place (q ∷ rs) (suc i) r

-- none stands there, and one would have the rank i
pub data Gone (place : ℕ) : List Entry → ℕ → Type 0 where
  end : Gone place [] 0
  before : {r : Entry} {rs : List Entry} → place < r.place → Gone place (r ∷ rs) 0
  beyond : {q : Entry} {rs : List Entry} {i : ℕ} → q.place < place → Gone place rs i → Gone place (q ∷ rs) (suc i)

-- ---- the entry of a rank

rank_past : (p : ℕ) (e : Entry) (es : List Entry) → ltb e.place p ≡ true → rank_of p (e ∷ es) ≡ suc (rank_of p es)
rank_past p e es t = cond-true (ltb e.place p) (suc (rank_of p es)) 0 t

rank_stop : (p : ℕ) (e : Entry) (es : List Entry) → ltb e.place p ≡ false → rank_of p (e ∷ es) ≡ 0
rank_stop p e es f = cond-false (ltb e.place p) (suc (rank_of p es)) 0 f

pub rank_within : (p : ℕ) (es : List Entry) → rank_of p es ≤ length es
rank_within p [] = omega arith
rank_within p (e ∷ es) =
    let h = rank_within p es in
    ⊎_elim (λ t. omega (arith, rank_past p e es t)) (λ f. omega (arith, rank_stop p e es f)) (cases_Bool (ltb e.place p))

abbrev Stands : ℕ → List Entry → ℕ → Type 0
Stands p es i = i < length es → (get_or es i (entry 0 0 0)).place ≡ p → Here p es i (get_or es i (entry 0 0 0))

pub stands : (p : ℕ) (es : List Entry) → Stands p es (rank_of p es)
stands p [] = λ lt e. absurd (omega arith)
stands p (e ∷ es) =
    ⊎_elim
    (λ t. subst (Stands p (e ∷ es)) (sym (rank_past p e es t)) (λ lt is. past (ltb-true e.place p t) (stands p es (omega arith) is)))
    (λ f. subst (Stands p (e ∷ es)) (sym (rank_stop p e es f)) (λ lt is. here is))
    (cases_Bool (ltb e.place p))

abbrev Lacks : ℕ → List Entry → ℕ → Type 0
Lacks p es i = (i < length es → (get_or es i (entry 0 0 0)).place ≡ p → ⊥) → Gone p es i

pub lacks : (p : ℕ) (es : List Entry) → Lacks p es (rank_of p es)
lacks p [] = λ no. end
lacks p (e ∷ es) =
    ⊎_elim
    (λ t. subst (Lacks p (e ∷ es)) (sym (rank_past p e es t)) (λ no. beyond (ltb-true e.place p t) (lacks p es (λ lt is. no (omega arith) is))))
    (λ f. subst (Lacks p (e ∷ es)) (sym (rank_stop p e es f)) (λ no. before (let ne : e.place ≡ p → ⊥ = no (omega arith) in let le = ltb-false e.place p f in apart e.place p le ne)))
    (cases_Bool (ltb e.place p))
  where
    apart : (a b : ℕ) → b ≤ a → (a ≡ b → ⊥) → b < a
    apart a b le ne = omega arith

pub here_at : (p : ℕ) (es : List Entry) (i : ℕ) → At p es i → Here p es i (get_or es i (entry 0 0 0))
here_at p es i w = subst (Stands p es) (sym w.0) (stands p es) w.1 w.2

-- an entry that was read there
pub here_read : {p : ℕ} (es : List Entry) (i : ℕ) (old : Entry) → At p es i → old ≡ get_or es i old → Here p es i old
here_read {p} es i old w is = subst (Here p es i) (sym (is ∙ get_or_default es i old (entry 0 0 0) w.1)) (here_at p es i w)

pub here_place : {p : ℕ} {es : List Entry} {i : ℕ} {r : Entry} → Here p es i r → r.place ≡ p
here_place (here is) = is
here_place (past lt w) = here_place w

pub gone_at : (p : ℕ) (es : List Entry) (i : ℕ) → NoneAt p es i → Gone p es i
gone_at p es i w = subst (Lacks p es) (sym w.0) (lacks p es) w.1

pub none_within : (p : ℕ) (es : List Entry) (i : ℕ) → NoneAt p es i → i ≤ length es
none_within p es i w = omega (arith, w.0, rank_within p es)

-- ---- what holds of each entry

pub wf_parts : (low : ℕ) (e : Entry) (es : List Entry) → well_formed low (e ∷ es) ≡ true → (low ≤ e.place) × (e.place ≤ 4096) × (e.count ≤ 4096) × (well_formed (suc e.place) es ≡ true)
wf_parts low e es h =
    let a = and_parts (leb low e.place) (leb e.place 4096 && (leb e.count 4096 && well_formed (suc e.place) es)) h in
    let b = and_parts (leb e.place 4096) (leb e.count 4096 && well_formed (suc e.place) es) a.1 in
    let c = and_parts (leb e.count 4096) (well_formed (suc e.place) es) b.1 in
    (leb-true low e.place a.0, leb-true e.place 4096 b.0, leb-true e.count 4096 c.0, c.1)

wf_from : (low : ℕ) (e : Entry) (es : List Entry) → low ≤ e.place → e.place ≤ 4096 → e.count ≤ 4096 → well_formed (suc e.place) es ≡ true → well_formed low (e ∷ es) ≡ true
wf_from low e es a b c d =
    and_from (leb low e.place) (leb e.place 4096 && (leb e.count 4096 && well_formed (suc e.place) es)) (le-leb low e.place a)
    (and_from (leb e.place 4096) (leb e.count 4096 && well_formed (suc e.place) es) (le-leb e.place 4096 b)
    (and_from (leb e.count 4096) (well_formed (suc e.place) es) (le-leb e.count 4096 c) d))

pub wf_at : (low : ℕ) (es : List Entry) (m : ℕ) → well_formed low es ≡ true → m < length es → (low ≤ (get_or es m (entry 0 0 0)).place) × ((get_or es m (entry 0 0 0)).place ≤ 4096) × ((get_or es m (entry 0 0 0)).count ≤ 4096)
wf_at low [] m h lt = absurd (omega arith)
wf_at low (e ∷ es) zero h lt = let w = wf_parts low e es h in (w.0, w.1, w.2)
wf_at low (e ∷ es) (suc m) h lt =
    let w = wf_parts low e es h in
    let v = wf_at (suc e.place) es m w.3 (omega arith) in
    (omega (arith, w.0, v.0), v.1, v.2)

pub ends_fit : (es : List Entry) → well_formed 0 es ≡ true → All (λ e. e.place + e.count < 18446744073709551616) es
ends_fit es wf = λ k d lt.
    let w = wf_at 0 es k wf lt in
    subst (λ (e : Entry). e.place + e.count < 18446744073709551616) (get_or_default es k (entry 0 0 0) d lt) (omega (arith, w.1, w.2))

pub places_rise : (low : ℕ) (es : List Entry) (i j : ℕ) → well_formed low es ≡ true → i ≤ j → j < length es → (get_or es i (entry 0 0 0)).place ≤ (get_or es j (entry 0 0 0)).place
places_rise low [] i j h le lt = absurd (omega arith)
places_rise low (e ∷ es) zero zero h le lt = omega arith
places_rise low (e ∷ es) zero (suc j) h le lt = let w = wf_parts low e es h in omega (arith, (wf_at (suc e.place) es j w.3 (omega arith)).0)
places_rise low (e ∷ es) (suc i) zero h le lt = absurd (omega arith)
places_rise low (e ∷ es) (suc i) (suc j) h le lt = let w = wf_parts low e es h in places_rise (suc e.place) es i j w.3 (omega arith) (omega arith)

-- ---- by a binary search

rank_found : (p low : ℕ) (es : List Entry) (m : ℕ) → well_formed low es ≡ true → m < length es → (get_or es m (entry 0 0 0)).place ≡ p → m ≡ rank_of p es
rank_found p low [] m h lt is = absurd (omega arith)
rank_found p low (e ∷ es) zero h lt is = omega (arith, rank_stop p e es (le-ltb e.place p (omega arith)))
rank_found p low (e ∷ es) (suc m) h lt is =
    let w = wf_parts low e es h in
    let v = wf_at (suc e.place) es m w.3 (omega arith) in
    let i = rank_found p (suc e.place) es m w.3 (omega arith) is in
    omega (arith, rank_past p e es (lt-ltb e.place p (omega (arith, v.0))))

rank_between : (p : ℕ) (es : List Entry) (m : ℕ) → m ≤ length es → ((k : ℕ) → k < m → (get_or es k (entry 0 0 0)).place < p) → ((k : ℕ) → m ≤ k → k < length es → p < (get_or es k (entry 0 0 0)).place) → m ≡ rank_of p es
rank_between p [] m le below above = omega arith
rank_between p (e ∷ es) zero le below above =
    let first : p < e.place = above 0 (omega arith) (omega arith) in
    omega (arith, rank_stop p e es (le-ltb e.place p (omega arith)))
rank_between p (e ∷ es) (suc m) le below above =
    let i = rank_between p es m (omega arith) (λ k lt. below (suc k) (omega arith)) (λ k from lt. above (suc k) (omega arith) (omega arith)) in
    omega (arith, rank_past p e es (lt-ltb e.place p (below 0 (omega arith))))

module _ (es : List Entry) (wf : well_formed 0 es ≡ true) (p : ℕ) where
  -- the comparisons with p rise along the entries, as a binary search asks
  comparisons_rise : IsNonDecreasingBy (λ e. ordering_index (nat_cmp e.place p)) es
  comparisons_rise = IsNonDecreasingBy-from_default (λ e. ordering_index (nat_cmp e.place p)) es (entry 0 0 0) (λ i j le lt.
      let rise = places_rise 0 es i j wf le lt in
      grind (arith, nat_tests))

  pub searched : (r : Result ℕ ℕ) → IsSearchInRange r (length es) → IsBinarySearchResult (λ e. nat_cmp e.place p) es r → MatchResult r (At p es) (NoneAt p es)
  searched (Ok i) in_range equal =
      let is = ranked _ p _ (sym (equal (entry 0 0 0))) in
      (rank_found p 0 es i wf in_range is, in_range, is)
  searched (Err i) in_range parted =
      let parts = parted comparisons_rise in
      let above = λ (k : ℕ) (from : i ≤ k) (lt : k < length es). ranked _ p _ (sym (parts.1 k (entry 0 0 0) from lt)) in
      (rank_between p es i in_range (λ k lt. ranked _ p _ (sym (parts.0 k (entry 0 0 0) (omega arith) lt))) above, λ lt same. omega (arith, above i (omega arith) lt))

pub here_small : {p : ℕ} {es : List Entry} {i : ℕ} {r : Entry} (low : ℕ) → Here p es i r → well_formed low es ≡ true → r.count ≤ 4096
here_small low (here {r} {rs} is) h = (wf_parts low r rs h).2
here_small low (past {q} {r} {rs} lt w) h = here_small (suc q.place) w (wf_parts low q rs h).3

-- ---- what a change leaves in order

pub wf_set : {p : ℕ} {es : List Entry} {i : ℕ} {r : Entry} (low c k : ℕ) → Here p es i r → well_formed low es ≡ true → c ≤ 4096 → well_formed low (set es i (entry p c k)) ≡ true
wf_set {p} low c k (here {r} {rs} is) h le =
    let w = wf_parts low r rs h in
    wf_from low (entry p c k) rs (omega (arith, w.0)) (omega (arith, w.1)) le (subst (λ (n : ℕ). well_formed (suc n) rs ≡ true) is w.3)
wf_set {p} low c k (past {q} {r} {rs} {i} lt h) wf le =
    let w = wf_parts low q rs wf in
    wf_from low q (set rs i (entry p c k)) w.0 w.1 w.2 (wf_set (suc q.place) c k h w.3 le)

pub wf_inserted : {p : ℕ} {es : List Entry} {i : ℕ} (low c k : ℕ) → Gone p es i → well_formed low es ≡ true → low ≤ p → p ≤ 4096 → c ≤ 4096 → well_formed low (insert es i (entry p c k)) ≡ true
wf_inserted {p} low c k end h a b le = wf_from low (entry p c k) [] a b le refl
wf_inserted {p} low c k (before {r} {rs} lt) h a b le =
    let w = wf_parts low r rs h in
    wf_from low (entry p c k) (r ∷ rs) a b le (wf_from (suc p) r rs lt w.1 w.2 w.3)
wf_inserted {p} low c k (beyond {q} {rs} {i} lt g) h a b le =
    let w = wf_parts low q rs h in
    wf_from low q (insert rs i (entry p c k)) w.0 w.1 w.2 (wf_inserted (suc q.place) c k g w.3 lt b le)

-- ---- how many elements are added before a rank

-- as the library sums
pub total_sum : (es : List Entry) → total es ≡ sum_by (λ e. e.size) es
total_sum [] = refl
total_sum (e ∷ es) = omega (arith, total_sum es, sum_by-cons (λ (e : Entry). e.size) e es)

pub total-take : (es : List Entry) (i : ℕ) → total (take i es) ≤ total es
total-take es zero = omega arith
total-take [] (suc i) = omega arith
total-take (r ∷ rs) (suc i) = let h = total-take rs i in omega arith

pub sizes_before : (es : List Entry) (i : ℕ) → (sum_by (λ e. e.size) (take i es) ≡ total (take i es)) × (total (take i es) ≤ total es)
sizes_before es i = (sym (total_sum (take i es)), total-take es i)

pub here_within : {p : ℕ} {es : List Entry} {i : ℕ} {r : Entry} → Here p es i r → total (take i es) + r.size ≤ total es
here_within (here is) = omega arith
here_within (past lt w) = let h = here_within w in omega arith

pub here_below : {p : ℕ} {es : List Entry} {i : ℕ} {r : Entry} → Here p es i r → i < length es
here_below (here is) = omega arith
here_below (past lt w) = let h = here_below w in omega arith

pub gone_within : {p : ℕ} {es : List Entry} {i : ℕ} → Gone p es i → total (take i es) ≤ total es
gone_within {p} {es} {i} w = total-take es i

pub total-set : {p : ℕ} {es : List Entry} {i : ℕ} {r : Entry} (n k : ℕ) → Here p es i r → total (set es i (entry p n (r.size + k))) ≡ total es + k
total-set n k (here is) = omega arith
total-set n k (past lt w) = let h = total-set n k w in omega arith

pub total_inserted : {p : ℕ} {es : List Entry} {i : ℕ} (n k : ℕ) → Gone p es i → total (insert es i (entry p n k)) ≡ total es + k
total_inserted n k end = omega arith
total_inserted n k (before lt) = omega arith
total_inserted n k (beyond lt w) = let h = total_inserted n k w in omega arith

pub length_grown : {p : ℕ} {es : List Entry} {i : ℕ} (e : Entry) → Gone p es i → length (insert es i e) ≡ length es + 1
length_grown e end = omega arith
length_grown e (before lt) = omega arith
length_grown e (beyond lt w) = let h = length_grown e w in omega arith
