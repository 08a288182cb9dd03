-- Edits in order in a list: how long the new list is, and where each element of the old one stands in it.
-- Assumes nothing.
use Rattle.std.proofs.Common.{◌≡◌, ℕ, suc, ◌+◌, ◌-◌, ◌<◌, ◌≤◌, false, ltb, ◌⊎◌, List, [], ◌∷◌, ◌++◌, length, get_or, take, drop, sym, refl, ap, ◌∙◌, subst, ⊎_elim, arith, take-add}
use Rattle.std.proofs.lemmas.List.{append_assoc, length-append, length-drop, length-take-le, take-append-drop, take-append-le, take-take, drop_at, drop-drop, get_or_append_left, get_or-append-add, get_or-take, get_or-drop}
use Rattle.std.proofs.lemmas.Bool.{cond-true, cond-false, lt-ltb, le-ltb, ltb-false, cases_Bool, cases_lt}
use Rattle.edit_map.specs.Edits.{Edit, applied, applied_from, past_end, inside_removal}
use Rattle.edit_map.specs.Laws.{InOrder, removed, stored, replaced, one_at_a_time, Outside, moved_from, ValuesKept, OrderKept}

-- ---- in order, by the two tests

pub in_order : {A : Type 0} (from len : ℕ) (es : List (Edit A)) → length es ≤ past_end len es → length es ≤ inside_removal from es → InOrder from len es
in_order from len [] a b = tt
in_order from len (e ∷ es) a b =
    let f : ltb len (e.place + e.count) ≡ false = ⊎_elim (λ t. absurd (omega (arith, cond-true (ltb len (e.place + e.count)) 0 (suc (past_end len es)) t))) (λ f. f) (cases_Bool (ltb len (e.place + e.count))) in
    let g : ltb e.place from ≡ false = ⊎_elim (λ t. absurd (omega (arith, cond-true (ltb e.place from) 0 (suc (inside_removal (e.place + e.count) es)) t))) (λ f. f) (cases_Bool (ltb e.place from)) in (
      ltb-false e.place from g,
      ltb-false len (e.place + e.count) f,
      in_order (e.place + e.count) len es
          (omega (arith, cond-false (ltb len (e.place + e.count)) 0 (suc (past_end len es)) f))
          (omega (arith, cond-false (ltb e.place from) 0 (suc (inside_removal (e.place + e.count) es)) g)),
    )

-- ---- how long the new list is

pub length_from : {A : Type 0} (from : ℕ) (es : List (Edit A)) (xs : List A) → InOrder from (from + length xs) es → length (applied_from from es xs) + removed es ≡ length xs + stored es
length_from from [] xs o = refl
length_from from (e ∷ es) xs o =
    let long : length (drop (e.place - from + e.count) xs) ≡ length xs - (e.place - from + e.count) = length-drop (e.place - from + e.count) xs in
    let all : from + length xs ≡ e.place + e.count + length (drop (e.place - from + e.count) xs) = omega (arith, o.0, o.1) in
    let h = length_from (e.place + e.count) es (drop (e.place - from + e.count) xs) (subst (λ (n : ℕ). InOrder (e.place + e.count) n es) all o.2) in
    let a = length-append (take (e.place - from) xs) (e.elements ++ applied_from (e.place + e.count) es (drop (e.place - from + e.count) xs)) in
    let b = length-append e.elements (applied_from (e.place + e.count) es (drop (e.place - from + e.count) xs)) in
    let c = length-take-le (e.place - from) xs (omega (arith, o.0, o.1)) in
    omega (arith, o.0, o.1)

pub length-applied : {A : Type 0} (es : List (Edit A)) (list : List A) → InOrder 0 (length list) es → length (applied es list) + removed es ≡ length list + stored es
length-applied es list o = let z : length list ≡ 0 + length list = omega arith in length_from 0 es list (subst (λ (n : ℕ). InOrder 0 n es) z o)

pub removed-within : {A : Type 0} (from len : ℕ) (es : List (Edit A)) → from ≤ len → InOrder from len es → from + removed es ≤ len
removed-within from len [] le o = omega arith
removed-within from len (e ∷ es) le o = let h = removed-within (e.place + e.count) len es o.1 o.2 in omega (arith, o.0)

-- ---- one at a time

one_from : {A : Type 0} (from : ℕ) (es : List (Edit A)) (list : List A) → InOrder from (length list) es → take from list ++ applied_from from es (drop from list) ≡ one_at_a_time es list
one_from from [] list o = take-append-drop from list
one_from from (e ∷ es) list o =
    let k = e.place - from in
    let end = e.place + e.count in
    let rest = applied_from end es (drop end list) in
    let place : from + (e.place - from) ≡ e.place = omega (arith, o.0) in
    let stop : from + (e.place - from + e.count) ≡ e.place + e.count = omega (arith, o.0) in
    let low : e.place ≤ length (take (e.place + e.count) list) = omega (arith, length-take-le (e.place + e.count) list o.1) in
    let upto : e.place ≤ e.place + e.count = omega arith in
    let h = one_from end es list o.2 in
    -- the pass
    ap (λ l. take from list ++ (take k (drop from list) ++ (e.elements ++ applied_from end es l))) (drop-drop (k + e.count) from list ∙ ap (λ j. drop j list) stop)
    ∙ sym (append_assoc (take from list) (take k (drop from list)) (e.elements ++ rest))
    ∙ ap (λ l. l ++ (e.elements ++ rest)) (sym (take-add from k list) ∙ ap (λ j. take j list) place)
    -- the edit made in what the later ones leave
    ∙ (λ i. sym (take-append-le e.place (take end list) rest low ∙ take-take e.place end list upto) i ++ (e.elements ++ sym (drop_at (take end list) rest end (length-take-le end list o.1)) i))
    ∙ ap (replaced e) h

pub as_one_at_a_time : {A : Type 0} (es : List (Edit A)) (list : List A) → InOrder 0 (length list) es → applied es list ≡ one_at_a_time es list
as_one_at_a_time es list o = one_from 0 es list o

-- ---- the elements that stay

moved-past : {A : Type 0} (from : ℕ) (e : Edit A) (es : List (Edit A)) (i : ℕ) → e.place ≤ i → moved_from from (e ∷ es) i ≡ e.place - from + length e.elements + moved_from (e.place + e.count) es i
moved-past from e es i le = cond-false (ltb i e.place) _ _ (le-ltb i e.place le)

moved_before : {A : Type 0} (from : ℕ) (e : Edit A) (es : List (Edit A)) (i : ℕ) → i < e.place → moved_from from (e ∷ es) i ≡ i - from
moved_before from e es i lt = cond-true (ltb i e.place) _ _ (lt-ltb i e.place lt)

-- an element that is in no run is before it or after it
beside : {A : Type 0} (e : Edit A) (i : ℕ) → ((i < e.place) ⊎ (e.place + e.count ≤ i)) → e.place ≤ i → e.place + e.count ≤ i
beside e i side le = ⊎_elim (λ lt. absurd (omega arith)) (λ h. h) side

value-from : {A : Type 0} (from : ℕ) (es : List (Edit A)) (xs : List A) (i : ℕ) (d : A) → InOrder from (from + length xs) es → from ≤ i → i < from + length xs → Outside es i → get_or (applied_from from es xs) (moved_from from es i) d ≡ get_or xs (i - from) d
value-from from [] xs i d o low high out = refl
value-from from (e ∷ es) xs i d o low high out =
    let k = e.place - from in
    let end = e.place + e.count in
    let rest = drop (k + e.count) xs in
    let new = applied_from end es rest in
    let front : length (take (e.place - from) xs) ≡ e.place - from = length-take-le (e.place - from) xs (omega (arith, o.0, o.1)) in
    ⊎_elim
    (λ before.
    let lt : i - from < length (take (e.place - from) xs) = omega (arith, o.0) in
    let lt' : i - from < e.place - from = omega (arith, o.0) in
    ap (λ j. get_or (take k xs ++ (e.elements ++ new)) j d) (moved_before from e es i before)
    ∙ get_or_append_left (take k xs) (e.elements ++ new) d (i - from) lt
    ∙ get_or-take k xs (i - from) d lt')
    (λ after.
    let past = beside e i out.0 after in
    let long : length (drop (e.place - from + e.count) xs) ≡ length xs - (e.place - from + e.count) = length-drop (e.place - from + e.count) xs in
    let all : from + length xs ≡ e.place + e.count + length (drop (e.place - from + e.count) xs) = omega (arith, o.0, o.1) in
    let h = value-from end es rest i d (subst (λ (n : ℕ). InOrder end n es) all o.2) past (omega arith) out.1 in
    let place : e.place - from + length e.elements + moved_from (e.place + e.count) es i ≡ length (take (e.place - from) xs) + (length e.elements + moved_from (e.place + e.count) es i) = omega arith in
    let back : e.place - from + e.count + (i - (e.place + e.count)) ≡ i - from = omega (arith, o.0) in
    ap (λ j. get_or (take k xs ++ (e.elements ++ new)) j d) (moved-past from e es i after ∙ place)
    ∙ get_or-append-add (take k xs) (e.elements ++ new) (length e.elements + moved_from end es i) d
    ∙ get_or-append-add e.elements new (moved_from end es i) d
    ∙ h
    ∙ get_or-drop (k + e.count) xs (i - end) d
    ∙ ap (λ j. get_or xs j d) back)
    (cases_lt i e.place)

pub values_kept : {A : Type 0} (es : List (Edit A)) (list : List A) → InOrder 0 (length list) es → ValuesKept es list
values_kept es list o = λ i d lt out.
    let z : length list ≡ 0 + length list = omega arith in
    let same : i - 0 ≡ i = omega arith in
    value-from 0 es list i d (subst (λ (n : ℕ). InOrder 0 n es) z o) (omega arith) (omega arith) out ∙ ap (λ j. get_or list j d) same

order_from : {A : Type 0} (from len : ℕ) (es : List (Edit A)) (i j : ℕ) → InOrder from len es → from ≤ i → i < j → Outside es i → Outside es j → moved_from from es i < moved_from from es j
order_from from len [] i j o low lt a b = omega arith
order_from from len (e ∷ es) i j o low lt a b =
    ⊎_elim
    (λ before-i. ⊎_elim
    (λ before-j. omega (arith, moved_before from e es i before-i, moved_before from e es j before-j))
    (λ after-j. omega (arith, moved_before from e es i before-i, moved-past from e es j after-j, o.0))
    (cases_lt j e.place))
    (λ after-i.
    let after-j : e.place ≤ j = omega arith in
    let h = order_from (e.place + e.count) len es i j o.2 (beside e i a.0 after-i) lt a.1 b.1 in
    omega (arith, moved-past from e es i after-i, moved-past from e es j after-j))
    (cases_lt i e.place)

pub order_kept : {A : Type 0} (len : ℕ) (es : List (Edit A)) → InOrder 0 len es → OrderKept es
order_kept len es o = λ i j lt a b. order_from 0 len es i j o (omega arith) lt a b
