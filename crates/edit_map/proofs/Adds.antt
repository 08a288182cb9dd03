-- An addition to the entries and the store is one to the edits.
-- Assumes nothing.
use Rattle.std.proofs.Common.{◌≡◌, ℕ, suc, ◌+◌, ◌<◌, ◌≤◌, true, eqb, ltb, List, [], ◌∷◌, ◌++◌, length, get_or, take, drop, set, sym, refl, ap, ◌∙◌, subst, arith}
use lib.Seq.{take-append_seam, drop-append_seam}
use Rattle.std.specs.List.{insert, sum_by}
use Rattle.std.proofs.lemmas.Bool.{lt-ltb, le-ltb, eq-eqb, ne_eqb, cond-true, cond-false}
use Rattle.std.proofs.lemmas.List.{length-drop, take-append-le, drop-append-le, take-append-drop, length-take-le, drop_at}
use Rattle.edit_map.specs.declared.entries.Entry.{Entry}
use Rattle.edit_map.specs.declared.entries.Side.{Side}
use Rattle.edit_map.specs.declared.entries.Side.TheVariants.{Front, Back}
use Rattle.edit_map.specs.Entries.{entry, total, edits, well_formed, offset, spliced, At, NoneAt}
use Rattle.edit_map.specs.Edits.{Edit, edit, joined, put, count_at}
use Rattle.edit_map.proofs.Ranks.{Here, here, past, Gone, end, before, beyond, here_within, gone_within, here_place, sizes_before, total-set, total_inserted, here_at, here_read, here_small, gone_at, wf_set, wf_inserted}
use Rattle.edit_map.proofs.Splices.{behind_take, behind_drop, seam-take, seam-drop, front_take, front_drop, length-spliced}

module _ {A : Type 0} (side : Side) (p n : ℕ) (xs : List A) where
  pub put-past : (e : Edit A) (es : List (Edit A)) → e.place < p → put side p n xs (e ∷ es) ≡ e ∷ put side p n xs es
  put-past e es lt = cond-true (ltb e.place p) _ _ (lt-ltb e.place p lt)

  pub put_here : (e : Edit A) (es : List (Edit A)) → e.place ≡ p → put side p n xs (e ∷ es) ≡ edit p (e.count + n) (joined side e.elements xs) ∷ es
  put_here e es is = cond-false (ltb e.place p) _ _ (le-ltb e.place p (omega arith)) ∙ cond-true (eqb e.place p) _ _ (eq-eqb e.place p is)

  pub put-before : (e : Edit A) (es : List (Edit A)) → p < e.place → put side p n xs (e ∷ es) ≡ edit p n xs ∷ e ∷ es
  put-before e es lt = cond-false (ltb e.place p) _ _ (le-ltb e.place p (omega arith)) ∙ cond-false (eqb e.place p) _ _ (ne_eqb e.place p (λ same. omega arith))

-- the first edit after elements were put in at its place
joined-first : {A : Type 0} (side : Side) (p n : ℕ) (xs : List A) (r : Entry) (rs : List Entry) (s : List A) → r.size ≤ length s → edits (entry p (r.count + n) (r.size + length xs) ∷ rs) (spliced s (offset side r.size) xs) ≡ edit p (r.count + n) (joined side (take r.size s) xs) ∷ edits rs (drop r.size s)
joined-first Back p n xs r rs s h = λ k. edit p (r.count + n) (seam-take xs r.size s h k) ∷ edits rs (seam-drop xs r.size s h k)
joined-first Front p n xs r rs s h = λ k. edit p (r.count + n) (front_take xs r.size s k) ∷ edits rs (front_drop xs r.size s k)

pub offset-within : (side : Side) (size : ℕ) → offset side size ≤ size
offset-within Back size = omega arith
offset-within Front size = omega arith

-- at a place where an edit stands
edits_here : {A : Type 0} (side : Side) (p n : ℕ) (xs : List A) {es : List Entry} {i : ℕ} {r : Entry} (s : List A) → Here p es i r → total es ≤ length s → edits (set es i (entry p (r.count + n) (r.size + length xs))) (spliced s (total (take i es) + offset side r.size) xs) ≡ put side p n xs (edits es s)
edits_here side p n xs s (here {r} {rs} is) h =
    let z : 0 + offset side r.size ≡ offset side r.size = omega arith in
    ap (λ q. edits (entry p (r.count + n) (r.size + length xs) ∷ rs) (spliced s q xs)) z
    ∙ joined-first side p n xs r rs s (omega arith)
    ∙ sym (put_here side p n xs (edit r.place r.count (take r.size s)) (edits rs (drop r.size s)) is)
edits_here side p n xs s (past {q} {r} {rs} {i} lt w) h =
    let c = q.size in
    let j = total (take i rs) + offset side r.size in
    let z : c + total (take i rs) + offset side r.size ≡ c + j = omega arith in
    let fits : total rs ≤ length (drop c s) = simp length-drop (omega arith) in
    let in-rs = here_within w in
    let in_size = offset-within side r.size in
    let inside : c + j ≤ length s = omega arith in
    let new = entry p (r.count + n) (r.size + length xs) in
    ap (λ k. edits (q ∷ set rs i new) (spliced s k xs)) z
    ∙ (λ k. edit q.place q.count (behind_take xs c j s inside k) ∷ edits (set rs i new) (behind_drop xs c j s inside k))
    ∙ ap (λ es. edit q.place q.count (take c s) ∷ es) (edits_here side p n xs (drop c s) w fits)
    ∙ sym (put-past side p n xs (edit q.place q.count (take c s)) (edits rs (drop c s)) lt)

-- and where none does
edits_gone : {A : Type 0} (side : Side) (p n : ℕ) (xs : List A) {es : List Entry} {i : ℕ} (s : List A) → Gone p es i → total es ≤ length s → edits (insert es i (entry p n (length xs))) (spliced s (total (take i es)) xs) ≡ put side p n xs (edits es s)
edits_gone side p n xs s end h = ap (λ l. edit p n l ∷ []) (take-append_seam xs s)
edits_gone side p n xs s (before {r} {rs} lt) h =
    (λ k. edit p n (take-append_seam xs s k) ∷ edits (r ∷ rs) (drop-append_seam xs s k))
    ∙ sym (put-before side p n xs (edit r.place r.count (take r.size s)) (edits rs (drop r.size s)) lt)
edits_gone side p n xs s (beyond {q} {rs} {i} lt w) h =
    let c = q.size in
    let j = total (take i rs) in
    let fits : total rs ≤ length (drop c s) = simp length-drop (omega arith) in
    let in-rs = gone_within w in
    let inside : c + j ≤ length s = omega arith in
    let new = entry p n (length xs) in
    (λ k. edit q.place q.count (behind_take xs c j s inside k) ∷ edits (insert rs i new) (behind_drop xs c j s inside k))
    ∙ ap (λ es. edit q.place q.count (take c s) ∷ es) (edits_gone side p n xs (drop c s) w fits)
    ∙ sym (put-past side p n xs (edit q.place q.count (take c s)) (edits rs (drop c s)) lt)

-- ---- a store that has more than the kept elements

pub edits_front : {A : Type 0} (es : List Entry) (a b : List A) → total es ≤ length a → edits es (a ++ b) ≡ edits es a
edits_front [] a b h = refl
edits_front (e ∷ es) a b h =
    let fits : total es ≤ length (drop e.size a) = simp length-drop (omega arith) in
    (λ k. edit e.place e.count (take-append-le e.size a b (omega arith) k) ∷ edits es (drop-append-le e.size a b (omega arith) k))
    ∙ ap (λ l. edit e.place e.count (take e.size a) ∷ l) (edits_front es (drop e.size a) b fits)

edits-kept : {A : Type 0} (es : List Entry) (s : List A) → total es ≤ length s → edits es (take (total es) s) ≡ edits es s
edits-kept es s h =
    sym (edits_front es (take (total es) s) (drop (total es) s) (omega (arith, length-take-le (total es) s h)))
    ∙ ap (edits es) (take-append-drop (total es) s)

pub widened : {A : Type 0} (side : Side) (p n : ℕ) (xs : List A) {es : List Entry} {i : ℕ} {r : Entry} (s t : List A) → Here p es i r → total es ≤ length s → edits (set es i (entry p (r.count + n) (r.size + length xs))) (spliced (take (total es) s) (total (take i es) + offset side r.size) xs ++ t) ≡ put side p n xs (edits es s)
widened side p n xs {es} {i} {r} s t w h =
    let k = take (total es) s in
    let q = total (take i es) + offset side r.size in
    let long : length (take (total es) s) ≡ total es = length-take-le (total es) s h in
    let inside = here_within w in
    let in_size = offset-within side r.size in
    let grown = length-spliced (take (total es) s) (total (take i es) + offset side r.size) xs (omega arith) in
    let sum = total-set (r.count + n) (length xs) w in
    edits_front (set es i (entry p (r.count + n) (r.size + length xs))) (spliced k q xs) t (omega arith)
    ∙ edits_here side p n xs k w (omega arith)
    ∙ ap (put side p n xs) (edits-kept es s h)

pub entered : {A : Type 0} (side : Side) (p n : ℕ) (xs : List A) {es : List Entry} {i : ℕ} (s t : List A) → Gone p es i → total es ≤ length s → edits (insert es i (entry p n (length xs))) (spliced (take (total es) s) (total (take i es)) xs ++ t) ≡ put side p n xs (edits es s)
entered side p n xs {es} {i} s t w h =
    let k = take (total es) s in
    let q = total (take i es) in
    let long : length (take (total es) s) ≡ total es = length-take-le (total es) s h in
    let inside = gone_within w in
    let grown = length-spliced (take (total es) s) (total (take i es)) xs (omega arith) in
    let sum = total_inserted n (length xs) w in
    edits_front (insert es i (entry p n (length xs))) (spliced k q xs) t (omega arith)
    ∙ edits_gone side p n xs k w (omega arith)
    ∙ ap (put side p n xs) (edits-kept es s h)

-- ---- what an addition is measured by

pub count_here : {A : Type 0} {p : ℕ} {es : List Entry} {i : ℕ} {r : Entry} (s : List A) → Here p es i r → count_at p (edits es s) ≡ r.count
count_here {p = p} s (here {r} {rs} is) = cond-false (ltb r.place p) _ _ (le-ltb r.place p (omega arith)) ∙ cond-true (eqb r.place p) _ _ (eq-eqb r.place p is)
count_here {p = p} s (past {q} {r} {rs} lt w) = cond-true (ltb q.place p) _ _ (lt-ltb q.place p lt) ∙ count_here (drop q.size s) w

pub count_gone : {A : Type 0} {p : ℕ} {es : List Entry} {i : ℕ} (s : List A) → Gone p es i → count_at p (edits es s) ≡ 0
count_gone s end = refl
count_gone {p = p} s (before {r} {rs} lt) = cond-false (ltb r.place p) _ _ (le-ltb r.place p (omega arith)) ∙ cond-false (eqb r.place p) _ _ (ne_eqb r.place p (λ same. omega arith))
count_gone {p = p} s (beyond {q} {rs} lt w) = cond-true (ltb q.place p) _ _ (lt-ltb q.place p lt) ∙ count_gone (drop q.size s) w

pub length-edits : {A : Type 0} (es : List Entry) (s : List A) → length (edits es s) ≡ length es
length-edits [] s = refl
length-edits (e ∷ es) s = ap suc (length-edits es (drop e.size s))

pub length_here : {A : Type 0} (side : Side) (p n : ℕ) (xs s : List A) {es : List Entry} {i : ℕ} {r : Entry} → Here p es i r → length (put side p n xs (edits es s)) ≡ length es
length_here side p n xs s (here {r} {rs} is) = ap length (put_here side p n xs (edit r.place r.count (take r.size s)) (edits rs (drop r.size s)) is) ∙ ap suc (length-edits rs (drop r.size s))
length_here side p n xs s (past {q} {r} {rs} lt w) = ap length (put-past side p n xs (edit q.place q.count (take q.size s)) (edits rs (drop q.size s)) lt) ∙ ap suc (length_here side p n xs (drop q.size s) w)

pub length_gone : {A : Type 0} (side : Side) (p n : ℕ) (xs s : List A) {es : List Entry} {i : ℕ} → Gone p es i → length (put side p n xs (edits es s)) ≡ suc (length es)
length_gone side p n xs s end = refl
length_gone side p n xs s (before {r} {rs} lt) = ap length (put-before side p n xs (edit r.place r.count (take r.size s)) (edits rs (drop r.size s)) lt) ∙ ap (λ k. suc (suc k)) (length-edits rs (drop r.size s))
length_gone side p n xs s (beyond {q} {rs} lt w) = ap length (put-past side p n xs (edit q.place q.count (take q.size s)) (edits rs (drop q.size s)) lt) ∙ ap suc (length_gone side p n xs (drop q.size s) w)

-- ---- both together: what stands in the entries and the store afterwards

pub record Grown {A : Type 0} (side : Side) (p n : ℕ) (xs : List A) (es es' : List Entry) (s s' : List A) (kept : ℕ) : Type 0 where
  pub edits : edits es' s' ≡ put side p n xs (edits es s)
  pub rest : drop (kept + length xs) s' ≡ drop (kept + length xs) s
  pub ordered : well_formed 0 es' ≡ true
  pub tally : total es' ≡ kept + length xs

module _ {A : Type 0} (side : Side) (n : ℕ) (xs : List A) (es : List Entry) (i : ℕ) (s s' : List A) (kept at : ℕ) (wf : well_formed 0 es ≡ true) (tally : kept ≡ total es) (room : kept + length xs ≤ length s) where
  -- the store past the kept elements
  past-kept : at ≤ total es → s' ≡ spliced (take kept s) at xs ++ drop (kept + length xs) s → drop (kept + length xs) s' ≡ drop (kept + length xs) s
  past-kept inside is =
      let long = length-take-le kept s (omega arith) in
      ap (drop (kept + length xs)) is
      ∙ drop_at (spliced (take kept s) at xs) (drop (kept + length xs) s) (kept + length xs) (length-spliced (take kept s) at xs (omega arith) ∙ omega arith)

  pub grown_here : {p : ℕ} {old : Entry} → Here p es i old → count_at p (edits es s) + n ≤ 4096 → at ≡ sum_by (λ e. e.size) (take i es) + offset side old.size → s' ≡ spliced (take kept s) at xs ++ drop (kept + length xs) s → Grown side p n xs es (set es i (entry old.place (old.count + n) (old.size + length xs))) s s' kept
  grown_here {p} {old} h small there is =
      let inside = here_within h in
      let in_size = offset-within side old.size in
      let count = count_here s h in
      let first = sizes_before es i in
      let from : at ≡ total (take i es) + offset side old.size = omega (arith, first.0) in
      subst (λ q. Grown side p n xs es (set es i (entry q (old.count + n) (old.size + length xs))) s s' kept) (sym (here_place h)) (record {
        edits = ap (edits (set es i (entry p (old.count + n) (old.size + length xs)))) (is ∙ (λ k. spliced (take (tally k) s) (from k) xs ++ drop (kept + length xs) s))
            ∙ widened side p n xs s (drop (kept + length xs) s) h (omega arith);
        rest = past-kept (omega arith) is;
        ordered = wf_set 0 (old.count + n) (old.size + length xs) h wf (omega arith);
        tally = total-set (old.count + n) (length xs) h ∙ omega arith;
      })

  pub grown_new : (p : ℕ) → NoneAt p es i → p ≤ 4096 → n ≤ 4096 → at ≡ sum_by (λ e. e.size) (take i es) → s' ≡ spliced (take kept s) at xs ++ drop (kept + length xs) s → Grown side p n xs es (insert es i (entry p n (length xs))) s s' kept
  grown_new p w low small there is =
      let h = gone_at p es i w in
      let first = sizes_before es i in
      let from : at ≡ total (take i es) = omega (arith, first.0) in
      record {
        edits = ap (edits (insert es i (entry p n (length xs)))) (is ∙ (λ k. spliced (take (tally k) s) (from k) xs ++ drop (kept + length xs) s))
            ∙ entered side p n xs s (drop (kept + length xs) s) h (omega arith);
        rest = past-kept (omega arith) is;
        ordered = wf_inserted 0 n (length xs) h wf (omega arith) low small;
        tally = total_inserted n (length xs) h ∙ omega arith;
      }

-- ---- what the refusals ask

module _ {A : Type 0} (p : ℕ) (es : List Entry) (i : ℕ) (s : List A) where
  module _ (w : At p es i) where
    pub count_old : well_formed 0 es ≡ true → (old : Entry) → old ≡ get_or es i old → (count_at p (edits es s) ≡ old.count) × (old.count ≤ 4096)
    count_old wf old is = let h = here_read es i old w is in (count_here s h, here_small 0 h wf)

    pub places_old : (side : Side) (n : ℕ) (xs : List A) → length (put side p n xs (edits es s)) ≡ length es
    places_old side n xs = length_here side p n xs s (here_at p es i w)

  module _ (w : NoneAt p es i) where
    pub count-new : count_at p (edits es s) ≡ 0
    count-new = count_gone s (gone_at p es i w)

    pub places_new : (side : Side) (n : ℕ) (xs : List A) → length (put side p n xs (edits es s)) ≡ suc (length es)
    places_new side n xs = length_gone side p n xs s (gone_at p es i w)
