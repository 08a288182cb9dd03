-- Joining in place: what one more pair makes of the table, and what is left at the end.
-- Assumes nothing.
use Rattle.std.proofs.Common.{◌≡◌, ℕ, ◌+◌, ◌-◌, ◌<◌, ◌≤◌, true, false, not, ◌&&◌, List, [], ◌∷◌, ◌++◌, length, get_or, take, drop, set, sym, refl, ap, ◌∙◌, subst, arith}
use Rattle.std.proofs.lemmas.List.{append_assoc, append-nil, length-drop, length-take, take-take, take-append-drop, drop-drop, drop_more, drop_all, drop-take, drop-set-lt, take_more, take_more_set, take-set, get_or-set_same, length-set}
use Rattle.std.proofs.lemmas.Bool.{cond-true, cond-false, and_parts, eqb-true, true≢false}
use Rattle.machine.specs.declared.events.Event.{Event}
use Rattle.machine.specs.declared.events.EventKind.{EventKind}
use Rattle.machine.specs.declared.events.EventKind.TheVariants.{Enter, Exit}
use Rattle.machine.specs.declared.events.Name.{Name}
use Rattle.machine.specs.declared.events.Name.TheVariants as name
use Rattle.machine.specs.Laws.{enters, same_name, kind_number}
use Rattle.machine.specs.Joins.{is_data, seam, joined}
use Rattle.tokenizer.specs.Joining.{paired, joined_from}

-- ---- pairs

two_at_least : (es : List Event) → 0 < length es → paired es ≡ true → 1 < length es
two_at_least [] h p = omega arith
two_at_least (a ∷ []) h p = absurd (true≢false (sym p))
two_at_least (a ∷ b ∷ es) h p = omega arith

paired-beyond : (es : List Event) → paired es ≡ true → paired (drop 2 es) ≡ true
paired-beyond [] p = refl
paired-beyond (a ∷ []) p = absurd (true≢false (sym p))
paired-beyond (a ∷ b ∷ es) p =
    (and_parts (same_name a.name b.name) (paired es) (and_parts (enters a.kind && not (enters b.kind)) (same_name a.name b.name && paired es) p).1).1

-- the exit of the pair at i
pub pair_fits : (es : List Event) (i : ℕ) → i < length es → paired (drop i es) ≡ true → i + 1 < length es
pair_fits es i h p =
    let two : 1 < length (drop i es) = two_at_least (drop i es) (omega (arith, length-drop i es)) p in
    omega (arith, length-drop i es)

-- what follows it
pub pairs_beyond : (es : List Event) (i : ℕ) → paired (drop i es) ≡ true → paired (drop (i + 2) es) ≡ true
pairs_beyond es i p = subst (λ (xs : List Event). paired xs ≡ true) (drop-drop 2 i es) (paired-beyond (drop i es) p)

-- the same after a write in front of it
pub pairs_beyond_set : (es : List Event) (i j : ℕ) (x : Event) → j < i + 2 → paired (drop (i + 2) es) ≡ true → paired (drop (i + 2) (set es j x)) ≡ true
pairs_beyond_set es i j x h p = subst (λ (xs : List Event). paired xs ≡ true) (sym (drop-set-lt (i + 2) es j x h)) p

exit_only : (k : EventKind) → not (enters k) ≡ true → k ≡ Exit
exit_only Enter h = absurd (true≢false (sym h))
exit_only Exit h = refl

data_only : (n : Name) → is_data n ≡ true → n ≡ name.Data
data_only name.Data h = refl
data_only name.LineEnding h = absurd (true≢false (sym h))
data_only name.Link h = absurd (true≢false (sym h))
data_only (name.Address kind) h = absurd (true≢false (sym h))

data_again : (n m : Name) → is_data n ≡ true → same_name n m ≡ true → m ≡ name.Data
data_again name.Data name.Data h e = refl
data_again name.Data name.LineEnding h e = absurd (true≢false (sym e))
data_again name.Data name.Link h e = absurd (true≢false (sym e))
data_again name.Data (name.Address kind) h e = let none : ⊥ = omega (arith, eqb-true 0 (3 + kind_number kind) e) in absurd none
data_again name.LineEnding m h e = absurd (true≢false (sym h))
data_again name.Link m h e = absurd (true≢false (sym h))
data_again (name.Address kind) m h e = absurd (true≢false (sym h))

-- ---- a pair behind an event

-- an event with the end of another
abbrev pub ended_by : Event → Event → Event
ended_by e b = record { kind = e.kind; name = e.name; point = b.point }

module _ (a b : Event) (es : List Event) (p : paired (a ∷ b ∷ es) ≡ true) where
  kinds : (enters a.kind ≡ true) × (not (enters b.kind) ≡ true)
  kinds = and_parts (enters a.kind) (not (enters b.kind)) (and_parts (enters a.kind && not (enters b.kind)) (same_name a.name b.name && paired es) p).0

  names : same_name a.name b.name ≡ true
  names = (and_parts (same_name a.name b.name) (paired es) (and_parts (enters a.kind && not (enters b.kind)) (same_name a.name b.name && paired es) p).1).0

  -- an enter and its exit are no seam
  enter_stays : joined (a ∷ b ∷ es) ≡ a ∷ joined (b ∷ es)
  enter_stays = rw kinds.0

  pair_stays : (e : Event) → seam e a ≡ false → joined (e ∷ a ∷ b ∷ es) ≡ e ∷ a ∷ joined (b ∷ es)
  pair_stays e h = cond-false (seam e a) (joined (b ∷ es)) (e ∷ joined (a ∷ b ∷ es)) h ∙ ap (λ (xs : List Event). e ∷ xs) enter_stays

  -- the exit that is left is the one before the seam, with the end of the one behind it
  seam_goes : (e : Event) → seam e a ≡ true → joined (e ∷ a ∷ b ∷ es) ≡ joined (ended_by e b ∷ es)
  seam_goes e h =
      let parts = and_parts (not (enters e.kind) && is_data e.name) (enters a.kind && is_data a.name) h in
      let before = and_parts (not (enters e.kind)) (is_data e.name) parts.0 in
      let behind = and_parts (enters a.kind) (is_data a.name) parts.1 in
      let kind : b.kind ≡ e.kind = exit_only b.kind kinds.1 ∙ sym (exit_only e.kind before.0) in
      let name : b.name ≡ e.name = data_again a.name b.name behind.1 names ∙ sym (data_only e.name before.1) in
      cond-true (seam e a) (joined (b ∷ es)) (e ∷ joined (a ∷ b ∷ es)) h ∙ (λ j. joined (record { kind = kind j; name = name j; point = b.point } ∷ es))

-- ---- a pair taken up from the place i

-- of the events kept, the last may still change
last_kept : (es : List Event) (k i : ℕ) (d : Event) → 0 < k → k ≤ length es → joined_from k i es ≡ take (k - 1) es ++ joined (get_or es (k - 1) d ∷ drop i es)
last_kept es k i d h l =
    let n = k - 1 in
    let more : n + 1 ≡ k = omega arith in
    let one : drop n (take k es) ≡ get_or es n d ∷ [] =
    ap (λ (m : ℕ). drop n (take m es)) (sym more) ∙ drop-take n 1 es ∙ ap (take 1) (drop_more es n d (omega arith)) in
    ap (λ (xs : List Event). take n es ++ joined (xs ++ drop i es)) one

module _ (es : List Event) (k i : ℕ) (a b : Event) (in-front : k ≤ i) (inside : i + 1 < length es) (p : paired (drop i es) ≡ true) (at_a : a ≡ get_or es i a) (at_b : b ≡ get_or es (i + 1) b) where
  left : drop i es ≡ a ∷ b ∷ drop (i + 2) es
  left =
      let on : (i + 1) + 1 ≡ i + 2 = omega arith in
      drop_more es i a (omega arith) ∙ ap (λ (x : Event). x ∷ drop (i + 1) es) (sym at_a)
      ∙ ap (λ (xs : List Event). a ∷ xs) (drop_more es (i + 1) b inside ∙ ap (λ (x : Event). x ∷ drop ((i + 1) + 1) es) (sym at_b) ∙ ap (λ (n : ℕ). b ∷ drop n es) on)

  two : paired (a ∷ b ∷ drop (i + 2) es) ≡ true
  two = subst (λ (xs : List Event). paired xs ≡ true) left p

  -- the last that is kept gets the end of the pair
  pub lengthened : (e : Event) → 0 < k → e ≡ get_or es (k - 1) e → seam e a ≡ true → joined_from k (i + 2) (set es (k - 1) (ended_by e b)) ≡ joined_from k i es
  lengthened e h at-e q =
      let n = k - 1 in
      let x = ended_by e b in
      let low : n < length es = omega arith in
      let front : take n (set es n x) ≡ take n es = take-set es n x in
      let last : get_or (set es n x) n x ≡ x = get_or-set_same es n x x low in
      let beyond : drop (i + 2) (set es n x) ≡ drop (i + 2) es = drop-set-lt (i + 2) es n x (omega arith) in
      last_kept (set es n x) k (i + 2) x h (omega (arith, length-set es n x))
      ∙ (λ j. front j ++ joined (last j ∷ beyond j))
      ∙ ap (λ (xs : List Event). take n es ++ xs) (sym (seam_goes a b (drop (i + 2) es) two e q))
      ∙ ap (λ (xs : List Event). take n es ++ joined (e ∷ xs)) (sym left)
      ∙ ap (λ (y : Event). take n es ++ joined (y ∷ drop i es)) at-e
      ∙ sym (last_kept es k i e h (omega arith))

  -- the table with the pair behind what is kept, and the rest
  moved : joined_from (k + 2) (i + 2) (set (set es k a) (k + 1) b) ≡ (take k es ++ a ∷ []) ++ joined (b ∷ drop (i + 2) es)
  moved =
      let one = set es k a in
      let both = set one (k + 1) b in
      let fits : k + 1 < length one = omega (arith, length-set es k a) in
      let last : (k + 2) - 1 ≡ k + 1 = omega arith in
      let front : take (k + 1) both ≡ take k es ++ a ∷ [] = take-set one (k + 1) b ∙ take_more_set es k a (omega arith) in
      let exit : get_or both (k + 1) b ≡ b = get_or-set_same one (k + 1) b b fits in
      let beyond : drop (i + 2) both ≡ drop (i + 2) es = drop-set-lt (i + 2) one (k + 1) b (omega arith) ∙ drop-set-lt (i + 2) es k a (omega arith) in
      last_kept both (k + 2) (i + 2) b (omega arith) (omega (arith, length-set one (k + 1) b, length-set es k a))
      ∙ ap (λ (m : ℕ). take m both ++ joined (get_or both m b ∷ drop (i + 2) both)) last
      ∙ (λ j. front j ++ joined (exit j ∷ beyond j))

  -- nothing was kept
  pub first-kept : k ≡ 0 → joined_from (k + 2) (i + 2) (set (set es k a) (k + 1) b) ≡ joined_from k i es
  first-kept z =
      let from-none : a ∷ joined (b ∷ drop (i + 2) es) ≡ joined (drop i es) = sym (ap joined left ∙ enter_stays a b (drop (i + 2) es) two) in
      moved ∙ subst (λ (m : ℕ). (take m es ++ a ∷ []) ++ joined (b ∷ drop (i + 2) es) ≡ joined_from m i es) (sym z) from-none

  -- no seam: the pair is kept behind e
  pub pair_kept : (e : Event) → 0 < k → e ≡ get_or es (k - 1) e → seam e a ≡ false → joined_from (k + 2) (i + 2) (set (set es k a) (k + 1) b) ≡ joined_from k i es
  pair_kept e h at-e q =
      let n = k - 1 in
      let rest = joined (b ∷ drop (i + 2) es) in
      let more : n + 1 ≡ k = omega arith in
      let front : take k es ≡ take n es ++ e ∷ [] =
      ap (λ (m : ℕ). take m es) (sym more) ∙ take_more es n e (omega arith) ∙ ap (λ (y : Event). take n es ++ y ∷ []) (sym at-e) in
      let grouped : ((take n es ++ e ∷ []) ++ a ∷ []) ++ rest ≡ take n es ++ (e ∷ a ∷ rest) = simp append_assoc in
      moved
      ∙ ap (λ (xs : List Event). (xs ++ a ∷ []) ++ rest) front
      ∙ grouped
      ∙ ap (λ (xs : List Event). take n es ++ xs) (sym (pair_stays a b (drop (i + 2) es) two e q))
      ∙ ap (λ (xs : List Event). take n es ++ joined (e ∷ xs)) (sym left)
      ∙ ap (λ (y : Event). take n es ++ joined (y ∷ drop i es)) at-e
      ∙ sym (last_kept es k i e h (omega arith))

-- ---- the end

lone : (es : List Event) → length es ≤ 1 → joined es ≡ es
lone [] h = refl
lone (a ∷ []) h = refl
lone (a ∷ b ∷ es) h = let none : ⊥ = omega arith in absurd none

-- with nothing left, all that is kept is joined
all-kept : (es : List Event) (k i : ℕ) → length es ≤ i → take k es ≡ joined_from k i es
all-kept es k i h =
    let n = k - 1 in
    let last = drop n (take k es) in
    let nothing : last ++ drop i es ≡ last = ap (λ (xs : List Event). last ++ xs) (drop_all i es h) ∙ append-nil last in
    let front : take n (take k es) ≡ take n es = take-take n k es (omega arith) in
    sym (ap (λ (xs : List Event). take n es ++ joined xs) nothing
    ∙ ap (λ (xs : List Event). take n es ++ xs) (lone last (omega (arith, length-drop n (take k es), length-take k es)))
    ∙ ap (λ (xs : List Event). xs ++ last) (sym front)
    ∙ take-append-drop n (take k es))

-- so what is cut off behind it is all that was to go
pub all-joined : (before es after : List Event) (k i : ℕ) → joined_from k i es ≡ joined before → length es ≤ i → after ≡ take k es → after ≡ joined before
all-joined before es after k i e h cut = cut ∙ all-kept es k i h ∙ e
