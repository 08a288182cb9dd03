-- Data put into a batch part by part, all at one place.
-- Assumes nothing.
use Rattle.std.proofs.Common.{◌≡◌, ℕ, suc, ◌+◌, ◌-◌, ◌<◌, ◌≤◌, true, false, eqb, List, [], ◌∷◌, ◌++◌, map, length, get_or, drop, Ok, Result, sym, refl, ap, ◌∙◌, subst, arith}
use Rattle.std.specs.List.{AllByRecursion}
use Rattle.std.proofs.lemmas.List.{append_assoc, append-nil, length-append, drop_all}
use Rattle.std.proofs.Math.Seq.{drop-cons}
use Rattle.std.proofs.lemmas.Bool.{cond-false, and_parts, and_right, eqb-true, ne_eqb, cond_both, true≢false}
use Rattle.text.specs.declared.places.Point.{Point}
use Rattle.text.specs.declared.refusals.Fault.{Fault}
use Rattle.text.specs.declared.spans.Span.{Span}
use Rattle.text.specs.Places.{point_at}
use Rattle.rules.specs.InTurn.{InTextOrder}
use Rattle.rules.specs.Notes.{moved}
use Rattle.edit_map.specs.declared.entries.Side.TheVariants.{Back}
use Rattle.edit_map.specs.Edits.{Edit, put, idle, added}
use Rattle.edit_map.specs.Laws.{InOrder, Rising}
use Rattle.machine.specs.declared.events.Event.{Event}
use Rattle.machine.specs.declared.events.EventKind.TheVariants.{Enter, Exit}
use Rattle.machine.specs.declared.events.Name.TheVariants as name
use Rattle.machine.specs.Laws.{event_at, Segment, events_of}
use Rattle.calls.specs.EventLists.{span}
use Rattle.calls.specs.Links.{data_between, filled, as_named}
use Rattle.resolving.specs.Parts.{parts}
use Rattle.resolving.proofs.Behind.{put_behind, put_twice}

-- ---- what is added at one place

module _ {A : Type 0} (p : ℕ) where
  idle_parts : (c : ℕ) (xs : List A) → idle c xs ≡ true → (c ≡ 0) × (xs ≡ [])
  idle_parts c xs e = let both = and_parts (eqb c 0) (eqb (length xs) 0) e in (eqb-true c 0 both.0, empty xs (eqb-true (length xs) 0 both.1))
    where
      empty : (xs : List A) → length xs ≡ 0 → xs ≡ []
      empty [] h = refl
      empty (x ∷ xs) h = absurd (omega arith)

  -- a batch with more at the place, or as it was
  more_at : (xs : List A) (es : List (Edit A)) (P : List (Edit A) → Type 0) → (xs ≡ [] → P es) → (idle 0 xs ≡ false → P (put Back p 0 xs es)) → P (added p 0 xs es)
  more_at xs es P none some = cond_both (idle 0 xs) es (put Back p 0 xs es) P (λ t. none (idle_parts 0 xs t).1) some

  module _ (es : List (Edit A)) (o : InOrder 0 p es) (r : Rising 0 es) where
    pub order-added : (xs : List A) → InOrder 0 p (added p 0 xs es)
    order-added xs =
        let z : p + 0 ≡ p = omega arith in
        more_at xs es (InOrder 0 p) (λ _. o) (λ _. subst (λ (k : ℕ). InOrder 0 k (put Back p 0 xs es)) z (put_behind p 0 xs 0 0 es (omega arith) o r).in_order)

    pub few_more : (c : ℕ) (ys xs : List A) → length (put Back p c ys (added p 0 xs es)) ≤ length es + 1
    few_more c ys xs =
        more_at xs es (λ b. length (put Back p c ys b) ≤ length es + 1)
        (λ _. (put_behind p c ys 0 0 es (omega arith) o r).few)
        (λ _. subst (λ (b : List (Edit A)). length b ≤ length es + 1) (sym (put_twice p 0 c xs ys es)) (put_behind p (0 + c) (xs ++ ys) 0 0 es (omega arith) o r).few)

  not_idle : (c : ℕ) (xs ys : List A) → idle 0 xs ≡ false → idle c (xs ++ ys) ≡ false
  not_idle c [] ys e = absurd (true≢false e)
  not_idle c (x ∷ xs) ys e = and_right (eqb c 0) (eqb (length (x ∷ (xs ++ ys))) 0) (ne_eqb (length (x ∷ (xs ++ ys))) 0 (λ z. omega arith))

  pub added_twice : (c : ℕ) (xs ys : List A) (es : List (Edit A)) → added p c ys (added p 0 xs es) ≡ added p c (xs ++ ys) es
  added_twice c xs ys es =
      more_at xs es (λ b. added p c ys b ≡ added p c (xs ++ ys) es)
      (λ e. ap (λ l. added p c (l ++ ys) es) (sym e))
      (λ some.
      cond_both (idle c ys) (put Back p 0 xs es) (put Back p c ys (put Back p 0 xs es)) (λ b. b ≡ put Back p c (xs ++ ys) es)
      (λ t. let i = idle_parts c ys t in λ k. put Back p (sym i.0 k) (◌∙◌ (sym (append-nil xs)) (ap (λ l. xs ++ l) (sym i.1)) k) es)
      (λ _. let z : 0 + c ≡ c = omega arith in put_twice p 0 c xs ys es ∙ ap (λ k. put Back p k (xs ++ ys) es) z)
      ∙ sym (cond-false (idle c (xs ++ ys)) es (put Back p c (xs ++ ys) es) (not_idle c xs ys some)))

-- ---- events of spans

pub events-append : (note : List ℕ) (xs ys : List Segment) → events_of note (xs ++ ys) ≡ events_of note xs ++ events_of note ys
events-append note [] ys = refl
events-append note (x ∷ xs) ys = ap (λ es. event_at note Enter x.name x.from ∷ event_at note Exit x.name x.to ∷ es) (events-append note xs ys)

-- ---- the parts of Data, some of them put in and some left

-- those left, from byte i on
abbrev pub parts_on : ℕ → List Span → ℕ → ℕ → List Segment
parts_on from left i to = filled i (map as_named (map (moved from) left)) to

-- from, to: the bytes of the Data; base, kept₀: the batch and its room before
pub record Splitting (note : List ℕ) (place from to : ℕ) (mail left : List Span) (point : Point) (base batch : List (Edit Event)) (kept₀ kept : ℕ) : Type 0 where
  pub at : ℕ
  pub done : List Event
  pub placed : point ≡ point_at note point.index
  pub index_is : point.index ≡ from + at
  pub order : InTextOrder at left
  pub inside : AllByRecursion (λ x. x.to ≤ to - from) left
  pub ahead : at ≤ to - from
  pub batch_is : batch ≡ added place 0 done base
  pub kept_is : kept ≡ kept₀ + length done
  pub whole : done ++ events_of note (parts_on from left point.index to) ≡ events_of note (parts from mail to)

pub none-split : (note : List ℕ) (place : ℕ) (from : Point) (to : ℕ) (mail : List Span) (base : List (Edit Event)) (kept : ℕ) → from ≡ point_at note from.index → InTextOrder 0 mail × AllByRecursion (λ x. x.to ≤ to - from.index) mail → Splitting note place from.index to mail mail from base base kept kept
none-split note place from to mail base kept placed turn = record {
  at = 0;
  done = [];
  placed = placed;
  index_is = omega arith;
  order = turn.0;
  inside = turn.1;
  ahead = omega arith;
  batch_is = refl;
  kept_is = omega arith;
  whole = refl;
}

-- ---- what a part asks of the batch

module _ (place : ℕ) (base batch : List (Edit Event)) (done : List Event) (is : batch ≡ added place 0 done base) where
  pub in_order : InOrder 0 place base → Rising 0 base → InOrder 0 place batch
  in_order o r = subst (InOrder 0 place) (sym is) (order-added place base o r done)

  pub few : (c : ℕ) (ys : List Event) → InOrder 0 place base → Rising 0 base → length base < 1024 → length (put Back place c ys batch) ≤ 1024
  few c ys o r lt = subst (λ (b : List (Edit Event)). length (put Back place c ys b) ≤ 1024) (sym is) (omega (arith, few_more place base o r c ys done))

  pub more : (c : ℕ) (ys : List Event) (new : List (Edit Event)) → new ≡ added place c ys batch → new ≡ added place c (done ++ ys) base
  more c ys new e = e ∙ ap (added place c ys) is ∙ added_twice place c done ys base

-- ---- one address

-- the point that a part answers
pub record Reached (note : List ℕ) (i : ℕ) (p : Point) : Type 0 where
  pub is : p ≡ point_at note i
  pub index_is : p.index ≡ i
  pub placed : p ≡ point_at note p.index

pub reached : (note : List ℕ) (i : ℕ) (p : Point) → ◌≡◌ {A = Result Point Fault} (Ok p) (Ok (point_at note i)) → Reached note i p
reached note i p e =
    let is : p ≡ point_at note i = cc in
    let at : p.index ≡ i = ap (λ (q : Point). q.index) is in
    record { is = is; index_is = at; placed = is ∙ ap (point_at note) (sym at) }

module _ (note : List ℕ) (place from to : ℕ) (mail : List Span) (x : Span) (left : List Span) (point : Point) (base batch : List (Edit Event)) (kept₀ kept : ℕ) (s : Splitting note place from to mail (x ∷ left) point base batch kept₀ kept) (low : from ≤ to) where
  abbrev gap : List Event
  gap = events_of note (data_between point.index (from + x.from))

  abbrev address : List Event
  address = events_of note (span (name.Address x.kind) (from + x.from) (from + x.to) ∷ [])

  abbrev rest : List Event
  rest = events_of note (parts_on from left (from + x.to) to)

  whole_is : ((s.done ++ gap) ++ address) ++ rest ≡ events_of note (parts from mail to)
  whole_is =
      append_assoc (s.done ++ gap) address rest
      ∙ append_assoc s.done gap (address ++ rest)
      ∙ ap (λ l. s.done ++ l) (sym (events-append note (data_between point.index (from + x.from)) (span (name.Address x.kind) (from + x.from) (from + x.to) ∷ parts_on from left (from + x.to) to)))
      ∙ s.whole

  pub record Asks : Type 0 where
    pub forward : point.index ≤ from + x.from
    pub onward : from + x.from ≤ from + x.to
    pub inside : from + x.to ≤ to
    pub room : kept + length gap + 2 ≤ kept₀ + length (events_of note (parts from mail to))

  pub asks : Asks
  asks =
      let size = ap length whole_is in
      let a = length-append ((s.done ++ gap) ++ address) rest in
      let b = length-append (s.done ++ gap) address in
      let c = length-append s.done gap in
      record {
        forward = omega (arith, s.index_is, s.order.0.0);
        onward = omega (arith, s.order.0.1);
        inside = omega (arith, s.inside.0);
        room = omega (arith, s.kept_is);
      }

  -- start: where the address begins; between: the batch before its events
  pub one-more : (start : ℕ) (point' : Point) (between batch' : List (Edit Event)) (kept' : ℕ) → start ≡ from + x.from → point' ≡ point_at note (from + x.to) → between ≡ added place 0 gap batch → batch' ≡ added place 0 (events_of note (span (name.Address x.kind) start (from + x.to) ∷ [])) between → kept' ≡ kept + length gap + 2 → Splitting note place from to mail left point' base batch' kept₀ kept'
  one-more start point' between batch' kept' is-start is-point is-between is-batch is-kept =
      let first = more place base batch s.done s.batch_is 0 gap between is-between in
      let second = more place base between (s.done ++ gap) first 0 address batch' (is-batch ∙ ap (λ i. added place 0 (events_of note (span (name.Address x.kind) i (from + x.to) ∷ [])) between) is-start) in
      let at : point'.index ≡ from + x.to = ap (λ (p : Point). p.index) is-point in
      let b = length-append (s.done ++ gap) address in
      let c = length-append s.done gap in
      record {
        at = x.to;
        done = (s.done ++ gap) ++ address;
        placed = is-point ∙ ap (point_at note) (sym at);
        index_is = at;
        order = s.order.1;
        inside = s.inside.1;
        ahead = s.inside.0;
        batch_is = second;
        kept_is = omega (arith, s.kept_is);
        whole = ap (λ i. ((s.done ++ gap) ++ address) ++ events_of note (parts_on from left i to)) at ∙ whole_is;
      }

-- the address at hand, and those behind it
pub next_part : (note : List ℕ) (place from to : ℕ) (mail : List Span) (i : ℕ) (d : Span) (point : Point) (base batch : List (Edit Event)) (kept₀ kept : ℕ) → i < length mail → Splitting note place from to mail (drop i mail) point base batch kept₀ kept → Splitting note place from to mail (get_or mail i d ∷ drop (i + 1) mail) point base batch kept₀ kept
next_part note place from to mail i d point base batch kept₀ kept lt s =
    let e : suc i ≡ i + 1 = omega arith in
    subst (λ (t : List Span). Splitting note place from to mail t point base batch kept₀ kept) (drop-cons mail i d lt ∙ ap (λ k. get_or mail i d ∷ drop k mail) e) s

-- only the last run of other bytes is left
pub last_part : (note : List ℕ) (place from to : ℕ) (mail : List Span) (i : ℕ) (point : Point) (base batch : List (Edit Event)) (kept₀ kept : ℕ) → length mail ≤ i → Splitting note place from to mail (drop i mail) point base batch kept₀ kept → Splitting note place from to mail [] point base batch kept₀ kept
last_part note place from to mail i point base batch kept₀ kept le s =
    subst (λ (t : List Span). Splitting note place from to mail t point base batch kept₀ kept) (drop_all i mail le) s

module _ (note : List ℕ) (place from to : ℕ) (mail : List Span) (point : Point) (base batch : List (Edit Event)) (kept₀ kept : ℕ) (s : Splitting note place from to mail [] point base batch kept₀ kept) (low : from ≤ to) where
  abbrev tail : List Event
  tail = events_of note (data_between point.index to)

  pub record AsksLast : Type 0 where
    pub forward : point.index ≤ to
    pub room : kept + length tail ≡ kept₀ + length (events_of note (parts from mail to))

  pub asks-last : AsksLast
  asks-last =
      let size = ap length s.whole in
      let a = length-append s.done tail in
      record { forward = omega (arith, s.index_is, s.ahead); room = omega (arith, s.kept_is) }
