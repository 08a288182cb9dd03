use Rattle.std.proofs.Common.{◌≡◌, ◌<◌, ◌∷◌, [], List, length, get_or, set, Err, ap, sym, refl, ◌∙◌, arith, length-append}
use lib.Seq.{paste}
use Rattle.std.proofs.lemmas.Iterator.{YieldsList}
use Rattle.std.proofs.lemmas.Iterator.Consumers.{count_from_yields_List, YieldsList-at}
use Rattle.std.proofs.lemmas.Result.{err_from_is_err_and}
use Rattle.std.specs.Iterator.{AlwaysYields}
use Rattle.text.specs.declared.spans.Span.{Span}
use Rattle.text.specs.Lent.{room_for}
use Rattle.text.proofs.Rooms.{enough_room}
use Rattle.rules.proofs.Writes.{turn, turns-end, write_one, written_front, short_kept}
use Rattle.rules.proofs.addresses.write_front.Given.{Over}
use Rattle.rules.proofs.addresses.write_front.Goals as goal
use Rattle.rules.proofs.addresses.write_front.Goals.{After-count, In-Some}

-- it gives the list all
abbrev Gives : (g : Over) (c : After-count g) → List Span → Type 0
Gives g c all = AlwaysYields g.I.Iterator.next_gives (λ x. x) c.args.spans all

counted : (g : Over) (c : After-count g) (all : List Span) → Gives g c all → c.count.result ≡ length all
counted g c all e = count_from_yields_List {steps = g.I.Iterator.next_gives} {v = λ x. x} c.args.spans c.count.result c.count.ensures.ran (record { runs = e })

pub returns-in_err-count : goal.returns-in_err-count
returns-in_err-count g c =
    let out = c.args.out.now in
    let p = err_from_is_err_and c.from_residual.result c.from_residual.ensures.1 in
    let from = (goal.at.returns-in_err-count g c).After-count in
    let h : (all : List Span) → Gives g from all → _ = λ all e. c.in_err-count.ensures ∙ ap (λ n. room_for n (length out)) (counted g from all e) in
    record { answer = λ all e. p.1 ∙ ap Err p.2 ∙ h all e; written = λ all e. short_kept all out _ (h all e) }

pub loop-place-init : goal.loop-place-init
loop-place-init g c = λ all e. (omega (arith, (enough_room _ _ _ c.in_ok-count.ensures).0, counted g (goal.at.loop-place-init g c).After-count all e), refl)

-- the place and the span of this turn
placed : (g : Over) (c : In-Some g) (all : List Span) → AlwaysYields g.I.Iterator.next_gives (λ x. x) c.args.spans all → (length c.loop-place.yielded < length all) × (c.in-Some.place ≡ length c.loop-place.yielded) × (c.in-Some.span ≡ get_or all (length c.loop-place.yielded) c.in-Some.span)
placed g c all e =
    let yields : YieldsList g.I.Iterator.next_gives (λ x. x) c.args.spans all = record { runs = e } in
    let made = c.into_iter-place-iterator.ensures.into_iter_gives in
    turn (YieldsList-at (ap (λ s. s.iter) made ∙ c.enumerate-place-items.ensures.source) yields) (ap (λ s. s.count) made ∙ c.enumerate-place-items.ensures.count)
    c.loop-place.yielded c.loop-place.place-iterator c.loop-place.yielded_by c.next.result c.next.new.self c.in-Some.place c.in-Some.span c.in-Some.is c.next.ensures.steps

below : (g : Over) (c : In-Some g) → c.in-Some.place < length c.loop-place.out
below g c =
    let y : (all : List Span) × AlwaysYields g.I.Iterator.next_gives (λ x. x) c.args.spans all = c.requires.yields in
    let w = placed g c y.0 y.1 in
    omega (arith, w.0, w.1, (c.loop-place.invariant y.0 y.1).0, c.loop-place.auto.out)

pub bounds-out-place : goal.bounds-out-place
bounds-out-place g c = below g (goal.at.bounds-out-place g c).In-Some

pub offset_bounds-out-place : goal.offset_bounds-out-place
offset_bounds-out-place g c = omega (arith, below g (goal.at.offset_bounds-out-place g c).In-Some, c.loop-place.auto.out)

pub loop-place-preserved : goal.loop-place-preserved
loop-place-preserved g c = λ all e.
    let w = placed g (goal.at.loop-place-preserved g c).In-Some all e in
    let i = c.loop-place.invariant all e in
    let more = length-append c.loop-place.yielded ((c.in-Some.place, c.in-Some.span) ∷ []) in (
      i.0,
      ap (λ k. set c.loop-place.out k c.in-Some.span) w.1 ∙ write_one c.args.out.now c.loop-place.out all _ c.in-Some.span i.0 w.0 w.2 i.1 ∙ ap (paste c.args.out.now 0 all) (sym more),
    )

pub returns-clause-answer : goal.returns-clause-answer
returns-clause-answer g c = λ all e. c.in_ok-count.ensures ∙ ap (λ n. room_for n (length c.args.out.now)) (counted g (goal.at.returns-clause-answer g c).After-count all e)

pub returns-clause-written : goal.returns-clause-written
returns-clause-written g c = λ all e.
    let made = c.into_iter-place-iterator.ensures.into_iter_gives in
    let yields : YieldsList g.I.Iterator.next_gives (λ x. x) c.args.spans all = record { runs = e } in
    let long = turns-end (YieldsList-at (ap (λ s. s.iter) made ∙ c.enumerate-place-items.ensures.source) yields) (ap (λ s. s.count) made ∙ c.enumerate-place-items.ensures.count)
    c.loop-place.yielded c.loop-place.place-iterator c.loop-place.yielded_by c.next.result c.next.new.self c.in-None.is c.next.ensures.steps in
    let i = c.loop-place.invariant all e in
    i.1 ∙ ap (paste c.args.out.now 0 all) long ∙ written_front all c.args.out.now i.0
