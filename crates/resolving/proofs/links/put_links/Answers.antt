use Rattle.std.proofs.Common.{refl, sym, ap, subst, arith}
use Rattle.edit_map.specs.View.{kept_count, edits_of}
use Rattle.edit_map.specs.Entries.{total, edits}
use Rattle.calls.specs.declared.links.MarkedRun.{MarkedRun}
use Rattle.resolving.proofs.Marking.{Marking, none-marked, at_hand, run, before_enter, few_enter, before_exit, few_exit, marked, alike, all_marked}
use Rattle.resolving.proofs.links.put_links.Goals as goal

abbrev no_run : MarkedRun
no_run = record { first = 0; last = 0 }

pub loop-link-init : goal.loop-link-init
loop-link-init c =
    let none = none-marked c.args.events.now c.args.links.now (kept_count c.args.map.now) c.requires.marked (ap total c.requires.as_new) in
    subst (λ b. Marking c.args.events.now c.args.links.now c.args.links.now b (kept_count c.args.map.now)) (sym (ap (λ es. edits es c.args.store.now) c.requires.as_new)) none

pub offset_bounds-events-link : goal.offset_bounds-events-link
offset_bounds-events-link c =
    let m = at_hand c.args.events.now c.args.links.now c.loop-link.link-index no_run _ _ (omega arith) c.loop-link.invariant in
    let r = run _ _ _ _ _ _ m in
    omega (arith, r.up, r.within, c.requires.short)

pub bounds-events-link : goal.bounds-events-link
bounds-events-link c =
    let m = at_hand c.args.events.now c.args.links.now c.loop-link.link-index no_run _ _ (omega arith) c.loop-link.invariant in
    let r = run _ _ _ _ _ _ m in
    omega (arith, r.up, r.within)

pub offset_bounds-events-link-in-loop-link : goal.offset_bounds-events-link-in-loop-link
offset_bounds-events-link-in-loop-link c =
    let m = at_hand c.args.events.now c.args.links.now c.loop-link.link-index no_run _ _ (omega arith) c.loop-link.invariant in
    let r = run _ _ _ _ _ _ m in
    omega (arith, r.within, c.requires.short)

pub bounds-events-link-in-loop-link : goal.bounds-events-link-in-loop-link
bounds-events-link-in-loop-link c =
    let m = at_hand c.args.events.now c.args.links.now c.loop-link.link-index no_run _ _ (omega arith) c.loop-link.invariant in
    (run _ _ _ _ _ _ m).within

pub add-requires : goal.add-requires
add-requires c =
    let m = at_hand c.args.events.now c.args.links.now c.loop-link.link-index no_run _ _ (omega arith) c.loop-link.invariant in
    let r = run _ _ _ _ _ _ m in
    record {
      low = omega (arith, r.up, r.within, c.requires.short);
      order = before_enter _ _ _ _ _ _ m;
      few = few_enter _ _ _ _ _ _ m c.link_event-enter.result c.requires.few;
      room = omega (arith, m.kept_is, c.requires.room, c.loop-link.auto.store);
    }

pub overflow_add-link : goal.overflow_add-link
overflow_add-link c =
    let m = at_hand c.args.events.now c.args.links.now c.loop-link.link-index no_run _ _ (omega arith) c.loop-link.invariant in
    let r = run _ _ _ _ _ _ m in
    omega (arith, r.within, c.requires.short)

pub add-requires-in-loop-link : goal.add-requires-in-loop-link
add-requires-in-loop-link c =
    let m = at_hand c.args.events.now c.args.links.now c.loop-link.link-index no_run _ _ (omega arith) c.loop-link.invariant in
    let r = run _ _ _ _ _ _ m in
    record {
      low = omega (arith, r.within, c.requires.short);
      order = before_exit _ _ _ _ _ _ m c.link_event-enter.result (edits_of c.add.new.map c.add.new.store) c.add.ensures.edits;
      few = few_exit _ _ _ _ _ _ m c.link_event-enter.result (edits_of c.add.new.map c.add.new.store) c.add.ensures.edits c.link_event-exit.result c.requires.few;
      room = omega (arith, m.kept_is, c.requires.room, c.loop-link.auto.store, c.add.ensures.kept, c.add.auto.store);
    }

pub loop-link-preserved : goal.loop-link-preserved
loop-link-preserved c =
    let m = at_hand c.args.events.now c.args.links.now c.loop-link.link-index no_run _ _ (omega arith) c.loop-link.invariant in
    let next = marked _ _ _ _ _ _ m c.link_event-enter.result (edits_of c.add.new.map c.add.new.store) c.add.ensures.edits c.link_event-exit.result _ _ c.link_event-enter.ensures c.link_event-exit.ensures in
    alike next c.add-in-loop-link.ensures.edits (omega (arith, c.add.ensures.kept, c.add-in-loop-link.ensures.kept))

pub returns : goal.returns
returns c =
    let done = all_marked c.args.events.now c.args.links.now c.loop-link.link-index (edits_of c.loop-link.map c.loop-link.store) (kept_count c.loop-link.map) (omega arith) c.loop-link.invariant in
    record { answer = refl; made = done.made; order = done.order; kept = done.kept_is }
