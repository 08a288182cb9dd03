use Rattle.std.proofs.Common.{length, refl, ◌∙◌, ap, arith}
use Rattle.edit_map.specs.View.{kept_count, edits_of}
use Rattle.resolving.proofs.Consumed.{front, consumed, not_both}
use Rattle.resolving.proofs.batches.make.Goals as goal

pub returns-in_err-count : goal.returns-in_err-count
returns-in_err-count c =
    not_both _ c.in_err-count.field-0.0 _ c.in_err-count.ensures.answer
    (consumed (edits_of c.args.map.now c.args.store.now) c.args.events.now.items.items c.as_slice.result.now c.args.spare.now c.as_slice.ensures.value c.requires.order (omega (arith, c.requires.room, c.requires.spare)) (length c.args.store.now) (kept_count c.args.map.now) c.requires.stored)

pub slice_bounds-refill-end : goal.slice_bounds-refill-end
slice_bounds-refill-end c =
    let f = front (edits_of c.args.map.now c.args.store.now) c.args.events.now.items.items c.as_slice.result.now c.args.spare.now c.as_slice.ensures.value c.requires.order (omega (arith, c.requires.room, c.requires.spare)) c.consume.new.out c.in_ok-count.count (length c.args.store.now) (kept_count c.args.map.now) c.in_ok-count.ensures.written c.requires.stored c.in_ok-count.ensures.answer in
    omega (arith, f.inside, c.consume.auto.out)

pub refill-requires : goal.refill-requires
refill-requires c =
    let f = front (edits_of c.args.map.now c.args.store.now) c.args.events.now.items.items c.as_slice.result.now c.args.spare.now c.as_slice.ensures.value c.requires.order (omega (arith, c.requires.room, c.requires.spare)) c.consume.new.out c.in_ok-count.count (length c.args.store.now) (kept_count c.args.map.now) c.in_ok-count.ensures.written c.requires.stored c.in_ok-count.ensures.answer in
    omega (arith, ap length f.written, c.requires.room)

pub returns : goal.returns
returns c =
    let f = front (edits_of c.args.map.now c.args.store.now) c.args.events.now.items.items c.as_slice.result.now c.args.spare.now c.as_slice.ensures.value c.requires.order (omega (arith, c.requires.room, c.requires.spare)) c.consume.new.out c.in_ok-count.count (length c.args.store.now) (kept_count c.args.map.now) c.in_ok-count.ensures.written c.requires.stored c.in_ok-count.ensures.answer in
    record { answer = refl; made = c.refill.ensures ∙ f.written; as_new = c.in_ok-count.ensures.as_new }
