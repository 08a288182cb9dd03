use Rattle.std.proofs.Common.{refl, ap, ◌∙◌, arith}
use Rattle.text.specs.declared.spans.Span.{Span}
use Rattle.text.specs.declared.spans.SpanKind.TheVariants.{Www}
use Rattle.edit_map.specs.Edits.{added}
use Rattle.edit_map.specs.View.{kept_count, edits_of}
use Rattle.resolving.proofs.Splitting.{none-split, next_part, asks, one-more, last_part, asks-last, in_order, few, more, reached}
use Rattle.resolving.proofs.mail.put_parts.Goals as goal

pub loop-address-init : goal.loop-address-init
loop-address-init c = none-split c.args.note.now c.args.place c.args.from c.args.to c.args.mail.now (edits_of c.args.map.now c.args.store.now) (kept_count c.args.map.now) c.requires.placed c.requires.in_turn

abbrev blank : Span
blank = record { kind = Www; from = 0; to = 0 }

pub put_data-requires : goal.put_data-requires
put_data-requires c =
    let s = next_part c.args.note.now c.args.place c.args.from.index c.args.to c.args.mail.now c.loop-address.address-index blank c.loop-address.point (edits_of c.args.map.now c.args.store.now) (edits_of c.loop-address.map c.loop-address.store) (kept_count c.args.map.now) (kept_count c.loop-address.map) (omega arith) c.loop-address.invariant in
    let a = asks _ _ _ _ _ _ _ _ _ _ _ _ s c.requires.forward in
    record {
      short = c.requires.short;
      placed = s.placed;
      forward = a.forward;
      inside = omega (arith, a.onward, a.inside, c.requires.inside);
      low = c.requires.low;
      order = in_order _ _ _ s.done s.batch_is c.requires.order c.requires.rising;
      few = few _ _ _ s.done s.batch_is 0 _ c.requires.order c.requires.rising c.requires.few;
      room = omega (arith, a.room, c.requires.room, c.loop-address.auto.store);
    }

pub put_span-requires : goal.put_span-requires
put_span-requires c =
    let s = next_part c.args.note.now c.args.place c.args.from.index c.args.to c.args.mail.now c.loop-address.address-index blank c.loop-address.point (edits_of c.args.map.now c.args.store.now) (edits_of c.loop-address.map c.loop-address.store) (kept_count c.args.map.now) (kept_count c.loop-address.map) (omega arith) c.loop-address.invariant in
    let a = asks _ _ _ _ _ _ _ _ _ _ _ _ s c.requires.forward in
    let is = more _ _ _ s.done s.batch_is 0 _ (edits_of c.put_data.new.map c.put_data.new.store) c.put_data.ensures.edits in
    let p = reached c.args.note.now _ c.in_ok-point.point c.in_ok-point.ensures.answer in
    record {
      short = c.requires.short;
      placed = p.placed;
      forward = omega (arith, p.index_is, a.onward);
      inside = omega (arith, a.inside, c.requires.inside);
      low = c.requires.low;
      order = in_order _ _ _ _ is c.requires.order c.requires.rising;
      few = few _ _ _ _ is 0 _ c.requires.order c.requires.rising c.requires.few;
      room = omega (arith, a.room, c.requires.room, c.put_data.ensures.kept, c.put_data.auto.store, c.loop-address.auto.store);
    }

pub loop-address-preserved : goal.loop-address-preserved
loop-address-preserved c =
    let s = next_part c.args.note.now c.args.place c.args.from.index c.args.to c.args.mail.now c.loop-address.address-index blank c.loop-address.point (edits_of c.args.map.now c.args.store.now) (edits_of c.loop-address.map c.loop-address.store) (kept_count c.args.map.now) (kept_count c.loop-address.map) (omega arith) c.loop-address.invariant in
    let p = reached c.args.note.now _ c.in_ok-point.point c.in_ok-point.ensures.answer in
    let q = reached c.args.note.now _ c.in_ok-point-2.point c.in_ok-point-2.ensures.answer in
    one-more _ _ _ _ _ _ _ _ _ _ _ _ s c.requires.forward c.in_ok-point.point.index c.in_ok-point-2.point (edits_of c.put_data.new.map c.put_data.new.store) (edits_of c.put_span.new.map c.put_span.new.store) (kept_count c.put_span.new.map) p.index_is q.is c.put_data.ensures.edits c.put_span.ensures.edits (omega (arith, c.put_data.ensures.kept, c.put_span.ensures.kept))

pub put_data-requires-2 : goal.put_data-requires-2
put_data-requires-2 c =
    let s = last_part c.args.note.now c.args.place c.args.from.index c.args.to c.args.mail.now c.loop-address.address-index c.loop-address.point (edits_of c.args.map.now c.args.store.now) (edits_of c.loop-address.map c.loop-address.store) (kept_count c.args.map.now) (kept_count c.loop-address.map) (omega arith) c.loop-address.invariant in
    let a = asks-last _ _ _ _ _ _ _ _ _ _ s c.requires.forward in
    record {
      short = c.requires.short;
      placed = s.placed;
      forward = a.forward;
      inside = c.requires.inside;
      low = c.requires.low;
      order = in_order _ _ _ s.done s.batch_is c.requires.order c.requires.rising;
      few = few _ _ _ s.done s.batch_is 0 _ c.requires.order c.requires.rising c.requires.few;
      room = omega (arith, a.room, c.requires.room, c.loop-address.auto.store);
    }

pub returns : goal.returns
returns c =
    let s = last_part c.args.note.now c.args.place c.args.from.index c.args.to c.args.mail.now c.loop-address.address-index c.loop-address.point (edits_of c.args.map.now c.args.store.now) (edits_of c.loop-address.map c.loop-address.store) (kept_count c.args.map.now) (kept_count c.loop-address.map) (omega arith) c.loop-address.invariant in
    let a = asks-last _ _ _ _ _ _ _ _ _ _ s c.requires.forward in
    let is = more _ _ _ s.done s.batch_is 0 _ (edits_of c.put_data-2.new.map c.put_data-2.new.store) c.put_data-2.ensures.edits in
    record {
      answer = refl;
      edits = is ∙ ap (λ l. added c.args.place 0 l (edits_of c.args.map.now c.args.store.now)) s.whole;
      kept = c.put_data-2.ensures.kept ∙ a.room;
    }
