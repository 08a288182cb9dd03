use Rattle.std.proofs.Common.{List, length, sym, ap, ◌∙◌, subst, arith}
use Rattle.edit_map.specs.Laws.{InOrder}
use Rattle.edit_map.specs.View.{edits_of}
use Rattle.machine.specs.declared.events.Event.{Event}
use Rattle.calls.specs.Links.{marked_in_turn}
use Rattle.resolving.specs.Places.{PairsInOrder}
use Rattle.resolving.proofs.Ends.{passes, after_first, after_second}
use Rattle.resolving.proofs.resolver.resolve_with.Goals as goal

pub put_links-requires : goal.put_links-requires
put_links-requires c =
    let p = passes c.args.note.now c.args.links.now c.args.events.now.items.items c.requires.resolvable in
    record {
      as_new = c.requires.as_new;
      marked = ap (λ l. marked_in_turn l 0 c.args.links.now) c.as_slice.ensures.value ∙ p.marked;
      few = p.few;
      short = omega (arith, p.length_ended, ap length c.as_slice.ensures.value);
      room = omega (arith, p.few, c.requires.store);
    }

pub make-requires : goal.make-requires
make-requires c =
    let p = passes c.args.note.now c.args.links.now c.args.events.now.items.items c.requires.resolvable in
    let linked = after_first _ _ _ p (edits_of c.put_links.new.map c.put_links.new.store) c.as_slice.result.now c.as_slice.ensures.value c.put_links.ensures.made in
    record {
      order = subst (λ (l : List Event). InOrder 0 (length l) (edits_of c.put_links.new.map c.put_links.new.store)) c.as_slice.ensures.value c.put_links.ensures.order;
      stored = omega (arith, c.put_links.ensures.kept, p.few, c.requires.store, c.put_links.auto.store);
      room = omega (arith, ap length linked, p.length_linked);
      spare = c.requires.spare;
    }

pub cut_mail-requires : goal.cut_mail-requires
cut_mail-requires c =
    let p = passes c.args.note.now c.args.links.now c.args.events.now.items.items c.requires.resolvable in
    let linked = after_first _ _ _ p (edits_of c.put_links.new.map c.put_links.new.store) c.as_slice.result.now c.as_slice.ensures.value c.put_links.ensures.made in
    let middle = c.make.ensures.made ∙ linked in
    record {
      as_new = c.make.ensures.as_new;
      short = p.short;
      pairs = subst (PairsInOrder c.args.note.now 0) (sym (c.as_slice-2.ensures.value ∙ middle)) p.pairs;
      low = omega (arith, ap length (c.as_slice-2.ensures.value ∙ middle), p.length_linked);
      room = omega (arith, p.short, c.requires.store, c.put_links.auto.store);
    }

pub make-requires-2 : goal.make-requires-2
make-requires-2 c =
    let p = passes c.args.note.now c.args.links.now c.args.events.now.items.items c.requires.resolvable in
    let linked = after_first _ _ _ p (edits_of c.put_links.new.map c.put_links.new.store) c.as_slice.result.now c.as_slice.ensures.value c.put_links.ensures.made in
    let middle = c.make.ensures.made ∙ linked in
    let done = after_second _ _ _ p (edits_of c.cut_mail.new.map c.cut_mail.new.store) c.as_slice-2.result.now c.make.new.events.items.items middle c.as_slice-2.ensures.value c.cut_mail.ensures.made in
    record {
      order = subst (λ (l : List Event). InOrder 0 (length l) (edits_of c.cut_mail.new.map c.cut_mail.new.store)) c.as_slice-2.ensures.value c.cut_mail.ensures.order;
      stored = omega (arith, c.cut_mail.ensures.kept, p.short, c.requires.store, c.put_links.auto.store, c.cut_mail.auto.store);
      room = omega (arith, ap length done, p.length_resolved);
      spare = omega (arith, c.requires.spare, c.make.auto.spare);
    }

pub returns : goal.returns
returns c =
    let p = passes c.args.note.now c.args.links.now c.args.events.now.items.items c.requires.resolvable in
    let linked = after_first _ _ _ p (edits_of c.put_links.new.map c.put_links.new.store) c.as_slice.result.now c.as_slice.ensures.value c.put_links.ensures.made in
    let middle = c.make.ensures.made ∙ linked in
    let done = after_second _ _ _ p (edits_of c.cut_mail.new.map c.cut_mail.new.store) c.as_slice-2.result.now c.make.new.events.items.items middle c.as_slice-2.ensures.value c.cut_mail.ensures.made in
    record { answer = c.make-2.ensures.answer; resolved = c.make-2.ensures.made ∙ done }
