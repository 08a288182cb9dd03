use Rattle.std.proofs.Common.{◌+◌, ◌-◌, ◌≤◌, List, [], length, take, replicate, refl, sym, ap, ◌∙◌, subst, arith}
use Rattle.std.specs.List.{AllByRecursion}
use Rattle.std.proofs.lemmas.List.{append-nil}
use Rattle.text.specs.declared.spans.Span.{Span}
use Rattle.text.specs.declared.spans.SpanKind.TheVariants.{Email}
use Rattle.text.proofs.Runs.{part_length}
use Rattle.edit_map.specs.Edits.{added}
use Rattle.edit_map.specs.View.{kept_count, edits_of}
use Rattle.rules.specs.InTurn.{InTextOrder}
use Rattle.machine.specs.Laws.{events_of}
use Rattle.resolving.specs.Parts.{parts}
use Rattle.resolving.proofs.Found.{not_refused, found, all_inside}
use Rattle.resolving.proofs.Splitting.{in_order, few, more}
use Rattle.resolving.proofs.mail.split_data.Goals as goal

abbrev no_spans : List Span
no_spans = replicate 204 (record { kind = Email; from = 0; to = 0 })

pub returns-in_err-count : goal.returns-in_err-count
returns-in_err-count c =
    let size = part_length c.args.from.index c.args.to c.args.note.now c.requires.inside in
    not_refused _ _ no_spans c.find_addresses.ensures.in_text_order c.find_addresses.ensures.each_is_an_address (omega (arith, size, c.requires.inside, c.requires.short)) refl c.in_err-count.field-0.0 c.in_err-count.ensures.answer

pub put_parts-requires : goal.put_parts-requires
put_parts-requires c =
    let size = part_length c.args.from.index c.args.to c.args.note.now c.requires.inside in
    let f = found _ _ no_spans c.find_addresses.ensures.in_text_order c.find_addresses.ensures.each_is_an_address (omega (arith, size, c.requires.inside, c.requires.short)) refl c.in_ok-count.count c.find_addresses.new.out c.in_ok-count.ensures.answer c.in_ok-count.ensures.written in
    let inside = all_inside _ (c.args.to - c.args.from.index) _ (omega (arith, size)) c.find_addresses.ensures.each_is_an_address in
    record {
      short = c.requires.short;
      placed = c.requires.placed;
      forward = omega (arith, c.requires.some);
      inside = c.requires.inside;
      in_turn = subst (λ (l : List Span). InTextOrder 0 l × AllByRecursion (λ x. x.to ≤ c.args.to - c.args.from.index) l) (sym f.written) (c.find_addresses.ensures.in_text_order, inside);
      low = omega (arith, c.requires.low);
      order = c.requires.order;
      rising = c.requires.rising;
      few = c.requires.few;
      room = subst (λ (l : List Span). kept_count c.args.map.now + length (events_of c.args.note.now (parts c.args.from.index l c.args.to)) ≤ length c.args.store.now) (sym f.written) c.requires.room;
    }

pub add-requires-clause-order : goal.add-requires-clause-order
add-requires-clause-order c = in_order _ _ _ _ c.put_parts.ensures.edits c.requires.order c.requires.rising

pub add-requires-clause-few : goal.add-requires-clause-few
add-requires-clause-few c = few _ _ _ _ c.put_parts.ensures.edits 2 [] c.requires.order c.requires.rising c.requires.few

pub returns-clause-edits : goal.returns-clause-edits
returns-clause-edits c =
    let size = part_length c.args.from.index c.args.to c.args.note.now c.requires.inside in
    let f = found _ _ no_spans c.find_addresses.ensures.in_text_order c.find_addresses.ensures.each_is_an_address (omega (arith, size, c.requires.inside, c.requires.short)) refl c.in_ok-count.count c.find_addresses.new.out c.in_ok-count.ensures.answer c.in_ok-count.ensures.written in
    let base = edits_of c.args.map.now c.args.store.now in
    more _ _ _ _ c.put_parts.ensures.edits 2 [] (edits_of c.add.new.map c.add.new.store) c.add.ensures.edits
    ∙ ap (λ l. added c.args.place 2 l base) (append-nil (events_of c.args.note.now (parts c.args.from.index (take c.in_ok-count.count c.find_addresses.new.out) c.args.to)))
    ∙ ap (λ (l : List Span). added c.args.place 2 (events_of c.args.note.now (parts c.args.from.index l c.args.to)) base) f.written
