use Rattle.std.proofs.Common.{◌+◌, ◌++◌, length, get_or, drop, sym, ap, ◌∙◌, arith}
use Rattle.std.proofs.lemmas.List.{append_assoc, length-append, drop_more}
use Rattle.machine.specs.declared.events.Event.{Event}
use Rattle.machine.specs.declared.events.EventKind.TheVariants.{Enter}
use Rattle.machine.specs.declared.events.Name.TheVariants.{Data}
use Rattle.written.specs.Fronts.{placed}
use Rattle.written.specs.Listing.{event_shown, newline, event_lines}
use Rattle.written.proofs.Placed.{placed-front}
use Rattle.written.proofs.listing.put_lines.Goals as goal

abbrev no_event : Event
no_event = record { kind = Enter; name = Data; point = record { line = 0; column = 0; index = 0; vs = 0 } }

pub loop-event-preserved : goal.loop-event-preserved
loop-event-preserved c =
    let i = c.loop-event.invariant in
    let at = c.loop-event.event-index in
    let es = c.args.events.now in
    let rest = drop (at + 1) es in
    let more = event_shown (get_or es at no_event) ++ newline in
    let next = drop_more es at no_event (omega arith) in
    record {
      done = i.done ++ more;
      all = append_assoc i.done more (event_lines rest) ∙ ap (λ l. i.done ++ event_lines l) (sym next) ∙ i.all;
      at = c.put_line-at.ensures.next ∙ ap (λ n. n + length more) i.at ∙ sym (length-append i.done more);
      written = c.put_line-at.ensures.written ∙ (λ j. placed more (i.at j) (i.written j)) ∙ placed-front i.done more c.args.out.now;
    }
