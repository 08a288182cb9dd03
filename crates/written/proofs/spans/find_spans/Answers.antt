use Rattle.std.proofs.Common.{ℕ, ◌+◌, ◌<◌, [], ◌∷◌, ◌++◌, length, get_or, drop, set, sym, refl, ap, ◌∙◌, arith}
use Rattle.std.proofs.lemmas.List.{append_assoc, length-append}
use Rattle.text.specs.declared.spans.Span.{Span}
use Rattle.machine.specs.declared.events.Event.{Event}
use Rattle.machine.specs.declared.events.EventKind.TheVariants.{Enter}
use Rattle.machine.specs.declared.events.Name.TheVariants.{Data}
use Rattle.written.specs.Spans.{address}
use Rattle.written.proofs.Scans.{scanned, scanned-all, scanned-enter, scanned-exit, no_address, set-front}
use Rattle.written.proofs.spans.find_spans.Goals as goal
use Rattle.written.proofs.spans.find_spans.Goals.{in-Enter-default, in-Exit-Address, in_default}

abbrev no_event : Event
no_event = record { kind = Enter; name = Data; point = record { line = 0; column = 0; index = 0; vs = 0 } }

pub loop-event-init : goal.loop-event-init
loop-event-init c = record { done = []; all = scanned-all c.args.events.now c.requires.nested c.requires.flat; count = refl; found = refl }

pub loop-event-preserved : goal.loop-event-preserved
loop-event-preserved c =
    let i = c.loop-event.invariant in
    let es = c.args.events.now in
    let at = c.loop-event.event-index in
    let from = c.loop-event.from in
    let lent = c.args.out.now in
    let rest = drop (at + 1) es in
    let e = get_or es at no_event in
    elim c.match-event.branch [
      | in-Enter-default w ↦
          record {
            done = i.done;
            all = ap (λ (n : ℕ). i.done ++ scanned n rest) w.from-is ∙ ap (λ l. i.done ++ l) (sym (scanned-enter es at no_event from c.loop-event-test.true w.in-Enter-default.is-0)) ∙ i.all;
            count = w.count-is ∙ i.count;
            found = w.out-is ∙ i.found;
          }
      | in-Exit-Address w ↦
          let x : Span = record { kind = w.in-Exit-Address.kind; from = from; to = e.point.index } in
          let named = ap (λ n. address n from e.point.index ++ scanned from rest) w.in-Exit-Address.is-1 in
          let all = ap (λ l. i.done ++ l) (sym (scanned-exit es at no_event from c.loop-event-test.true w.in-Exit-Address.is-0 ∙ named)) ∙ i.all in
          let size = ap length all in
          let room : length i.done < length lent = omega (arith, length-append i.done (x ∷ scanned from rest), size, c.requires.room) in
          record {
            done = i.done ++ x ∷ [];
            all = append_assoc i.done (x ∷ []) (scanned c.match-event.from rest) ∙ ap (λ (n : ℕ). i.done ++ (x ∷ scanned n rest)) w.from-is ∙ all;
            count = w.count-is ∙ ap (λ n. n + 1) i.count ∙ sym (length-append i.done (x ∷ []));
            found = w.out-is ∙ (λ j. set (i.found j) (i.count j) x) ∙ set-front i.done lent x room;
          }
      | in_default w ↦
          let none = no_address e.name from e.point.index w.in_default.not-Address-1 in
          record {
            done = i.done;
            all = ap (λ (n : ℕ). i.done ++ scanned n rest) w.from-is ∙ ap (λ l. i.done ++ l) (sym (scanned-exit es at no_event from c.loop-event-test.true w.in_default.is-0 ∙ ap (λ l. l ++ scanned from rest) none)) ∙ i.all;
            count = w.count-is ∙ i.count;
            found = w.out-is ∙ i.found;
          }
    ]
