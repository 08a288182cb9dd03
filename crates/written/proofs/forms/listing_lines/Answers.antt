use Rattle.std.proofs.Common.{◌≤◌, List, length, sym, subst}
use Rattle.machine.specs.declared.events.Event.{Event}
use Rattle.calls.specs.Steps.{most_events}
use Rattle.reader.specs.View.{meaning_of, view}
use Rattle.written.proofs.Resolved.{held_few}
use Rattle.written.proofs.forms.listing_lines.Goals as goal

pub list_events-requires : goal.list_events-requires
list_events-requires g c =
    let r = c.args.reader.now in
    subst (λ (es : List Event). length es ≤ most_events) (sym c.events.ensures.events) (held_few (meaning_of r) (view r) c.events.ensures.always)
