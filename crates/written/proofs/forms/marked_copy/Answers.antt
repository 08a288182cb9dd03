use Rattle.std.proofs.Common.{ℕ, List, sym, ap, ◌∙◌, subst}
use Rattle.machine.specs.declared.events.Event.{Event}
use Rattle.calls.specs.Steps.{is_resolved}
use Rattle.reader.specs.View.{meaning_of, view}
use Rattle.written.specs.Spans.{IsResolved}
use Rattle.written.proofs.Resolved.{held-resolved, held_named}
use Rattle.written.proofs.forms.marked_copy.Goals as goal

pub mark_events-requires-clause-resolved : goal.mark_events-requires-clause-resolved
mark_events-requires-clause-resolved g c =
    let r = c.args.reader.now in
    let resolved = ap is_resolved (sym c.phase.ensures) ∙ sym c.is_resolved.ensures ∙ c.if-not-is_resolved.false in
    let h = held-resolved (meaning_of r) (view r) c.events.ensures.always resolved in
    subst (λ (s : List ℕ). ∥ IsResolved s c.events.result.now ∥₁) (sym c.note.ensures)
    (subst (λ (es : List Event). ∥ IsResolved (view r).machine.note es ∥₁) (sym c.events.ensures.events) h)

pub returns-clause-named : goal.returns-clause-named
returns-clause-named g c =
    let r = c.args.reader.now in
    λ e. held_named (meaning_of r) (view r) c.events.ensures.always e
