use Rattle.std.proofs.Common.{List, sym, ap, ◌∙◌, subst}
use Rattle.machine.specs.declared.events.Event.{Event}
use Rattle.calls.specs.Steps.{is_resolved}
use Rattle.reader.specs.View.{meaning_of, view}
use Rattle.written.specs.Spans.{IsResolved}
use Rattle.written.proofs.Resolved.{held_short, held-resolved, held_named}
use Rattle.written.proofs.forms.saved_list.Goals as goal

pub save_events-requires : goal.save_events-requires
save_events-requires g c =
    let r = c.args.reader.now in
    let always = c.events.ensures.always in
    let resolved = ap is_resolved (sym c.phase.ensures) ∙ sym c.is_resolved.ensures ∙ c.if-not-is_resolved.false in
    let h = held-resolved (meaning_of r) (view r) always resolved in
    ((view r).machine.note, held_short (meaning_of r) (view r) always, subst (λ (es : List Event). ∥ IsResolved (view r).machine.note es ∥₁) (sym c.events.ensures.events) h)

pub returns-clause-named : goal.returns-clause-named
returns-clause-named g c =
    let r = c.args.reader.now in
    λ e. held_named (meaning_of r) (view r) c.events.ensures.always e
