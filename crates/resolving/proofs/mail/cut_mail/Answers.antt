use Rattle.std.proofs.Common.{◌≡◌, false, not, ◌+◌, refl, sym, ap, ◌∙◌, subst, arith}
use Rattle.std.proofs.lemmas.Bool.{or_left, or_right}
use Rattle.edit_map.specs.Entries.{total, edits}
use Rattle.edit_map.specs.View.{kept_count, edits_of}
use Rattle.machine.specs.declared.events.Event.{Event}
use Rattle.machine.specs.declared.events.EventKind.TheVariants.{Enter, Exit}
use Rattle.machine.specs.declared.events.Name.TheVariants as name
use Rattle.machine.specs.declared.events.EventKind.{EventKind}
use Rattle.machine.specs.declared.events.Name.{Name}
use Rattle.machine.specs.contracts.events.EventKind.{the_type}
use Rattle.machine.specs.Joins.{is_data}
use Rattle.machine.specs.Laws.{enters}
use denote.Enum.Bare.{sameb}
use Rattle.calls.specs.EventLists.{is_link}
use Rattle.resolving.proofs.Cutting.{Cutting, none-cut, asks, after_link, after_span, after_split, all-cut}
use Rattle.resolving.proofs.mail.cut_mail.Goals as goal
use Rattle.resolving.proofs.mail.cut_mail.Goals.{in_default-via-in-Data+else-not-in_link, in_default-via-in_default}

abbrev blank : Event
blank = record { kind = Enter; name = name.Data; point = record { line = 0; column = 0; index = 0; vs = 0 } }

pub loop-place-init : goal.loop-place-init
loop-place-init c = none-cut c.args.note.now c.args.events.now _ _ c.requires.pairs (ap (λ es. edits es c.args.store.now) c.requires.as_new) (ap total c.requires.as_new)

pub split_data-requires : goal.split_data-requires
split_data-requires c =
    let a = asks _ _ _ _ _ _ c.loop-place.invariant c.loop-place-test.true blank (ap is_link c.in-Data.is) in
    record {
      short = c.requires.short;
      placed = a.placed;
      some = a.some;
      inside = a.inside;
      low = omega (arith, c.requires.low, c.loop-place-test.true);
      order = a.order;
      rising = a.rising;
      few = omega (arith, a.few, a.inside, c.requires.short);
      room = omega (arith, a.room, c.requires.room, c.loop-place.auto.store);
    }

pub returns : goal.returns
returns c =
    let done = all-cut _ _ _ _ _ _ c.loop-place.invariant c.loop-place-test.false in
    record { answer = refl; made = done.made; order = done.order; kept = done.kept_low }

is_enter : (k : EventKind) → sameb the_type k Enter ≡ enters k
is_enter Enter = refl
is_enter Exit = refl

pub loop-place-preserved-in-Link-1 : goal.loop-place-preserved-in-Link-1
loop-place-preserved-in-Link-1 c =
    subst (λ b. Cutting c.args.note.now c.args.events.now (c.loop-place.place + 1) b (edits_of c.loop-place.map c.loop-place.store) (kept_count c.loop-place.map)) (sym (c.eq-in_link.ensures ∙ is_enter _))
    (after_link _ _ _ _ _ _ c.loop-place.invariant c.loop-place-test.true blank (ap is_link c.in-Link.is))

pub loop-place-preserved-then-not-in_link : goal.loop-place-preserved-then-not-in_link
loop-place-preserved-then-not-in_link c =
    after_split _ _ _ _ _ _ c.loop-place.invariant c.loop-place-test.true blank (ap is_link c.in-Data.is) (edits_of c.split_data.new.map c.split_data.new.store) (kept_count c.split_data.new.map) c.in-Data.is c.if-not-in_link.true c.split_data.ensures.edits c.split_data.ensures.kept

-- a name that is neither
other : (n : Name) → (n ≡ name.Link → ⊥) → (n ≡ name.Data → ⊥) → (is_link n ≡ false) × (is_data n ≡ false)
other name.Data l d = absurd (d refl)
other name.LineEnding l d = (refl, refl)
other name.Link l d = absurd (l refl)
other (name.Address kind) l d = (refl, refl)

pub loop-place-preserved : goal.loop-place-preserved
loop-place-preserved c =
    elim c.in_default.branch [
      | in_default-via-in-Data+else-not-in_link w ↦
          after_span _ _ _ _ _ _ c.loop-place.invariant c.loop-place-test.true blank (ap is_link w.in-Data.is) (or_left c.loop-place.in_link _ w.if-not-in_link.false)
      | in_default-via-in_default w ↦
          let o = other _ w.in_default.not-Link w.in_default.not-Data in
          after_span _ _ _ _ _ _ c.loop-place.invariant c.loop-place-test.true blank o.0 (or_right c.loop-place.in_link _ (ap not o.1))
    ]
