-- A note that was read to its end and resolved, with no links marked.
-- Assumes nothing.
use Rattle.std.specs.Prelude.{◌≡◌, ℕ, true, false, List, []}
use Rattle.text.specs.declared.refusals.Fault.{Fault}
use Rattle.text.specs.declared.refusals.Fault.TheVariants.{NoteTooLong}
use Rattle.text.specs.Notes.{too_long}
use Rattle.punctuation.specs.RangeLists.{house}
use Rattle.machine.specs.declared.events.Event.{Event}
use Rattle.calls.specs.Calls.{Model}
use Rattle.calls.specs.Claims.{FullyRead, FullyResolved}
use Rattle.calls.specs.EventLists.{LawfulEvents}
use Rattle.calls.specs.Links.{resolved_events}
use Rattle.calls.specs.Steps.{held, is_resolved}

-- the events that are printed
abbrev pub events_of : List ℕ → List Event
events_of s = resolved_events house s []

pub record HoldsResolved (s : List ℕ) (m : Model) : Type 0 where
  pub short : too_long s ≡ false
  pub resolved : is_resolved m.phase ≡ true
  pub note : m.machine.note ≡ s
  pub events : held m ≡ events_of s

-- what is claimed of the events of a note that was read to its end and resolved with no links marked
pub record Claimed (s : List ℕ) (es : List Event) : Type 0 where
  pub lawful : LawfulEvents s es
  pub read : FullyRead house s es
  pub resolved : FullyResolved house s [] es

-- the refusal is that of a note that is too long, which this one is
abbrev pub TooLong : List ℕ → Fault → Type 0
TooLong s fault = (fault ≡ NoteTooLong) × (too_long s ≡ true)
