-- What is known where nothing is written.
-- Assumes nothing.
use Rattle.std.specs.Prelude.{◌≡◌, false}
use Rattle.text.specs.declared.refusals.Fault.{Fault}
use Rattle.text.specs.declared.refusals.Fault.TheVariants.{NotResolved}
use Rattle.calls.specs.Calls.{Model}
use Rattle.calls.specs.Steps.{is_resolved}
use Rattle.listing.specs.declared.stops.Stop.{Stop}
use Rattle.listing.specs.declared.stops.Stop.TheVariants.{Refused, OutOfMemory}

-- memory may always run out; this holds of a refusal
abbrev pub WhereRefused : (Fault → Type 0) → Stop → Type 0
WhereRefused P (Refused fault) = P fault
WhereRefused P OutOfMemory = Unit {0}

abbrev pub Unresolved : Model → Fault → Type 0
Unresolved m fault = (fault ≡ NotResolved) × (is_resolved m.phase ≡ false)
