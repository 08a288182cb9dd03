-- Two events are equal in one way at most.
-- Assumes nothing.
use native.Mathlib.Nat.{ℕ_set}
use mathlib.Core.Sum.{⊎_set}
use Rattle.machine.specs.declared.events.Event.{Event}

pub events-set : IsSet Event
events-set = hlevel (ℕ_set, ⊎_set)
