-- What a run answers and leaves, as one value.
-- Assumes nothing.
use Rattle.machine.specs.declared.runs.Ran.{Ran}
use Rattle.machine.specs.Moves.{Machine}
use Rattle.machine.specs.Runs.{Outcome}

abbrev pub outcome_of : Machine → Ran → Outcome
outcome_of m r = record { after = m; steps = r.steps; done = r.done }
