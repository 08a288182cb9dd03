-- When two answers agree, and where they differ first.
-- Assumes nothing.
use Rattle.std.specs.Prelude.{◌≡◌, ◌≢◌, ℕ, ◌<◌, List}
use Rattle.std.specs.List.{slice_get}
use Rattle.machine.specs.declared.events.Event.{Event}
use Rattle.machine.specs.declared.runs.Ran.{Ran}
use Rattle.recorded_answers.specs.declared.answers.Answers.{Answers}
use Rattle.recorded_answers.specs.declared.answers.Difference.{Difference}
use Rattle.recorded_answers.specs.declared.answers.Difference.TheVariants as difference
use Rattle.recorded_answers.specs.declared.answers.Unlike.{Unlike}

-- what the calls answered, the events at the end, and those once links and mail are resolved
pub record Said : Type 0 where
  pub runs : List Ran
  pub events : List Event
  pub resolved : List Event

abbrev pub said : Answers → Said
said a = record { runs = a.runs.items; events = a.events.items; resolved = a.resolved.items }

-- the first place where two lists differ, with what each has there: nothing past its end
abbrev pub IsFirstUnlike : {T : Type 0} → List T → List T → Unlike T → Type 0
IsFirstUnlike recorded given u =
    (u.recorded ≡ slice_get recorded u.place)
    × (u.given ≡ slice_get given u.place)
    × (u.recorded ≢ u.given)
    × ((k : ℕ) → k < u.place → slice_get recorded k ≡ slice_get given k)

-- a call that answered something else comes before every event, and the events at the end before the resolved ones
abbrev pub IsFirstDifference : Said → Said → Difference → Type 0
IsFirstDifference recorded given (difference.Run u) = IsFirstUnlike recorded.runs given.runs u
IsFirstDifference recorded given (difference.Event u) =
    (recorded.runs ≡ given.runs) × IsFirstUnlike recorded.events given.events u
IsFirstDifference recorded given (difference.Resolved u) =
    (recorded.runs ≡ given.runs) × (recorded.events ≡ given.events) × IsFirstUnlike recorded.resolved given.resolved u
