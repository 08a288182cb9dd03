-- What the machine finds in a note, with any punctuation set, whatever the pushes and the allowances.
-- Assumes nothing.
use Rattle.std.specs.Prelude.{◌≡◌, ℕ, ◌≤◌, Bool, true, List, []}
use Rattle.rules.specs.Segments.{segments}
use Rattle.machine.specs.declared.cursors.Until.TheVariants.{End}
use Rattle.machine.specs.declared.states.State.TheVariants.{Ok}
use Rattle.machine.specs.Joins.{joined}
use Rattle.machine.specs.Laws.{Part, in_parts}
use Rattle.machine.specs.Moves.{Machine}
use Rattle.machine.specs.Runs.{Outcome, beginning, cleared}
use Rattle.findings.specs.Pieces.{segment_events}

-- all is settled: nothing is tried, nothing is open, and the registers are as at the beginning
pub record Settled (m : Machine) : Type 0 where
  pub over : m.state ≡ Ok
  pub attempts : m.attempts ≡ []
  pub names : m.names ≡ []
  pub registers : m.registers ≡ cleared

-- the note read in these parts, with so many state calls at most for the end
abbrev pub read : (ℕ → Bool) → List ℕ → List Part → ℕ → Outcome
read member s parts allowance = in_parts member parts (record { until = End; allowance = allowance }) (beginning s)

pub record Finds (member : ℕ → Bool) (s : List ℕ) : Type 0 where
  -- whenever the end is done, the events, with neighbouring data joined, are those of the segments of the note
  pub found : (parts : List Part) (allowance : ℕ) → (read member s parts allowance).done ≡ true → joined (read member s parts allowance).after.events ≡ segment_events s (segments member s)
  pub settled : (parts : List Part) (allowance : ℕ) → (read member s parts allowance).done ≡ true → Settled (read member s parts allowance).after
  -- so many state calls are enough, wherever the end is begun
  pub enough : ℕ
  pub ends : (parts : List Part) (allowance : ℕ) → enough ≤ allowance → (read member s parts allowance).done ≡ true

abbrev pub FindsTheLinks : Type 0
FindsTheLinks = (member : ℕ → Bool) (s : List ℕ) → Finds member s
