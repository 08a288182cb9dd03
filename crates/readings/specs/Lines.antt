-- What the lines of the report say, but for those of events.
-- Assumes nothing.
use Rattle.std.specs.Prelude.{ℕ, Bool, cond, List, ◌++◌, codes, decimal, ◌==◌}
use Rattle.machine.specs.declared.cursors.Until.{Until}
use Rattle.machine.specs.declared.cursors.Until.TheVariants.{Mark, End}
use Rattle.readings.specs.declared.lines.Answered.{Answered}

abbrev pub step_noun : ℕ → List ℕ
step_noun n = cond (n == 1) (codes "step") (codes "steps")

-- as `25 steps`
abbrev pub steps_shown : ℕ → List ℕ
steps_shown n = decimal n ++ (codes " " ++ step_noun n)

abbrev pub state_shown : Bool → List ℕ
state_shown done = cond done (codes "done") (codes "paused")

abbrev pub answered_as : Until → ℕ → Bool → List ℕ
answered_as (Mark to) steps done = codes "push " ++ (decimal to ++ (codes ": " ++ (steps_shown steps ++ (codes ", " ++ state_shown done))))
answered_as End steps done = codes "end: " ++ (steps_shown steps ++ (codes ", " ++ state_shown done))

-- as `push 4: 3 steps, paused`
abbrev pub answered_shown : Answered → List ℕ
answered_shown a = answered_as a.until a.ran.steps a.ran.done
