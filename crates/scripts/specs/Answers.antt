-- How answers are told.
-- Assumes nothing.
use Rattle.std.specs.Prelude.{ℕ, Bool, cond, List, ◌++◌, codes, Some, None, Ok, Err}
use Rattle.text.specs.Shown.{refusal_shown}
use Rattle.calls.specs.Steps.{Answer}
use Rattle.scripts.specs.Counts.{counted_shown}

abbrev pub state_shown : Bool → List ℕ
state_shown done = cond done (codes "done") (codes "paused")

-- as `accepted`, `19 steps, done` or `refused 8 0`
abbrev pub answer_shown : Answer → List ℕ
answer_shown (Ok None) = codes "accepted"
answer_shown (Ok (Some ran)) = counted_shown ran.steps (codes "step") ++ (codes ", " ++ state_shown ran.done)
answer_shown (Err refusal) = refusal_shown refusal
