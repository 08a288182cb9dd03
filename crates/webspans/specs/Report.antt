-- What the program prints of a note.
-- Assumes nothing.
use Rattle.std.specs.Prelude.{◌≡◌, ℕ, ◌-◌, ◌^◌, min, Bool, true, false, cond, List, [], ◌∷◌, ◌++◌}
use Rattle.text.specs.declared.refusals.Fault.TheVariants.{NoteTooLong}
use Rattle.text.specs.Notes.{too_long}
use Rattle.text.specs.Shown.{refusal_shown}
use Rattle.punctuation.specs.RangeLists.{house}
use Rattle.rules.specs.Segments.{segments}
use Rattle.findings.specs.Pieces.{segment_events}
use Rattle.written.specs.Listing.{newline, event_lines}
use Rattle.readings.specs.declared.lines.Answered.{Answered}
use Rattle.readings.specs.declared.plans.Plan.{Plan}
use Rattle.readings.specs.Lines.{steps_shown, answered_shown}
use Rattle.readings.specs.Readings.{steps_made, AllCalls, TakesSteps}

abbrev pub call_lines : List Answered → List ℕ
call_lines [] = []
call_lines (c ∷ cs) = (answered_shown c ++ newline) ++ call_lines cs

-- the steps of all calls, as far as 64 bits tell
abbrev pub total : List Answered → ℕ
total calls = min (steps_made calls) (2 ^ 64 - 1)

abbrev pub steps_line : List Answered → List ℕ
steps_line calls = steps_shown (total calls) ++ newline

-- the events of the segments of the note, and the steps
abbrev pub findings : List ℕ → List Answered → List ℕ
findings s calls = event_lines (segment_events s (segments house s)) ++ steps_line calls

-- what is printed of a note that is not too long
pub record Reported (plan : Plan) (s : List ℕ) (out : List ℕ) : Type 0 where
  pub calls : List Answered
  pub made : AllCalls plan s calls
  pub steps : TakesSteps s (steps_made calls)
  pub printed : out ≡ cond plan.shows_calls (call_lines calls) [] ++ findings s calls

abbrev pub PrintedAs : Bool → Plan → List ℕ → List ℕ → Type 0
PrintedAs true plan s out = out ≡ refusal_shown NoteTooLong ++ newline
PrintedAs false plan s out = Reported plan s out

abbrev pub Printed : Plan → List ℕ → List ℕ → Type 0
Printed plan s out = PrintedAs (too_long s) plan s out
