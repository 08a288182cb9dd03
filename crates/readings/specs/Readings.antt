-- How a note is read by a plan: which calls are made one after another, and what comes of it.
-- Assumes nothing.
use Rattle.std.specs.Prelude.{◌≡◌, ℕ, zero, suc, ◌+◌, ◌≤◌, min, Bool, true, false, cond, List, [], ◌∷◌, length, Some, None, Option, Ok, Err, Result, nat_lt}
use Rattle.std.specs.NonZero.{non_zero_u64_get, non_zero_usize_get}
use Rattle.text.specs.declared.refusals.Fault.{Fault}
use Rattle.punctuation.specs.RangeLists.{house}
use Rattle.rules.specs.Segments.{segments}
use Rattle.machine.specs.declared.cursors.Until.{Until}
use Rattle.machine.specs.declared.cursors.Until.TheVariants.{Mark, End}
use Rattle.machine.specs.declared.runs.Ran.{Ran}
use Rattle.machine.specs.Laws.{Part}
use Rattle.findings.specs.Findings.{read}
use Rattle.findings.specs.Pieces.{segment_events}
use Rattle.calls.specs.Calls.{Model, loaded, is_empty, is_over, push, end, unread}
use Rattle.calls.specs.declared.phases.Phase.TheVariants.{Loaded, Ended}
use Rattle.readings.specs.declared.lines.Answered.{Answered}
use Rattle.readings.specs.declared.plans.Plan.{Plan}

-- a call to a mark is a push, one to the end an end
abbrev pub called : Until → Model → ℕ → Model × Result Ran Fault
called (Mark to) m allowance = push house m to allowance
called End m allowance = end house m allowance

-- how far the next call reads, after one to u is done: a piece on, then to the end
abbrev pub next_target : Until → ℕ → ℕ → Option Until
next_target (Mark to) length piece = cond (nat_lt to length) (Some (Mark (min (to + piece) length))) (Some End)
next_target End length piece = None

-- how a call ran; no call by a plan is refused, so what stands for a refusal does not matter
abbrev pub ran_of : Result Ran Fault → Ran
ran_of (Ok ran) = ran
ran_of (Err refusal) = record { steps = 0; done = false }

-- how far the call after one to u reads: as far again where that one paused
abbrev pub then_target : Bool → Until → ℕ → ℕ → Option Until
then_target done u length piece = cond done (next_target u length piece) (Some u)

-- the calls that follow, from one to u on, where the reader is m: at most n
abbrev pub calls_from : ℕ → ℕ → ℕ → ℕ → Option Until → Model → List Answered
calls_from length piece allowance zero u m = []
calls_from length piece allowance (suc n) None m = []
calls_from length piece allowance (suc n) (Some u) m =
    let r = called u m allowance in
    let ran : Ran = ran_of r.1 in
    record { until = u; ran = ran } ∷ calls_from length piece allowance n (then_target ran.done u length piece) r.0

-- the first n of the calls that read a note by a plan
abbrev pub first_calls : Plan → List ℕ → ℕ → List Answered
first_calls plan s n =
    let piece : ℕ = non_zero_usize_get plan.piece in
    calls_from (length s) piece (non_zero_u64_get plan.allowance) n (Some (Mark (min (length s) piece))) (loaded s)

-- these are all of them: no call follows
abbrev pub AllCalls : Plan → List ℕ → List Answered → Type 0
AllCalls plan s calls = (n : ℕ) → length calls ≤ n → first_calls plan s n ≡ calls

-- a call to u is not refused, unless its allowance is 0
abbrev pub Accepts : Until → Model → Type 0
Accepts (Mark to) m = (m.phase ≡ Loaded) × (m.mark ≤ to) × (to ≤ length m.machine.note)
Accepts End m = (is_empty m.phase ≡ false) × (is_over m.phase ≡ false) × (unread m ≡ false)

abbrev pub steps_made : List Answered → ℕ
steps_made [] = 0
steps_made (c ∷ cs) = c.ran.steps + steps_made cs

-- so many state calls bring the note to its end, in however many parts it is read
abbrev pub TakesSteps : List ℕ → ℕ → Type 0
TakesSteps s n = (parts : List Part) (allowance : ℕ) → (read house s parts allowance).done ≡ true → (read house s parts allowance).steps ≡ n

-- the note was read to its end, by these calls, and no links are marked in it
pub record ReadThrough (plan : Plan) (s : List ℕ) (calls : List Answered) (m : Model) : Type 0 where
  pub made : AllCalls plan s calls
  pub ended : m.phase ≡ Ended
  pub note : m.machine.note ≡ s
  pub unlinked : m.links ≡ []
  pub events : m.machine.events ≡ segment_events s (segments house s)
  pub steps : TakesSteps s (steps_made calls)
