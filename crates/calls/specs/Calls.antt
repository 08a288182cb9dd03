-- What a reader holds, and what load, push, end and clear do to it and answer. A refused call changes nothing.
-- Assumes nothing.
use Rattle.std.specs.Prelude.{ℕ, Bool, true, false, cond, not, ◌&&◌, ◌||◌, List, [], ◌∷◌, length, Ok, Err, Result, ◌==◌, nat_lt}
use Rattle.text.specs.Notes.{too_long}
use Rattle.text.specs.declared.refusals.Fault.{Fault}
use Rattle.text.specs.declared.refusals.Fault.TheVariants as fault
use Rattle.machine.specs.declared.cursors.Until.TheVariants.{Mark, End}
use Rattle.machine.specs.Joins.{joined}
use Rattle.machine.specs.Moves.{Machine, with_tables}
use Rattle.machine.specs.Runs.{beginning, Outcome, run}
use Rattle.machine.specs.declared.runs.Ran.{Ran}
use Rattle.calls.specs.declared.links.MarkedRun.{MarkedRun}
use Rattle.calls.specs.declared.phases.Phase.{Phase}
use Rattle.calls.specs.declared.phases.Phase.TheVariants.{Empty, Loaded, Ending, Ended, Resolved}

-- ---- what a reader holds

-- the note is the machine's. paused: whether the last accepted push paused
pub record Model : Type 0 where
  pub phase : Phase
  pub mark : ℕ
  pub paused : Bool
  pub machine : Machine
  pub links : List MarkedRun

abbrev pub model : Phase → ℕ → Bool → Machine → List MarkedRun → Model
model phase mark paused machine links = record { phase = phase; mark = mark; paused = paused; machine = machine; links = links }

abbrev pub new : Model
new = record { phase = Empty; mark = 0; paused = false; machine = beginning []; links = [] }

abbrev pub is_empty : Phase → Bool
is_empty Empty = true
is_empty Loaded = false
is_empty Ending = false
is_empty Ended = false
is_empty Resolved = false

abbrev pub is_loaded : Phase → Bool
is_loaded Empty = false
is_loaded Loaded = true
is_loaded Ending = false
is_loaded Ended = false
is_loaded Resolved = false

-- the end was done
abbrev pub is_over : Phase → Bool
is_over Empty = false
is_over Loaded = false
is_over Ending = false
is_over Ended = true
is_over Resolved = true

-- ---- refusals

-- the first check that holds refuses the call, and the reader stays; else it becomes what is given, with that answer
abbrev pub checked : {A : Type 0} → Model → List (Bool × Fault) → Model × A → Model × Result A Fault
checked m [] r = (r.0, Ok r.1)
checked m (c ∷ cs) r = cond c.0 (m, Err c.1) (checked m cs r)

abbrev pub answer_of : Outcome → Ran
answer_of o = record { steps = o.steps; done = o.done }

-- ---- the calls

abbrev pub loaded : List ℕ → Model
loaded s = record { phase = Loaded; mark = 0; paused = false; machine = beginning s; links = [] }

abbrev pub load : Model → List ℕ → Model × Result (Unit {0}) Fault
load m s =
    checked m
    ((too_long s, fault.NoteTooLong) ∷
    (not (is_empty m.phase), fault.AlreadyLoaded) ∷
    [])
    (loaded s, tt)

abbrev pub pushed : ℕ → Outcome → Model → Model
pushed to o m = record { phase = m.phase; mark = to; paused = not o.done; machine = o.after; links = m.links }

abbrev pub push : (ℕ → Bool) → Model → ℕ → ℕ → Model × Result Ran Fault
push member m to allowance =
    let o = run member (Mark to) allowance m.machine in
    checked m
    ((is_empty m.phase, fault.NothingLoaded) ∷
    (not (is_loaded m.phase), fault.OutOfTurn) ∷
    ((allowance == 0), fault.NoAllowance) ∷
    (nat_lt to m.mark || nat_lt (length m.machine.note) to, fault.TargetOutOfRange) ∷
    [])
    (pushed to o m, answer_of o)

-- once done, neighbouring Data spans are joined
abbrev pub closed : Outcome → Machine
closed o = with_tables (cond o.done (joined o.after.events) o.after.events) o.after.names o.after

abbrev pub ended : Outcome → Model → Model
ended o m = record { phase = cond o.done Ended Ending; mark = m.mark; paused = m.paused; machine = closed o; links = m.links }

-- bytes not pushed yet, or pushed and not read: only where an end begins
abbrev pub unread : Model → Bool
unread m = is_loaded m.phase && (nat_lt m.mark (length m.machine.note) || m.paused)

abbrev pub end : (ℕ → Bool) → Model → ℕ → Model × Result Ran Fault
end member m allowance =
    let o = run member End allowance m.machine in
    checked m
    ((is_empty m.phase, fault.NothingLoaded) ∷
    (is_over m.phase, fault.OutOfTurn) ∷
    ((allowance == 0), fault.NoAllowance) ∷
    (unread m, fault.EndTooEarly) ∷
    [])
    (ended o m, answer_of o)
