-- What link, resolve and clear do to a reader and answer; and any call of a list of calls. A refused call changes nothing.
-- Assumes nothing.
use Rattle.std.specs.Prelude.{ℕ, Bool, true, false, not, List, [], ◌∷◌, ◌++◌, length, Some, None, Option, Ok, Err, Result, nat_le}
use Rattle.text.specs.declared.refusals.Fault.{Fault}
use Rattle.text.specs.declared.refusals.Fault.TheVariants as fault
use Rattle.machine.specs.declared.events.Event.{Event}
use Rattle.machine.specs.Moves.{with_tables}
use Rattle.calls.specs.declared.links.MarkedRun.{MarkedRun}
use Rattle.calls.specs.declared.phases.Phase.{Phase}
use Rattle.calls.specs.declared.phases.Phase.TheVariants.{Empty, Loaded, Ending, Ended, Resolved}
use Rattle.calls.specs.declared.scripts.Call.{Call}
use Rattle.calls.specs.declared.scripts.Call.TheVariants as call
use Rattle.machine.specs.declared.runs.Ran.{Ran}
use Rattle.calls.specs.Calls.{Model, new, is_empty, checked, load, push, end}
use Rattle.calls.specs.Links.{beyond, markable, resolved}

-- the events that a reader holds
abbrev pub held : Model → List Event
held m = m.machine.events

-- ---- the calls

-- the end was done, and nothing resolved since
abbrev pub is_ended : Phase → Bool
is_ended Empty = false
is_ended Loaded = false
is_ended Ending = false
is_ended Ended = true
is_ended Resolved = false

-- links and mail were resolved
abbrev pub is_resolved : Phase → Bool
is_resolved Empty = false
is_resolved Loaded = false
is_resolved Ending = false
is_resolved Ended = false
is_resolved Resolved = true

abbrev pub most_links : ℕ
most_links = 64

-- two events for each byte of a note, and two for each link
abbrev pub most_events : ℕ
most_events = 2176

abbrev pub run_of : ℕ → ℕ → MarkedRun
run_of first last = record { first = first; last = last }

abbrev pub with_link : MarkedRun → Model → Model
with_link l m = record { phase = m.phase; mark = m.mark; paused = m.paused; machine = m.machine; links = m.links ++ l ∷ [] }

abbrev pub link : Model → ℕ → ℕ → Model × Result (Unit {0}) Fault
link m first last =
    let l = run_of first last in
    checked m
    ((is_empty m.phase, fault.NothingLoaded) ∷
    (not (is_ended m.phase), fault.NotEnded) ∷
    (not (markable (held m) (beyond 0 m.links) l), fault.RunNotMarkable) ∷
    (nat_le most_links (length m.links), fault.TooManyLinks) ∷
    [])
    (with_link l m, tt)

abbrev pub with_resolved : Model → Model
with_resolved m =
    let k = m.machine in
    record { phase = Resolved; mark = m.mark; paused = m.paused; machine = with_tables (resolved k.note m.links k.events) k.names k; links = m.links }

abbrev pub resolve : Model → Model × Result (Unit {0}) Fault
resolve m =
    checked m
    ((is_empty m.phase, fault.NothingLoaded) ∷
    (not (is_ended m.phase), fault.NotEnded) ∷
    [])
    (with_resolved m, tt)

-- never refused
abbrev pub clear : Model → Model
clear m = new

-- ---- any call

-- an accepted push or end answers how it ran; the others answer no more than that they are accepted
abbrev pub Answer : Type 0
Answer = Result (Option Ran) Fault

abbrev pub answer : {A : Type 0} → (A → Option Ran) → Result A Fault → Answer
answer f (Ok a) = Ok (f a)
answer f (Err refusal) = Err refusal

abbrev pub answering : {A : Type 0} → (A → Option Ran) → Model × Result A Fault → Model × Answer
answering f r = (r.0, answer f r.1)

-- member is the meaning of the punctuation set
abbrev pub step : (ℕ → Bool) → Model → Call → Model × Answer
step member m (call.Load note) = answering (λ _. None) (load m note.now)
step member m (call.Push to allowance) = answering Some (push member m to allowance)
step member m (call.End allowance) = answering Some (end member m allowance)
step member m (call.Link first last) = answering (λ _. None) (link m first last)
step member m call.Resolve = answering (λ _. None) (resolve m)
step member m call.Clear = (clear m, Ok None)
