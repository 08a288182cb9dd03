-- A list of calls on a new reader, what the calls and their answers tell, and what holds at every moment.
-- member is the meaning of the reader's punctuation set.
-- Assumes nothing.
use Rattle.std.specs.Prelude.{◌≡◌, ℕ, ◌+◌, ◌≤◌, Bool, true, false, cond, ◌||◌, List, [], ◌∷◌, ◌++◌, length, take, Some, None, Option, Ok, Err, slice_index_or}
use Rattle.machine.specs.declared.events.Event.{Event}
use Rattle.calls.specs.declared.links.MarkedRun.{MarkedRun}
use Rattle.calls.specs.declared.scripts.Call.{Call}
use Rattle.calls.specs.declared.scripts.Call.TheVariants.{Load, Push, End, Link, Resolve, Clear}
use Rattle.machine.specs.declared.runs.Ran.{Ran}
use Rattle.calls.specs.Calls.{Model, new, is_over}
use Rattle.calls.specs.EventLists.{LawfulEvents}
use Rattle.calls.specs.Claims.{FullyRead, FullyResolved}
use Rattle.calls.specs.Links.{marked_in_turn, ended_events}
use Rattle.calls.specs.Steps.{held, is_ended, is_resolved, most_events, most_links, run_of, Answer, step}

-- the reader after the calls, and their answers
abbrev pub after : (ℕ → Bool) → Model → List Call → Model
after member m [] = m
after member m (c ∷ cs) = after member (step member m c).0 cs

abbrev pub answers : (ℕ → Bool) → Model → List Call → List Answer
answers member m [] = []
answers member m (c ∷ cs) = (step member m c).1 ∷ answers member (step member m c).0 cs

-- a reader to which some list of calls has led, from new
pub record Reachable (member : ℕ → Bool) (m : Model) : Type 0 where
  pub calls : List Call
  pub led : m ≡ after member new calls

-- what is true of every reader, whatever calls have led to it
pub record AlwaysTrue (member : ℕ → Bool) (m : Model) : Type 0 where
  pub short : length m.machine.note ≤ 1024
  -- the links were marked in the events of the note when it had been read to its end
  pub few : length m.links ≤ most_links
  pub in_turn : marked_in_turn (ended_events member m.machine.note) 0 m.links ≡ true
  pub lawful : LawfulEvents m.machine.note (held m)
  pub fits : length (held m) ≤ most_events
  pub read : is_over m.phase ≡ true → FullyRead member m.machine.note (held m)
  pub ended : is_ended m.phase ≡ true → held m ≡ ended_events member m.machine.note
  pub resolved : is_resolved m.phase ≡ true → FullyResolved member m.machine.note m.links (held m)

-- ---- what calls and answers tell, and nothing else does

abbrev pub accepted : Answer → Bool
accepted (Ok reply) = true
accepted (Err refusal) = false

abbrev pub ran_to_its_end : Option Ran → Bool
ran_to_its_end None = false
ran_to_its_end (Some r) = r.done

abbrev pub done : Answer → Bool
done (Ok reply) = ran_to_its_end reply
done (Err refusal) = false

-- since the last clear: the note of the accepted load, whether an end has answered done, whether a resolve was accepted, and the
-- runs of the accepted link calls
pub record Told : Type 0 where
  pub note : List ℕ
  pub ended : Bool
  pub resolved : Bool
  pub links : List MarkedRun

abbrev pub nothing : Told
nothing = record { note = []; ended = false; resolved = false; links = [] }

abbrev pub telling : Told → Call → Answer → Told
telling t (Load note) a = record { note = cond (accepted a) note.now t.note; ended = t.ended; resolved = t.resolved; links = t.links }
telling t (Push to allowance) a = t
telling t (End allowance) a = record { note = t.note; ended = done a || t.ended; resolved = t.resolved; links = t.links }
telling t (Link first last) a =
    record { note = t.note; ended = t.ended; resolved = t.resolved; links = cond (accepted a) (t.links ++ run_of first last ∷ []) t.links }
telling t Resolve a = record { note = t.note; ended = t.ended; resolved = accepted a || t.resolved; links = t.links }
telling t Clear a = nothing

abbrev pub told : Told → List Call → List Answer → Told
told t [] got = t
told t (c ∷ cs) [] = t
told t (c ∷ cs) (a ∷ got) = told (telling t c a) cs got

-- ---- the claim

-- a moment of a reader that was new, after calls which got these answers, when it holds these events
pub record Moment (member : ℕ → Bool) (calls : List Call) (got : List Answer) (events : List Event) : Type 0 where
  -- every call so far has answered as defined
  pub answered : got ≡ answers member new calls
  -- every exit closes the latest enter still open, no span is empty, each point is the place of its byte
  pub lawful : LawfulEvents (told nothing calls got).note events
  pub fits : length events ≤ most_events
  -- if an end has answered done and no clear has come since
  pub read : (told nothing calls got).ended ≡ true → FullyRead member (told nothing calls got).note events
  -- if a resolve has been accepted and no clear has come since
  pub resolved : (told nothing calls got).resolved ≡ true → FullyResolved member (told nothing calls got).note (told nothing calls got).links events

-- before the first call, between any two, and after the last; events k are those held after k calls
abbrev pub Always : (ℕ → Bool) → List Call → List Answer → (ℕ → List Event) → Type 0
Always member calls got events = (k : ℕ) → k ≤ length calls → Moment member (take k calls) (take k got) (events k)

-- ---- and who watches

-- a watcher w looked at readers which were these, one after another, and is w' then; saw tells what one look does to a watcher
abbrev pub Looks : {W : Type 0} → (W → Model → W → Type 0) → W → List Model → W → Type 0
Looks saw w [] w' = w ≡ w'
Looks {W} saw w (m ∷ ms) w' = (v : W) × saw w m v × Looks saw v ms w'

-- calls made on a new reader, and the answers that they got. A watcher was shown the reader before the first call and after each,
-- and at each of these moments it held what is claimed; so it does at the end
pub record Watched {W : Type 0} (saw : W → Model → W → Type 0) (member : ℕ → Bool) (calls : List Call) (got : List Answer) (first then : W) (last : Model) : Type 0 where
  pub moments : List Model
  pub each_answered : length got ≡ length calls
  pub each_shown : length moments ≡ length calls + 1
  pub shown : Looks saw first moments then
  -- the reader of each moment is the one to which the calls so far lead
  pub each_led : (k : ℕ) → k ≤ length calls → slice_index_or moments k new ≡ after member new (take k calls)
  pub always : Always member calls got (λ k. held (slice_index_or moments k new))
  pub last_moment : slice_index_or moments (length calls) new ≡ last
