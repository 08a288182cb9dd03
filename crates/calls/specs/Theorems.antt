-- What is proved of the definitions: they do what is claimed of them, nothing else does, and how much room it takes.
-- Assumes nothing.
use Rattle.std.specs.Prelude.{◌≡◌, ℕ, ◌+◌, ◌*◌, ◌≤◌, Bool, true, false, List, [], length, Ok, Err, Result}
use Rattle.text.specs.declared.refusals.Fault.{Fault}
use Rattle.machine.specs.declared.events.Event.{Event}
use Rattle.machine.specs.declared.runs.Ran.{Ran}
use Rattle.calls.specs.declared.links.MarkedRun.{MarkedRun}
use Rattle.calls.specs.declared.scripts.Call.{Call}
use Rattle.calls.specs.Calls.{Model}
use Rattle.calls.specs.Claims.{FullyRead, FullyResolved}
use Rattle.calls.specs.EventLists.{is_link, is_mail_address, spans, with_name, LawfulEvents}
use Rattle.calls.specs.Links.{marked_in_turn, ended_events, resolved_events}
use Rattle.calls.specs.Steps.{held, most_links, step}

-- ---- of event lists

-- the events of the segments of a note are lawful, and what is claimed of a note that was read to its end
abbrev pub SegmentsAreRead : Type 0
SegmentsAreRead = (member : ℕ → Bool) (note : List ℕ) → LawfulEvents note (ended_events member note) × FullyRead member note (ended_events member note)

-- once resolved, with any runs that may be marked, they still are, and they are what is claimed then
abbrev pub ResolvingResolves : Type 0
ResolvingResolves =
    (member : ℕ → Bool) (note : List ℕ) (ls : List MarkedRun) → marked_in_turn (ended_events member note) 0 ls ≡ true →
    LawfulEvents note (resolved_events member note ls) × FullyRead member note (resolved_events member note ls) × FullyResolved member note ls (resolved_events member note ls)

-- what is claimed leaves no choice: no other events have it, of a note read to its end (without mail and links), or of a resolved one
pub record NothingElseIsClaimed : Type 0 where
  pub read :
      (member : ℕ → Bool) (note : List ℕ) (es : List Event) → LawfulEvents note es → FullyRead member note es →
      with_name is_mail_address (spans es) ≡ [] → with_name is_link (spans es) ≡ [] → es ≡ ended_events member note
  pub resolved :
      (member : ℕ → Bool) (note : List ℕ) (ls : List MarkedRun) (es : List Event) → marked_in_turn (ended_events member note) 0 ls ≡ true →
      LawfulEvents note es → FullyRead member note es → FullyResolved member note ls es → es ≡ resolved_events member note ls

-- ---- room

-- the lists of no note that may be loaded, with no links that may be marked, are longer
pub record ListsFit (room : ℕ) : Type 0 where
  pub ended : (member : ℕ → Bool) (note : List ℕ) → length note ≤ 1024 → length (ended_events member note) + 2 * most_links ≤ room
  pub resolved :
      (member : ℕ → Bool) (note : List ℕ) (ls : List MarkedRun) → marked_in_turn (ended_events member note) 0 ls ≡ true →
      length note ≤ 1024 → length ls ≤ most_links → length (resolved_events member note ls) ≤ room

-- and those of some note, with some links, are as long
abbrev pub RoomIsReached : ℕ → Type 0
RoomIsReached room =
    (note : List ℕ) × (ls : List MarkedRun) × (length note ≡ 1024) × (length ls ≡ most_links)
    × ((member : ℕ → Bool) → (marked_in_turn (ended_events member note) 0 ls ≡ true) × (length (resolved_events member note ls) ≡ room))

-- of any note: two a byte, and two a link
abbrev pub TwoAByteAndALink : Type 0
TwoAByteAndALink =
    (member : ℕ → Bool) (note : List ℕ) (ls : List MarkedRun) → marked_in_turn (ended_events member note) 0 ls ≡ true → length (resolved_events member note ls) ≤ 2 * length note + 2 * length ls

-- ---- of calls

-- the answer is done
abbrev pub ended_now : Result Ran Fault → Bool
ended_now (Ok r) = r.done
ended_now (Err refusal) = false

-- a refused call changes nothing
abbrev pub RefusalsChangeNothing : Type 0
RefusalsChangeNothing = (member : ℕ → Bool) (m : Model) (c : Call) (refusal : Fault) → (step member m c).1 ≡ Err refusal → (step member m c).0 ≡ m

-- an end that answers done leaves the events of the segments of the note, and no others: of any reader to which calls may lead
abbrev pub EndFinds : (ℕ → Bool) → Model → Model × Result Ran Fault → Type 0
EndFinds member m r = ended_now r.1 ≡ true → held r.0 ≡ ended_events member m.machine.note
