-- What a reader answers where a note is read by given pushes and one end, and given links are marked and resolved.
-- Assumes nothing.
use Rattle.std.specs.Prelude.{◌≡◌, ℕ, ◌-◌, ◌^◌, Bool, List, [], ◌∷◌, ◌++◌, Ok, Err, Result}
use Rattle.text.specs.declared.refusals.Fault.{Fault}
use Rattle.machine.specs.declared.events.Event.{Event}
use Rattle.machine.specs.declared.runs.Ran.{Ran}
use Rattle.calls.specs.declared.links.MarkedRun.{MarkedRun}
use Rattle.calls.specs.Calls.{Model, new, load, push, end}
use Rattle.calls.specs.Steps.{held, link, resolve}
use Rattle.punctuation.specs.RangeLists.{range_member}
use Rattle.recorded_answers.specs.declared.lines.RecordedNote.{RecordedNote}
use Rattle.recorded_answers.specs.declared.records.Push.{Push}
use Rattle.recorded_answers.specs.Agreement.{Said, said}
use Rattle.recorded_answers.specs.Sets.{set_numbers}

-- an answer in front of those that follow
abbrev pub in_front : Ran → Result (Model × List Ran) Fault → Result (Model × List Ran) Fault
in_front r (Ok x) = Ok (x.0, r ∷ x.1)
in_front r (Err f) = Err f

-- a call, and what follows unless it is refused
abbrev pub then_on : Model × Result Ran Fault → (Model → Result (Model × List Ran) Fault) → Result (Model × List Ran) Fault
then_on (m, Ok r) rest = in_front r (rest m)
then_on (m, Err f) rest = Err f

-- what the reader becomes and what the pushes answer, made in turn
abbrev pub pushes_made : (ℕ → Bool) → Model → List Push → Result (Model × List Ran) Fault
pushes_made member m [] = Ok (m, [])
pushes_made member m (p ∷ ps) = then_on (push member m p.to p.allowance) (λ next. pushes_made member next ps)

-- a link, and what follows unless it is refused
abbrev pub once_marked : Model × Result (Unit {0}) Fault → (Model → Result Model Fault) → Result Model Fault
once_marked (m, Ok done) rest = rest m
once_marked (m, Err f) rest = Err f

-- what the reader becomes where links are marked in turn
abbrev pub links_marked : Model → List MarkedRun → Result Model Fault
links_marked m [] = Ok m
links_marked m (l ∷ ls) = once_marked (link m l.first l.last) (λ next. links_marked next ls)

abbrev pub held_then : Model × Result (Unit {0}) Fault → Result (List Event) Fault
held_then (m, Ok done) = Ok (held m)
held_then (m, Err f) = Err f

abbrev pub resolve_made : Result Model Fault → Result (List Event) Fault
resolve_made (Ok m) = held_then (resolve m)
resolve_made (Err f) = Err f

-- the events once links are marked in turn and resolved
abbrev pub resolving : Model → List MarkedRun → Result (List Event) Fault
resolving m ls = resolve_made (links_marked m ls)

abbrev pub with_resolved : List Ran → List Event → Result (List Event) Fault → Result Said Fault
with_resolved rs es (Ok resolved) = Ok (record { runs = rs; events = es; resolved = resolved })
with_resolved rs es (Err f) = Err f

abbrev pub closing : List MarkedRun → List Ran → Model × Result Ran Fault → Result Said Fault
closing ls rs (m, Ok r) = with_resolved (rs ++ r ∷ []) (held m) (resolving m ls)
closing ls rs (m, Err f) = Err f

abbrev pub end_made : (ℕ → Bool) → List MarkedRun → Result (Model × List Ran) Fault → Result Said Fault
end_made member ls (Ok x) = closing ls x.1 (end member x.0 (2 ^ 64 - 1))
end_made member ls (Err f) = Err f

abbrev pub reading : (ℕ → Bool) → List Push → List MarkedRun → Model × Result (Unit {0}) Fault → Result Said Fault
reading member ps ls (m, Ok done) = end_made member ls (pushes_made member m ps)
reading member ps ls (m, Err f) = Err f

-- a new reader with this set takes the note
abbrev pub replayed : (ℕ → Bool) → List ℕ → List Push → List MarkedRun → Result Said Fault
replayed member s ps ls = reading member ps ls (load new s)

-- by the definition of the calls, a reader answers what is recorded
abbrev pub IsAnsweredAsRecorded : RecordedNote → Type 0
IsAnsweredAsRecorded r =
    replayed (range_member (set_numbers r.set)) r.note.items r.pushes.items r.links.items ≡ Ok (said r.answers)
