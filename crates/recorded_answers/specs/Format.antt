-- The numbers of a line, in their sequence: compare/README.md, the fixed list.
-- Assumes nothing.
use Rattle.std.specs.Prelude.{ℕ, Bool, true, false, List, [], ◌∷◌, ◌++◌, length}
use Rattle.std.specs.List.{flat_map}
use Rattle.text.specs.declared.spans.SpanKind.TheVariants.{Www, Protocol, Email, Mailto, Xmpp}
use Rattle.machine.specs.declared.events.Event.{Event}
use Rattle.machine.specs.declared.events.EventKind.{EventKind}
use Rattle.machine.specs.declared.events.EventKind.TheVariants.{Enter, Exit}
use Rattle.machine.specs.declared.events.Name.{Name}
use Rattle.machine.specs.declared.events.Name.TheVariants.{Data, LineEnding, Link, Address}
use Rattle.machine.specs.declared.runs.Ran.{Ran}
use Rattle.calls.specs.declared.links.MarkedRun.{MarkedRun}
use Rattle.recorded_answers.specs.declared.lines.RecordedNote.{RecordedNote}
use Rattle.recorded_answers.specs.declared.records.Push.{Push}
use Rattle.recorded_answers.specs.declared.sets.ListedSet.{ListedSet}
use Rattle.recorded_answers.specs.declared.sets.ListedSet.TheVariants as set
use Rattle.recorded_answers.specs.Agreement.{Said, said}

abbrev pub set_number : ListedSet → ℕ
set_number set.Empty = 0
set_number set.House = 1
set_number set.Replacement = 2
set_number set.Many = 3

abbrev pub done_number : Bool → ℕ
done_number false = 0
done_number true = 1

abbrev pub kind_number : EventKind → ℕ
kind_number Enter = 0
kind_number Exit = 1

abbrev pub name_number : Name → ℕ
name_number Data = 0
name_number LineEnding = 1
name_number Link = 2
name_number (Address Www) = 3
name_number (Address Protocol) = 4
name_number (Address Email) = 5
name_number (Address Mailto) = 6
name_number (Address Xmpp) = 7

abbrev pub push_numbers : Push → List ℕ
push_numbers p = p.to ∷ p.allowance ∷ []

abbrev pub ran_numbers : Ran → List ℕ
ran_numbers r = r.steps ∷ done_number r.done ∷ []

abbrev pub event_numbers : Event → List ℕ
event_numbers e =
    kind_number e.kind ∷ name_number e.name ∷ e.point.line ∷ e.point.column ∷ e.point.index ∷ e.point.vs ∷ []

abbrev pub link_numbers : MarkedRun → List ℕ
link_numbers l = l.first ∷ l.last ∷ []

-- how many there are, then the numbers of each
abbrev pub counted_numbers : {T : Type 0} → (T → List ℕ) → List T → List ℕ
counted_numbers numbers xs = length xs ∷ flat_map numbers xs

-- what the calls answered, then the events at the end and the resolved ones
abbrev pub answer_numbers : Said → List ℕ
answer_numbers a =
    flat_map ran_numbers a.runs ++ (counted_numbers event_numbers a.events ++ counted_numbers event_numbers a.resolved)

-- all numbers of a line: the set, the pushes, the links, the number of the numbers that follow
abbrev pub line_numbers : RecordedNote → List ℕ
line_numbers r =
    set_number r.set ∷ (counted_numbers push_numbers r.pushes.items
    ++ (counted_numbers link_numbers r.links.items
    ++ (length (answer_numbers (said r.answers)) ∷ answer_numbers (said r.answers))))
