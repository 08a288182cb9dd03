-- The listing: a line for each event.
-- Assumes nothing.
use Rattle.std.specs.Prelude.{◌≡◌, ℕ, List, [], ◌∷◌, ◌++◌, length, codes, count_by, decimal, ◌==◌}
use Rattle.text.specs.Shown.{kind_shown}
use Rattle.machine.specs.declared.events.Event.{Event}
use Rattle.machine.specs.declared.events.EventKind.{EventKind}
use Rattle.machine.specs.declared.events.EventKind.TheVariants.{Enter, Exit}
use Rattle.machine.specs.declared.events.Name.{Name}
use Rattle.machine.specs.declared.events.Name.TheVariants as name

abbrev pub edge_shown : EventKind → List ℕ
edge_shown Enter = codes "enter"
edge_shown Exit = codes "exit"

abbrev pub name_shown : Name → List ℕ
name_shown name.Data = codes "data"
name_shown name.LineEnding = codes "line-ending"
name_shown name.Link = codes "link"
name_shown (name.Address kind) = kind_shown kind

-- as `enter www 1:3 2`
abbrev pub event_shown : Event → List ℕ
event_shown e =
    edge_shown e.kind ++ (codes " " ++ (name_shown e.name ++ (codes " " ++ (decimal e.point.line ++ (codes ":"
    ++ (decimal e.point.column ++ (codes " " ++ decimal e.point.index)))))))

abbrev pub newline : List ℕ
newline = codes "\n"

abbrev pub event_lines : List Event → List ℕ
event_lines [] = []
event_lines (e ∷ es) = (event_shown e ++ newline) ++ event_lines es

-- each event has its line, and no line is without an event
abbrev pub ALineForEachEvent : List Event → Type 0
ALineForEachEvent es = count_by (λ b. b == 10) (event_lines es) ≡ length es
