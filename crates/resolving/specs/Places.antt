-- Events that stand at their places in a note, and in order.
-- Assumes nothing.
use Rattle.std.specs.Prelude.{◌≡◌, ℕ, ◌<◌, ◌≤◌, true, false, List, [], ◌∷◌, length}
use Rattle.std.specs.List.{AllByRecursion}
use Rattle.text.specs.Places.{point_at}
use Rattle.machine.specs.declared.events.Event.{Event}
use Rattle.calls.specs.EventLists.{is_link}

-- the point is the place that the walk gives its byte
abbrev pub AtItsPlace : List ℕ → Event → Type 0
AtItsPlace note e = e.point ≡ point_at note e.point.index

abbrev pub AllPlaced : List ℕ → List Event → Type 0
AllPlaced note es = AllByRecursion (AtItsPlace note) es

-- but for those of links, the events are pairs, an enter and an exit: of spans in text order, from byte `from` on, none of them empty
abbrev pub PairsInOrder : List ℕ → ℕ → List Event → Type 0
PairsInOrder note from [] = Unit {0}
PairsInOrder note from (a ∷ []) = Unit {0}
PairsInOrder note from (a ∷ b ∷ es) =
    (is_link a.name ≡ true → PairsInOrder note from (b ∷ es))
    × (is_link a.name ≡ false →
    AtItsPlace note a × (from ≤ a.point.index) × (a.point.index < b.point.index) × (b.point.index ≤ length note) × PairsInOrder note b.point.index es)
