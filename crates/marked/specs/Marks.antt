-- The marks as edits of a note.
-- Assumes nothing.
use Rattle.std.specs.Prelude.{ℕ, ◌≤◌, List, [], ◌∷◌}
use Rattle.text.specs.declared.spans.Span.{Span}
use Rattle.edit_map.specs.declared.entries.Side.TheVariants.{Front}
use Rattle.edit_map.specs.Edits.{Edit, put}
use Rattle.marked.specs.Marked.{opening, closing}

-- the spans lie one after another between c and len
abbrev pub IsInTurn : ℕ → ℕ → List Span → Type 0
IsInTurn c len [] = Unit {0}
IsInTurn c len (x ∷ xs) = (c ≤ x.from) × (x.from ≤ x.to) × (x.to ≤ len) × IsInTurn x.to len xs

-- the batch with the two marks of x, the later one first
abbrev pub with_marks : Span → List (Edit ℕ) → List (Edit ℕ)
with_marks x es = put Front x.from 0 (opening x.kind) (put Front x.to 0 closing es)

-- the marks of all spans
abbrev pub marks : List Span → List (Edit ℕ)
marks [] = []
marks (x ∷ xs) = with_marks x (marks xs)
