-- The spans that a rule finds in a text, one after another.
-- A rule says which span, if any, it gives at a place; it is told where the span before ended.
-- Assumes nothing.
use Rattle.std.specs.Prelude.{◌≡◌, ℕ, zero, suc, ◌<◌, ◌≤◌, List, [], ◌∷◌, length, is_some, Some, None, Option}
use Rattle.text.specs.declared.spans.Span.{Span}
use Rattle.text.specs.Bytes.{first}

abbrev pub Rule : Type 0
Rule = ℕ → ℕ → Option Span

-- what p gives at the first place from i on where it gives something
abbrev pub found : (ℕ → Option Span) → List ℕ → ℕ → Option Span
found p s i = p (first (λ j. is_some (p j)) s i)

-- the next span after one that ended at c
abbrev pub next : Rule → List ℕ → ℕ → Option Span
next rule s c = found (rule c) s c

-- o, or else what follows
abbrev pub or_else : Option Span → Option Span → Option Span
or_else None later = later
or_else (Some x) later = Some x

abbrev pub then_from_its_end : (ℕ → List Span) → Option Span → List Span
then_from_its_end rest None = []
then_from_its_end rest (Some x) = x ∷ rest x.to

-- at most n spans: the next one from c on, then the next from its end on, and so on
abbrev pub in_turn : Rule → List ℕ → ℕ → ℕ → List Span
in_turn rule s zero c = []
in_turn rule s (suc n) c = then_from_its_end (in_turn rule s n) (next rule s c)

-- all of them: no rule gives more spans than the text has bytes, since each ends beyond the place where it was looked for
abbrev pub all : Rule → List ℕ → List Span
all rule s = in_turn rule s (length s) 0

-- ---- the same in the words of the rules, and what follows

-- none is missed and none is added: x is what the rule gives at some place k from c on, it gives nothing between c and k,
-- and so on from the end of x; after the last it gives nothing
abbrev pub FoundInTurn : Rule → ℕ → List Span → Type 0
FoundInTurn rule c [] = (k : ℕ) → c ≤ k → rule c k ≡ None
FoundInTurn rule c (x ∷ xs) =
    ((k : ℕ) × ((c ≤ k) × (((j : ℕ) → c ≤ j → j < k → rule c j ≡ None) × (rule c k ≡ Some x)))) × FoundInTurn rule x.to xs

-- no span is empty, and each begins at or after the end of the one before; the first at or after c
abbrev pub InTextOrder : ℕ → List Span → Type 0
InTextOrder c [] = Unit {0}
InTextOrder c (x ∷ xs) = ((c ≤ x.from) × (x.from < x.to)) × InTextOrder x.to xs
