-- What the program prints of a note.
-- Assumes nothing.
use Rattle.std.specs.Prelude.{ℕ, ◌≤◌, cond, List, [], ◌∷◌, ◌++◌, length, codes, decimal, ◌==◌}
use Rattle.text.specs.declared.refusals.Fault.{Fault}
use Rattle.text.specs.declared.refusals.Fault.TheVariants.{NoteTooLong}
use Rattle.text.specs.declared.spans.Span.{Span}
use Rattle.text.specs.Bytes.{part}
use Rattle.text.specs.Shown.{refusal_shown, kind_shown}
use Rattle.text.specs.Notes.{too_long}
use Rattle.rules.specs.Notes.{note_addresses}
use Rattle.marked.specs.Marked.{marked_note}

-- x lies within the note
abbrev pub Within : List ℕ → Span → Type 0
Within s x = (x.from ≤ x.to) × (x.to ≤ length s)

abbrev pub newline : List ℕ
newline = codes "\n"

abbrev pub refusal_line : Fault → List ℕ
refusal_line f = refusal_shown f ++ newline

-- kind, from, to
abbrev pub head : Span → List ℕ
head x = kind_shown x.kind ++ (codes " " ++ (decimal x.from ++ (codes " " ++ (decimal x.to ++ codes " "))))

-- and the address itself
abbrev pub address_line : List ℕ → Span → List ℕ
address_line s x = head x ++ part x.from x.to s ++ newline

abbrev pub address_lines : List ℕ → List Span → List ℕ
address_lines s [] = []
address_lines s (x ∷ xs) = address_line s x ++ address_lines s xs

abbrev pub noun : ℕ → List ℕ → List ℕ → List ℕ
noun n one many = cond (n == 1) one many

-- as `2 addresses in 131 bytes`
abbrev pub summary : ℕ → ℕ → List ℕ
summary n bytes =
    decimal n ++ (codes " " ++ (noun n (codes "address") (codes "addresses") ++ (codes " in "
    ++ (decimal bytes ++ (codes " " ++ (noun bytes (codes "byte") (codes "bytes") ++ newline))))))

abbrev pub report : List ℕ → List ℕ
report s =
    cond (too_long s) (refusal_line NoteTooLong)
    (address_lines s (note_addresses s) ++ summary (length (note_addresses s)) (length s))

-- the marked copy, or the same line of a refusal
abbrev pub copy : List ℕ → List ℕ
copy s = cond (too_long s) (refusal_line NoteTooLong) (marked_note s)
