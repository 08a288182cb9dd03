-- The mail addresses of a note: those of the data of each of its lines, with places counted in the note.
-- Assumes nothing.
use Rattle.std.specs.Prelude.{ℕ, zero, suc, ◌+◌, Bool, cond, List, [], ◌∷◌, ◌++◌, map, length, Err, Result, nat_lt, slice_index}
use Rattle.text.specs.declared.refusals.Fault.{Fault}
use Rattle.text.specs.declared.refusals.Fault.TheVariants.{NoteTooLong}
use Rattle.text.specs.declared.spans.Span.{Span}
use Rattle.text.specs.Bytes.{among, part, first}
use Rattle.text.specs.Notes.{too_long}
use Rattle.text.specs.Lent.{written_count, overwritten}
use Rattle.rules.specs.Mail.{addresses, addresses_left}

-- CR and LF: a line's data holds neither
abbrev pub line_ending_byte : ℕ → Bool
line_ending_byte b = among (13 ∷ 10 ∷ []) b

-- where the data of the line from i on stops
abbrev pub line_stop : List ℕ → ℕ → ℕ
line_stop s i = first (λ j. line_ending_byte (slice_index s j)) s i

-- the same span where its data begins at byte i of the note
abbrev pub moved : ℕ → Span → Span
moved i x = record { kind = x.kind; from = i + x.from; to = i + x.to }

abbrev pub line_addresses : List ℕ → ℕ → List Span
line_addresses s i = map (moved i) (addresses (part i (line_stop s i) s))

-- those of at most n lines, the first from i on. Between CR and LF lies a line of no bytes, which holds none
abbrev pub lines_from : List ℕ → ℕ → ℕ → List Span
lines_from s zero i = []
lines_from s (suc n) i = cond (nat_lt i (length s)) (line_addresses s i ++ lines_from s n (line_stop s i + 1)) []

-- no note has more lines with bytes in them than it has bytes
abbrev pub note_addresses : List ℕ → List Span
note_addresses s = lines_from s (length s) 0

-- those that are left where the line at i, with its data, has given those up to its byte c
abbrev pub note_addresses_left : List ℕ → ℕ → List ℕ → ℕ → List Span
note_addresses_left s i line c = map (moved i) (addresses_left line c) ++ lines_from s (length s) (i + length line + 1)

-- what the call answers, and what the lent slice holds then
abbrev pub note_answer : List ℕ → List Span → Result ℕ Fault
note_answer s lent = cond (too_long s) (Err NoteTooLong) (written_count (note_addresses s) lent)

abbrev pub note_written : List ℕ → List Span → List Span
note_written s lent = cond (too_long s) lent (overwritten (note_addresses s) lent)
