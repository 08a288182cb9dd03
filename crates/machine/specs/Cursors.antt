-- Showing and consuming bytes: what a state is shown, where the point goes, and where an event stands.
-- Assumes nothing.
use Rattle.std.specs.Prelude.{ℕ, ◌+◌, ◌-◌, ◌%◌, Bool, cond, not, ◌&&◌, List, [], ◌∷◌, length, Some, None, Option, ◌==◌, nat_lt, slice_index}
use Rattle.text.specs.declared.places.Point.{Point}
use Rattle.text.specs.Bytes.{among}
use Rattle.text.specs.Places.{passed_over}
use Rattle.machine.specs.declared.cursors.Cursor.{Cursor}
use Rattle.machine.specs.declared.events.Event.{Event}
use Rattle.machine.specs.declared.events.EventKind.{EventKind}
use Rattle.machine.specs.declared.events.Name.{Name}

-- ---- CR LF

-- a CR stands at i, and an LF follows: the CR is passed over
abbrev pub crlf_at : List ℕ → ℕ → Bool
crlf_at s i = passed_over (slice_index s i) (slice_index s (i + 1))

-- past one byte, on the same line and column
abbrev pub next_index : Point → Point
next_index p = record { line = p.line; column = p.column; index = p.index + 1; vs = p.vs }

-- the number of the byte in front of which an event stands: the CR, if it was passed over
abbrev pub before_cr : List ℕ → ℕ → ℕ
before_cr s i = cond (nat_lt 0 i && crlf_at s (i - 1)) (i - 1) i

-- an event at the point
abbrev pub event : List ℕ → EventKind → Name → Point → Event
event s kind name p =
    record { kind = kind; name = name; point = record { line = p.line; column = p.column; index = before_cr s p.index; vs = p.vs } }

-- ---- showing

-- the byte b as it is shown where v columns of it have been shown: a lone CR as an LF, a tab as a tab and then spaces
abbrev pub shown_as : ℕ → ℕ → ℕ
shown_as v b = cond (b == 13) 10 (cond (b == 9 && nat_lt 0 v) 32 b)

-- what is shown at a point: nothing at the end of the note
abbrev pub shown_at : List ℕ → Point → Option ℕ
shown_at s p = cond (nat_lt p.index (length s)) (Some (shown_as p.vs (slice_index s p.index))) None

-- ---- consuming

-- an LF, or a CR, which is a lone one: another would have been passed over
abbrev pub line_end : ℕ → Bool
line_end b = among (10 ∷ 13 ∷ []) b

-- a tab goes on until its column is a multiple of four
abbrev pub tab_goes_on : ℕ → Point → Bool
tab_goes_on b p = b == 9 && not (p.column % 4 == 0)

-- the point past what is shown there
abbrev pub moved : List ℕ → Point → Point
moved s p =
    cond (line_end (slice_index s p.index)) (record { line = p.line + 1; column = 1; index = p.index + 1; vs = 0 })
    (cond (tab_goes_on (slice_index s p.index) p) (record { line = p.line; column = p.column + 1; index = p.index; vs = p.vs + 1 })
    (record { line = p.line; column = p.column + 1; index = p.index + 1; vs = 0 }))

-- what was shown is now the byte before; the end is never consumed
abbrev pub past_shown : List ℕ → Option ℕ → Cursor → Cursor
past_shown s None c = c
past_shown s (Some b) c = record { point = moved s c.point; previous = Some b; current = None }

abbrev pub consumed_at : List ℕ → Cursor → Cursor
consumed_at s c = past_shown s c.current c
