-- The walk: the line and column of each byte of a note, and of its end.
-- Assumes nothing.
use Rattle.std.specs.Prelude.{◌≡◌, ℕ, zero, suc, ◌+◌, ◌-◌, ◌*◌, ◌/◌, ◌%◌, ◌<◌, ◌≤◌, Bool, cond, not, ◌&&◌, ◌||◌, List, length, Ok, Err, Result, ◌==◌, nat_le, slice_index}
use Rattle.text.specs.Notes.{too_long}
use Rattle.text.specs.declared.places.Point.{Point}
use Rattle.text.specs.declared.refusals.Fault.{Fault}
use Rattle.text.specs.declared.refusals.Fault.TheVariants.{NoteTooLong, TargetOutOfRange}

pub record Place : Type 0 where
  pub line : ℕ
  pub column : ℕ

-- a tab fills up to the next column of the form 4k + 1
abbrev pub after_tab : ℕ → ℕ
after_tab column = 4 * ((column + 3) / 4) + 1

-- a CR that stands before an LF is passed over: the LF alone ends the line
abbrev pub passed_over : ℕ → ℕ → Bool
passed_over b next = b == 13 && next == 10

-- an LF, or a CR that is not passed over
abbrev pub ends_line : ℕ → ℕ → Bool
ends_line b next = b == 10 || (b == 13 && not (next == 10))

-- the place after the byte b, where the byte after it is next
abbrev pub past : ℕ → ℕ → Place → Place
past b next p = record {
  line = cond (ends_line b next) (p.line + 1) p.line;
  column = cond (ends_line b next) 1 (cond (passed_over b next) p.column (cond (b == 9) (after_tab p.column) (p.column + 1)));
}

-- the place n bytes on from i, where the place of i is p
abbrev pub walked : List ℕ → ℕ → Place → ℕ → Place
walked s i p zero = p
walked s i p (suc n) = past (slice_index s (i + n)) (slice_index s (i + n + 1)) (walked s i p n)

-- line 1, column 1
abbrev pub start : Place
start = record { line = 1; column = 1 }

-- the place of byte i, or of the end where i is the length
abbrev pub place_at : List ℕ → ℕ → Place
place_at s i = walked s 0 start i

-- the point at byte i with that place; no column of a tab has been shown
abbrev pub point : Place → ℕ → Point
point p i = record { line = p.line; column = p.column; index = i; vs = 0 }

abbrev pub point_at : List ℕ → ℕ → Point
point_at s i = point (place_at s i) i

-- ---- the call that moves a point on

abbrev pub place_of : Point → Place
place_of p = record { line = p.line; column = p.column }

abbrev pub shifted : List ℕ → Point → ℕ → Point
shifted s p i = point (walked s p.index (place_of p) (i - p.index)) i

-- no point of a note exceeds this: 1,024 line endings, and 1,024 tabs
abbrev pub within_a_note : Point → Bool
within_a_note p = nat_le p.line 1025 && nat_le p.column 4097 && p.vs == 0

-- a target before the point or past the end is refused, and a point that no note has
abbrev pub checked_target : Point → ℕ → ℕ → Result (Unit {0}) Fault
checked_target p i length = cond (nat_le p.index i && nat_le i length && within_a_note p) (Ok tt) (Err TargetOutOfRange)

-- the point moved on, or the refusal
abbrev pub moved_on : Result (Unit {0}) Fault → Point → Result Point Fault
moved_on (Ok u) p = Ok p
moved_on (Err f) p = Err f

abbrev pub shift_answer : List ℕ → Point → ℕ → Result Point Fault
shift_answer s p i = cond (too_long s) (Err NoteTooLong) (moved_on (checked_target p i (length s)) (shifted s p i))

-- ---- what holds of places

-- how many lines end before byte i
abbrev pub line_endings_before : List ℕ → ℕ → ℕ
line_endings_before s zero = 0
line_endings_before s (suc i) = line_endings_before s i + cond (ends_line (slice_index s i) (slice_index s (i + 1))) 1 0

-- the line is one more than the line endings before
abbrev pub LineCountsLineEndings : List ℕ → Type 0
LineCountsLineEndings s = (i : ℕ) → (place_at s i).line ≡ line_endings_before s i + 1

-- the column after a tab has the form 4k + 1, and lies one to four columns on
abbrev pub TabsFillUp : List ℕ → Type 0
TabsFillUp s =
    (i : ℕ) → slice_index s i ≡ 9 →
    ((place_at s (i + 1)).column % 4 ≡ 1) × (((place_at s i).column < (place_at s (i + 1)).column) × ((place_at s (i + 1)).column ≤ (place_at s i).column + 4))

-- a point that is the place of its byte is moved to the place of the byte asked for
abbrev pub LeadsToPlaces : List ℕ → Point → ℕ → Result Point Fault → Type 0
LeadsToPlaces s p i r = length s ≤ 1024 → p ≡ point_at s p.index → p.index ≤ i → i ≤ length s → r ≡ Ok (point_at s i)
