-- A note cut into web spans, line endings and data, and the addresses in these.
-- Assumes nothing.
use Rattle.std.specs.Prelude.{ℕ, zero, suc, ◌+◌, Bool, false, cond, ◌&&◌, ◌||◌, List, [], ◌∷◌, ◌++◌, map, length, ◌==◌, nat_lt, slice_index}
use Rattle.text.specs.declared.spans.Span.{Span}
use Rattle.text.specs.declared.spans.SpanKind.{SpanKind}
use Rattle.text.specs.Bytes.{part, first}
use Rattle.rules.specs.Mail.{addresses}
use Rattle.rules.specs.Notes.{line_ending_byte, moved}
use Rattle.rules.specs.Web.{links}

pub data SegmentKind : Type 0 where
  Data : SegmentKind
  LineEnding : SegmentKind
  Web : SpanKind → SegmentKind

-- the bytes from `from` to `to` − 1
pub record Segment : Type 0 where
  pub kind : SegmentKind
  pub from : ℕ
  pub to : ℕ

abbrev pub segment : SegmentKind → ℕ → ℕ → Segment
segment kind from to = record { kind = kind; from = from; to = to }

-- ---- the segments of a note

-- a line ending is CR LF, or a CR or an LF alone
abbrev pub line_ending_end : List ℕ → ℕ → ℕ
line_ending_end s i = cond (slice_index s i == 13 && slice_index s (i + 1) == 10) (i + 2) (i + 1)

abbrev pub line_ending_at : List ℕ → ℕ → Bool
line_ending_at s i = line_ending_byte (slice_index s i)

-- the first of the spans begins at i
abbrev pub begins : List Span → ℕ → Bool
begins [] i = false
begins (x ∷ xs) i = x.from == i

-- the line ending at i, or the data from i up to the next line ending or web span; no web span begins at i, and xs are those beyond
abbrev pub between : List ℕ → List Span → ℕ → Segment
between s xs i =
    cond (line_ending_at s i) (segment LineEnding i (line_ending_end s i))
    (segment Data i (first (λ j. line_ending_at s j || begins xs j) s (i + 1)))

-- the segments from i on, where xs are the web spans from there on: at most n
abbrev pub cut_from : List ℕ → ℕ → List Span → ℕ → List Segment
cut_from s zero xs i = []
cut_from s (suc n) [] i = cond (nat_lt i (length s)) (between s [] i ∷ cut_from s n [] (between s [] i).to) []
cut_from s (suc n) (x ∷ xs) i =
    cond (nat_lt i (length s))
    (cond (x.from == i) (segment (Web x.kind) i x.to ∷ cut_from s n xs x.to) (between s (x ∷ xs) i ∷ cut_from s n (x ∷ xs) (between s (x ∷ xs) i).to))
    []

-- no segment is empty, so there are no more of them than the note has bytes
abbrev pub cut : List ℕ → List Span → List Segment
cut s xs = cut_from s (length s) xs 0

abbrev pub segments : (ℕ → Bool) → List ℕ → List Segment
segments member s = cut s (links member s)

-- ---- the addresses of a note

-- web spans as they are, and the mail addresses of data, with places counted in the note
abbrev pub spans_of : List ℕ → SegmentKind → ℕ → ℕ → List Span
spans_of s Data from to = map (moved from) (addresses (part from to s))
spans_of s LineEnding from to = []
spans_of s (Web kind) from to = record { kind = kind; from = from; to = to } ∷ []

abbrev pub spans_in : List ℕ → List Segment → List Span
spans_in s [] = []
spans_in s (x ∷ xs) = spans_of s x.kind x.from x.to ++ spans_in s xs

-- all web spans and mail addresses, in text order
abbrev pub note_spans : (ℕ → Bool) → List ℕ → List Span
note_spans member s = spans_in s (segments member s)
