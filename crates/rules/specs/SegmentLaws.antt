-- What holds of the segments of a note, and of no other cut.
-- Assumes nothing.
use Rattle.std.specs.Prelude.{◌≡◌, ℕ, suc, ◌<◌, ◌≤◌, Bool, true, false, cond, ◌&&◌, ◌⊎◌, List, [], ◌∷◌, ◌++◌, length, nat_le, nat_lt}
use Rattle.std.specs.List.{AllByRecursion}
use Rattle.text.specs.declared.spans.Span.{Span}
use Rattle.rules.specs.InTurn.{InTextOrder}
use Rattle.rules.specs.MailLaws.{Address}
use Rattle.rules.specs.Segments.{SegmentKind, Data, LineEnding, Web, Segment, line_ending_at, line_ending_end, segments, note_spans}
use Rattle.rules.specs.Web.{links}
use Rattle.rules.specs.WebLaws.{WebSpan}

-- no segment is empty, and each begins where the one before ends: from a to b
abbrev pub OneAfterAnother : ℕ → ℕ → List Segment → Type 0
OneAfterAnother a b [] = a ≡ b
OneAfterAnother a b (x ∷ xs) = (x.from ≡ a) × ((a < x.to) × OneAfterAnother x.to b xs)

-- how many of the segments have the byte i
abbrev pub holding : List Segment → ℕ → ℕ
holding [] i = 0
holding (x ∷ xs) i = cond (nat_le x.from i && nat_lt i x.to) (suc (holding xs i)) (holding xs i)

-- data has no byte of a line ending, and a line ending is a whole one
abbrev pub RightFor : SegmentKind → List ℕ → ℕ → ℕ → Type 0
RightFor Data s a b = (j : ℕ) → a ≤ j → j < b → line_ending_at s j ≡ false
RightFor LineEnding s a b = (line_ending_at s a ≡ true) × (b ≡ line_ending_end s a)
RightFor (Web kind) s a b = Unit {0}

abbrev pub Right : List ℕ → Segment → Type 0
Right s x = RightFor x.kind s x.from x.to

abbrev pub is_data : SegmentKind → Bool
is_data Data = true
is_data LineEnding = false
is_data (Web kind) = false

abbrev pub data_first : List Segment → Bool
data_first [] = false
data_first (x ∷ xs) = is_data x.kind

-- no data follows on data, so each of data is a longest run
abbrev pub DataApart : List Segment → Type 0
DataApart [] = Unit {0}
DataApart (x ∷ xs) = ((is_data x.kind && data_first xs) ≡ false) × DataApart xs

-- the web spans among the segments
abbrev pub web_span_of : SegmentKind → ℕ → ℕ → List Span
web_span_of Data from to = []
web_span_of LineEnding from to = []
web_span_of (Web kind) from to = record { kind = kind; from = from; to = to } ∷ []

abbrev pub web_spans : List Segment → List Span
web_spans [] = []
web_spans (x ∷ xs) = web_span_of x.kind x.from x.to ++ web_spans xs

-- the web spans that the rules name, the line endings, and the longest runs of the other bytes, one after another
pub record Canonical (member : ℕ → Bool) (s : List ℕ) (xs : List Segment) : Type 0 where
  pub cover : OneAfterAnother 0 (length s) xs
  pub web : web_spans xs ≡ links member s
  pub right : AllByRecursion (Right s) xs
  pub apart : DataApart xs

-- of every note, with every punctuation set: its segments are canonical, each byte lies in exactly one of them,
-- there are no more of them than bytes, and no other segments are canonical
pub record LawfulSegments (member : ℕ → Bool) (s : List ℕ) : Type 0 where
  pub canonical : Canonical member s (segments member s)
  pub each_byte_once : (i : ℕ) → i < length s → holding (segments member s) i ≡ 1
  pub few : length (segments member s) ≤ length s
  pub no_other : (xs : List Segment) → Canonical member s xs → xs ≡ segments member s

abbrev pub SegmentsAreLawful : Type 0
SegmentsAreLawful = (member : ℕ → Bool) (s : List ℕ) → LawfulSegments member s

-- all web spans and mail addresses of the note together are in text order, do not overlap and are not empty,
-- and each is a web span or a mail address
pub record LawfulSpans (member : ℕ → Bool) (s : List ℕ) : Type 0 where
  pub in_text_order : InTextOrder 0 (note_spans member s)
  pub known : AllByRecursion (λ x. WebSpan member s x ⊎ Address s x) (note_spans member s)

abbrev pub SpansAreLawful : Type 0
SpansAreLawful = (member : ℕ → Bool) (s : List ℕ) → LawfulSpans member s
