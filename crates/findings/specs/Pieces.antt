-- The segments of a note as the machine leaves them, before neighbouring data is joined; and the events of segments.
-- Assumes nothing.
use Rattle.std.specs.Prelude.{ℕ, zero, suc, ◌+◌, Bool, cond, List, [], ◌∷◌, map, length, Some, None, codes, Option, nat_lt, slice_index}
use Rattle.text.specs.declared.spans.Span.{Span}
use Rattle.text.specs.Bytes.{among, first}
use Rattle.rules.specs.Segments.{SegmentKind, Data, LineEnding, Web, Segment, segment, line_ending_at, line_ending_end}
use Rattle.rules.specs.Web.{link_at}
use Rattle.machine.specs.declared.events.Event.{Event}
use Rattle.machine.specs.declared.events.Name.{Name}
use Rattle.machine.specs.declared.events.Name.TheVariants as name
use Rattle.machine.specs.Laws as laws

-- ---- pieces: data is cut in front of each h and w, and line endings

abbrev pub cuts_data : ℕ → Bool
cuts_data b = among (10 ∷ 13 ∷ codes "HhWw") b

-- the first place from i on where data is cut
abbrev pub data_end : List ℕ → ℕ → ℕ
data_end s i = first (λ j. cuts_data (slice_index s j)) s i

-- what begins at i, where no web span does
abbrev pub plain_piece : List ℕ → ℕ → Segment
plain_piece s i = cond (line_ending_at s i) (segment LineEnding i (line_ending_end s i)) (segment Data i (data_end s (i + 1)))

abbrev pub piece : List ℕ → ℕ → Option Span → Segment
piece s i None = plain_piece s i
piece s i (Some x) = segment (Web x.kind) i x.to

-- from i on: at most n
abbrev pub pieces_from : (ℕ → Bool) → List ℕ → ℕ → ℕ → List Segment
pieces_from member s zero i = []
pieces_from member s (suc n) i =
    let x = piece s i (link_at member s i) in
    cond (nat_lt i (length s)) (x ∷ pieces_from member s n x.to) []

abbrev pub pieces : (ℕ → Bool) → List ℕ → List Segment
pieces member s = pieces_from member s (length s) 0

-- ---- events

abbrev pub name_for : SegmentKind → Name
name_for Data = name.Data
name_for LineEnding = name.LineEnding
name_for (Web kind) = name.Address kind

abbrev pub named : Segment → laws.Segment
named x = record { name = name_for x.kind; from = x.from; to = x.to }

-- the enter and the exit of each segment, each at the place of its byte
abbrev pub segment_events : List ℕ → List Segment → List Event
segment_events s xs = laws.events_of s (map named xs)
