-- What an event list says: its spans, whether each exit closes an enter, and whether each point is right.
-- A span is a Segment of the machine's laws: a name, and the bytes from `from` to `to` − 1.
-- Assumes nothing.
use Rattle.std.specs.Prelude.{◌≡◌, ℕ, suc, ◌≤◌, Bool, true, false, cond, not, ◌&&◌, List, [], ◌∷◌, ◌++◌, length, filter, ◌==◌, nat_le, nat_lt}
use Rattle.std.specs.List.{AllByRecursion}
use Rattle.text.specs.Places.{point_at}
use Rattle.rules.specs.Web.{is_web}
use Rattle.machine.specs.declared.events.Event.{Event}
use Rattle.machine.specs.declared.events.EventKind.{EventKind}
use Rattle.machine.specs.declared.events.EventKind.TheVariants.{Enter, Exit}
use Rattle.machine.specs.declared.events.Name.{Name}
use Rattle.machine.specs.declared.events.Name.TheVariants as name
use Rattle.machine.specs.Invariant.{Edge}
use Rattle.machine.specs.Joins.{is_data}
use Rattle.machine.specs.Laws.{Segment, same_name}

abbrev pub span : Name → ℕ → ℕ → Segment
span name from to = record { name = name; from = from; to = to }

-- ---- names

abbrev pub is_line_ending : Name → Bool
is_line_ending name.Data = false
is_line_ending name.LineEnding = true
is_line_ending name.Link = false
is_line_ending (name.Address kind) = false

abbrev pub is_link : Name → Bool
is_link name.Data = false
is_link name.LineEnding = false
is_link name.Link = true
is_link (name.Address kind) = false

abbrev pub is_web_address : Name → Bool
is_web_address name.Data = false
is_web_address name.LineEnding = false
is_web_address name.Link = false
is_web_address (name.Address kind) = is_web kind

abbrev pub is_mail_address : Name → Bool
is_mail_address name.Data = false
is_mail_address name.LineEnding = false
is_mail_address name.Link = false
is_mail_address (name.Address kind) = not (is_web kind)

-- ---- enters and exits, each with the enters still open before it, the latest first

-- the enters still open after e, which has this kind
abbrev pub open_then : EventKind → List Event → Event → List Event
open_then Enter still e = e ∷ still
open_then Exit [] e = []
open_then Exit (o ∷ still) e = still

-- an exit closes the latest enter still open, and the span is not empty
abbrev pub closes : EventKind → List Event → Event → Bool
closes Enter still e = true
closes Exit [] e = false
closes Exit (o ∷ still) e = same_name o.name e.name && nat_lt o.point.index e.point.index

abbrev pub nests : List Event → List Event → Bool
nests still [] = true
nests still (e ∷ es) = closes e.kind still e && nests (open_then e.kind still e) es

-- the enters still open after all events
abbrev pub open_last : List Event → List Event → List Event
open_last still [] = still
open_last still (e ∷ es) = open_last (open_then e.kind still e) es

-- only a Link span holds other spans, and no Link is among those
abbrev pub stands_right : EventKind → List Event → Event → Bool
stands_right Enter [] e = true
stands_right Enter (o ∷ still) e = is_link o.name && not (is_link e.name)
stands_right Exit still e = true

abbrev pub only_links_hold : List Event → List Event → Bool
only_links_hold still [] = true
only_links_hold still (e ∷ es) = stands_right e.kind still e && only_links_hold (open_then e.kind still e) es

-- ---- spans: an enter with the exit that closes it, in the order of the exits

abbrev pub closed_by : EventKind → List Event → Event → List Segment
closed_by Enter still e = []
closed_by Exit [] e = []
closed_by Exit (o ∷ still) e = span o.name o.point.index e.point.index ∷ []

abbrev pub spans_from : List Event → List Event → List Segment
spans_from still [] = []
spans_from still (e ∷ es) = closed_by e.kind still e ++ spans_from (open_then e.kind still e) es

abbrev pub spans : List Event → List Segment
spans es = spans_from [] es

-- those with a name of this sort
abbrev pub with_name : (Name → Bool) → List Segment → List Segment
with_name p xs = filter (λ x. p x.name) xs

-- all spans but Link spans
abbrev pub leaves : List Event → List Segment
leaves es = with_name (λ n. not (is_link n)) (spans es)

-- ---- where spans and events stand

-- each span begins where the one before ends, or later
abbrev pub in_order : ℕ → List Segment → Bool
in_order a [] = true
in_order a (x ∷ xs) = nat_le a x.from && in_order x.to xs

-- x is Data, and the next span is Data and begins where x ends
abbrev pub touches : Segment → List Segment → Bool
touches x [] = false
touches x (y ∷ ys) = is_data x.name && is_data y.name && x.to == y.from

abbrev pub data_apart : List Segment → Bool
data_apart [] = true
data_apart (x ∷ xs) = not (touches x xs) && data_apart xs

-- how many of the spans have the byte i
abbrev pub holding : List Segment → ℕ → ℕ
holding [] i = 0
holding (x ∷ xs) i = cond (nat_le x.from i && nat_lt i x.to) (suc (holding xs i)) (holding xs i)

-- no event stands before the one before it
abbrev pub goes_forward : ℕ → List Event → Bool
goes_forward a [] = true
goes_forward a (e ∷ es) = nat_le a e.point.index && goes_forward e.point.index es

-- ---- what holds of every event list that a reader holds

-- the point is the place that the walk gives its byte, or the end; and it is not between CR and LF, which have one place
pub record Placed (note : List ℕ) (e : Event) : Type 0 where
  pub inside : e.point.index ≤ length note
  pub at_its_place : e.point ≡ point_at note e.point.index
  pub not_between : Edge note e.point.index

-- every exit closes the latest enter still open, no span is empty, and each point is right
pub record LawfulEvents (note : List ℕ) (es : List Event) : Type 0 where
  pub nested : nests [] es ≡ true
  pub placed : AllByRecursion (Placed note) es
