-- What holds of the machine at every moment of every run, whatever the punctuation set means at each step; and that it does not matter how a run is split.
-- Assumes nothing.
use Rattle.std.specs.Prelude.{◌≡◌, ℕ, ◌+◌, ◌*◌, ◌<◌, ◌≤◌, Bool, true, false, cond, not, ◌&&◌, ◌⊎◌, List, [], ◌∷◌, ◌++◌, length, Some, None, Option, ◌==◌, nat_le, nat_lt}
use Rattle.text.specs.declared.places.Point.{Point}
use Rattle.text.specs.declared.spans.SpanKind.{SpanKind}
use Rattle.text.specs.declared.spans.SpanKind.TheVariants.{Www, Protocol, Email, Mailto, Xmpp}
use Rattle.text.specs.Places.{place_at, point_at}
use Rattle.machine.specs.declared.attempts.Attempt.{Attempt}
use Rattle.machine.specs.declared.attempts.Progress.{Progress}
use Rattle.machine.specs.declared.cursors.Registers.{Registers}
use Rattle.machine.specs.declared.cursors.Until.{Until}
use Rattle.machine.specs.declared.cursors.Until.TheVariants.{Mark, End}
use Rattle.machine.specs.declared.events.Event.{Event}
use Rattle.machine.specs.declared.events.EventKind.{EventKind}
use Rattle.machine.specs.declared.events.EventKind.TheVariants.{Enter, Exit}
use Rattle.machine.specs.declared.events.Name.{Name}
use Rattle.machine.specs.declared.events.Name.TheVariants as name
use Rattle.machine.specs.Moves.{Machine}
use Rattle.machine.specs.Runs.{Outcome, beginning, plus, run}

-- ---- moments

-- a piece of work: a set meaning of its own, how far, and at most how many state calls
pub record Piece : Type 0 where
  pub member : ℕ → Bool
  pub until : Until
  pub allowance : ℕ

abbrev pub worked : List Piece → Machine → Machine
worked [] m = m
worked (p ∷ ps) m = worked ps (run p.member p.until p.allowance m).after

-- ---- spans that tile the text

-- the event at byte i, or at the end: its point is the place of that byte, and its vs is 0
abbrev pub event_at : List ℕ → EventKind → Name → ℕ → Event
event_at s kind name i = record { kind = kind; name = name; point = point_at s i }

-- the bytes from `from` to `to` − 1
pub record Segment : Type 0 where
  pub name : Name
  pub from : ℕ
  pub to : ℕ

-- each as its enter and its exit
abbrev pub events_of : List ℕ → List Segment → List Event
events_of s [] = []
events_of s (x ∷ xs) = event_at s Enter x.name x.from ∷ event_at s Exit x.name x.to ∷ events_of s xs

-- the segments cover the text from a to b, one after another, and none is empty
abbrev pub Tiles : ℕ → ℕ → List Segment → Type 0
Tiles a b [] = a ≡ b
Tiles a b (x ∷ xs) = (x.from ≡ a) × (a < x.to) × Tiles x.to b xs

-- the events are those of segments that tile the text so far; then, where a name is open, its enter
pub record Tiled (s : List ℕ) (es : List Event) (ns : List Name) : Type 0 where
  pub to : ℕ
  pub segments : List Segment
  pub tiles : Tiles 0 to segments
  pub inside : to ≤ length s
  pub are :
      ((es ≡ events_of s segments) × (ns ≡ []))
      ⊎ ((n : Name) × (es ≡ events_of s segments ++ event_at s Enter n to ∷ []) × (ns ≡ n ∷ []) × (to < length s))

-- ---- the same law as tests of an event list

abbrev pub kind_number : SpanKind → ℕ
kind_number Www = 0
kind_number Protocol = 1
kind_number Email = 2
kind_number Mailto = 3
kind_number Xmpp = 4

abbrev pub name_number : Name → ℕ
name_number name.Data = 0
name_number name.LineEnding = 1
name_number name.Link = 2
name_number (name.Address kind) = 3 + kind_number kind

abbrev pub same_name : Name → Name → Bool
same_name a b = name_number a == name_number b

abbrev pub enters : EventKind → Bool
enters Enter = true
enters Exit = false

-- the open names, the latest first, after one more event: an exit must close the latest enter still open, and have its name
abbrev pub after_event : EventKind → Name → List Name → Option (List Name)
after_event Enter n opened = Some (n ∷ opened)
after_event Exit n [] = None
after_event Exit n (latest ∷ opened) = cond (same_name latest n) (Some opened) None

-- after all of them, or none where an exit does not fit
abbrev pub open_after : Option (List Name) → List Event → Option (List Name)
open_after o [] = o
open_after None (e ∷ es) = None
open_after (Some opened) (e ∷ es) = open_after (after_event e.kind e.name opened) es

-- the event's point is the place that the walk gives its byte, with vs 0, and the byte is in the note or its end
abbrev pub placed : List ℕ → Point → Bool
placed s p = p.line == (place_at s p.index).line && (p.column == (place_at s p.index).column && (p.vs == 0 && nat_le p.index (length s)))

-- from byte i on: each enter stands at or after the exit before it, each exit beyond its enter, at its place; the last enter may have no exit
abbrev pub in_text_order : List ℕ → ℕ → List Event → Bool
in_text_order s i [] = true
in_text_order s i (a ∷ []) = enters a.kind && (placed s a.point && nat_le i a.point.index)
in_text_order s i (a ∷ b ∷ es) =
    (enters a.kind && not (enters b.kind))
    && ((placed s a.point && placed s b.point)
    && ((nat_le i a.point.index && nat_lt a.point.index b.point.index) && in_text_order s b.point.index es))

-- ---- bounds

pub record PointBounded (s : List ℕ) (p : Point) : Type 0 where
  pub index : p.index ≤ length s
  pub low_line : 1 ≤ p.line
  pub line : p.line ≤ length s + 1
  pub low_column : 1 ≤ p.column
  pub column : p.column ≤ 4 * length s + 1
  pub vs : p.vs ≤ 3

pub record RegistersBounded (s : List ℕ) (r : Registers) : Type 0 where
  pub size : r.size ≤ length s + 4
  pub size_b : r.size_b ≤ length s
  pub start : r.start ≤ length s

-- what would be put back is a point of the note, and no more events and names than there are
abbrev pub CapturedBounded : List ℕ → ℕ → Option Progress → Type 0
CapturedBounded s events None = Unit {0}
CapturedBounded s events (Some p) = PointBounded s p.cursor.point × (p.events ≤ events) × (p.names ≤ 1)

abbrev pub AttemptsBounded : List ℕ → ℕ → List Attempt → Type 0
AttemptsBounded s events [] = Unit {0}
AttemptsBounded s events (a ∷ us) = CapturedBounded s events a.progress × AttemptsBounded s events us

-- the bounds of points as tests, for a note of n bytes
abbrev pub point_within : ℕ → Point → Bool
point_within n p = nat_le p.index n && (nat_le p.line (n + 1) && (nat_le p.column (4 * n + 1) && nat_le p.vs 3))

abbrev pub captured_within : ℕ → Option Progress → Bool
captured_within n None = true
captured_within n (Some p) = point_within n p.cursor.point

abbrev pub attempts_within : ℕ → List Attempt → Bool
attempts_within n [] = true
attempts_within n (a ∷ us) = captured_within n a.progress && attempts_within n us

-- ---- at every moment

pub record Lawful (s : List ℕ) (m : Machine) : Type 0 where
  pub note : m.note ≡ s
  pub attempts : length m.attempts ≤ 3
  pub names : length m.names ≤ 1
  pub events : length m.events ≤ 2 * length s
  pub registers : RegistersBounded s m.registers
  pub point : PointBounded s m.cursor.point
  pub captured : AttemptsBounded s (length m.events) m.attempts
  -- the events are spans that tile the text so far
  pub tiled : Tiled s m.events m.names
  -- every exit closes the latest enter still open and has its name; what is left open are the names of the machine
  pub nested : open_after (Some []) m.events ≡ Some m.names
  -- spans are in text order, do not overlap, and are not empty; each event stands at its place
  pub ordered : in_text_order s 0 m.events ≡ true

abbrev pub LawfulAtEveryMoment : Type 0
LawfulAtEveryMoment = (s : List ℕ) (pieces : List Piece) → Lawful s (worked pieces (beginning s))

-- ---- how a run is split does not matter

-- one run reads no further than another
abbrev pub no_later : Until → Until → Bool
no_later (Mark a) (Mark b) = nat_le a b
no_later (Mark a) End = true
no_later End (Mark b) = false
no_later End End = true

-- part of a run: how far, and at most how many state calls
pub record Part : Type 0 where
  pub until : Until
  pub allowance : ℕ

-- the parts one after another, then the last: the machine then, the steps of all, and whether the last is done
abbrev pub in_parts : (ℕ → Bool) → List Part → Part → Machine → Outcome
in_parts member [] last m = run member last.until last.allowance m
in_parts member (p ∷ ps) last m =
    let o = run member p.until p.allowance m in
    plus o.steps (in_parts member ps last o.after)

abbrev pub none_later : List Part → Until → Bool
none_later [] until = true
none_later (p ∷ ps) until = no_later p.until until && none_later ps until

-- two ways to the same mark, or to the end, make the same steps in all and leave the same machine, once both are done
abbrev pub SplitsAlike : Type 0
SplitsAlike =
    (member : ℕ → Bool) (m : Machine) (ps qs : List Part) (until : Until) (a b : ℕ) →
    none_later ps until ≡ true → none_later qs until ≡ true →
    (in_parts member ps (record { until = until; allowance = a }) m).done ≡ true →
    (in_parts member qs (record { until = until; allowance = b }) m).done ≡ true →
    in_parts member ps (record { until = until; allowance = a }) m ≡ in_parts member qs (record { until = until; allowance = b }) m

-- a paused run has made exactly the steps that it was allowed; a run goes on where it paused
abbrev pub PausesExactly : Type 0
PausesExactly =
    (member : ℕ → Bool) (until : Until) (m : Machine) (a b : ℕ) →
    ((run member until a m).steps ≤ a)
    × (((run member until a m).done ≡ false → (run member until a m).steps ≡ a)
    × (run member until ((run member until a m).steps + b) m ≡ plus (run member until a m).steps (run member until b (run member until a m).after)))
