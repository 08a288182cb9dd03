-- What every step keeps, whatever the punctuation set means: what each state may find on the stack, in the registers and among the events.
-- Assumes nothing.
use Rattle.std.specs.Prelude.{◌≡◌, ℕ, suc, ◌+◌, ◌-◌, ◌*◌, ◌<◌, ◌≤◌, Bool, true, false, cond, not, ◌&&◌, List, [], ◌∷◌, ◌++◌, length, Some, None, Option, ◌==◌, nat_eq, nat_lt, slice_index}
use Rattle.text.specs.declared.places.Point.{Point}
use Rattle.text.specs.declared.spans.SpanKind.TheVariants.{Www, Protocol}
use Rattle.text.specs.Places.{after_tab, place_at}
use Rattle.machine.specs.declared.attempts.Attempt.{Attempt}
use Rattle.machine.specs.declared.attempts.AttemptKind.TheVariants as attempt_kind
use Rattle.machine.specs.declared.cursors.Cursor.{Cursor}
use Rattle.machine.specs.declared.cursors.Registers.{Registers}
use Rattle.machine.specs.declared.cursors.Until.{Until}
use Rattle.machine.specs.declared.events.Event.{Event}
use Rattle.machine.specs.declared.events.EventKind.TheVariants.{Enter, Exit}
use Rattle.machine.specs.declared.events.Name.{Name}
use Rattle.machine.specs.declared.events.Name.TheVariants as name
use Rattle.machine.specs.declared.states.State.{State}
use Rattle.machine.specs.declared.states.State.TheVariants.{Next, Retry, Ok, Nok}
use Rattle.machine.specs.declared.states.StateName.{StateName}
use Rattle.machine.specs.declared.states.StateName.TheVariants.{Before, Line, Data, Inside, ProtocolStart, ProtocolPrefixInside, ProtocolSlashesInside, ProtocolAfter, WwwStart, WwwPrefixInside, WwwPrefixAfter, WwwAfter, DomainInside, DomainAtPunctuation, DomainAfter, PathInside, PathAtPunctuation, PathAfter, Trail, TrailBracketAfter, TrailCharRefStart, TrailCharRefInside}
use Rattle.machine.specs.Cursors.{crlf_at, shown_at}
use Rattle.machine.specs.Moves.{Machine, made_of, settled}
use Rattle.machine.specs.States.{at_end, call}
use Rattle.machine.specs.Runs.{cleared, beginning, passed, due, shown}
use Rattle.machine.specs.Laws.{event_at, Tiled, PointBounded, RegistersBounded, AttemptsBounded, Lawful}

-- ---- where a cursor stands

-- a byte that is none of tab, LF and CR
pub record Plain (s : List ℕ) (i : ℕ) : Type 0 where
  pub inside : i < length s
  pub tab : nat_eq (slice_index s i) 9 ≡ false
  pub lf : nat_eq (slice_index s i) 10 ≡ false
  pub cr : nat_eq (slice_index s i) 13 ≡ false

-- not between CR and LF
abbrev pub Edge : List ℕ → ℕ → Type 0
Edge s i = (nat_lt 0 i && crlf_at s (i - 1)) ≡ false

-- where the point is when place i is shown: at the LF of a CR LF
abbrev pub index_shown : List ℕ → ℕ → ℕ
index_shown s i = cond (crlf_at s i) (i + 1) i

-- what is shown of place i first: any line ending as an LF
abbrev pub byte_shown : List ℕ → ℕ → Option ℕ
byte_shown s i = cond (nat_lt i (length s)) (Some (cond (slice_index s i == 13) 10 (slice_index s i))) None

-- the cursor that shows place i, with v consumed last
abbrev pub cursor_at : List ℕ → ℕ → Option ℕ → Cursor
cursor_at s i v =
    record { point = record { line = (place_at s i).line; column = (place_at s i).column; index = index_shown s i; vs = 0 }; previous = v; current = byte_shown s i }

-- the cursor shows place i
pub data Shows (s : List ℕ) : ℕ → Cursor → Type 0 where
  shows : {i : ℕ} {v : Option ℕ} → i ≤ length s → Edge s i → Shows s i (cursor_at s i v)

-- the cursor shows a space of the tab at i: its second column or a later one
pub data ShowsSpace (s : List ℕ) : ℕ → Cursor → Type 0 where
  space : {i c : ℕ} {v : Option ℕ} (k : ℕ) → i < length s → (slice_index s i == 9) ≡ true → c ≡ (place_at s i).column + suc k → c < after_tab (place_at s i).column →
      ShowsSpace s i (record { point = record { line = (place_at s i).line; column = c; index = i; vs = k + 1 }; previous = v; current = Some 32 })

-- the cursor is past the start of what began at i
pub data Past (s : List ℕ) : ℕ → Cursor → Type 0 where
  beyond : {i j : ℕ} {c : Cursor} → i < j → Shows s j c → Past s i c
  amid_tab : {i j : ℕ} {c : Cursor} → i ≤ j → ShowsSpace s j c → Past s i c

-- a CR passed over, and what is at the point shown
abbrev pub past_cr : List ℕ → Point → Point
past_cr s p = record { line = p.line; column = p.column; index = index_shown s p.index; vs = p.vs }

abbrev pub ready : List ℕ → Cursor → Cursor
ready s c = record { point = past_cr s c.point; previous = c.previous; current = shown_at s (past_cr s c.point) }

-- ---- events

-- pairs of an enter and an exit, from 0 to i without a gap
pub data Closed (s : List ℕ) : ℕ → List Event → Type 0 where
  none : Closed s 0 []
  more : {i j : ℕ} {es : List Event} {a b : Event} (n : Name) → Closed s i es → a ≡ event_at s Enter n i → b ≡ event_at s Exit n j → i < j → Closed s j ((es ++ a ∷ []) ++ b ∷ [])

-- ---- links that are tried

-- the two kinds of link that the machine looks for
pub data Web : Type 0 where
  www protocol : Web

abbrev pub name_of : Web → Name
name_of www = name.Address Www
name_of protocol = name.Address Protocol

-- the state that exits a link
abbrev pub leaves : Web → StateName
leaves www = WwwAfter
leaves protocol = ProtocolAfter

-- the attempt of a whole link, begun by Before at c
abbrev pub link_attempt : Cursor → List Event → Attempt
link_attempt c es = record { ok = Next Before; nok = Next Data; kind = attempt_kind.Attempt; progress = Some (record { cursor = c; events = length es; names = 0 }) }

-- an attempt that passes Nok on
abbrev pub part_attempt : StateName → Attempt
part_attempt n = record { ok = Next n; nok = Nok; kind = attempt_kind.Attempt; progress = None }

-- a check within a link, begun at c
abbrev pub check_attempt : State → State → Cursor → List Event → Attempt
check_attempt y n c es = record { ok = y; nok = n; kind = attempt_kind.Check; progress = Some (record { cursor = c; events = length es; names = 1 }) }

-- a link is tried at i: the events before it are closed
pub record Tried (s : List ℕ) (i : ℕ) (c : Cursor) (es : List Event) : Type 0 where
  pub at : Shows s i c
  pub inside : i < length s
  pub closed : Closed s i es

-- ---- registers

-- of a protocol's name, of a count, of a domain
abbrev pub starting : ℕ → Registers
starting i = record { size = 0; size_b = 0; seen = false; marker = false; marker_b = false; start = i }

abbrev pub counting : ℕ → ℕ → Registers
counting a b = record { size = a; size_b = b; seen = false; marker = false; marker_b = false; start = 0 }

abbrev pub noting : Bool → Bool → Bool → Registers
noting b x y = record { size = 0; size_b = 0; seen = b; marker = x; marker_b = y; start = 0 }

-- ---- states

pub data InTrail : StateName → Type 0 where
  in_trail : InTrail Trail
  in_bracket : InTrail TrailBracketAfter
  in_start : InTrail TrailCharRefStart
  in_ref : InTrail TrailCharRefInside

-- a link tried from i on, with d shown there and evs the events with its enter: what a state at j finds in the registers, and on the stack above the link's attempt
pub data Stage (s : List ℕ) (i : ℕ) (d : Cursor) (evs : List Event) : Web → ℕ → StateName → Registers → List Attempt → Type 0 where
  p_prefix : {j k : ℕ} → i ≤ j → k ≤ j → Stage s i d evs protocol j ProtocolPrefixInside (starting k) (part_attempt DomainInside ∷ part_attempt ProtocolAfter ∷ [])
  p_slashes : {j k : ℕ} → i < j → k ≤ 1 → Stage s i d evs protocol j ProtocolSlashesInside (counting k 0) (part_attempt DomainInside ∷ part_attempt ProtocolAfter ∷ [])
  w_prefix : {j k : ℕ} → k ≤ 3 → Stage s i d evs www j WwwPrefixInside (counting k 0) (check_attempt (Next DomainInside) Nok d evs ∷ part_attempt WwwAfter ∷ [])
  w_after : {j : ℕ} → Stage s i d evs www j WwwPrefixAfter cleared (check_attempt (Next DomainInside) Nok d evs ∷ part_attempt WwwAfter ∷ [])
  domain : {l : Web} {j : ℕ} {b x y : Bool} → i ≤ j → (b ≡ true → i < j) → Stage s i d evs l j DomainInside (noting b x y) (part_attempt (leaves l) ∷ [])
  domain_at : {l : Web} {j : ℕ} {b x y : Bool} → Plain s j → i ≤ j → (b ≡ true → i < j) → Stage s i d evs l j DomainAtPunctuation (noting b x y) (part_attempt (leaves l) ∷ [])
  domain_after : {l : Web} {j : ℕ} {b x y : Bool} → i ≤ j → (b ≡ true → i < j) → Stage s i d evs l j DomainAfter (noting b x y) (part_attempt (leaves l) ∷ [])
  path : {l : Web} {j x y : ℕ} → i < j → x ≤ j → y ≤ j → Stage s i d evs l j PathInside (counting x y) (part_attempt (leaves l) ∷ [])
  path_at : {l : Web} {j x y : ℕ} → Plain s j → i < j → x ≤ j → y ≤ j → Stage s i d evs l j PathAtPunctuation (counting x y) (part_attempt (leaves l) ∷ [])
  path_after : {l : Web} {j x y : ℕ} → i < j → x ≤ j → y ≤ j → Stage s i d evs l j PathAfter (counting x y) (part_attempt (leaves l) ∷ [])
  -- a check, from e on, and what it goes on with there
  trail : {l : Web} {j k : ℕ} {n p q : StateName} {e : Cursor} {r : Registers} → InTrail n → r.start ≡ 0 → Shows s k e →
      Stage s i d evs l k p r (part_attempt (leaves l) ∷ []) → Stage s i d evs l k q r (part_attempt (leaves l) ∷ []) →
      Stage s i d evs l j n r (check_attempt (Next p) (Next q) e evs ∷ part_attempt (leaves l) ∷ [])
  left : {l : Web} {j : ℕ} → i < j → Stage s i d evs l j (leaves l) cleared []

-- what a state finds when it is called: c is what it is shown
pub data Fit (s : List ℕ) : StateName → Cursor → Registers → List Attempt → List Event → List Name → Type 0 where
  before : {i : ℕ} {c : Cursor} {es : List Event} → Shows s i c → Closed s i es → Fit s Before c cleared [] es []
  line : {i j : ℕ} {c : Cursor} {es : List Event} {a : Event} → Shows s j c → Closed s i es → a ≡ event_at s Enter name.LineEnding i → i < j → Fit s Line c cleared [] (es ++ a ∷ []) (name.LineEnding ∷ [])
  text : {i : ℕ} {c : Cursor} {es : List Event} → Tried s i c es → Fit s Data c cleared [] es []
  inside : {i : ℕ} {c : Cursor} {es : List Event} {a : Event} → Past s i c → Closed s i es → a ≡ event_at s Enter name.Data i → Fit s Inside c cleared [] (es ++ a ∷ []) (name.Data ∷ [])
  p_start : {i : ℕ} {c : Cursor} {es : List Event} → Tried s i c es → Fit s ProtocolStart c cleared (link_attempt c es ∷ []) es []
  w_start : {i : ℕ} {c : Cursor} {es : List Event} → Tried s i c es → Fit s WwwStart c cleared (link_attempt c es ∷ []) es []
  linked : {i j : ℕ} {l : Web} {n : StateName} {c d : Cursor} {r : Registers} {us : List Attempt} {es : List Event} {a : Event} → Tried s i d es → a ≡ event_at s Enter (name_of l) i → Shows s j c →
      Stage s i d (es ++ a ∷ []) l j n r us → Fit s n c r (us ++ link_attempt d es ∷ []) (es ++ a ∷ []) (name_of l ∷ [])

-- the invariant: a machine that reads s, after settling
pub data Sound (s : List ℕ) : Machine → Type 0 where
  next : {n : StateName} {c : Cursor} {r : Registers} {us : List Attempt} {es : List Event} {ns : List Name} → Fit s n (ready s c) r us es ns → Sound s (made_of s (Next n) c r us es ns)
  retry : {n : StateName} {c : Cursor} {r : Registers} {us : List Attempt} {es : List Event} {ns : List Name} → Fit s n c r us es ns → Sound s (made_of s (Retry n) c r us es ns)
  over : {i : ℕ} {c : Cursor} {es : List Event} → Shows s i c → Closed s i es → Sound s (made_of s Ok c cleared [] es [])

-- a machine whose state n is due, with what that state is shown
pub data Called (s : List ℕ) (n : StateName) : Machine → Type 0 where
  called : {a : State} {c : Cursor} {r : Registers} {us : List Attempt} {es : List Event} {ns : List Name} → Fit s n c r us es ns → Called s n (made_of s a c r us es ns)

-- ---- what a state may count on when it is called

-- how many attempts it finds
abbrev pub depth : StateName → ℕ
depth Before = 0
depth Line = 0
depth Data = 0
depth Inside = 0
depth ProtocolStart = 1
depth ProtocolPrefixInside = 3
depth ProtocolSlashesInside = 3
depth ProtocolAfter = 1
depth WwwStart = 1
depth WwwPrefixInside = 3
depth WwwPrefixAfter = 3
depth WwwAfter = 1
depth DomainInside = 2
depth DomainAtPunctuation = 2
depth DomainAfter = 2
depth PathInside = 2
depth PathAtPunctuation = 2
depth PathAfter = 2
depth Trail = 3
depth TrailBracketAfter = 3
depth TrailCharRefStart = 3
depth TrailCharRefInside = 3

-- how many names are open
abbrev pub opens : StateName → ℕ
opens Before = 0
opens Line = 1
opens Data = 0
opens Inside = 1
opens ProtocolStart = 0
opens ProtocolPrefixInside = 1
opens ProtocolSlashesInside = 1
opens ProtocolAfter = 1
opens WwwStart = 0
opens WwwPrefixInside = 1
opens WwwPrefixAfter = 1
opens WwwAfter = 1
opens DomainInside = 1
opens DomainAtPunctuation = 1
opens DomainAfter = 1
opens PathInside = 1
opens PathAtPunctuation = 1
opens PathAfter = 1
opens Trail = 1
opens TrailBracketAfter = 1
opens TrailCharRefStart = 1
opens TrailCharRefInside = 1

-- what such a state may count on
pub record Ready (s : List ℕ) (n : StateName) (m : Machine) : Type 0 where
  pub note : m.note ≡ s
  pub stack : length m.attempts ≡ depth n
  pub names : length m.names ≡ opens n
  -- one more event fits, but for `Before` at the end
  pub room : (n ≡ Before → at_end m.cursor.current ≡ false) → length m.events < 2 * length s
  pub registers : RegistersBounded s m.registers
  pub started : m.registers.start ≤ m.cursor.point.index
  pub point : PointBounded s m.cursor.point
  -- the end is shown exactly at the end
  pub shown : at_end m.cursor.current ≡ not (nat_lt m.cursor.point.index (length s))
  pub captured : AttemptsBounded s (length m.events) m.attempts
  pub tiled : Tiled s m.events m.names

-- ---- every step keeps it, with any set meaning, another one at each step if need be

pub record Kept (s : List ℕ) : Type 0 where
  pub begins : Sound s (beginning s)
  -- a CR passed over
  pub passes : (until : Until) (m : Machine) → Sound s m → Sound s (passed until m)
  -- the state that is due, shown its byte
  pub shows : (until : Until) (m : Machine) (n : StateName) → Sound s m → due until (passed until m) ≡ Some n → Called s n (shown (passed until m))
  -- a state call, settled
  pub calls : (member : ℕ → Bool) (n : StateName) (m : Machine) → Called s n m → Sound s (settled (call member n m))
  -- what it gives: before a state call, and at every moment
  pub ready : (n : StateName) (m : Machine) → Called s n m → Ready s n m
  pub lawful : (m : Machine) → Sound s m → Lawful s m

abbrev pub EveryStepKeeps : Type 0
EveryStepKeeps = (s : List ℕ) → Kept s
