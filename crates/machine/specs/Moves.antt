-- The machine as a value, the moves that its states are made of, and the settling of attempts.
-- Assumes nothing.
use Rattle.std.specs.Prelude.{ℕ, ◌-◌, Bool, true, false, cond, not, List, [], ◌∷◌, ◌++◌, length, take, Some, None, Option}
use Rattle.machine.specs.declared.attempts.Attempt.{Attempt}
use Rattle.machine.specs.declared.attempts.AttemptKind.{AttemptKind}
use Rattle.machine.specs.declared.attempts.AttemptKind.TheVariants as attempt_kind
use Rattle.machine.specs.declared.attempts.Progress.{Progress}
use Rattle.machine.specs.declared.cursors.Cursor.{Cursor}
use Rattle.machine.specs.declared.cursors.Registers.{Registers}
use Rattle.machine.specs.declared.events.Event.{Event}
use Rattle.machine.specs.declared.events.EventKind.TheVariants.{Enter, Exit}
use Rattle.machine.specs.declared.events.Name.{Name}
use Rattle.machine.specs.declared.states.State.{State}
use Rattle.machine.specs.declared.states.State.TheVariants.{Next, Retry, Ok, Nok}
use Rattle.machine.specs.declared.states.StateName.{StateName}
use Rattle.machine.specs.Cursors.{event, consumed_at}

-- attempts: the latest first. names: those of the spans still open, the latest last
pub record Machine : Type 0 where
  pub note : List ℕ
  pub state : State
  pub cursor : Cursor
  pub registers : Registers
  pub attempts : List Attempt
  pub events : List Event
  pub names : List Name

abbrev pub made_of : List ℕ → State → Cursor → Registers → List Attempt → List Event → List Name → Machine
made_of s a c r us es ns = record { note = s; state = a; cursor = c; registers = r; attempts = us; events = es; names = ns }

abbrev pub with_state : State → Machine → Machine
with_state a m = made_of m.note a m.cursor m.registers m.attempts m.events m.names

abbrev pub with_cursor : Cursor → Machine → Machine
with_cursor c m = made_of m.note m.state c m.registers m.attempts m.events m.names

abbrev pub with_registers : Registers → Machine → Machine
with_registers r m = made_of m.note m.state m.cursor r m.attempts m.events m.names

abbrev pub with_attempts : List Attempt → Machine → Machine
with_attempts us m = made_of m.note m.state m.cursor m.registers us m.events m.names

abbrev pub with_tables : List Event → List Name → Machine → Machine
with_tables es ns m = made_of m.note m.state m.cursor m.registers m.attempts es ns

-- ---- the cursor

-- the byte shown is consumed
abbrev pub consumed : Machine → Machine
consumed m = with_cursor (consumed_at m.note m.cursor) m

-- consumed, and the state n is to be called on what comes next
abbrev pub next : StateName → Machine → Machine
next n m = with_state (Next n) (consumed m)

-- ---- the registers

abbrev pub sized : ℕ → Machine → Machine
sized n m =
    let r = m.registers in
    with_registers (record { size = n; size_b = r.size_b; seen = r.seen; marker = r.marker; marker_b = r.marker_b; start = r.start }) m

abbrev pub sized_b : ℕ → Machine → Machine
sized_b n m =
    let r = m.registers in
    with_registers (record { size = r.size; size_b = n; seen = r.seen; marker = r.marker; marker_b = r.marker_b; start = r.start }) m

abbrev pub saw : Bool → Machine → Machine
saw b m =
    let r = m.registers in
    with_registers (record { size = r.size; size_b = r.size_b; seen = b; marker = r.marker; marker_b = r.marker_b; start = r.start }) m

abbrev pub marked : Bool → Bool → Machine → Machine
marked a b m =
    let r = m.registers in
    with_registers (record { size = r.size; size_b = r.size_b; seen = r.seen; marker = a; marker_b = b; start = r.start }) m

abbrev pub started : ℕ → Machine → Machine
started n m =
    let r = m.registers in
    with_registers (record { size = r.size; size_b = r.size_b; seen = r.seen; marker = r.marker; marker_b = r.marker_b; start = n }) m

-- ---- events. That the tables have room for them is a law of every moment: no move has a guard

abbrev pub entered : Name → Machine → Machine
entered n m = with_tables (m.events ++ event m.note Enter n m.cursor.point ∷ []) (m.names ++ n ∷ []) m

abbrev pub exited : Name → Machine → Machine
exited n m = with_tables (m.events ++ event m.note Exit n m.cursor.point ∷ []) (take (length m.names - 1) m.names) m

-- ---- checks and attempts

abbrev pub captured : Machine → Progress
captured m = record { cursor = m.cursor; events = length m.events; names = length m.names }

abbrev pub begun : Attempt → Machine → Machine
begun a m = with_attempts (a ∷ m.attempts) m

abbrev pub checked : State → State → Machine → Machine
checked ok nok m = begun (record { ok = ok; nok = nok; kind = attempt_kind.Check; progress = Some (captured m) }) m

-- an attempt whose own answer for Nok is Nok captures nothing: what lies below puts back more
abbrev pub kept_for : State → Progress → Option Progress
kept_for (Next n) p = Some p
kept_for (Retry n) p = Some p
kept_for Ok p = Some p
kept_for Nok p = None

abbrev pub attempted : State → State → Machine → Machine
attempted ok nok m = begun (record { ok = ok; nok = nok; kind = attempt_kind.Attempt; progress = kept_for nok (captured m) }) m

-- ---- settling

abbrev pub cursor_back : Option Progress → Cursor → Cursor
cursor_back None c = c
cursor_back (Some p) c = p.cursor

abbrev pub events_back : Option Progress → List Event → List Event
events_back None es = es
events_back (Some p) es = take p.events es

abbrev pub names_back : Option Progress → List Name → List Name
names_back None ns = ns
names_back (Some p) ns = take p.names ns

-- what was captured is put back: later events and names are dropped, and registers stay
abbrev pub restored : Option Progress → Machine → Machine
restored o m =
    made_of m.note m.state (cursor_back o m.cursor) m.registers m.attempts (events_back o m.events) (names_back o m.names)

-- whether what was captured is put back: by a check always, by an attempt on Nok
abbrev pub puts_back : AttemptKind → Bool → Bool
puts_back attempt_kind.Check ok = true
puts_back attempt_kind.Attempt ok = not ok

-- a has its answer, Ok or else Nok: it puts back, unless it is an attempt with Ok, and its own answer takes that place
abbrev pub resumed : Bool → Attempt → Machine → Machine
resumed ok a m = with_state (cond ok a.ok a.nok) (restored (cond (puts_back a.kind ok) a.progress None) m)

-- Ok and Nok are told to the latest attempt, which is taken off; and so on with its own answer. With none left, all is over
abbrev pub settled_as : State → List Attempt → Machine → Machine
settled_as (Next n) us m = m
settled_as (Retry n) us m = m
settled_as Ok [] m = m
settled_as Ok (a ∷ us) m = settled_as a.ok us (resumed true a (with_attempts us m))
settled_as Nok [] m = m
settled_as Nok (a ∷ us) m = settled_as a.nok us (resumed false a (with_attempts us m))

abbrev pub settled : Machine → Machine
settled m = settled_as m.state m.attempts m
