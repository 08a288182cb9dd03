-- A run of the machine: to a mark or to the end, with at most so many state calls.
-- Assumes nothing.
use Rattle.std.specs.Prelude.{ℕ, zero, suc, ◌+◌, Bool, true, false, cond, ◌&&◌, List, [], length, Some, None, Option, nat_lt}
use Rattle.machine.specs.declared.cursors.Cursor.{Cursor}
use Rattle.machine.specs.declared.cursors.Registers.{Registers}
use Rattle.machine.specs.declared.cursors.Until.{Until}
use Rattle.machine.specs.declared.cursors.Until.TheVariants.{Mark, End}
use Rattle.machine.specs.declared.states.State.{State}
use Rattle.machine.specs.declared.states.State.TheVariants.{Next, Retry, Ok, Nok}
use Rattle.machine.specs.declared.states.StateName.{StateName}
use Rattle.machine.specs.declared.states.StateName.TheVariants.{Before}
use Rattle.machine.specs.Cursors.{crlf_at, next_index, shown_at}
use Rattle.machine.specs.Moves.{Machine, made_of, with_cursor, settled}
use Rattle.machine.specs.States.{call}

-- ---- the beginning

abbrev pub at_start : Cursor
at_start = record { point = record { line = 1; column = 1; index = 0; vs = 0 }; previous = None; current = None }

abbrev pub cleared : Registers
cleared = record { size = 0; size_b = 0; seen = false; marker = false; marker_b = false; start = 0 }

abbrev pub beginning : List ℕ → Machine
beginning s = made_of s (Next Before) at_start cleared [] [] []

-- ---- a turn: settle and pass over a CR, see whether a state call is due, show the byte, call the state

-- the byte at the point is to be shown anew
abbrev pub shows_anew : State → Bool
shows_anew (Next n) = true
shows_anew (Retry n) = false
shows_anew Ok = false
shows_anew Nok = false

-- the bytes before it may be read, of so many; `End` lets all be read
abbrev pub limit : Until → ℕ → ℕ
limit (Mark to) n = to
limit End n = n

-- a CR before an LF is passed over, once the CR may be read
abbrev pub passes : Until → Machine → Bool
passes until m =
    shows_anew m.state && (nat_lt m.cursor.point.index (limit until (length m.note)) && crlf_at m.note m.cursor.point.index)

abbrev pub passed : Until → Machine → Machine
passed until m =
    with_cursor (cond (passes until m) (record { point = next_index m.cursor.point; previous = m.cursor.previous; current = m.cursor.current }) m.cursor) m

abbrev pub prepared : Until → Machine → Machine
prepared until m = passed until (settled m)

-- what is at the point may be shown: a byte before the mark; at the end, anything
abbrev pub may_show : Until → ℕ → Bool
may_show (Mark to) i = nat_lt i to
may_show End i = true

-- the state that is due, if any, when m has this state
abbrev pub due_as : State → Until → Machine → Option StateName
due_as (Next n) until m = cond (may_show until m.cursor.point.index) (Some n) None
due_as (Retry n) until m = Some n
due_as Ok until m = None
due_as Nok until m = None

abbrev pub due : Until → Machine → Option StateName
due until m = due_as m.state until m

abbrev pub shown : Machine → Machine
shown m =
    with_cursor (cond (shows_anew m.state) (record { point = m.cursor.point; previous = m.cursor.previous; current = shown_at m.note m.cursor.point }) m.cursor) m

-- ---- runs

-- the machine then, how many state calls were made, and whether none is due any more: if one is, the run is paused
pub record Outcome : Type 0 where
  pub after : Machine
  pub steps : ℕ
  pub done : Bool

abbrev pub stopped : Machine → Bool → Outcome
stopped m done = record { after = m; steps = 0; done = done }

abbrev pub plus : ℕ → Outcome → Outcome
plus k o = record { after = o.after; steps = k + o.steps; done = o.done }

abbrev pub choose : {A B : Type 0} → Option A → B → (A → B) → B
choose None b f = b
choose (Some a) b f = f a

abbrev pub none_due : Option StateName → Bool
none_due None = true
none_due (Some n) = false

abbrev pub run : (ℕ → Bool) → Until → ℕ → Machine → Outcome
run member until zero m = stopped (prepared until m) (none_due (due until (prepared until m)))
run member until (suc allowance) m =
    choose (due until (prepared until m)) (stopped (prepared until m) true)
    (λ n. plus 1 (run member until allowance (call member n (shown (prepared until m)))))
