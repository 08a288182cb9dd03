-- What a state may count on when it is called: numbers that fit, and room in the tables. It holds at every call of every run.
-- Assumes nothing.
use Rattle.std.specs.Prelude.{◌≡◌, ℕ, ◌<◌, ◌≤◌, false, length}
use Rattle.text.specs.declared.notes.TheConstants.{LONGEST_NOTE}
use Rattle.machine.specs.declared.cursors.Cursor.{Cursor}
use Rattle.machine.specs.Moves.{Machine}
use Rattle.machine.specs.States.{at_end}
use Rattle.tokenizer.specs.declared.event_table.TheConstants.{EVENTS_ROOM}
use Rattle.tokenizer.specs.declared.tokenizer.TheConstants.{NAMES_ROOM}

-- a cursor in a note of n bytes: a byte that is shown is a byte of the note
pub record Within (n : ℕ) (c : Cursor) : Type 0 where
  pub line : c.point.line ≤ 1025
  pub column : c.point.column ≤ 4097
  pub vs : c.point.vs ≤ 3
  pub index : c.point.index ≤ LONGEST_NOTE
  pub end : c.point.index ≤ n
  pub inside : at_end c.current ≡ false → c.point.index < n

-- one more span can be entered
pub record SpanFits (m : Machine) : Type 0 where
  pub event : length m.events < EVENTS_ROOM
  pub name : length m.names < NAMES_ROOM

pub record Callable (m : Machine) : Type 0 where
  pub attempts : length m.attempts ≤ 3
  pub names : length m.names ≤ 1
  pub events : length m.events ≤ 2048
  pub size : m.registers.size ≤ 1028
  pub size_b : m.registers.size_b ≤ 1024
  pub started : m.registers.start ≤ m.cursor.point.index
  pub within : Within (length m.note) m.cursor
