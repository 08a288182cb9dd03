-- How much room the tables of the machine need.
-- Assumes nothing.
use Rattle.std.specs.Prelude.{◌≡◌, ℕ, ◌*◌, ◌<◌, ◌≤◌, List, length}
use Rattle.machine.specs.Runs.{beginning}
use Rattle.machine.specs.Laws.{Piece, worked}

abbrev pub most_attempts : ℕ
most_attempts = 3

abbrev pub most_names : ℕ
most_names = 1

abbrev pub most_events_per_byte : ℕ
most_events_per_byte = 2

-- at every moment of every run, of any note, there are at most so many; and at some moment, of some note, there are as many

abbrev pub AttemptsFit : ℕ → Type 0
AttemptsFit room = (s : List ℕ) (pieces : List Piece) → length (worked pieces (beginning s)).attempts ≤ room

abbrev pub AttemptsReach : ℕ → Type 0
AttemptsReach room = (s : List ℕ) × (pieces : List Piece) × (length (worked pieces (beginning s)).attempts ≡ room)

abbrev pub NamesFit : ℕ → Type 0
NamesFit room = (s : List ℕ) (pieces : List Piece) → length (worked pieces (beginning s)).names ≤ room

abbrev pub NamesReach : ℕ → Type 0
NamesReach room = (s : List ℕ) × (pieces : List Piece) × (length (worked pieces (beginning s)).names ≡ room)

abbrev pub EventsFit : ℕ → Type 0
EventsFit each = (s : List ℕ) (pieces : List Piece) → length (worked pieces (beginning s)).events ≤ each * length s

abbrev pub EventsReach : ℕ → Type 0
EventsReach each = (s : List ℕ) × (0 < length s) × (pieces : List Piece) × (length (worked pieces (beginning s)).events ≡ each * length s)
