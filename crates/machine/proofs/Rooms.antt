-- The room that the tables need, and notes that need it.
-- Assumes nothing.
use Rattle.std.proofs.Common.{ℕ, false, [], ◌∷◌, codes, refl, arith}
use Rattle.machine.specs.declared.cursors.Until.TheVariants.{Mark, End}
use Rattle.machine.specs.Laws.{Piece}
use Rattle.machine.specs.Room.{AttemptsFit, AttemptsReach, NamesFit, NamesReach, EventsFit, EventsReach}
use Rattle.machine.proofs.Turns.{lawful_at_every_moment}

pub attempts_fit : AttemptsFit 3
attempts_fit s ps = (lawful_at_every_moment s ps).attempts

pub names_fit : NamesFit 1
names_fit s ps = (lawful_at_every_moment s ps).names

pub events_fit : EventsFit 2
events_fit s ps = (lawful_at_every_moment s ps).events

-- to the mark, with this allowance and the empty set
abbrev piece : ℕ → ℕ → Piece
piece to k = record { member = λ _. false; until = Mark to; allowance = k }

-- two steps into a protocol
pub attempts_reach : AttemptsReach 3
attempts_reach = (codes "h", piece 1 2 ∷ [], refl)

pub names_reach : NamesReach 1
names_reach = (codes "a", piece 1 2 ∷ [], refl)

-- a line ending alone
pub events_reach : EventsReach 2
events_reach = (10 ∷ [], omega arith, piece 1 9 ∷ record { member = λ _. false; until = End; allowance = 9 } ∷ [], refl)
