-- What becomes of a slice that a caller lends to have a list written into it.
-- Assumes nothing.
use Rattle.std.specs.Prelude.{ℕ, Bool, cond, List, ◌++◌, length, drop, Ok, Err, Result, nat_le}
use Rattle.text.specs.declared.refusals.Fault.{Fault}
use Rattle.text.specs.declared.refusals.Fault.TheVariants.{BufferTooShort}

-- xs fits into the slice
abbrev pub fits : {X : Type 0} → List X → List X → Bool
fits xs lent = nat_le (length xs) (length lent)

-- the number of elements that are needed, or the refusal with that number where there is room for fewer
abbrev pub room_for : ℕ → ℕ → Result ℕ Fault
room_for needed room = cond (nat_le needed room) (Ok needed) (Err (BufferTooShort needed))

-- how many elements are written, or the refusal
abbrev pub written_count : {X : Type 0} → List X → List X → Result ℕ Fault
written_count xs lent = room_for (length xs) (length lent)

-- xs at the front and the elements past them as they were; all as it was where it is too short
abbrev pub overwritten : {X : Type 0} → List X → List X → List X
overwritten xs lent = cond (fits xs lent) (xs ++ drop (length xs) lent) lent
