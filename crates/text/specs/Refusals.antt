-- The number and the place of each refusal.
-- Assumes nothing.
use Rattle.std.specs.Prelude.{◌≡◌, ℕ, Bool, Decides, nat_eq}
use Rattle.std.specs.Ordering.{on, eq_of_both}
use Rattle.text.specs.declared.refusals.Fault.{Fault}
use Rattle.text.specs.declared.refusals.Fault.TheVariants.{NoteTooLong, AlreadyLoaded, NothingLoaded, OutOfTurn, NoAllowance, TargetOutOfRange, EndTooEarly, NotEnded, RunNotMarkable, TooManyLinks, NoSuchEvent, NotResolved, EditOutOfRange, EditInsideRemoval, NoRoomForEdit, BufferTooShort, BadRangeListLength, UnlawfulRange}

abbrev pub number : Fault → ℕ
number NoteTooLong = 1
number AlreadyLoaded = 2
number NothingLoaded = 3
number OutOfTurn = 4
number NoAllowance = 5
number TargetOutOfRange = 6
number EndTooEarly = 7
number NotEnded = 8
number RunNotMarkable = 9
number TooManyLinks = 10
number NoSuchEvent = 11
number NotResolved = 12
number (EditOutOfRange rank) = 13
number (EditInsideRemoval rank) = 14
number NoRoomForEdit = 15
number (BufferTooShort needed) = 16
number BadRangeListLength = 17
number (UnlawfulRange rank) = 18

-- where the fault lies: the rank of an edit or of a range, or what a buffer would have to hold; else 0
abbrev pub place : Fault → ℕ
place NoteTooLong = 0
place AlreadyLoaded = 0
place NothingLoaded = 0
place OutOfTurn = 0
place NoAllowance = 0
place TargetOutOfRange = 0
place EndTooEarly = 0
place NotEnded = 0
place RunNotMarkable = 0
place TooManyLinks = 0
place NoSuchEvent = 0
place NotResolved = 0
place (EditOutOfRange rank) = rank
place (EditInsideRemoval rank) = rank
place NoRoomForEdit = 0
place (BufferTooShort needed) = needed
place BadRangeListLength = 0
place (UnlawfulRange rank) = rank

-- number and place tell every refusal from every other
abbrev pub same_fault : Fault → Fault → Bool
same_fault = eq_of_both (on number nat_eq) (on place nat_eq)

-- and the same number and place are the same refusal
abbrev pub SameFaultIsEqual : Type 0
SameFaultIsEqual = (f g : Fault) → Decides (same_fault f g) (f ≡ g)
