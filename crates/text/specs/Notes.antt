-- How long a note may be.
-- Assumes nothing.
use Rattle.std.specs.Prelude.{ℕ, Bool, cond, List, length, Ok, Err, Result, nat_lt}
use Rattle.text.specs.declared.refusals.Fault.{Fault}
use Rattle.text.specs.declared.refusals.Fault.TheVariants.{NoteTooLong}

abbrev pub too_long : List ℕ → Bool
too_long s = nat_lt 1024 (length s)

-- the length, or the refusal
abbrev pub checked_length : List ℕ → Result ℕ Fault
checked_length s = cond (too_long s) (Err NoteTooLong) (Ok (length s))
