-- What the lines of a script ask for. Of a note that is on loan only its bytes count, and not where they lie.
-- Assumes nothing.
use denote.Ref.{Bor}
use Rattle.std.specs.Prelude.{ℕ, List, [], ◌∷◌, Some, None, Option}
use Rattle.calls.specs.declared.scripts.Call.{Call}
use Rattle.calls.specs.declared.scripts.Call.TheVariants as call
use Rattle.scripts.specs.declared.commands.Line.{Line}
use Rattle.scripts.specs.declared.commands.Line.TheVariants as line
use Rattle.scripts.specs.declared.commands.OwnedCall.{OwnedCall}
use Rattle.scripts.specs.declared.commands.OwnedCall.TheVariants as owned

-- a loan of these bytes
abbrev pub loan : List ℕ → Bor (List ℕ)
loan bytes = record { ref_ptr = (0, 0); now = bytes }

-- a call, less the place of its note
abbrev pub bare : Call → Call
bare (call.Load note) = call.Load (loan note.now)
bare (call.Push to allowance) = call.Push to allowance
bare (call.End allowance) = call.End allowance
bare (call.Link first last) = call.Link first last
bare call.Resolve = call.Resolve
bare call.Clear = call.Clear

-- the call that is meant
abbrev pub meant : OwnedCall → Call
meant (owned.Load note) = call.Load (loan note.items)
meant (owned.Push to allowance) = call.Push to allowance
meant (owned.End allowance) = call.End allowance
meant (owned.Link first last) = call.Link first last
meant owned.Resolve = call.Resolve
meant owned.Clear = call.Clear

abbrev pub meant_line : Line OwnedCall → Line Call
meant_line (line.Call c) = line.Call (meant c)
meant_line line.Events = line.Events

abbrev pub meant_option : Option (Line OwnedCall) → Option (Line Call)
meant_option None = None
meant_option (Some l) = Some (meant_line l)

-- the calls that lines ask for, in turn
abbrev pub calls_in : List (Line Call) → List Call
calls_in [] = []
calls_in (line.Call c ∷ ls) = c ∷ calls_in ls
calls_in (line.Events ∷ ls) = calls_in ls
