-- What is written reads back.
-- Assumes nothing.
use Rattle.std.specs.Prelude.{◌≡◌, ℕ, ◌^◌, ◌<◌, List, [], ◌∷◌, Some, Ok}
use Rattle.calls.specs.declared.scripts.Call.{Call}
use Rattle.calls.specs.declared.scripts.Call.TheVariants as call
use Rattle.scripts.specs.declared.commands.Line.TheVariants as line
use Rattle.scripts.specs.Commands.{bare}
use Rattle.scripts.specs.Lines.{line_of}
use Rattle.scripts.specs.Texts.{call_shown}

-- each is a byte
abbrev pub Bytes : List ℕ → Type 0
Bytes [] = Unit {0}
Bytes (b ∷ bs) = (b < 256) × Bytes bs

-- the numbers and bytes of a call are such as code holds
abbrev pub Held : Call → Type 0
Held (call.Load note) = Bytes note.now
Held (call.Push to allowance) = (to < 2 ^ 64) × (allowance < 2 ^ 64)
Held (call.End allowance) = allowance < 2 ^ 64
Held (call.Link first last) = (first < 2 ^ 64) × (last < 2 ^ 64)
Held call.Resolve = Unit {0}
Held call.Clear = Unit {0}

-- the line of a call says this call
abbrev pub CallsReadBack : Type 0
CallsReadBack = (c : Call) → Held c → line_of (call_shown c) ≡ Ok (Some (line.Call (bare c)))
