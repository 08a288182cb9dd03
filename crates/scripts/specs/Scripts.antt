-- What a script says.
-- Assumes nothing.
use Rattle.std.specs.Prelude.{◌≡◌, ℕ, ◌+◌, List, [], ◌∷◌, map, Some, None, Option, Ok, Err, Result, Vec, ◌==◌}
use Rattle.std.specs.List.{slice_split}
use Rattle.std.specs.declared.alloc.Global.{Global}
use Rattle.calls.specs.declared.scripts.Call.{Call}
use Rattle.scripts.specs.declared.commands.Line.{Line}
use Rattle.scripts.specs.declared.commands.OwnedCall.{OwnedCall}
use Rattle.scripts.specs.declared.errors.Expected.{Expected}
use Rattle.scripts.specs.declared.errors.ScriptError.{ScriptError}
use Rattle.scripts.specs.declared.errors.ScriptError.TheVariants.{Unreadable, OutOfMemory}
use Rattle.scripts.specs.Commands.{meant_line, meant_option}
use Rattle.scripts.specs.Lines.{line_of}

-- ---- a script as text

-- the lines, which end in LF
abbrev pub lines : List ℕ → List (List ℕ)
lines text = slice_split (λ b. b == 10) text

-- a script, or the number of its first line that cannot be read, and what was expected there
abbrev pub Script : Type 0
Script = Result (List (Line Call)) (ℕ × Expected)

abbrev pub in_front : Line Call → Script → Script
in_front l (Ok ls) = Ok (l ∷ ls)
in_front l (Err refusal) = Err refusal

-- a line, whose number is n, and what follows it
abbrev pub then_script : ℕ → Result (Option (Line Call)) Expected → Script → Script
then_script n (Ok None) rest = rest
then_script n (Ok (Some l)) rest = in_front l rest
then_script n (Err e) rest = Err (n, e)

-- from line n on
abbrev pub script_from : ℕ → List (List ℕ) → Script
script_from n [] = Ok []
script_from n (l ∷ ls) = then_script n (line_of l) (script_from (n + 1) ls)

abbrev pub script_of : List ℕ → Script
script_of text = script_from 1 (lines text)

-- ---- a script as it is read

abbrev pub meant_script : Vec (Line OwnedCall) Global → List (Line Call)
meant_script script = map meant_line script.items

-- unless memory runs out, it is what line n says, or is refused for the same reason
abbrev pub SaysLine : ℕ → Result (Option (Line OwnedCall)) ScriptError → Result (Option (Line Call)) Expected → Type 0
SaysLine n (Ok l) said = said ≡ Ok (meant_option l)
SaysLine n (Err (Unreadable k e)) said = (k ≡ n) × (said ≡ Err e)
SaysLine n (Err OutOfMemory) said = Unit {0}

-- unless memory runs out, it is the script that the text says, or is refused at the same line for the same reason
abbrev pub SaysScript : Result (Vec (Line OwnedCall) Global) ScriptError → Script → Type 0
SaysScript (Ok script) said = said ≡ Ok (meant_script script)
SaysScript (Err (Unreadable n e)) said = said ≡ Err (n, e)
SaysScript (Err OutOfMemory) said = Unit {0}
