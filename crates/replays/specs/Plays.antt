-- What is printed of a script.
-- Assumes nothing.
use Rattle.std.specs.Prelude.{ℕ, Bool, List, [], ◌∷◌, ◌++◌, length, Ok, Err}
use Rattle.punctuation.specs.RangeLists.{house}
use Rattle.calls.specs.declared.scripts.Call.{Call}
use Rattle.calls.specs.Calls.{Model, new}
use Rattle.calls.specs.Moments.{after, answers}
use Rattle.calls.specs.Steps.{held, step, Answer}
use Rattle.scripts.specs.declared.commands.Line.{Line}
use Rattle.scripts.specs.declared.commands.Line.TheVariants as line
use Rattle.scripts.specs.declared.errors.ScriptError.TheVariants.{Unreadable}
use Rattle.scripts.specs.Commands.{calls_in}
use Rattle.scripts.specs.Report.{told_lines}
use Rattle.scripts.specs.Scripts.{Script}
use Rattle.scripts.specs.Shown.{script_error_shown}
use Rattle.scripts.specs.Sums.{sum_of, sum_shown}
use Rattle.written.specs.Listing.{event_lines, newline}

-- for each line that asks for them, the lines of the events that are held then; m is the reader before the first line
abbrev pub listings : (ℕ → Bool) → Model → List (Line Call) → List (List ℕ)
listings member m [] = []
listings member m (line.Events ∷ ls) = event_lines (held m) ∷ listings member m ls
listings member m (line.Call c ∷ ls) = listings member (step member m c).0 ls

-- what was done in all
abbrev pub last_line : List Call → List Answer → Model → List ℕ
last_line calls got m = sum_shown (sum_of calls got (length (held m))) ++ newline

-- a script with these lines
abbrev pub played : (ℕ → Bool) → List (Line Call) → List ℕ
played member ls =
    let calls = calls_in ls in
    told_lines ls (answers member new calls) (listings member new ls) ++ last_line calls (answers member new calls) (after member new calls)

-- of a script that cannot be read, why not
abbrev pub printed : Script → List ℕ
printed (Ok ls) = played house ls
printed (Err (n, e)) = script_error_shown (Unreadable n e) ++ newline
