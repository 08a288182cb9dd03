-- What is told of a script, line by line.
-- Assumes nothing.
use Rattle.std.specs.Prelude.{ℕ, List, [], ◌∷◌, ◌++◌, map, codes}
use Rattle.calls.specs.declared.scripts.Call.{Call}
use Rattle.calls.specs.Steps.{Answer}
use Rattle.scripts.specs.declared.commands.Line.{Line}
use Rattle.scripts.specs.declared.commands.Line.TheVariants as line
use Rattle.scripts.specs.Answers.{answer_shown}
use Rattle.scripts.specs.Texts.{call_shown}

-- as `push 7 99: 19 steps, done`
abbrev pub answered_line : Call → Answer → List ℕ
answered_line c a = call_shown c ++ (codes ": " ++ (answer_shown a ++ codes "\n"))

-- the answers of the calls, and the listings of the lines that ask for events, each in turn
abbrev pub told_lines : List (Line Call) → List Answer → List (List ℕ) → List ℕ
told_lines [] got listings = []
told_lines (line.Call c ∷ ls) [] listings = []
told_lines (line.Call c ∷ ls) (a ∷ got) listings = answered_line c a ++ told_lines ls got listings
told_lines (line.Events ∷ ls) got [] = []
told_lines (line.Events ∷ ls) got (events ∷ listings) = events ++ told_lines ls got listings
