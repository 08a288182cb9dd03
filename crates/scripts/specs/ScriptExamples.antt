-- Scripts, with what they say.
-- Assumes nothing.
use Rattle.std.specs.Prelude.{◌≡◌, ℕ, List, [], ◌∷◌, ◌++◌, codes, Ok, Err}
use Rattle.std.specs.List.{AllByRecursion}
use Rattle.calls.specs.declared.scripts.Call.{Call}
use Rattle.calls.specs.declared.scripts.Call.TheVariants as call
use Rattle.scripts.specs.declared.commands.Line.{Line}
use Rattle.scripts.specs.declared.commands.Line.TheVariants as line
use Rattle.scripts.specs.declared.errors.Expected.TheVariants as expected
use Rattle.scripts.specs.Commands.{loan}
use Rattle.scripts.specs.Scripts.{Script, script_of}

abbrev load : List ℕ → Line Call
load note = line.Call (call.Load (loan note))

abbrev push : ℕ → ℕ → Line Call
push to allowance = line.Call (call.Push to allowance)

abbrev end : ℕ → Line Call
end allowance = line.Call (call.End allowance)

abbrev link : ℕ → ℕ → Line Call
link first last = line.Call (call.Link first last)

abbrev resolve : Line Call
resolve = line.Call call.Resolve

abbrev clear : Line Call
clear = line.Call call.Clear

abbrev events : Line Call
events = line.Events

-- a text, and what it says
pub record Example : Type 0 where
  pub text : List ℕ
  pub says : Script

abbrev example : List ℕ → Script → Example
example text says = record { text = text; says = says }

abbrev pub ComesOut : Example → Type 0
ComesOut x = script_of x.text ≡ x.says

abbrev pub examples : List Example
examples =
    example [] (Ok []) ∷
    -- a whole session
    example
    (codes "# a web link\nload \"a www.b\"\n\npush 7 99\nend 99\nevents\nlink 0 1\n  resolve  \nclear\n")
    (Ok (load (codes "a www.b") ∷ push 7 99 ∷ end 99 ∷ events ∷ link 0 1 ∷ resolve ∷ clear ∷ [])) ∷
    -- escapes, spaces and a comment sign inside the text, and no LF at the end
    example (codes "load \"# \\\"\\\\\\n\\r\\t\\x7e\\xFF\"") (Ok (load (codes "# \"\\\n\r\t~" ++ 255 ∷ []) ∷ [])) ∷
    example (codes "load \"\"") (Ok (load [] ∷ [])) ∷
    -- the largest number that is held, and one more
    example (codes "end 18446744073709551615") (Ok (end 18446744073709551615 ∷ [])) ∷
    example (codes "end 18446744073709551616") (Err (1, expected.Number)) ∷
    example (codes "end 9\nend -1") (Err (2, expected.Number)) ∷
    example (codes "push 7") (Err (1, expected.Number)) ∷
    example (codes "push 7 9 1") (Err (1, expected.EndOfLine)) ∷
    example (codes "resolve now") (Err (1, expected.EndOfLine)) ∷
    example (codes "Resolve") (Err (1, expected.Keyword)) ∷
    example (codes "load a") (Err (1, expected.Text)) ∷
    example (codes "load") (Err (1, expected.Text)) ∷
    example (codes "load \"a") (Err (1, expected.ClosingQuote)) ∷
    example (codes "load \"a\\\"") (Err (1, expected.ClosingQuote)) ∷
    example (codes "load \"\\a\"") (Err (1, expected.Escape)) ∷
    example (codes "load \"\\xg0\"") (Err (1, expected.Escape)) ∷
    example (codes "load \"a\" b") (Err (1, expected.EndOfLine)) ∷
    -- the first line that cannot be read is told, and no later one
    example (codes "# one\npush\n\nclear 1") (Err (2, expected.Number)) ∷
    []

abbrev pub EveryExampleComesOut : Type 0
EveryExampleComesOut = AllByRecursion ComesOut examples
