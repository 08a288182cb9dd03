-- What a line of a script means.
-- Assumes nothing.
use Rattle.std.specs.Prelude.{ℕ, Bool, true, cond, List, [], ◌∷◌, Some, None, Option, Ok, Err, Result, ◌==◌}
use Rattle.calls.specs.declared.scripts.Call.{Call}
use Rattle.calls.specs.declared.scripts.Call.TheVariants as call
use Rattle.scripts.specs.declared.commands.Line.{Line}
use Rattle.scripts.specs.declared.commands.Line.TheVariants as line
use Rattle.scripts.specs.declared.errors.Expected.{Expected}
use Rattle.scripts.specs.declared.keywords.Keyword.{Keyword}
use Rattle.scripts.specs.declared.keywords.Keyword.TheVariants as keyword
use Rattle.scripts.specs.Commands.{loan}
use Rattle.scripts.specs.Keywords.{keyword_of}
use Rattle.scripts.specs.Quotes.{quoted}
use Rattle.scripts.specs.Words.{skip_space, word, behind_word, ended, number_in_front}

-- unless it is refused already
abbrev pub and_then : {A B : Type 0} → Result A Expected → (A → Result B Expected) → Result B Expected
and_then (Ok x) f = f x
and_then (Err e) f = Err e

abbrev pub map_ok : {A B : Type 0} → (A → B) → Result A Expected → Result B Expected
map_ok f (Ok x) = Ok (f x)
map_ok f (Err e) = Err e

-- one number and nothing else
abbrev pub one_number : List ℕ → Result ℕ Expected
one_number text = and_then (number_in_front text) (λ n. map_ok (λ _. n.0) (ended n.1))

abbrev pub two_numbers : List ℕ → Result (ℕ × ℕ) Expected
two_numbers text = and_then (number_in_front text) (λ n. map_ok (λ m. (n.0, m)) (one_number n.1))

-- what a keyword asks for, with what stands behind it
abbrev pub command : Keyword → List ℕ → Result (Line Call) Expected
command keyword.Load rest = map_ok (λ note. line.Call (call.Load (loan note))) (quoted rest)
command keyword.Push rest = map_ok (λ n. line.Call (call.Push n.0 n.1)) (two_numbers rest)
command keyword.End rest = map_ok (λ n. line.Call (call.End n)) (one_number rest)
command keyword.Link rest = map_ok (λ n. line.Call (call.Link n.0 n.1)) (two_numbers rest)
command keyword.Resolve rest = map_ok (λ _. line.Call call.Resolve) (ended rest)
command keyword.Clear rest = map_ok (λ _. line.Call call.Clear) (ended rest)
command keyword.Events rest = map_ok (λ _. line.Events) (ended rest)

-- an empty line, whose first word is empty, and a comment say nothing
abbrev pub is_silent : List ℕ → Bool
is_silent [] = true
is_silent (b ∷ bs) = b == 35

-- what a line says, by its first word and what stands behind it
abbrev pub line_from : List ℕ → List ℕ → Result (Option (Line Call)) Expected
line_from first rest = cond (is_silent first) (Ok None) (map_ok Some (and_then (keyword_of first) (λ k. command k rest)))

abbrev pub line_of : List ℕ → Result (Option (Line Call)) Expected
line_of text = line_from (word (skip_space text)) (behind_word (skip_space text))
