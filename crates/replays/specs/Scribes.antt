-- Which lines a watcher writes down at one moment.
-- Assumes nothing.
use Rattle.std.specs.Prelude.{◌≡◌, ℕ, List, [], ◌∷◌, ◌++◌, map, string_bytes, vec_items}
use Rattle.calls.specs.declared.scripts.Call.{Call}
use Rattle.calls.specs.Calls.{Model}
use Rattle.calls.specs.Steps.{held}
use Rattle.scripts.specs.declared.commands.Line.{Line}
use Rattle.scripts.specs.declared.commands.Line.TheVariants as line
use Rattle.scripts.specs.Commands.{meant_line}
use Rattle.written.specs.Listing.{event_lines}
use Rattle.replays.specs.declared.scribe.Scribe.{Scribe}

-- what stands behind the next call
abbrev pub behind_call : List (Line Call) → List (Line Call)
behind_call [] = []
behind_call (line.Events ∷ ls) = behind_call ls
behind_call (line.Call c ∷ ls) = ls

-- this listing, for each line before the next call that asks for it
abbrev pub asked_now : List ℕ → List (Line Call) → List (List ℕ)
asked_now listing [] = []
asked_now listing (line.Events ∷ ls) = listing ∷ asked_now listing ls
asked_now listing (line.Call c ∷ ls) = []

-- the lines that are left to it, and what it has written
abbrev pub lines_left : Scribe → List (Line Call)
lines_left w = map meant_line w.rest.now

abbrev pub texts_of : Scribe → List (List ℕ)
texts_of w = map string_bytes (vec_items w.listings)

-- one look at a reader which is m
abbrev pub Wrote : Scribe → Model → Scribe → Type 0
Wrote w m w' =
    (lines_left w' ≡ behind_call (lines_left w)) × (texts_of w' ≡ texts_of w ++ asked_now (event_lines (held m)) (lines_left w))
