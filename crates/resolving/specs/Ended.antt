-- Which event lists are resolved: those of notes that were read to their end.
-- Assumes nothing.
use Rattle.std.specs.Prelude.{◌≡◌, ℕ, ◌≤◌, Bool, true, List, length}
use Rattle.machine.specs.declared.events.Event.{Event}
use Rattle.calls.specs.declared.links.MarkedRun.{MarkedRun}
use Rattle.calls.specs.Links.{marked_in_turn, ended_events}
use Rattle.calls.specs.Steps.{most_links}

-- the events of a note that was read to its end, with what some punctuation set meant then, and links that may be marked in them
pub record EndedWith (note : List ℕ) (links : List MarkedRun) (es : List Event) : Type 0 where
  pub member : ℕ → Bool
  pub ended : es ≡ ended_events member note
  pub short : length note ≤ 1024
  pub marked : marked_in_turn es 0 links ≡ true
  pub few : length links ≤ most_links

-- whatever that meaning was
abbrev pub Resolvable : List ℕ → List MarkedRun → List Event → Type 0
Resolvable note links es = ∥ EndedWith note links es ∥₁
