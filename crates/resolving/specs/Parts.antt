-- Data split around addresses that are counted from its begin on.
-- Assumes nothing.
use Rattle.std.specs.Prelude.{ℕ, List, map}
use Rattle.text.specs.declared.spans.Span.{Span}
use Rattle.rules.specs.Notes.{moved}
use Rattle.machine.specs.Laws.{Segment}
use Rattle.calls.specs.Links.{filled, as_named}

-- the bytes `from` to `to` − 1: the addresses, and each longest run of other bytes as one Data span
abbrev pub parts : ℕ → List Span → ℕ → List Segment
parts from mail to = filled from (map as_named (map (moved from) mail)) to
