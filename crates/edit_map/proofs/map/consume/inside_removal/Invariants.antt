use Rattle.std.proofs.Common.{◌≡◌, ◌+◌, drop}
use Rattle.edit_map.specs.Edits.{inside_removal}
use Rattle.edit_map.specs.Entries.{bare}
use Rattle.edit_map.proofs.map.consume.inside_removal.Given as goal

abbrev pub invariant-loop-rank : goal.invariant-loop-rank
invariant-loop-rank l = inside_removal l.end (bare (drop l.rank l.entries)) + l.rank ≡ inside_removal 0 (bare l.entries)
