use Rattle.std.proofs.Common.{◌≡◌, take}
use Rattle.std.specs.List.{sum_by}
use Rattle.edit_map.specs.declared.entries.Entry.{Entry}
use Rattle.edit_map.proofs.map.search.total_size.Given as goal

abbrev pub invariant-loop-entry : goal.invariant-loop-entry
invariant-loop-entry l = l.size ≡ sum_by (λ (e : Entry). e.size) (take l.entry-index l.entries)
