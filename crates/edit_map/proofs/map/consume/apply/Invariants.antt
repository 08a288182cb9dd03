use Rattle.edit_map.proofs.Applies.{Left}
use Rattle.edit_map.proofs.map.consume.apply.Given as goal

abbrev pub invariant-loop-entry : goal.invariant-loop-entry
invariant-loop-entry g l = Left l.entries l.store l.list l.initial.out l.entry-index l.from l.used l.end l.out
