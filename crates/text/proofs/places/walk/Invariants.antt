use Rattle.std.proofs.Common.{◌≡◌}
use Rattle.text.proofs.Walks.{Come}
use Rattle.text.proofs.places.walk.Given as goal

abbrev pub invariant-loop-at : goal.invariant-loop-at
invariant-loop-at l = record {
  come : Come l.note l.fn.from l.next;
  there : l.next.index ≡ l.at;
}
