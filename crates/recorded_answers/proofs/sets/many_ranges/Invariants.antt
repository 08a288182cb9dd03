use Rattle.std.proofs.Common.{◌≡◌}
use Rattle.recorded_answers.specs.Sets.{many}
use Rattle.recorded_answers.proofs.sets.many_ranges.Given as goal

abbrev pub invariant-loop-rank : goal.invariant-loop-rank
invariant-loop-rank l = l.numbers.items ≡ many l.rank
