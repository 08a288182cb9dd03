use Rattle.std.proofs.Common.{add-one, rules}
use Rattle.recorded_answers.specs.Sets.{many}
use Rattle.recorded_answers.proofs.sets.many_ranges.Goals as goal

pub loop-rank-init : goal.loop-rank-init
unfolding many
loop-rank-init c = search rules

pub loop-rank-preserved : goal.loop-rank-preserved
unfolding many
loop-rank-preserved c = rw (add-one c.loop-rank.rank) (search rules)
