use Rattle.readings.specs.Plans.{AskedFor}
use Rattle.readings.proofs.plans.Plan.from_words.Given as goal

abbrev pub invariant-loop-option : goal.invariant-loop-option
invariant-loop-option l = AskedFor l.words l.option-index l.plan
