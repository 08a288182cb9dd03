use Rattle.std.proofs.Common.{refl, arith}
use Rattle.recorded_answers.proofs.Unlike.{same_everywhere}
use Rattle.recorded_answers.proofs.answers.first_unlike.Goals as goal

pub returns-clause-equal : goal.returns-clause-equal
returns-clause-equal g c =
    (λ _. same_everywhere _ _ (λ k lt. c.loop-place.invariant k (omega arith)), λ _. refl)
