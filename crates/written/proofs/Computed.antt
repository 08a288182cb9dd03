-- The examples, computed.
-- Assumes nothing.
use Rattle.std.proofs.Common.{refl}
use Rattle.std.specs.Fmt.{digits}
use Rattle.written.specs.FormExamples.{EveryExampleComesOut}
use Rattle.written.specs.Numbers.{number}

pub every_example_comes_out : EveryExampleComesOut
unfolding number digits
every_example_comes_out = (
  (refl, (refl, (refl, (refl, (refl, (refl, (refl, (refl, tt)))))))),
  ((refl, refl), ((refl, refl), ((refl, refl), ((refl, refl), ((refl, refl), ((refl, refl), ((refl, refl), ((refl, refl), ((refl, refl), ((refl, refl), ((refl, refl), ((refl, refl), ((refl, refl), ((refl, refl), ((refl, refl), tt))))))))))))))),
  (refl, (refl, (refl, (refl, (refl, tt))))),
)
