use Rattle.std.proofs.Common.{◌≡◌, length}
use Rattle.machine.specs.Moves.{settled}
use Rattle.tokenizer.specs.Stack.{stack}
use Rattle.tokenizer.specs.View.{machine}
use Rattle.tokenizer.proofs.tokenizer.Tokenizer.settle.Given as goal

-- what is left to settle comes to the same
abbrev pub invariant-loop-self : goal.invariant-loop-self
invariant-loop-self l = settled (machine l.self) ≡ settled (machine l.initial.self)

abbrev pub decreases-loop-self : goal.decreases-loop-self
decreases-loop-self l = length (stack l.self.attempts)
