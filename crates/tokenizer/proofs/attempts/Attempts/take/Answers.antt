use Rattle.std.proofs.Common.{vec_items}
use Rattle.tokenizer.specs.Stack.{stack}
use Rattle.tokenizer.proofs.Stacks.{taken-off}
use Rattle.tokenizer.proofs.attempts.Attempts.take.Goals as goal

pub returns : goal.returns
unfolding stack
returns c = taken-off c.pop.result (vec_items c.args.self.now.items) (vec_items c.pop.new.self.items) c.pop.ensures.items c.pop.ensures.none
