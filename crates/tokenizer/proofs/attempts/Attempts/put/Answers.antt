use Rattle.std.proofs.Common.{[], ◌∷◌, reverse, vec_items, ap, ◌∙◌, arith}
use Rattle.std.proofs.lemmas.List.{length-reverse, reverse-append}
use Rattle.tokenizer.specs.Stack.{stack}
use Rattle.tokenizer.proofs.attempts.Attempts.put.Goals as goal

pub push-requires : goal.push-requires
unfolding stack
push-requires c = omega (arith, length-reverse (vec_items c.args.self.now.items), c.args.self.now.items.ok.0)

pub returns : goal.returns
unfolding stack
returns c = ap reverse c.push.ensures ∙ reverse-append (vec_items c.args.self.now.items) (c.args.attempt ∷ [])
