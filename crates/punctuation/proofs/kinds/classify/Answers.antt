use Rattle.std.proofs.Common.{refl}
use Rattle.punctuation.proofs.kinds.classify.Goals as goal

pub returns-then-is_ascii : goal.returns-then-is_ascii
returns-then-is_ascii g c = record { kind = c.classify_ascii.ensures (g.S.PunctuationSet.member c.args.set.now); meaning_stays = refl }
