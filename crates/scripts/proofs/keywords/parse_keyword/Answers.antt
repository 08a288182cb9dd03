use Rattle.std.proofs.Common.{rules, sym, ap, arith, codes}
use Rattle.std.proofs.lemmas.Slice.Eq.{text_from_reads}
use Rattle.scripts.specs.Keywords.{keyword_of}
use Rattle.scripts.proofs.keywords.parse_keyword.Goals as goal

pub returns-in-events : goal.returns-in-events
returns-in-events c = sym (ap keyword_of (text_from_reads c.args.word.now (codes "events") (omega arith) (search rules)))

pub returns-in-resolve : goal.returns-in-resolve
returns-in-resolve c = sym (ap keyword_of (text_from_reads c.args.word.now (codes "resolve") (omega arith) (search rules)))
