use Rattle.std.proofs.Common.{◌<◌, sym, ap, ◌∙◌, arith}
use Rattle.std.proofs.lemmas.Bool.{ltb-true}
use Rattle.punctuation.specs.Kinds.{kind_of}
use Rattle.engine.proofs.AsciiKinds.{ascii_kind_at}
use Rattle.engine.proofs.engine.Engine.kind.Goals as goal

pub returns-clause-kind : goal.returns-clause-kind
returns-clause-kind g c =
    let member = g.S.PunctuationSet.member c.args.self.now.set in
    let note = c.args.self.now.tokenizer.note.items in
    let index = c.args.self.now.tokenizer.cursor.point.index in
    let found = rw c.deref.ensures.value at c.in-Some.ensures.lookup.3 in
    let low : c.in-Some.byte.now < 128 = ltb-true c.in-Some.byte.now 128 (sym c.is_ascii.ensures ∙ c.if-is_ascii.true) in
    c.classify.ensures.kind ∙ ap (kind_of member) (c.from.ensures ∙ found.1 0) ∙ sym (ascii_kind_at member note index found.0 (omega (arith, low, found.1 0)))
