use Rattle.std.proofs.Common.{rules}
use Rattle.characters.proofs.CharacterLists.{first_then}
use Rattle.characters.proofs.char_indices.CharIndicesIterator.next.Goals as goal

pub returns-clause-steps : goal.returns-clause-steps
returns-clause-steps c = first_then c.args.self.now.bytes.now c.args.self.now.index c.in_ok-c.c c.char_width.result c.in_ok-c.ensures.answer c.char_width.ensures.answer

pub returns-clause-goes : goal.returns-clause-goes
returns-clause-goes c =
    let e = first_then c.args.self.now.bytes.now c.args.self.now.index c.in_ok-c.c c.char_width.result c.in_ok-c.ensures.answer c.char_width.ensures.answer in
    search rules
