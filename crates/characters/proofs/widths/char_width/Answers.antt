use Rattle.std.proofs.Common.{refl, arith}
use Rattle.characters.proofs.CharacterWidths.{written_within}
use Rattle.characters.proofs.widths.char_width.Goals as goal

pub returns-in-Some-clause-ends_within : goal.returns-in-Some-clause-ends_within
returns-in-Some-clause-ends_within c lt =
    let e = c.in-Some.ensures in
    (omega (arith, c.len_utf8.ensures.lower_bound), omega (arith, c.len_utf8.ensures.len, written_within c.args.bytes.now c.args.index c.in-Some.c (e.read_is_encoded c.in-Some.c refl c.in-Some.c-test.1) lt))
