use Rattle.std.proofs.Common.{sym, rules}
use Rattle.characters.proofs.Characters.{none_of_three}
use Rattle.characters.proofs.utf8.decode.Goals as goal

pub returns-in_default-4 : goal.returns-in_default-4
returns-in_default-4 c = none_of_three c.args.bytes.now (search rules) (search rules) (sym c.if-is_well_formed.ensures) (sym c.if-is_well_formed-2.ensures) (sym c.if-is_well_formed-3.ensures)
