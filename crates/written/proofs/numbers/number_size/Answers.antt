use Rattle.std.proofs.Common.{length, sym, ap}
use Rattle.written.proofs.Groups.{number-one, number-two}
use Rattle.written.proofs.numbers.number_size.Goals as goal

pub returns-then-n-lt-ONE_BYTE-clause-size : goal.returns-then-n-lt-ONE_BYTE-clause-size
returns-then-n-lt-ONE_BYTE-clause-size c = sym (ap length (number-one c.args.n c.if-n-lt-ONE_BYTE.true))

pub returns-else-n-lt-ONE_BYTE-clause-size : goal.returns-else-n-lt-ONE_BYTE-clause-size
returns-else-n-lt-ONE_BYTE-clause-size c = sym (ap length (number-two c.args.n c.if-n-lt-ONE_BYTE.false c.requires))
