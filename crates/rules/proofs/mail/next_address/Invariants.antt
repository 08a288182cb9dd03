use Rattle.std.proofs.Common.{◌≡◌}
use Rattle.rules.specs.Mail.{address_at}
use Rattle.rules.specs.InTurn.{found}
use Rattle.rules.proofs.mail.next_address.Given as goal

abbrev pub invariant-loop-at : goal.invariant-loop-at
invariant-loop-at l = found (address_at l.bytes l.from) l.bytes l.at ≡ found (address_at l.bytes l.from) l.bytes l.from
