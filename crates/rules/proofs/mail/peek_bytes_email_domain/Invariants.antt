use Rattle.std.proofs.Common.{◌≡◌}
use Rattle.rules.specs.Mail.{domain_stop}
use Rattle.rules.proofs.mail.peek_bytes_email_domain.Given as goal

abbrev pub invariant-loop-index : goal.invariant-loop-index
invariant-loop-index l = domain_stop l.bytes l.index ≡ domain_stop l.bytes l.start
