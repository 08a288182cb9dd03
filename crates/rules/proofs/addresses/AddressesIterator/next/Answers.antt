use Rattle.std.proofs.Common.{length, refl, sym, ap, arith}
use Rattle.rules.specs.Mail.{address_at}
use Rattle.rules.proofs.AddressParts.{mail-forward}
use Rattle.rules.proofs.Turns.{left-more}
use Rattle.rules.proofs.addresses.AddressesIterator.next.Goals as goal

-- the span comes first of those that were left
pub returns-clause-steps : goal.returns-clause-steps
returns-clause-steps c =
    let s = c.args.self.now.bytes.now in
    (left-more (address_at s) s (mail-forward s) c.args.self.now.end c.in_ok-span.span (sym c.in_ok-span.ensures), refl)

pub returns-clause-goes : goal.returns-clause-goes
returns-clause-goes c =
    let s = c.args.self.now.bytes.now in
    let e = ap length (left-more (address_at s) s (mail-forward s) c.args.self.now.end c.in_ok-span.span (sym c.in_ok-span.ensures)) in
    record { on = λ _. (tt, tt, omega (arith, e)); keeps = tt; rests = λ _. tt }
