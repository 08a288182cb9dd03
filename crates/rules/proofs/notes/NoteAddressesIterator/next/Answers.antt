use Rattle.std.proofs.Common.{arith}
use Rattle.rules.specs.Mail.{addresses_left}
use Rattle.rules.proofs.AddressParts.{next_inside}
use Rattle.rules.proofs.notes.NoteAddressesIterator.next.Goals as goal

pub overflow_add-result : goal.overflow_add-result
overflow_add-result c =
    let line = c.loop-span.self.line in
    let rest = addresses_left c.next.new.self.bytes.now c.next.new.self.end in
    omega (arith, next_inside line.bytes.now line.end c.in-Some.span rest c.in-Some.ensures.steps.0, c.loop-span.self.within)

pub overflow_add-result-in-Some : goal.overflow_add-result-in-Some
overflow_add-result-in-Some c =
    let line = c.loop-span.self.line in
    let rest = addresses_left c.next.new.self.bytes.now c.next.new.self.end in
    omega (arith, next_inside line.bytes.now line.end c.in-Some.span rest c.in-Some.ensures.steps.0, c.loop-span.self.within)
