use Rattle.std.proofs.Common.{◌≡◌, get_or, None, sym, ◌∙◌}
use Rattle.std.proofs.lemmas.List.{get_or_past}
use Rattle.rules.specs.Mail.{address_at}
use Rattle.rules.proofs.Turns.{found-end}
use Rattle.rules.proofs.mail.next_address.Goals as goal

pub returns-after-loop-at : goal.returns-after-loop-at
returns-after-loop-at c =
    let s = c.args.bytes.now in
    let past : get_or s c.loop-at.at 0 ≡ 0 = get_or_past s c.loop-at.at 0 c.loop-at-test.false in
    let none : address_at s c.args.from c.loop-at.at ≡ None = rw past in
    sym (found-end (address_at s c.args.from) s c.loop-at.at c.loop-at-test.false none) ∙ c.loop-at.invariant
