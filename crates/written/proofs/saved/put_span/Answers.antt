use Rattle.std.proofs.Common.{◌+◌, ◌-◌, length, ap, ◌∙◌}
use Rattle.written.specs.Fronts.{placed}
use Rattle.written.specs.Numbers.{number}
use Rattle.written.proofs.Placed.{placed-three}
use Rattle.written.proofs.saved.put_span.Goals as goal

pub returns-clause-written : goal.returns-clause-written
returns-clause-written c =
    let x = c.args.span.now in
    let out = c.args.out.now in
    let kind = c.kind_number.ensures.number in
    let first = c.put_number-gap_at in
    let second = c.put_number-length_at in
    placed-three _ (number (x.from - c.args.end)) (number (x.to - x.from)) out first.new.out second.new.out c.put_number.new.out c.args.at first.result second.result c.requires.room first.auto.out (first.ensures.next ∙ ap (λ n. c.args.at + length (number n)) kind) second.ensures.next (first.ensures.written ∙ ap (λ n. placed (number n) c.args.at out) kind) second.ensures.written c.put_number.ensures.written
