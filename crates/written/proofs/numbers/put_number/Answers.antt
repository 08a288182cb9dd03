use Rattle.std.proofs.Common.{ℕ, ◌+◌, List, length, sym, ap, ◌∙◌, arith}
use Rattle.written.specs.Fronts.{placed}
use Rattle.written.proofs.Groups.{number-one, number-two}
use Rattle.written.proofs.numbers.put_number.Goals as goal

pub put-requires : goal.put-requires
put-requires c = omega (arith, c.requires.room, ap length (number-one c.args.n c.if-n-lt-ONE_BYTE.true))

pub put-requires-else-n-lt-ONE_BYTE : goal.put-requires-else-n-lt-ONE_BYTE
put-requires-else-n-lt-ONE_BYTE c = omega (arith, c.requires.room, ap length (number-two c.args.n c.if-n-lt-ONE_BYTE.false c.requires.small))

pub returns-then-n-lt-ONE_BYTE : goal.returns-then-n-lt-ONE_BYTE
returns-then-n-lt-ONE_BYTE c =
    let e = sym (number-one c.args.n c.if-n-lt-ONE_BYTE.true) in
    record {
      next = c.put.ensures.next ∙ ap (λ (xs : List ℕ). c.args.at + length xs) e;
      written = c.put.ensures.written ∙ ap (λ (xs : List ℕ). placed xs c.args.at c.args.out.now) e;
    }

pub returns-else-n-lt-ONE_BYTE : goal.returns-else-n-lt-ONE_BYTE
returns-else-n-lt-ONE_BYTE c =
    let e = sym (number-two c.args.n c.if-n-lt-ONE_BYTE.false c.requires.small) in
    let p = c.put-else-n-lt-ONE_BYTE.ensures in
    record {
      next = p.next ∙ ap (λ (xs : List ℕ). c.args.at + length xs) e;
      written = p.written ∙ ap (λ (xs : List ℕ). placed xs c.args.at c.args.out.now) e;
    }
