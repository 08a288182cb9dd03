use Rattle.std.proofs.Common.{[], ◌∷◌, arith}
use Rattle.std.proofs.lemmas.List.{length-append}
use Rattle.written.proofs.Placed.{puts-both}
use Rattle.written.proofs.lines.put_ended.Goals as goal

pub returns-clause-written : goal.returns-clause-written
returns-clause-written c =
    let xs = c.args.bytes.now in
    let mark = c.args.mark ∷ [] in
    let out = c.args.out.now in
    let one = c.put-mark_at in
    (puts-both xs mark out one.new.out c.put.new.out c.args.at one.result c.put.result (omega (arith, c.requires, length-append xs mark)) (record { next = one.ensures.next; written = one.ensures.written }) (record { next = c.put.ensures.next; written = c.put.ensures.written })).written
