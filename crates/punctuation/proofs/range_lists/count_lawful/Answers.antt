use Rattle.std.proofs.Common.{length, sym, ap, ◌∙◌, [], below_more, add-one, arith}
use Rattle.punctuation.specs.RangeLists.{numbers_of}
use Rattle.punctuation.proofs.KeptRanges.{last_before, pair_at, lawful_step, first_unlawful}
use Rattle.punctuation.proofs.range_lists.count_lawful.Goals as goal

pub returns-then-not-is_lawful_after : goal.returns-then-not-is_lawful_after
returns-then-not-is_lawful_after c =
    let rs = c.args.ranges.now in
    let k = c.loop-k.k in
    let i = c.loop-k.invariant in
    first_unlawful (numbers_of rs) (length rs) k i.each (omega arith)
    (λ lt. sym (lawful_step rs k [] c.loop-k.before lt i.each i.before) ∙ sym c.if-not-is_lawful_after.ensures)

pub loop-k-preserved : goal.loop-k-preserved
loop-k-preserved c =
    let rs = c.args.ranges.now in
    let k = c.loop-k.k in
    let i = c.loop-k.invariant in
    record {
      each = below_more _ _ i.each (sym (lawful_step rs k [] c.loop-k.before c.loop-k-test.true i.each i.before) ∙ sym c.if-not-is_lawful_after.ensures);
      before = sym (pair_at rs k [] c.loop-k-test.true).1 ∙ ap (last_before (numbers_of rs)) (sym (add-one k));
    }

pub returns : goal.returns
returns c =
    let rs = c.args.ranges.now in
    first_unlawful (numbers_of rs) (length rs) (length rs) (λ j lt. c.loop-k.invariant.each j (omega arith)) (omega arith) (λ lt. absurd (omega arith))
