use Rattle.std.proofs.Common.{sym, ap, ◌∙◌, subst, take, ◌*◌}
use Rattle.punctuation.specs.RangeLists.{LongestLawfulFront}
use Rattle.punctuation.proofs.KeptRanges.{kept, leads_taken, leads_members}
use Rattle.punctuation.proofs.RangeLaws.{taken_longest}
use Rattle.punctuation.proofs.range_lists.RangeList.new.Goals as goal

pub slice_bounds-result-end : goal.slice_bounds-result-end
slice_bounds-result-end c =
    let k = kept c.args.numbers.now c.as_chunks.result.0.now c.min.result c.count_lawful.result c.as_chunks.ensures.front c.min.ensures c.count_lawful.ensures in
    k.0 ∙ sym k.1.count

pub invariant_of-result : goal.invariant_of-result
invariant_of-result c =
    let k = kept c.args.numbers.now c.as_chunks.result.0.now c.min.result c.count_lawful.result c.as_chunks.ensures.front c.min.ensures c.count_lawful.ensures in
    record { whole = leads_taken c.args.numbers.now _ k.1 }

pub returns : goal.returns
returns c =
    let xs = c.args.numbers.now in
    let k = kept xs c.as_chunks.result.0.now c.min.result c.count_lawful.result c.as_chunks.ensures.front c.min.ensures c.count_lawful.ensures in
    record {
      lent = k.1.lent ∙ ap (λ j. take (2 * j) xs) (sym k.1.count);
      longest = subst (LongestLawfulFront xs) (sym k.1.count) (taken_longest xs);
      members = leads_members xs _ k.1;
    }
