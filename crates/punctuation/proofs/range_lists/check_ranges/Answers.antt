use Rattle.std.proofs.Common.{◌≡◌, rules}
use Rattle.punctuation.specs.RangeLists.{lawful_front, range_count}
use Rattle.punctuation.proofs.KeptRanges.{all_kept}
use Rattle.punctuation.proofs.range_lists.check_ranges.Goals as goal

pub returns-then-count-ranges : goal.returns-then-count-ranges
returns-then-count-ranges c =
    let e : c.count_lawful-count.result ≡ lawful_front c.args.numbers.now (range_count c.args.numbers.now) = all_kept c.args.numbers.now c.as_chunks.result.0.now c.count_lawful-count.result c.as_chunks.ensures.front c.count_lawful-count.ensures in
    search rules

pub returns : goal.returns
returns c =
    let e : c.count_lawful-count.result ≡ lawful_front c.args.numbers.now (range_count c.args.numbers.now) = all_kept c.args.numbers.now c.as_chunks.result.0.now c.count_lawful-count.result c.as_chunks.ensures.front c.count_lawful-count.ensures in
    search rules
