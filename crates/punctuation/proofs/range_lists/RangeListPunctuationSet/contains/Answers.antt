use Rattle.std.proofs.Common.{◌≡◌, ℕ, ◌+◌, ◌-◌, ◌/◌, ◌<◌, true, [], List, length, sym, arith}
use Rattle.punctuation.specs.RangeLists.{lawful, taken_up, numbers_of}
use Rattle.punctuation.proofs.KeptRanges.{pair_at, member_told}
use Rattle.punctuation.proofs.RangeSearch.{taken_lawful, all_above, all_below, found, not_found}
use Rattle.punctuation.proofs.range_lists.RangeListPunctuationSet.contains.Goals as goal

each : (rs : List (List ℕ)) → taken_up (numbers_of rs) ≡ length rs → (k : ℕ) → k < length rs → lawful (numbers_of rs) k ≡ true
each rs whole k lt = taken_lawful (numbers_of rs) k (omega (arith, whole))

pub loop-low-preserved-then-code-first : goal.loop-low-preserved-then-code-first
loop-low-preserved-then-code-first c =
    let rs = c.args.self.now.ranges.now in
    let m : ℕ = c.loop-low.low + (c.loop-low.high - c.loop-low.low) / 2 in
    let lt : m < length rs = omega arith in
    let p = pair_at rs m [] lt in
    (omega arith, omega arith, c.loop-low.invariant.2, all_above (numbers_of rs) (length rs) (each rs c.args.self.now.whole) c.from-code.result m lt (omega (arith, p, c.if-code-first.true)))

pub loop-low-preserved : goal.loop-low-preserved
loop-low-preserved c =
    let rs = c.args.self.now.ranges.now in
    let m : ℕ = c.loop-low.low + (c.loop-low.high - c.loop-low.low) / 2 in
    let lt : m < length rs = omega arith in
    let p = pair_at rs m [] lt in
    (omega arith, omega arith, all_below (numbers_of rs) (length rs) (each rs c.args.self.now.whole) c.from-code.result m lt (omega (arith, p, c.if-last-code.true)), c.loop-low.invariant.3)

pub returns-else-last-code-clause-answer : goal.returns-else-last-code-clause-answer
returns-else-last-code-clause-answer c =
    let rs = c.args.self.now.ranges.now in
    let m : ℕ = c.loop-low.low + (c.loop-low.high - c.loop-low.low) / 2 in
    let lt : m < length rs = omega arith in
    let p = pair_at rs m [] lt in
    let told = found (numbers_of rs) (length rs) c.from-code.result m lt (omega (arith, p, c.if-code-first.false)) (omega (arith, p, c.if-last-code.false)) in
    member_told rs c.args.c c.from-code.result true c.from-code.ensures c.ranges.c.0 c.args.self.now.whole (sym told)

pub returns-clause-answer : goal.returns-clause-answer
returns-clause-answer c =
    let rs = c.args.self.now.ranges.now in
    let told = not_found (numbers_of rs) (length rs) c.from-code.result c.loop-low.low c.loop-low.invariant.2 (λ k from to. c.loop-low.invariant.3 k (omega arith) to) in
    member_told rs c.args.c c.from-code.result _ c.from-code.ensures c.ranges.c.0 c.args.self.now.whole (sym told)
