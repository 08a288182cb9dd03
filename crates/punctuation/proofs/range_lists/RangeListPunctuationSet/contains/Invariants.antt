use Rattle.std.proofs.Common.{ℕ, ◌-◌, ◌<◌, ◌≤◌, length}
use Rattle.punctuation.specs.RangeLists.{first_of, last_of, numbers_of}
use Rattle.punctuation.proofs.range_lists.RangeListPunctuationSet.contains.Given as goal

-- c lies above the ranges before `low`, and below those from `high` on
abbrev pub invariant-loop-low : goal.invariant-loop-low
invariant-loop-low l =
    (l.low ≤ l.high) × (l.high ≤ length l.ranges) × ((k : ℕ) → k < l.low → last_of (numbers_of l.ranges) k < l.code) × ((k : ℕ) → l.high ≤ k → k < length l.ranges → l.code < first_of (numbers_of l.ranges) k)

abbrev pub decreases-loop-low : goal.decreases-loop-low
decreases-loop-low l = l.high - l.low
