use Rattle.std.proofs.Common.{◌≡◌, ℕ, ◌<◌, true}
use Rattle.punctuation.specs.RangeLists.{lawful, numbers_of}
use Rattle.punctuation.proofs.KeptRanges.{last_before}
use Rattle.punctuation.proofs.range_lists.count_lawful.Given as goal

abbrev pub invariant-loop-k : goal.invariant-loop-k
invariant-loop-k l = record { each : (j : ℕ) → j < l.k → lawful (numbers_of l.ranges) j ≡ true; before : l.before ≡ last_before (numbers_of l.ranges) l.k }
