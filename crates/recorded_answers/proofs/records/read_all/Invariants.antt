use Rattle.std.proofs.Common.{◌≡◌, ◌++◌, length}
use Rattle.std.specs.List.{flat_map}
use Rattle.recorded_answers.proofs.records.read_all.Given as goal

abbrev pub invariant-loop : goal.invariant-loop
invariant-loop g l =
    record {
      numbers : flat_map g.T.Listed.numbers l.all.items ++ l.left ≡ l.fn.line;
      count : length l.all.items ≡ l.counter;
    }
