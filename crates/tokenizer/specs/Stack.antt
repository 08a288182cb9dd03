-- The attempts under way, the latest first.
-- Assumes nothing.
use Rattle.std.specs.Prelude.{ℕ, List, reverse, vec_items}
use Rattle.machine.specs.declared.attempts.Attempt.{Attempt}
use Rattle.tokenizer.specs.declared.table.Table.{Table}

unfoldable pub stack : {N : ℕ} → Table Attempt N → List Attempt
stack a = reverse (vec_items a.items)
