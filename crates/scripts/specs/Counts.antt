-- Numbers of things.
-- Assumes nothing.
use Rattle.std.specs.Prelude.{ℕ, cond, List, ◌++◌, codes, decimal, ◌==◌}

abbrev pub ending : ℕ → List ℕ
ending n = cond (n == 1) (codes "") (codes "s")

-- as `1 step` and `19 steps`
abbrev pub counted_shown : ℕ → List ℕ → List ℕ
counted_shown n noun = decimal n ++ (codes " " ++ (noun ++ ending n))
