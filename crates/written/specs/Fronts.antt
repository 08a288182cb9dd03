-- Bytes written into a slice.
-- Assumes nothing.
use Rattle.std.specs.Prelude.{ℕ, ◌+◌, List, ◌++◌, length, take, drop}

-- the slice with xs at place `at`, and its other bytes as they were
abbrev pub placed : List ℕ → ℕ → List ℕ → List ℕ
placed xs at lent = take at lent ++ (xs ++ drop (at + length xs) lent)
