-- How recorded answers are counted, and how the last line tells it.
-- Assumes nothing.
use Rattle.std.specs.Prelude.{ℕ, ◌+◌, ◌-◌, ◌^◌, min, Bool, true, false, List, ◌++◌, codes, decimal}
use Rattle.recorded_answers.specs.declared.tallies.Tally.{Tally}

-- one more, as far as 64 bits go
abbrev pub up : ℕ → ℕ
up n = min (n + 1) (2 ^ 64 - 1)

-- one more answer, which agrees or does not
abbrev pub counted : Bool → Tally → Tally
counted true t = record { answers = up t.answers; agreeing = up t.agreeing }
counted false t = record { answers = up t.answers; agreeing = t.agreeing }

-- as `400 answers, 399 agree`
abbrev pub tally_shown : Tally → List ℕ
tally_shown t = decimal t.answers ++ (codes " answers, " ++ (decimal t.agreeing ++ codes " agree"))
