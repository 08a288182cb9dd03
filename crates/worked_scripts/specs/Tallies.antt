-- How many scripts there were.
-- Assumes nothing.
use Rattle.std.specs.Prelude.{ℕ, ◌+◌, ◌-◌, ◌^◌, min, Bool, cond, List, ◌++◌, codes, decimal}
use Rattle.worked_scripts.specs.declared.tallies.Tally.{Tally}

-- as far as 64 bits count
abbrev pub one_more : ℕ → ℕ
one_more n = min (n + 1) (2 ^ 64 - 1)

-- with one more script, which came out as written or did not
abbrev pub counted : Bool → Tally → Tally
counted as_written t = record { scripts = one_more t.scripts; as_written = cond as_written (one_more t.as_written) t.as_written }

-- as `49 scripts, 49 as written`
abbrev pub tally_shown : Tally → List ℕ
tally_shown t = decimal t.scripts ++ (codes " scripts, " ++ (decimal t.as_written ++ codes " as written"))
