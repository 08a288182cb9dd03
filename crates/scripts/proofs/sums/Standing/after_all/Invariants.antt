use Rattle.std.proofs.Common.{◌≡◌, ◌≤◌, length, drop}
use Rattle.calls.specs.Moments.{Told, told, nothing}
use Rattle.scripts.specs.Sums.{standing}
use Rattle.scripts.proofs.sums.Standing.after_all.Given as goal

-- what the calls so far and their answers tell, and what is left to tell
abbrev pub invariant-loop-call : goal.invariant-loop-call
invariant-loop-call l =
    (t : Told)
    × (l.standing ≡ standing t)
    × (length t.links ≤ l.call-index)
    × (told t (drop l.call-index l.calls) l.answers ≡ told nothing l.calls l.fn.answers)
