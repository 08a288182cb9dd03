use Rattle.std.proofs.Common.{◌≡◌, ◌+◌, ◌-◌, ◌^◌, ◌≤◌, min, drop}
use Rattle.readings.specs.Readings.{steps_made}
use Rattle.webspans.specs.Report.{total}
use Rattle.webspans.proofs.report.total_steps.Given as goal

-- with the steps of the calls that are left
abbrev pub invariant-loop-call : goal.invariant-loop-call
invariant-loop-call l = record {
  fits : l.total ≤ 2 ^ 64 - 1;
  all : min (l.total + steps_made (drop l.call-index l.calls)) (2 ^ 64 - 1) ≡ total l.calls;
}
