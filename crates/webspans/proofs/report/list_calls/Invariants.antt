use Rattle.std.proofs.Common.{◌≡◌, ◌++◌, drop, string_bytes}
use Rattle.webspans.specs.Report.{call_lines}
use Rattle.webspans.proofs.report.list_calls.Given as goal

-- what is written, and the lines of what is left
abbrev pub invariant-loop-call : goal.invariant-loop-call
invariant-loop-call l = string_bytes l.report ++ call_lines (drop l.call-index l.calls) ≡ string_bytes l.fn.report ++ call_lines l.calls
