use Rattle.std.proofs.Common.{◌≡◌, ◌++◌, drop, map, string_bytes}
use Rattle.scripts.specs.Commands.{meant_line}
use Rattle.scripts.specs.Report.{told_lines}
use Rattle.scripts.proofs.report.write_lines.Given as goal

-- what is written, and what is left to write
abbrev pub invariant-loop-line : goal.invariant-loop-line
invariant-loop-line l =
    string_bytes l.report ++ told_lines (map meant_line (drop l.line-index l.script)) l.answers (map string_bytes l.listings)
    ≡ string_bytes l.fn.report ++ told_lines (map meant_line l.script) l.fn.answers (map string_bytes l.fn.listings)
