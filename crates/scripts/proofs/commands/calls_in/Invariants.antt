use Rattle.std.proofs.Common.{◌≡◌, ◌++◌, drop, map}
use Rattle.scripts.specs.Commands.{bare, meant_line, calls_in}
use Rattle.scripts.proofs.commands.calls_in.Given as goal

-- the calls so far, and those that are left
abbrev pub invariant-loop-line : goal.invariant-loop-line
invariant-loop-line l = map bare l.calls.items ++ calls_in (map meant_line (drop l.line-index l.script)) ≡ calls_in (map meant_line l.script)
