use Rattle.std.proofs.Common.{◌≡◌, ◌+◌, drop, map}
use Rattle.scripts.specs.Commands.{meant_line}
use Rattle.scripts.specs.Scripts.{script_from, script_of, lines}
use Rattle.scripts.proofs.Scripting.{behind}
use Rattle.scripts.proofs.parsing.parse_script.Given as goal

-- what is read, and what is left to read
abbrev pub invariant-loop-index : goal.invariant-loop-index
invariant-loop-index l = behind (map meant_line l.script.items) (script_from (l.index + 1) (drop l.index (lines l.text))) ≡ script_of l.text
