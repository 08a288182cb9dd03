use Rattle.std.proofs.Common.{◌≡◌, drop}
use Rattle.scripts.specs.Quotes.{quoted_from, quoted}
use Rattle.scripts.proofs.Quoting.{behind}
use Rattle.scripts.proofs.quotes.parse_quoted.Given as goal

-- what is read, and what is left to read
abbrev pub invariant-loop-byte : goal.invariant-loop-byte
invariant-loop-byte l = behind l.note.items (quoted_from l.place (drop l.byte-index l.text)) ≡ quoted l.text
