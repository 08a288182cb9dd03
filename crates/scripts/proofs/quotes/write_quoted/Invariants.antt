use Rattle.std.proofs.Common.{◌≡◌, ◌++◌, ◌∷◌, [], drop, string_bytes}
use Rattle.scripts.specs.Quotes.{all_escaped}
use Rattle.scripts.proofs.quotes.write_quoted.Given as goal

-- what is written, and what is left to write
abbrev pub invariant-loop-byte : goal.invariant-loop-byte
invariant-loop-byte l = string_bytes l.out ++ all_escaped (drop l.byte-index l.note) ≡ (string_bytes l.fn.out ++ 34 ∷ []) ++ all_escaped l.note
