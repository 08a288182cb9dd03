use Rattle.std.proofs.Common.{◌≡◌, drop, Some}
use Rattle.scripts.specs.Words.{number_from}
use Rattle.scripts.proofs.words.parse_number.Given as goal

-- the number so far, with the digits that are left
abbrev pub invariant-loop-digit : goal.invariant-loop-digit
invariant-loop-digit l = number_from (Some l.number) (drop l.digit-index l.word) ≡ number_from (Some 0) l.word
