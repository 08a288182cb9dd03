use Rattle.std.proofs.cmp.Tests.{cases_from_iff}
use Rattle.std.proofs.Common.{codes, refl, arith}
use Rattle.std.proofs.lemmas.Bool.Decides.{nat_tests}
use Rattle.text.proofs.Words.{reads_when}
use Rattle.tokenizer.proofs.tokenizer.Tokenizer.is_protocol_read.Goals as goal

pub returns-then-eq_ignore_ascii_case : goal.returns-then-eq_ignore_ascii_case
returns-then-eq_ignore_ascii_case c =
    let v = c.as_slice.ensures.value in
    let x = reads_when (codes "http") _ _ refl (cases_from_iff c.eq_ignore_ascii_case.ensures.test) in
    grind (arith, nat_tests)

pub returns-else-eq_ignore_ascii_case : goal.returns-else-eq_ignore_ascii_case
returns-else-eq_ignore_ascii_case c =
    let v = c.as_slice.ensures.value in
    let x = reads_when (codes "http") _ _ refl (cases_from_iff c.eq_ignore_ascii_case.ensures.test) in
    let y = reads_when (codes "https") _ _ refl (cases_from_iff c.eq_ignore_ascii_case-else-eq_ignore_ascii_case.ensures.test) in
    grind (arith, nat_tests)
