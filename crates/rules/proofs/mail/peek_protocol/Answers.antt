use Rattle.std.proofs.cmp.Tests.{cases_from_iff}
use Rattle.std.proofs.Common.{◌≡◌, ℕ, List, ◌-◌, get_or, reverse, length, take, codes, sym, refl, ap, ◌∙◌, arith, rules}
use borrow.Author.Tests.{tests}
use Rattle.std.proofs.lemmas.Bool.Decides.{nat_tests}
use Rattle.std.proofs.lemmas.Iterator.Adapters.{YieldsList-from_rev_slice}
use Rattle.std.proofs.lemmas.Iterator.Consumers.{count_from_yields_List, YieldsList-at}
use Rattle.std.proofs.lemmas.Iterator.Search.{YieldsList-from_take_while}
use Rattle.std.proofs.lemmas.List.Folds.{length-prefix_len}
use Rattle.std.specs.List.{suffix_len}
use Rattle.text.specs.Ascii.{letter_or_digit}
use Rattle.text.specs.Bytes.{part, run_start}
use Rattle.text.proofs.Runs.{part_length}
use Rattle.text.proofs.Words.{reads_when}
use Rattle.rules.proofs.Searches.{run_back, front_is, front_part}
use Rattle.rules.proofs.mail.peek_protocol.Goals as goal
use Rattle.rules.proofs.mail.peek_protocol.Goals.{After-count-run}

counted : (c : After-count-run) → c.count-run.result ≡ suffix_len letter_or_digit (take (length c.args.before.now - 1) c.args.before.now)
counted c =
    let front = take (length c.args.before.now - 1) c.args.before.now in
    count_from_yields_List c.take_while.result c.count-run.result c.count-run.ensures.ran
    (YieldsList-from_take_while _ letter_or_digit (YieldsList-at c.take_while.ensures.source (YieldsList-from_rev_slice front (ap (λ i. i.rest.now) c.rev.ensures.source ∙ c.iter.ensures.rest))) c.take_while.ensures.closure c.take_while.ensures.done (λ x b q k. search (rules, tests)))
    ∙ length-prefix_len letter_or_digit (reverse front)

started : (c : After-count-run) → run_start letter_or_digit c.args.before.now 0 (length c.args.before.now - 1) ≡ length (take (length c.args.before.now - 1) c.args.before.now) - c.count-run.result
started c =
    let s = c.args.before.now in
    let same = ap (suffix_len letter_or_digit) (front_is s) in
    let long = ap length (front_is s) in
    omega (arith, run_back letter_or_digit s 0 (length s - 1) (omega arith) (omega arith), same, long, counted c, part_length 0 (length s - 1) s (omega arith))

last : (c : After-count-run) → get_or c.args.before.now (length c.args.before.now - 1) 0 ≡ 58
last c = let e = c.in-58 in omega arith

abbrev front : (c : After-count-run) → List ℕ
front c = take (length c.args.before.now - 1) c.args.before.now

-- the name before the `:`
name : (c : After-count-run) → part (length (front c) - c.count-run.result) (length c.args.before.now - 1) c.args.before.now ≡ part (length (front c) - c.count-run.result) (length (front c)) (front c)
name c =
    let s = c.args.before.now in
    let long = ap length (front_is s) in
    sym (front_part s (length (front c) - c.count-run.result) (omega (arith, long, part_length 0 (length s - 1) s (omega arith))))

pub returns-then-eq_ignore_ascii_case : goal.returns-then-eq_ignore_ascii_case
returns-then-eq_ignore_ascii_case c =
    let at = (goal.at.returns-then-eq_ignore_ascii_case c).After-count-run in
    let x = reads_when (codes "xmpp") _ _ refl (cases_from_iff c.eq_ignore_ascii_case.ensures.test) in
    rw (started at, name at) (grind (arith, nat_tests, last at))

pub returns-then-eq_ignore_ascii_case-2 : goal.returns-then-eq_ignore_ascii_case-2
returns-then-eq_ignore_ascii_case-2 c =
    let at = (goal.at.returns-then-eq_ignore_ascii_case-2 c).After-count-run in
    let x = reads_when (codes "xmpp") _ _ refl (cases_from_iff c.eq_ignore_ascii_case.ensures.test) in
    let y = reads_when (codes "mailto") _ _ refl (cases_from_iff c.eq_ignore_ascii_case-in-58.ensures.test) in
    rw (started at, name at) (grind (arith, nat_tests, last at))

pub returns-else-eq_ignore_ascii_case-2 : goal.returns-else-eq_ignore_ascii_case-2
returns-else-eq_ignore_ascii_case-2 c =
    let at = (goal.at.returns-else-eq_ignore_ascii_case-2 c).After-count-run in
    let x = reads_when (codes "xmpp") _ _ refl (cases_from_iff c.eq_ignore_ascii_case.ensures.test) in
    let y = reads_when (codes "mailto") _ _ refl (cases_from_iff c.eq_ignore_ascii_case-in-58.ensures.test) in
    rw (started at, name at) (grind (arith, nat_tests, last at))
