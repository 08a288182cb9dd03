use Rattle.std.proofs.Common.{◌≡◌, ◌-◌, reverse, length, sym, ap, ◌∙◌, arith, rules}
use borrow.Author.Tests.{tests}
use Rattle.std.proofs.lemmas.Bool.Decides.{nat_tests}
use Rattle.std.proofs.lemmas.Iterator.Adapters.{YieldsList-from_rev_slice}
use Rattle.std.proofs.lemmas.Iterator.Consumers.{count_from_yields_List, YieldsList-at}
use Rattle.std.proofs.lemmas.Iterator.Search.{YieldsList-from_take_while}
use Rattle.std.proofs.lemmas.List.Folds.{length-prefix_len}
use Rattle.std.specs.List.{suffix_len}
use Rattle.text.specs.Bytes.{run_start}
use Rattle.rules.specs.Mail.{atext}
use Rattle.rules.proofs.Searches.{run_all}
use Rattle.rules.proofs.mail.peek_bytes_atext.Goals as goal
use Rattle.rules.proofs.mail.peek_bytes_atext.Goals.{After-count-run, then-run-eq0, else-run-eq0+then-start-gt0, else-run-eq0+else-start-gt0}

counted : (c : After-count-run) → c.count-run.result ≡ suffix_len atext c.args.before.now
counted c =
    count_from_yields_List c.take_while.result c.count-run.result c.count-run.ensures.ran
    (YieldsList-from_take_while _ atext (YieldsList-at c.take_while.ensures.source (YieldsList-from_rev_slice c.args.before.now (ap (λ i. i.rest.now) c.rev.ensures.source ∙ c.iter.ensures.rest))) c.take_while.ensures.closure c.take_while.ensures.done (λ x b q k. search (rules, tests)))
    ∙ length-prefix_len atext (reverse c.args.before.now)

started : (c : After-count-run) → run_start atext c.args.before.now 0 (length c.args.before.now) ≡ length c.args.before.now - c.count-run.result
started c = run_all atext c.args.before.now ∙ ap (λ n. length c.args.before.now - n) (sym (counted c))

pub returns-then-before-start-eq47 : goal.returns-then-before-start-eq47
returns-then-before-start-eq47 c =
    rw (started (goal.at.returns-then-before-start-eq47 c).After-count-run)
    (elim c.if-run-eq0.branch [
      | then-run-eq0 w ↦ grind (arith, nat_tests)
      | else-run-eq0+then-start-gt0 w ↦ grind (arith, nat_tests)
      | else-run-eq0+else-start-gt0 w ↦ grind (arith, nat_tests)
    ])

pub returns-else-before-start-eq47 : goal.returns-else-before-start-eq47
returns-else-before-start-eq47 c =
    rw (started (goal.at.returns-else-before-start-eq47 c).After-count-run)
    (elim c.if-run-eq0.branch [
      | then-run-eq0 w ↦ grind (arith, nat_tests)
      | else-run-eq0+then-start-gt0 w ↦ grind (arith, nat_tests)
      | else-run-eq0+else-start-gt0 w ↦ grind (arith, nat_tests)
    ])
