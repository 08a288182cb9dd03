use Rattle.std.proofs.Common.{◌≡◌, not, eqb, get_or, sym, ap, ◌∙◌, arith}
use Rattle.std.proofs.lemmas.Bool.Decides.{nat_tests}
use Rattle.std.proofs.lemmas.Grind.{common_steps}
use Rattle.std.proofs.lemmas.List.{get_or_past}
use Rattle.text.specs.Bytes.{some, part}
use Rattle.rules.specs.Mail.{domain_stop, is_xmpp}
use Rattle.text.proofs.Firsts.{first_more, first_here, first-end}
use Rattle.rules.proofs.Searches.{some_is, domain_at}
use Rattle.rules.proofs.mail.peek_bytes_email_domain.Goals as goal
use Rattle.rules.proofs.mail.peek_bytes_email_domain.Goals.{After-contains, After-eq, Joined-then-not-contains, then-loop-index-test+then-not-in_domain, else-loop-index-test, then-not-contains-via-then-not-contains, then-not-contains-via-else-not-contains+then-bytes-start-eq46, then-not-contains-via-else-not-contains+else-bytes-start-eq46+then-not-is_letter, Joined-else-eq, else-eq-via-then-eq+else-stop-bytes, else-eq-via-then-eq+then-stop-bytes+else-bytes-stop-eq47, else-eq-via-else-eq}

stopped : (c : After-contains) → domain_stop c.args.bytes.now c.args.start ≡ c.loop-index-test.stop
stopped c =
    elim c.loop-index-test.branch [
      | then-loop-index-test+then-not-in_domain w ↦ sym c.loop-index.invariant ∙ first_here _ _ _ w.loop-index-test.true (ap not (sym (domain_at c.args.bytes.now c.loop-index.index) ∙ sym w.in_domain.ensures ∙ w.if-not-in_domain.true)) ∙ sym w.stop-is
      | else-loop-index-test w ↦ sym c.loop-index.invariant ∙ first-end _ _ _ w.loop-index-test.false ∙ omega (arith, w.stop-is, w.loop-index-test.false, c.loop-index.auto.index-end)
    ]

dotted : (c : After-contains) → some (λ b. eqb b 46) (part c.args.start c.loop-index-test.stop c.args.bytes.now) ≡ c.contains.result
dotted c = some_is (λ b. eqb b 46) (part c.args.start c.loop-index-test.stop c.args.bytes.now) ∙ sym c.contains.ensures.value

pub loop-index-preserved : goal.loop-index-preserved
loop-index-preserved c =
    sym (first_more _ _ c.loop-index.index c.loop-index-test.true (ap not (sym (domain_at c.args.bytes.now c.loop-index.index) ∙ sym c.if-not-in_domain.ensures))) ∙ c.loop-index.invariant

pub returns-then-not-contains : goal.returns-then-not-contains
returns-then-not-contains c =
    let at = (goal.at.returns-then-not-contains c).After-contains in
    rw (stopped at, dotted at)
    (elim c.then-not-contains.branch [
      | then-not-contains-via-then-not-contains w ↦ grind (arith, nat_tests)
      | then-not-contains-via-else-not-contains+then-bytes-start-eq46 w ↦ grind (arith, nat_tests)
      | then-not-contains-via-else-not-contains+else-bytes-start-eq46+then-not-is_letter w ↦ grind (arith, nat_tests)
    ])

xmpp : (c : After-eq) → is_xmpp c.args.kind ≡ c.eq.result
xmpp c = sym (c.eq.ensures ∙ grind (arith, common_steps))

pub returns-then-end-stop : goal.returns-then-end-stop
returns-then-end-stop c =
    let at = goal.at.returns-then-end-stop c in
    rw (stopped at.After-contains, dotted at.After-contains, xmpp at.After-eq) (grind (arith, nat_tests))

pub returns-else-end-stop : goal.returns-else-end-stop
returns-else-end-stop c =
    let at = goal.at.returns-else-end-stop c in
    rw (stopped at.After-contains, dotted at.After-contains, xmpp at.After-eq) (grind (arith, nat_tests))

pub returns-else-eq : goal.returns-else-eq
returns-else-eq c =
    let at = goal.at.returns-else-eq c in
    rw (stopped at.After-contains, dotted at.After-contains, xmpp at.After-eq)
    (elim c.else-eq.branch [
      | else-eq-via-then-eq+else-stop-bytes w ↦ let past : get_or c.args.bytes.now c.loop-index-test.stop 0 ≡ 0 = get_or_past c.args.bytes.now c.loop-index-test.stop 0 w.if-stop-bytes.false in rw past (grind (arith, nat_tests))
      | else-eq-via-then-eq+then-stop-bytes+else-bytes-stop-eq47 w ↦ grind (arith, nat_tests)
      | else-eq-via-else-eq w ↦ grind (arith, nat_tests)
    ])
