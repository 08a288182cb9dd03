use Rattle.std.proofs.Common.{sym, ap, ◌∙◌}
use mathlib.Core.Logic.{∥∥₁_map}
use Rattle.findings.proofs.FindsLinks.{finds_links}
use Rattle.calls.proofs.EveryMoment.{end_leaves}
use Rattle.machine.specs.Joins.{joined}
use Rattle.machine.specs.Moves.{Machine}
use Rattle.machine.specs.Runs.{Outcome}
use Rattle.tokenizer.specs.Joining.{paired}
use Rattle.tokenizer.specs.View.{machine}
use Rattle.runs.specs.Outcomes.{outcome_of}
use Rattle.reader.specs.View.{meaning_of, view}
use Rattle.reader.proofs.Keeping.{sound_of, end-paired, found, led_by_pause, led_by_joining}
use Rattle.reader.proofs.reader.Reader.end.Goals as goal

pub run-ran-requires : goal.run-ran-requires
run-ran-requires g c =
    sound_of (meaning_of c.args.self.now) (view c.args.self.now) c.args.self.now.reachable
    (sym c.is_empty.ensures ∙ c.if-is_empty.false) (sym c.is_over.ensures ∙ c.if-is_over.false)

pub join-requires : goal.join-requires
join-requires g c =
    ap (λ (o : Outcome). paired o.after.events) c.run-ran.ensures.ran
    ∙ end-paired (meaning_of c.args.self.now) (view c.args.self.now) c.args.self.now.reachable
    (sym c.is_empty.ensures ∙ c.if-is_empty.false) (sym c.is_over.ensures ∙ c.if-is_over.false) c.args.allowance
    (sym (ap (λ (o : Outcome). o.done) c.run-ran.ensures.ran) ∙ c.if-ran.true)

pub invariant_of-self : goal.invariant_of-self
invariant_of-self g c = record {
  reachable =
      led_by_joining (meaning_of c.args.self.now) (g.S.PunctuationSet.member c.run-ran.new.engine.set) (view c.args.self.now) c.args.self.now.reachable
      (outcome_of (machine c.run-ran.new.engine.tokenizer) c.run-ran.result) c.run-ran.ensures.meaning_stays
      (sym c.is_empty.ensures ∙ c.if-is_empty.false) c.args.allowance (machine c.join.new.self) c.join.ensures c.if-ran.true c.run-ran.ensures.ran
      (sym c.is_over.ensures ∙ c.if-is_over.false) c.if-allowance-eq0.false (sym c.is_unread.ensures ∙ c.if-is_unread.false);
}

pub invariant_of-self-else-ran : goal.invariant_of-self-else-ran
invariant_of-self-else-ran g c = record {
  reachable =
      led_by_pause (meaning_of c.args.self.now) (g.S.PunctuationSet.member c.run-ran.new.engine.set) (view c.args.self.now) c.args.self.now.reachable
      (outcome_of (machine c.run-ran.new.engine.tokenizer) c.run-ran.result) c.run-ran.ensures.meaning_stays
      (sym c.is_empty.ensures ∙ c.if-is_empty.false) c.args.allowance c.if-ran.false c.run-ran.ensures.ran
      (sym c.is_over.ensures ∙ c.if-is_over.false) c.if-allowance-eq0.false (sym c.is_unread.ensures ∙ c.if-is_unread.false);
}

-- the machine ran to the end of its note, and was joined
pub returns-then-ran-clause-finds : goal.returns-then-ran-clause-finds
returns-then-ran-clause-finds g c done =
    ap (λ (m : Machine). m.events) c.join.ensures
    ∙ ap (λ (o : Outcome). joined o.after.events) c.run-ran.ensures.ran
    ∙ found (meaning_of c.args.self.now) (view c.args.self.now) c.args.self.now.reachable
    (sym c.is_empty.ensures ∙ c.if-is_empty.false) (sym c.is_over.ensures ∙ c.if-is_over.false) c.args.allowance
    (sym (ap (λ (o : Outcome). o.done) c.run-ran.ensures.ran) ∙ done)
