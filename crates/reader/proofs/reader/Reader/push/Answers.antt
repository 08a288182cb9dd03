use Rattle.std.proofs.Common.{rules, sym, ◌∙◌}
use Rattle.tokenizer.specs.View.{machine}
use Rattle.runs.specs.Outcomes.{outcome_of}
use Rattle.reader.specs.View.{meaning_of, view}
use Rattle.reader.proofs.Keeping.{loaded_not-over, sound_of, led_by_push}
use Rattle.reader.proofs.reader.Reader.push.Goals as goal

pub run-ran-requires : goal.run-ran-requires
run-ran-requires g c =
    sound_of (meaning_of c.args.self.now) (view c.args.self.now) c.args.self.now.reachable (sym c.is_empty.ensures ∙ c.if-is_empty.false)
    (loaded_not-over c.args.self.now.phase (sym c.is_loaded.ensures ∙ c.if-not-is_loaded.false))

pub invariant_of-self : goal.invariant_of-self
invariant_of-self g c = record {
  reachable =
      led_by_push (meaning_of c.args.self.now) (g.S.PunctuationSet.member c.run-ran.new.engine.set) (view c.args.self.now) c.args.self.now.reachable
      (outcome_of (machine c.run-ran.new.engine.tokenizer) c.run-ran.result) c.run-ran.ensures.meaning_stays
      (sym c.is_empty.ensures ∙ c.if-is_empty.false) c.args.to c.args.allowance c.run-ran.ensures.ran
      (sym c.is_loaded.ensures ∙ c.if-not-is_loaded.false) c.if-allowance-eq0.false c.if-to-self.false (search rules);
}
