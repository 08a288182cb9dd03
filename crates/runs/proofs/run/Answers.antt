use Rattle.std.proofs.Common.{◌+◌, ◌-◌, vec_items, sym, ◌∙◌, arith}
use Rattle.tokenizer.specs.View.{machine}
use Rattle.runs.proofs.Bounded.{turn_callable, turn_sound}
use Rattle.runs.proofs.Turns.{stops, turns}
use Rattle.runs.proofs.run.Goals as goal

pub returns-in_default-clause-ran : goal.returns-in_default-clause-ran
returns-in_default-clause-ran g c =
    stops (g.S.PunctuationSet.member c.args.engine.now.set) c.args.until (machine c.loop-steps.engine.tokenizer) (machine c.prepare.new.self) (c.args.allowance - c.loop-steps.steps) c.loop-steps.steps
    c.prepare.ensures (sym c.due.ensures ∙ c.in_default.is)
    ∙ c.loop-steps.invariant.rest

pub call-requires : goal.call-requires
call-requires g c =
    let t = c.args.engine.now.tokenizer in
    turn_callable (vec_items t.note) c.args.until (machine c.loop-steps.engine.tokenizer) (machine c.prepare.new.self) (machine c.show.new.self) c.in-Some.name
    c.prepare.ensures (sym c.due.ensures ∙ c.in-Some.is) c.show.ensures (omega (arith, t.short, t.note.ok.0)) c.loop-steps.invariant.sound

pub loop-steps-preserved : goal.loop-steps-preserved
loop-steps-preserved g c =
    let member = g.S.PunctuationSet.member c.args.engine.now.set in
    let mine = g.S.PunctuationSet.member c.loop-steps.engine.set in
    let m = machine c.loop-steps.engine.tokenizer in
    let p = machine c.prepare.new.self in
    let q = machine c.show.new.self in
    let r = machine c.call.new.self.tokenizer in
    let steps = c.loop-steps.steps in
    let before = c.loop-steps.invariant in
    let is-due = sym c.due.ensures ∙ c.in-Some.is in
    record {
      meaning = c.call.ensures.meaning_stays ∙ before.meaning;
      rest =
          turns member c.args.until m p q r c.in-Some.name (c.args.allowance - (steps + 1)) (c.args.allowance - steps) steps mine
          c.prepare.ensures is-due c.show.ensures c.call.ensures.called before.meaning (omega arith)
          ∙ before.rest;
      sound = turn_sound (vec_items c.args.engine.now.tokenizer.note) c.args.until m p q c.in-Some.name c.prepare.ensures is-due c.show.ensures r mine c.call.ensures.called before.sound;
    }
