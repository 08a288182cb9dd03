use Rattle.std.proofs.Common.{◌≡◌, ◌-◌, vec_items}
use Rattle.machine.specs.Invariant.{Sound}
use Rattle.machine.specs.Moves.{settled}
use Rattle.machine.specs.Runs.{run, plus}
use Rattle.tokenizer.specs.View.{machine}
use Rattle.runs.proofs.run.Given as goal

-- what is left of the run, with the steps made, comes to the whole; and every turn keeps the machine sound
abbrev pub invariant-loop-steps : goal.invariant-loop-steps
invariant-loop-steps g l = record {
  meaning : g.S.PunctuationSet.member l.engine.set ≡ g.S.PunctuationSet.member l.initial.engine.set;
  rest :
      plus l.steps (run (g.S.PunctuationSet.member l.initial.engine.set) l.until (l.allowance - l.steps) (machine l.engine.tokenizer))
      ≡ run (g.S.PunctuationSet.member l.initial.engine.set) l.until l.allowance (machine l.initial.engine.tokenizer);
  sound : ∥ Sound (vec_items l.initial.engine.tokenizer.note) (settled (machine l.engine.tokenizer)) ∥₁;
}
