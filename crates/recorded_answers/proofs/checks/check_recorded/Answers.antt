use Rattle.std.proofs.Common.{◌∙◌, Ok, ap, sym, refl}
use Rattle.recorded_answers.proofs.checks.check_recorded.Goals as goal

pub returns : goal.returns
returns c = c.in_ok-given.ensures ∙ ap Ok (sym (c.in_ok-check_agreement.ensures.agree.0 refl))
