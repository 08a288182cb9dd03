use Rattle.std.proofs.Common.{◌≡◌, ◌<◌, List, [], ◌∷◌, length, drop, refl, sym, ap, ◌∙◌, arith}
use Rattle.calls.specs.declared.scripts.Call.{Call}
use Rattle.calls.specs.Moments.{Told, told, nothing}
use Rattle.calls.specs.Steps.{Answer}
use Rattle.scripts.specs.Sums.{standing}
use Rattle.scripts.proofs.sums.Standing.after_all.Goals as goal

-- without an answer nothing more is told
unanswered : (t : Told) (calls : List Call) (given : List Answer) → length given < 1 → told t calls given ≡ t
unanswered t [] [] none = refl
unanswered t [] (a ∷ given) none = refl
unanswered t (c ∷ calls) [] none = refl
unanswered t (c ∷ calls) (a ∷ given) none = absurd (omega (arith, none))

pub loop-call-init : goal.loop-call-init
loop-call-init c = (nothing, refl, omega arith, refl)

pub returns-in_default : goal.returns-in_default
returns-in_default c =
    let i = c.loop-call.invariant in
    i.1 ∙ ap standing (sym (unanswered i.0 (drop c.loop-call.call-index c.args.calls.now) c.loop-call.answers.now c.in_default.len_below) ∙ i.3)
