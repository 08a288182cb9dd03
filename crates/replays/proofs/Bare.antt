-- Where a note lies does not matter to what calls do, answer and tell.
-- Assumes nothing.
use Rattle.std.proofs.Common.{◌≡◌, ℕ, zero, suc, Bool, List, [], ◌∷◌, map, length, take, refl, ap, ◌∙◌}
use Rattle.calls.specs.declared.scripts.Call.{Call}
use Rattle.calls.specs.declared.scripts.Call.TheVariants as call
use Rattle.calls.specs.Calls.{Model}
use Rattle.calls.specs.Moments.{after, answers, Told, telling, told}
use Rattle.calls.specs.Steps.{step, Answer}
use Rattle.scripts.specs.Commands.{bare}

module _ (member : ℕ → Bool) where
  step_bare : (m : Model) (c : Call) → step member m (bare c) ≡ step member m c
  step_bare m (call.Load note) = refl
  step_bare m (call.Push to allowance) = refl
  step_bare m (call.End allowance) = refl
  step_bare m (call.Link first last) = refl
  step_bare m call.Resolve = refl
  step_bare m call.Clear = refl

  pub after_bare : (m : Model) (cs : List Call) → after member m (map bare cs) ≡ after member m cs
  after_bare m [] = refl
  after_bare m (c ∷ cs) = ap (λ (o : Model × Answer). after member o.0 (map bare cs)) (step_bare m c) ∙ after_bare (step member m c).0 cs

  pub answers_bare : (m : Model) (cs : List Call) → answers member m (map bare cs) ≡ answers member m cs
  answers_bare m [] = refl
  answers_bare m (c ∷ cs) = ap (λ (o : Model × Answer). o.1 ∷ answers member o.0 (map bare cs)) (step_bare m c) ∙ ap (λ got. (step member m c).1 ∷ got) (answers_bare (step member m c).0 cs)

telling_bare : (t : Told) (c : Call) (a : Answer) → telling t (bare c) a ≡ telling t c a
telling_bare t (call.Load note) a = refl
telling_bare t (call.Push to allowance) a = refl
telling_bare t (call.End allowance) a = refl
telling_bare t (call.Link first last) a = refl
telling_bare t call.Resolve a = refl
telling_bare t call.Clear a = refl

pub told_bare : (t : Told) (cs : List Call) (got : List Answer) → told t (map bare cs) got ≡ told t cs got
told_bare t [] got = refl
told_bare t (c ∷ cs) [] = refl
told_bare t (c ∷ cs) (a ∷ got) = ap (λ s. told s (map bare cs) got) (telling_bare t c a) ∙ told_bare (telling t c a) cs got

pub length_bare : (cs : List Call) → length (map bare cs) ≡ length cs
length_bare [] = refl
length_bare (c ∷ cs) = ap suc (length_bare cs)

pub take_bare : (k : ℕ) (cs : List Call) → map bare (take k cs) ≡ take k (map bare cs)
take_bare zero cs = refl
take_bare (suc k) [] = refl
take_bare (suc k) (c ∷ cs) = ap (λ l. bare c ∷ l) (take_bare k cs)
