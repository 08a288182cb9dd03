-- Each call leads from a reader to which calls have led to another such reader.
-- Assumes nothing.
use Rattle.std.proofs.Common.{◌≡◌, ℕ, Bool, cond, Bor, List, [], ◌∷◌, ◌++◌, Ok, Err, sym, refl, ap, ◌∙◌, subst}
use Rattle.text.specs.declared.refusals.Fault.{Fault}
use Rattle.machine.specs.declared.cursors.Until.TheVariants.{Mark, End}
use Rattle.machine.specs.Runs.{run}
use Rattle.calls.specs.declared.scripts.Call.{Call}
use Rattle.calls.specs.declared.scripts.Call.TheVariants as call
use Rattle.calls.specs.Calls.{Model, new, checked, answer_of, loaded, pushed, ended}
use Rattle.calls.specs.Moments.{Reachable}
use Rattle.calls.specs.Steps.{run_of, with_link, with_resolved, step}
use Rattle.calls.proofs.Checks.{Passed, checks}
use Rattle.calls.proofs.Replays.{after_push}

-- a call that no check refuses
passes : {A : Type 0} (m : Model) (cs : List (Bool × Fault)) (r : Model × A) → Passed cs → checked m cs r ≡ (r.0, Ok r.1)
passes m [] r p = refl
passes m (c ∷ cs) r p = subst (λ b. cond b (m, Err c.1) (checked m cs r) ≡ (r.0, Ok r.1)) (sym p.0) (passes m cs r p.1)

module _ (member : ℕ → Bool) where
  pub reachable_new : Reachable member new
  reachable_new = record { calls = []; led = refl }

  pub reachable_step : (m : Model) (c : Call) → Reachable member m → Reachable member (step member m c).0
  reachable_step m c r =
      record { calls = r.calls ++ c ∷ []; led = ap (λ (x : Model). (step member x c).0) r.led ∙ sym (after_push member r.calls c new) }

  module _ (m : Model) (r : Reachable member m) where
    by_call : {A : Type 0} (cs : List (Bool × Fault)) (next : Model) (a : A) (c : Call) → (step member m c).0 ≡ (checked m cs (next, a)).0 → Passed cs → Reachable member next
    by_call cs next a c is p = subst (Reachable member) (is ∙ ap (λ o. o.0) (passes m cs (next, a) p)) (reachable_step m c r)

    -- bytes: a reference to the note
    pub reachable_loaded : (bytes : Bor (List ℕ)) → Passed (checks m (call.Load bytes)) → Reachable member (loaded bytes.now)
    reachable_loaded bytes p = by_call (checks m (call.Load bytes)) (loaded bytes.now) tt (call.Load bytes) refl p

    pub reachable_pushed : (to allowance : ℕ) → Passed (checks m (call.Push to allowance)) → Reachable member (pushed to (run member (Mark to) allowance m.machine) m)
    reachable_pushed to allowance p =
        let o = run member (Mark to) allowance m.machine in
        by_call (checks m (call.Push to allowance)) (pushed to o m) (answer_of o) (call.Push to allowance) refl p

    pub reachable_ended : (allowance : ℕ) → Passed (checks m (call.End allowance)) → Reachable member (ended (run member End allowance m.machine) m)
    reachable_ended allowance p =
        let o = run member End allowance m.machine in
        by_call (checks m (call.End allowance)) (ended o m) (answer_of o) (call.End allowance) refl p

    pub reachable_linked : (first last : ℕ) → Passed (checks m (call.Link first last)) → Reachable member (with_link (run_of first last) m)
    reachable_linked first last p = by_call (checks m (call.Link first last)) (with_link (run_of first last) m) tt (call.Link first last) refl p

    pub reachable_resolved : Passed (checks m call.Resolve) → Reachable member (with_resolved m)
    reachable_resolved p = by_call (checks m call.Resolve) (with_resolved m) tt call.Resolve refl p
