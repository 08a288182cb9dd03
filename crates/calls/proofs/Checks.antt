-- The checks of each call: where one holds the call is refused, and the reader stays as it was.
-- Assumes nothing.
use Rattle.std.proofs.Common.{◌≡◌, Bool, true, false, cond, not, ◌||◌, eqb, ltb, leb, List, [], ◌∷◌, length, Some, None, Option, Ok, Err, Result, refl, ap}
use Rattle.std.proofs.lemmas.Bool.{true≢false}
use Rattle.text.specs.Notes.{too_long}
use Rattle.text.specs.declared.refusals.Fault.{Fault}
use Rattle.text.specs.declared.refusals.Fault.TheVariants as fault
use Rattle.machine.specs.declared.cursors.Until.TheVariants.{Mark, End}
use Rattle.machine.specs.Runs.{run}
use Rattle.calls.specs.declared.scripts.Call.{Call}
use Rattle.calls.specs.declared.scripts.Call.TheVariants as call
use Rattle.machine.specs.declared.runs.Ran.{Ran}
use Rattle.calls.specs.Calls.{Model, is_empty, is_loaded, is_over, checked, answer_of, loaded, pushed, ended, unread}
use Rattle.calls.specs.Links.{beyond, markable}
use Rattle.calls.specs.Moments.{accepted}
use Rattle.calls.specs.Steps.{held, is_ended, most_links, run_of, with_link, with_resolved, Answer, answer}
use Rattle.calls.specs.Theorems.{RefusalsChangeNothing}

-- none of the checks holds
abbrev pub Passed : List (Bool × Fault) → Type 0
Passed [] = Unit {0}
Passed (c ∷ cs) = (c.0 ≡ false) × Passed cs

-- a call is refused, and the reader stays; or no check holds
pub by_checks : {A : Type 0} (P : Model × Result A Fault → Type 0) (m : Model) (cs : List (Bool × Fault)) (r : Model × A) → ((f : Fault) → P (m, Err f)) → (Passed cs → P (r.0, Ok r.1)) → P (checked m cs r)
by_checks P m [] r refused passed = passed tt
by_checks P m (c ∷ cs) r refused passed = go c.0 refl (λ e. by_checks P m cs r refused (λ p. passed (e, p)))
  where
    go : (b : Bool) → c.0 ≡ b → (c.0 ≡ false → P (checked m cs r)) → P (cond b (m, Err c.1) (checked m cs r))
    go true e rec = refused c.1
    go false e rec = rec e

-- those of each call
abbrev pub checks : Model → Call → List (Bool × Fault)
checks m (call.Load s) = (too_long s.now, fault.NoteTooLong) ∷ (not (is_empty m.phase), fault.AlreadyLoaded) ∷ []
checks m (call.Push to allowance) =
    (is_empty m.phase, fault.NothingLoaded) ∷ (not (is_loaded m.phase), fault.OutOfTurn) ∷ (eqb allowance 0, fault.NoAllowance)
    ∷ (ltb to m.mark || ltb (length m.machine.note) to, fault.TargetOutOfRange) ∷ []
checks m (call.End allowance) =
    (is_empty m.phase, fault.NothingLoaded) ∷ (is_over m.phase, fault.OutOfTurn) ∷ (eqb allowance 0, fault.NoAllowance) ∷ (unread m, fault.EndTooEarly) ∷ []
checks m (call.Link first last) =
    (is_empty m.phase, fault.NothingLoaded) ∷ (not (is_ended m.phase), fault.NotEnded)
    ∷ (not (markable (held m) (beyond 0 m.links) (run_of first last)), fault.RunNotMarkable) ∷ (leb most_links (length m.links), fault.TooManyLinks) ∷ []
checks m call.Resolve = (is_empty m.phase, fault.NothingLoaded) ∷ (not (is_ended m.phase), fault.NotEnded) ∷ []
checks m call.Clear = []

-- ---- a refused call changes nothing

-- if the answer is a refusal, the reader is m
abbrev Stays : {A : Type 0} → (A → Option Ran) → Model → Model × Result A Fault → Type 0
Stays f m o = (refusal : Fault) → answer f o.1 ≡ Err refusal → o.0 ≡ m

not_refused : (r : Option Ran) (refusal : Fault) → ◌≡◌ {A = Answer} (Ok r) (Err refusal) → ⊥
not_refused r refusal e = true≢false (ap accepted e)

stays : {A : Type 0} (f : A → Option Ran) (m : Model) (cs : List (Bool × Fault)) (r : Model × A) → Stays f m (checked m cs r)
stays f m cs r = by_checks (Stays f m) m cs r (λ _ _ _. refl) (λ _ refusal e. absurd (not_refused (f r.1) refusal e))

pub refusals_change_nothing : RefusalsChangeNothing
refusals_change_nothing member m (call.Load s) = stays (λ _. None) m (checks m (call.Load s)) (loaded s.now, tt)
refusals_change_nothing member m (call.Push to allowance) = stays Some m (checks m (call.Push to allowance)) (let o = run member (Mark to) allowance m.machine in (pushed to o m, answer_of o))
refusals_change_nothing member m (call.End allowance) = stays Some m (checks m (call.End allowance)) (let o = run member End allowance m.machine in (ended o m, answer_of o))
refusals_change_nothing member m (call.Link first last) = stays (λ _. None) m (checks m (call.Link first last)) (with_link (run_of first last) m, tt)
refusals_change_nothing member m call.Resolve = stays (λ _. None) m (checks m call.Resolve) (with_resolved m, tt)
refusals_change_nothing member m call.Clear = λ refusal e. absurd (not_refused None refusal e)
