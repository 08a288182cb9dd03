-- However the note is read in parts, once the end is done the machine has left its pieces; and so many state calls are enough.
-- Assumes nothing.
use Rattle.std.proofs.Common.{◌≡◌, ℕ, zero, suc, ◌+◌, ◌-◌, ◌≤◌, Bool, true, false, cond, ◌&&◌, ltb, List, [], ◌∷◌, length, sym, refl, ap, ◌∙◌, subst, arith}
use Rattle.std.proofs.lemmas.Bool.{cond_both, and_from, true≢false}
use Rattle.machine.specs.declared.attempts.Attempt.{Attempt}
use Rattle.machine.specs.declared.cursors.Cursor.{Cursor}
use Rattle.machine.specs.declared.cursors.Registers.{Registers}
use Rattle.machine.specs.declared.cursors.Until.{Until}
use Rattle.machine.specs.declared.cursors.Until.TheVariants.{Mark, End}
use Rattle.machine.specs.declared.events.Event.{Event}
use Rattle.machine.specs.declared.events.Name.{Name}
use Rattle.machine.specs.declared.states.State.{State}
use Rattle.machine.specs.declared.states.State.TheVariants.{Next, Retry, Ok, Nok}
use Rattle.machine.specs.declared.states.StateName.{StateName}
use Rattle.machine.specs.Cursors.{crlf_at}
use Rattle.machine.specs.Moves.{Machine, made_of, settled}
use Rattle.machine.specs.Runs.{Outcome, beginning, choose, due, none_due, passed, plus, run, shown, stopped}
use Rattle.machine.specs.States.{call}
use Rattle.machine.specs.Laws.{Part, in_parts, no_later, none_later}
use Rattle.machine.specs.Invariant.{ready}
use Rattle.machine.proofs.Keeps.{step}
use Rattle.machine.proofs.Splits.{Still, still, still_settled, split, done_more, splits_alike}
use Rattle.machine.proofs.Turns.{call_any, looking, looking_ready, skipped, skipped_none, skipped_ready, passes-parts, shown-none}
use Rattle.findings.specs.Findings.{Settled, read}
use Rattle.findings.specs.Pieces.{pieces, segment_events}
use Rattle.findings.proofs.Reaching.{after-steps}
use Rattle.findings.proofs.WholeNote.{Left, leaves-pieces}

-- ---- settling before a run changes nothing

settled_twice : (m : Machine) → settled (settled m) ≡ settled m
settled_twice m =
    let x = settled m in
    still_settled x.state x.attempts x.note x.cursor x.registers x.events x.names (still m.state m.attempts m.note m.cursor m.registers m.events m.names)

run_settled : (mem : ℕ → Bool) (until : Until) (k : ℕ) (m : Machine) → run mem until k (settled m) ≡ run mem until k m
run_settled mem until zero m = ap (λ x. stopped (passed until x) (none_due (due until (passed until x)))) (settled_twice m)
run_settled mem until (suc k) m = ap (λ x. choose (due until (passed until x)) (stopped (passed until x) true) (λ n. plus 1 (run mem until k (call mem n (shown (passed until x)))))) (settled_twice m)

-- ---- a turn to the end is a step

module _ (mem : ℕ → Bool) (s : List ℕ) (c : Cursor) (r : Registers) (us : List Attempt) (es : List Event) (ns : List Name) where
  -- at the end any CR before an LF is passed over, and what is at the point is shown
  looks_ready : looking s (cond (ltb c.point.index (length s) && crlf_at s c.point.index) (skipped c) c) ≡ ready s c
  looks_ready =
      let i = c.point.index in
      cond_both (ltb i (length s) && crlf_at s i) (skipped c) c (λ (d : Cursor). looking s d ≡ ready s c)
      (λ h. let has = (passes-parts s End i h).1 in looking_ready s (skipped c) (skipped_none s i has) ∙ skipped_ready s c has)
      (λ h. looking_ready s c (shown-none s End i refl h))

  turn_is_step : (n : StateName) → settled (call mem n (shown (passed End (made_of s (Next n) c r us es ns)))) ≡ step mem (made_of s (Next n) c r us es ns)
  turn_is_step n =
      ap (λ (d : Cursor). settled (call mem n (made_of s (Next n) d r us es ns))) looks_ready
      ∙ ap settled (call_any mem s n (Next n) (Retry n) (ready s c) r us es ns)

  over_stays : (k : ℕ) → after-steps mem k (made_of s Ok c r us es ns) ≡ made_of s Ok c r us es ns
  over_stays zero = refl
  over_stays (suc k) = over_stays k

  failed_stays : (k : ℕ) → after-steps mem k (made_of s Nok c r us es ns) ≡ made_of s Nok c r us es ns
  failed_stays zero = refl
  failed_stays (suc k) = failed_stays k

abbrev is_ok : State → Bool
is_ok (Next n) = false
is_ok (Retry n) = false
is_ok Ok = true
is_ok Nok = false

never_ok : (a : State) → is_ok a ≡ false → a ≡ Ok → ⊥
never_ok a h e = true≢false (sym (ap is_ok e) ∙ h)

-- the run that makes k steps is done if all is settled after them, and leaves the same machine
record Done (mem : ℕ → Bool) (k : ℕ) (m : Machine) : Type 0 where
  done : (run mem End k m).done ≡ true
  after : (run mem End k m).after ≡ after-steps mem k m

module _ (mem : ℕ → Bool) where
  -- k steps of any machine that is settled so far
  abbrev Runs : ℕ → Type 0
  Runs k = (s : List ℕ) (a : State) (c : Cursor) (r : Registers) (us : List Attempt) (es : List Event) (ns : List Name) → Still a us → Settled (after-steps mem k (made_of s a c r us es ns)) → Done mem k (made_of s a c r us es ns)

  -- a machine yet to be settled
  run_more : (k : ℕ) → Runs k → (m : Machine) → Settled (after-steps mem k (settled m)) → ((run mem End k m).done ≡ true) × ((run mem End k m).after ≡ after-steps mem k (settled m))
  run_more k runs m e =
      let x = settled m in
      let d = runs x.note x.state x.cursor x.registers x.attempts x.events x.names (still m.state m.attempts m.note m.cursor m.registers m.events m.names) e in
      let same = run_settled mem End k m in
      (sym (ap (λ (o : Outcome). o.done) same) ∙ d.done, sym (ap (λ (o : Outcome). o.after) same) ∙ d.after)

  -- a run with k state calls for the end
  run-done : (k : ℕ) → Runs k
  run-done zero s (Next n) c r us es ns h e = absurd (never_ok (Next n) refl e.over)
  run-done zero s (Retry n) c r us es ns h e = absurd (never_ok (Retry n) refl e.over)
  run-done zero s Ok c r [] es ns h e = record { done = refl; after = refl }
  run-done zero s Ok c r (a ∷ us) es ns h e = absurd h
  run-done zero s Nok c r us es ns h e = absurd (never_ok Nok refl e.over)
  run-done (suc k) s (Next n) c r us es ns h e =
      let m = made_of s (Next n) c r us es ns in
      let x = call mem n (shown (passed End m)) in
      let is = turn_is_step mem s c r us es ns n in
      let d = run_more k (run-done k) x (subst (λ y. Settled (after-steps mem k y)) (sym is) e) in
      record { done = d.0; after = d.1 ∙ ap (after-steps mem k) is }
  run-done (suc k) s (Retry n) c r us es ns h e =
      let d = run_more k (run-done k) (call mem n (made_of s (Retry n) c r us es ns)) e in
      record { done = d.0; after = d.1 }
  run-done (suc k) s Ok c r [] es ns h e = record { done = refl; after = sym (over_stays mem s c r [] es ns k) }
  run-done (suc k) s Ok c r (a ∷ us) es ns h e = absurd h
  run-done (suc k) s Nok c r us es ns h e = absurd (never_ok Nok refl (ap (λ (m : Machine). m.state) (sym (failed_stays mem s c r us es ns k)) ∙ e.over))

-- ---- every split

-- nothing is later than the end
no_later-end : (u : Until) → no_later u End ≡ true
no_later-end (Mark a) = refl
no_later-end End = refl

before-end : (ps : List Part) → none_later ps End ≡ true
before-end [] = refl
before-end (p ∷ ps) = and_from (no_later p.until End) (none_later ps End) (no_later-end p.until) (before-end ps)

-- what is enough for the end at once is enough behind any parts
enough_behind : (mem : ℕ → Bool) (ps : List Part) (k a : ℕ) (m : Machine) → k ≤ a → (run mem End k m).done ≡ true → (in_parts mem ps (record { until = End; allowance = a }) m).done ≡ true
enough_behind mem [] k a m le d =
    let e : k + (a - k) ≡ a = omega arith in
    ap (λ n. (run mem End n m).done) (sym e) ∙ ap (λ (o : Outcome). o.done) (done_more mem End k (a - k) m d) ∙ d
enough_behind mem (p ∷ ps) k a m le d =
    let o = run mem p.until p.allowance m in
    let e : o.steps + k ≡ k + o.steps = omega arith in
    let same : plus o.steps (run mem End k o.after) ≡ run mem End k m =
    sym (split p.until End (no_later-end p.until) mem p.allowance k m) ∙ ap (λ n. run mem End n m) e ∙ done_more mem End k o.steps m d in
    enough_behind mem ps k a o.after le (ap (λ (x : Outcome). x.done) same ∙ d)

module _ (mem : ℕ → Bool) (s : List ℕ) where
  -- so many state calls are enough for the end
  abbrev pub enough : ℕ
  enough = (leaves-pieces mem s).steps

  -- the note read by the end alone
  at_once : Done mem enough (beginning s)
  at_once = run-done mem enough s _ _ _ _ _ _ tt (leaves-pieces mem s).is.settled

  left : (parts : List Part) (allowance : ℕ) → (read mem s parts allowance).done ≡ true → Left mem s (read mem s parts allowance).after
  left parts allowance d =
      let same = splits_alike mem (beginning s) parts [] End allowance enough (before-end parts) refl d at_once.done in
      subst (Left mem s) (sym (ap (λ (o : Outcome). o.after) same ∙ at_once.after)) (leaves-pieces mem s).is

  -- whenever the end is done, the events are those of the pieces of the note
  pub finds_pieces : (parts : List Part) (allowance : ℕ) → (read mem s parts allowance).done ≡ true → (read mem s parts allowance).after.events ≡ segment_events s (pieces mem s)
  finds_pieces parts allowance d = (left parts allowance d).events

  -- nothing is tried or open then, and the registers are as at the beginning
  pub settles : (parts : List Part) (allowance : ℕ) → (read mem s parts allowance).done ≡ true → Settled (read mem s parts allowance).after
  settles parts allowance d = (left parts allowance d).settled

  -- and with so many state calls the end is done
  pub ends : (parts : List Part) (allowance : ℕ) → enough ≤ allowance → (read mem s parts allowance).done ≡ true
  ends parts allowance le = enough_behind mem parts enough allowance (beginning s) le at_once.done
