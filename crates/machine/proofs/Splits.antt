-- How a run is split does not matter.
-- Assumes nothing.
use Rattle.std.proofs.Common.{◌≡◌, ℕ, zero, suc, ◌+◌, ◌-◌, ◌≤◌, Bool, true, false, cond, ◌&&◌, ltb, List, [], ◌∷◌, length, Some, None, Option, sym, refl, ap, ◌∙◌, ⊎_elim, zero-add, arith}
use Rattle.std.proofs.lemmas.Bool.{cases_lt, cond-true, cond-false, cond_both, and_parts, and_right, and_from, true≢false, lt-ltb, ltb-true, leb-true}
use Rattle.machine.specs.declared.attempts.Attempt.{Attempt}
use Rattle.machine.specs.declared.cursors.Cursor.{Cursor}
use Rattle.machine.specs.declared.cursors.Registers.{Registers}
use Rattle.machine.specs.declared.cursors.Until.{Until}
use Rattle.machine.specs.declared.cursors.Until.TheVariants.{Mark, End}
use Rattle.machine.specs.declared.events.Event.{Event}
use Rattle.machine.specs.declared.events.Name.{Name}
use Rattle.machine.specs.declared.states.State.{State}
use Rattle.machine.specs.declared.states.State.TheVariants.{Next, Retry, Ok, Nok}
use Rattle.machine.specs.declared.states.StateName.{StateName}
use Rattle.machine.specs.Cursors.{crlf_at}
use Rattle.machine.specs.Moves.{Machine, made_of, settled_as, settled, cursor_back, events_back, names_back, puts_back}
use Rattle.machine.specs.States.{call}
use Rattle.machine.specs.Runs.{limit, passed, prepared, may_show, due, shown, Outcome, stopped, plus, choose, none_due, run}
use Rattle.machine.specs.Laws.{no_later, Part, in_parts, none_later, SplitsAlike, PausesExactly}
use Rattle.machine.proofs.Walk.{crlf}
use Rattle.machine.proofs.Turns.{choose_both, some-parts, skipped, passes-parts, shown-none, skipped_none}

-- ---- settling twice

-- nothing is left to settle
abbrev pub Still : State → List Attempt → Type 0
Still (Next n) us = Unit {0}
Still (Retry n) us = Unit {0}
Still Ok [] = Unit {0}
Still Ok (a ∷ us) = ⊥
Still Nok [] = Unit {0}
Still Nok (a ∷ us) = ⊥

pub still : (a : State) (us : List Attempt) (s : List ℕ) (c : Cursor) (r : Registers) (es : List Event) (ns : List Name) →
    Still (settled_as a us (made_of s a c r us es ns)).state (settled_as a us (made_of s a c r us es ns)).attempts
still (Next n) us s c r es ns = tt
still (Retry n) us s c r es ns = tt
still Ok [] s c r es ns = tt
still Ok (a ∷ us) s c r es ns =
    let o = cond (puts_back a.kind true) a.progress None in
    still a.ok us s (cursor_back o c) r (events_back o es) (names_back o ns)
still Nok [] s c r es ns = tt
still Nok (a ∷ us) s c r es ns =
    let o = cond (puts_back a.kind false) a.progress None in
    still a.nok us s (cursor_back o c) r (events_back o es) (names_back o ns)

pub still_settled : (a : State) (us : List Attempt) (s : List ℕ) (c : Cursor) (r : Registers) (es : List Event) (ns : List Name) → Still a us → settled (made_of s a c r us es ns) ≡ made_of s a c r us es ns
still_settled (Next n) us s c r es ns h = refl
still_settled (Retry n) us s c r es ns h = refl
still_settled Ok [] s c r es ns h = refl
still_settled Ok (a ∷ us) s c r es ns h = absurd h
still_settled Nok [] s c r es ns h = refl
still_settled Nok (a ∷ us) s c r es ns h = absurd h

-- a machine with nothing to settle may pass a CR
passed-settled : (until : Until) (m : Machine) → settled (passed until (settled m)) ≡ passed until (settled m)
passed-settled until m =
    let x = settled m in
    let y = passed until x in
    still_settled x.state x.attempts x.note y.cursor x.registers x.events x.names (still m.state m.attempts m.note m.cursor m.registers m.events m.names)

-- ---- one limit and a later one

module _ (u v : Until) (nl : no_later u v ≡ true) where
  -- a CR that the first passes, the second passes too
  later_limit : (u v : Until) → no_later u v ≡ true → (s : List ℕ) (i : ℕ) → ltb i (limit u (length s)) ≡ true → crlf_at s i ≡ true → ltb i (limit v (length s)) ≡ true
  later_limit (Mark a) (Mark b) h s i lt c = lt-ltb i b (omega (arith, ltb-true i a lt, leb-true a b h))
  later_limit (Mark a) End h s i lt c = lt-ltb i (length s) (omega (arith, (crlf s i c).2))
  later_limit End (Mark b) h s i lt c = absurd (true≢false (sym h))
  later_limit End End h s i lt c = lt

  -- what the first may show, the second may
  later_shows : (u v : Until) → no_later u v ≡ true → (i : ℕ) → may_show u i ≡ true → may_show v i ≡ true
  later_shows (Mark a) (Mark b) h i lt = lt-ltb i b (omega (arith, ltb-true i a lt, leb-true a b h))
  later_shows (Mark a) End h i lt = refl
  later_shows End (Mark b) h i lt = absurd (true≢false (sym h))
  later_shows End End h i lt = refl

  module _ (s : List ℕ) (c : Cursor) where
    abbrev i : ℕ
    i = c.point.index

    abbrev skips : Until → ℕ → Bool
    skips w j = ltb j (limit w (length s)) && crlf_at s j

    abbrev went : Until → Cursor
    went w = cond (skips w i) (skipped c) c

    -- the cursor after both is the cursor after the second
    went_twice : cond (skips v (went u).point.index) (skipped (went u)) (went u) ≡ went v
    went_twice =
        cond_both (skips u i) (skipped c) c (λ (d : Cursor). cond (skips v d.point.index) (skipped d) d ≡ went v)
        (λ h.
        let p = passes-parts s u i h in
        cond-false (skips v (i + 1)) _ _ (and_right (ltb (i + 1) (limit v (length s))) _ (skipped_none s i p.1))
        ∙ sym (cond-true (skips v i) _ _ (and_from _ _ (later_limit u v nl s i p.0 p.1) p.1)))
        (λ _. refl)

    -- where the first may show a byte, the second stands at the same byte
    went_same : may_show u (went u).point.index ≡ true → went v ≡ went u
    went_same =
        cond_both (skips u i) (skipped c) c (λ (d : Cursor). may_show u d.point.index ≡ true → went v ≡ d)
        (λ h _. let p = passes-parts s u i h in cond-true (skips v i) _ _ (and_from _ _ (later_limit u v nl s i p.0 p.1) p.1))
        (λ h may. cond-false (skips v i) _ _ (and_right (ltb i (limit v (length s))) _ (shown-none s u i may h)))

  passed_twice : (a : State) (s : List ℕ) (c : Cursor) (r : Registers) (us : List Attempt) (es : List Event) (ns : List Name) →
      passed v (passed u (made_of s a c r us es ns)) ≡ passed v (made_of s a c r us es ns)
  passed_twice (Next n) s c r us es ns = ap (λ (d : Cursor). made_of s (Next n) d r us es ns) (went_twice s c)
  passed_twice (Retry n) s c r us es ns = refl
  passed_twice Ok s c r us es ns = refl
  passed_twice Nok s c r us es ns = refl

  prepared_twice : (m : Machine) → prepared v (prepared u m) ≡ prepared v m
  prepared_twice m =
      let x = settled m in
      ap (passed v) (passed-settled u m) ∙ passed_twice x.state x.note x.cursor x.registers x.attempts x.events x.names

  -- what is due for the first is due for the second, of the same machine
  due_later : (a : State) (s : List ℕ) (c : Cursor) (r : Registers) (us : List Attempt) (es : List Event) (ns : List Name) (n : StateName) →
      due u (passed u (made_of s a c r us es ns)) ≡ Some n →
      (passed v (made_of s a c r us es ns) ≡ passed u (made_of s a c r us es ns)) × (due v (passed u (made_of s a c r us es ns)) ≡ Some n)
  due_later (Next k) s c r us es ns n e =
      let p = some-parts (may_show u (went s c u).point.index) k n e in (
        ap (λ (d : Cursor). made_of s (Next k) d r us es ns) (went_same s c p.0),
        cond-true (may_show v (went s c u).point.index) _ _ (later_shows u v nl _ p.0) ∙ ap Some p.1,
      )
  due_later (Retry k) s c r us es ns n e = (refl, e)
  due_later Ok s c r us es ns n e = absurd (true≢false (ap none_due e))
  due_later Nok s c r us es ns n e = absurd (true≢false (ap none_due e))

  module _ (mem : ℕ → Bool) where
    -- a run looks at the prepared machine alone
    run-prepared : (k : ℕ) (m : Machine) → run mem v k (prepared u m) ≡ run mem v k m
    run-prepared zero m = ap (λ (x : Machine). stopped x (none_due (due v x))) (prepared_twice m)
    run-prepared (suc k) m = ap (λ (x : Machine). choose (due v x) (stopped x true) (λ n. plus 1 (run mem v k (call mem n (shown x))))) (prepared_twice m)

    plus_none : (o : Outcome) → plus 0 o ≡ o
    plus_none o = ap (λ n. record { after = o.after; steps = n; done = o.done }) (zero-add o.steps)

    from_here : (k : ℕ) (m : Machine) → run mem v (0 + k) m ≡ plus 0 (run mem v k (prepared u m))
    from_here k m = ap (λ n. run mem v n m) (zero-add k) ∙ sym (run-prepared k m) ∙ sym (plus_none (run mem v k (prepared u m)))

    -- part of the run, and the rest
    pub split : (j k : ℕ) (m : Machine) → run mem v ((run mem u j m).steps + k) m ≡ plus (run mem u j m).steps (run mem v k (run mem u j m).after)
    split zero k m = from_here k m
    split (suc j) k m =
        choose_both (due u (prepared u m)) (λ (o : Outcome). run mem v (o.steps + k) m ≡ plus o.steps (run mem v k o.after)) (stopped (prepared u m) true) _
        (λ _. from_here k m)
        (λ n e.
        let x = settled m in
        let d = due_later x.state x.note x.cursor x.registers x.attempts x.events x.names n e in
        let next = call mem n (shown (prepared u m)) in
        let o = run mem u j next in
        let count : 1 + o.steps + k ≡ suc (o.steps + k) = omega arith in
        let again : Outcome = run mem v k o.after in
        let sum : 1 + (o.steps + again.steps) ≡ 1 + o.steps + again.steps = omega arith in
        ap (λ i. run mem v i m) count
        ∙ ap (λ (y : Machine). choose (due v y) (stopped y true) (λ n. plus 1 (run mem v (o.steps + k) (call mem n (shown y))))) d.0
        ∙ ap (λ (q : Option StateName). choose q (stopped (prepared u m) true) (λ n. plus 1 (run mem v (o.steps + k) (call mem n (shown (prepared u m)))))) d.1
        ∙ ap (plus 1) (split j k next)
        ∙ ap (λ i. record { after = again.after; steps = i; done = again.done }) sum)

-- ---- a run that is done

module _ (mem : ℕ → Bool) (v : Until) where
  idle : (k : ℕ) (m : Machine) → due v (prepared v m) ≡ None → run mem v k m ≡ stopped (prepared v m) true
  idle zero m e = ap (λ (q : Option StateName). stopped (prepared v m) (none_due q)) e
  idle (suc k) m e = ap (λ (q : Option StateName). choose q (stopped (prepared v m) true) (λ n. plus 1 (run mem v k (call mem n (shown (prepared v m)))))) e

  none_is : (o : Option StateName) → none_due o ≡ true → o ≡ None
  none_is None h = refl
  none_is (Some n) h = absurd (true≢false (sym h))

  -- more allowance changes nothing
  pub done_more : (a c : ℕ) (m : Machine) → (run mem v a m).done ≡ true → run mem v (a + c) m ≡ run mem v a m
  done_more zero c m h =
      let e = none_is (due v (prepared v m)) h in
      idle (0 + c) m e ∙ sym (idle 0 m e)
  done_more (suc a) c m h =
      choose_both (due v (prepared v m)) (λ (o : Outcome). o.done ≡ true → run mem v (suc a + c) m ≡ o) (stopped (prepared v m) true) _
      (λ e _. idle (suc a + c) m e)
      (λ n e h.
      let next = call mem n (shown (prepared v m)) in
      let count : suc a + c ≡ suc (a + c) = omega arith in
      ap (λ i. run mem v i m) count
      ∙ ap (λ (q : Option StateName). choose q (stopped (prepared v m) true) (λ k. plus 1 (run mem v (a + c) (call mem k (shown (prepared v m)))))) e
      ∙ ap (plus 1) (done_more a c next h))
      h

  done-once : (a b : ℕ) (m : Machine) → (run mem v a m).done ≡ true → (run mem v b m).done ≡ true → run mem v a m ≡ run mem v b m
  done-once a b m p q =
      ⊎_elim
      (λ lt. let e : a + (b - a) ≡ b = omega arith in sym (done_more a (b - a) m p) ∙ ap (λ i. run mem v i m) e)
      (λ le. let e : b + (a - b) ≡ a = omega arith in sym (ap (λ i. run mem v i m) e) ∙ done_more b (a - b) m q)
      (cases_lt a b)

  -- parts that lead to the same mark are one run
  parts : (ps : List Part) (a : ℕ) (m : Machine) → none_later ps v ≡ true → (n : ℕ) × (in_parts mem ps (record { until = v; allowance = a }) m ≡ run mem v n m)
  parts [] a m h = (a, refl)
  parts (p ∷ ps) a m h =
      let both = and_parts (no_later p.until v) (none_later ps v) h in
      let o = run mem p.until p.allowance m in
      let rest = parts ps a o.after both.1 in
      (o.steps + rest.0, ap (plus o.steps) rest.1 ∙ sym (split p.until v both.0 mem p.allowance rest.0 m))

  -- at most the allowance, and all of it if it pauses
  few : (a : ℕ) (m : Machine) → ((run mem v a m).steps ≤ a) × ((run mem v a m).done ≡ false → (run mem v a m).steps ≡ a)
  few zero m = (omega arith, λ _. refl)
  few (suc a) m =
      choose_both (due v (prepared v m)) (λ (o : Outcome). (o.steps ≤ suc a) × (o.done ≡ false → o.steps ≡ suc a)) (stopped (prepared v m) true) _
      (λ _. (omega arith, λ h. absurd (true≢false h)))
      (λ n _.
      let r = few a (call mem n (shown (prepared v m))) in
      (omega (arith, r.0), λ h. omega (arith, r.1 h)))

self_later : (u : Until) → no_later u u ≡ true
self_later (Mark a) = grind arith
self_later End = refl

pub splits_alike : SplitsAlike
splits_alike mem m ps qs v a b p q x y =
    let f = parts mem v ps a m p in
    let g = parts mem v qs b m q in
    f.1 ∙ done-once mem v f.0 g.0 m (sym (ap (λ (o : Outcome). o.done) f.1) ∙ x) (sym (ap (λ (o : Outcome). o.done) g.1) ∙ y) ∙ sym g.1

pub pauses_exactly : PausesExactly
pauses_exactly mem v m a b = ((few mem v a m).0, ((few mem v a m).1, split v v (self_later v) mem a b m))
