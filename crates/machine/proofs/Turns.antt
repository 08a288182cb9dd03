-- Turns of a run: the invariant is kept in each, and so it holds at every moment.
-- Assumes nothing.
use Rattle.std.proofs.Common.{◌≡◌, ℕ, zero, suc, ◌+◌, Bool, true, false, cond, ◌&&◌, ltb, List, [], ◌∷◌, length, Some, None, Option, sym, refl, ap, ◌∙◌, subst, ⊎_elim, arith}
use Rattle.std.proofs.lemmas.Bool.{cases_Bool, cond_both, and_parts, and_from, true≢false, both_ways, lt-ltb}
use Rattle.machine.specs.declared.attempts.Attempt.{Attempt}
use Rattle.machine.specs.declared.cursors.Cursor.{Cursor}
use Rattle.machine.specs.declared.cursors.Registers.{Registers}
use Rattle.machine.specs.declared.cursors.Until.{Until}
use Rattle.machine.specs.declared.cursors.Until.TheVariants.{Mark, End}
use Rattle.machine.specs.declared.events.Event.{Event}
use Rattle.machine.specs.declared.events.Name.{Name}
use Rattle.machine.specs.declared.states.State.{State}
use Rattle.machine.specs.declared.states.State.TheVariants.{Next, Retry}
use Rattle.machine.specs.declared.states.StateName.{StateName}
use Rattle.machine.specs.declared.states.StateName.TheVariants.{Before, Line, Data, Inside, ProtocolStart, ProtocolPrefixInside, ProtocolSlashesInside, ProtocolAfter, WwwStart, WwwPrefixInside, WwwPrefixAfter, WwwAfter, DomainInside, DomainAtPunctuation, DomainAfter, PathInside, PathAtPunctuation, PathAfter, Trail, TrailBracketAfter, TrailCharRefStart, TrailCharRefInside}
use Rattle.machine.specs.Cursors.{crlf_at, next_index, shown_at}
use Rattle.machine.specs.Moves.{Machine, made_of, settled}
use Rattle.machine.specs.States.{call}
use Rattle.machine.specs.Runs.{beginning, limit, passed, prepared, may_show, due, shown, Outcome, stopped, choose, none_due, run}
use Rattle.machine.specs.Laws.{Piece, worked, LawfulAtEveryMoment}
use Rattle.machine.specs.Invariant.{ready, Fit, Sound, next, retry, over, Called, called, Ready, EveryStepKeeps}
use Rattle.machine.proofs.Walk.{crlf, crlf_lf, index_same, index-next}
use Rattle.machine.proofs.Keeps.{call_keeps, sound_beginning}
use Rattle.machine.proofs.Facts.{fit_ready, sound_lawful}

-- ---- options

-- a choice has what both ways have
pub choose_both : {A : Type 0} (o : Option StateName) (P : A → Type 0) (x : A) (g : StateName → A) → (o ≡ None → P x) → ((n : StateName) → o ≡ Some n → P (g n)) → P (choose o x g)
choose_both None P x g a b = a refl
choose_both (Some n) P x g a b = b n refl

abbrev some_or : StateName → Option StateName → StateName
some_or n None = n
some_or n (Some k) = k

pub some-parts : (b : Bool) (k n : StateName) → cond b (Some k) None ≡ Some n → (b ≡ true) × (k ≡ n)
some-parts true k n e = (refl, ap (some_or n) e)
some-parts false k n e = absurd (true≢false (ap none_due e))

-- ---- a state call does not look at the answer before it

pub call_any : (mem : ℕ → Bool) (s : List ℕ) (n : StateName) (a b : State) (c : Cursor) (r : Registers) (us : List Attempt) (es : List Event) (ns : List Name) → call mem n (made_of s a c r us es ns) ≡ call mem n (made_of s b c r us es ns)
call_any mem s Before a b c r us es ns = refl
call_any mem s Line a b c r us es ns = refl
call_any mem s Data a b c r us es ns = refl
call_any mem s Inside a b c r us es ns = refl
call_any mem s ProtocolStart a b c r us es ns = refl
call_any mem s ProtocolPrefixInside a b c r us es ns = refl
call_any mem s ProtocolSlashesInside a b c r us es ns = refl
call_any mem s ProtocolAfter a b c r us es ns = refl
call_any mem s WwwStart a b c r us es ns = refl
call_any mem s WwwPrefixInside a b c r us es ns = refl
call_any mem s WwwPrefixAfter a b c r us es ns = refl
call_any mem s WwwAfter a b c r us es ns = refl
call_any mem s DomainInside a b c r us es ns = refl
call_any mem s DomainAtPunctuation a b c r us es ns = refl
call_any mem s DomainAfter a b c r us es ns = refl
call_any mem s PathInside a b c r us es ns = refl
call_any mem s PathAtPunctuation a b c r us es ns = refl
call_any mem s PathAfter a b c r us es ns = refl
call_any mem s Trail a b c r us es ns = refl
call_any mem s TrailBracketAfter a b c r us es ns = refl
call_any mem s TrailCharRefStart a b c r us es ns = refl
call_any mem s TrailCharRefInside a b c r us es ns = refl

-- ---- the invariant in a turn

-- the cursor past the CR
abbrev pub skipped : Cursor → Cursor
skipped c = record { point = next_index c.point; previous = c.previous; current = c.current }

-- the cursor with the byte at its point shown
abbrev pub looking : List ℕ → Cursor → Cursor
looking s c = record { point = c.point; previous = c.previous; current = shown_at s c.point }

module _ (s : List ℕ) (c : Cursor) where
  abbrev ready-from : ℕ → Cursor
  ready-from j =
      record {
        point = record { line = c.point.line; column = c.point.column; index = j; vs = c.point.vs };
        previous = c.previous;
        current = shown_at s (record { line = c.point.line; column = c.point.column; index = j; vs = c.point.vs });
      }

  -- a CR passed over leaves the same byte to be shown
  pub skipped_ready : crlf_at s c.point.index ≡ true → ready s (skipped c) ≡ ready s c
  skipped_ready h =
      let i = c.point.index in
      ap ready-from (index_same s (i + 1) (crlf_lf s (i + 1) (crlf s i h).1) ∙ sym (index-next s i h))

  pub looking_ready : crlf_at s c.point.index ≡ false → looking s c ≡ ready s c
  looking_ready h = ap ready-from (sym (index_same s c.point.index h))

module _ (s : List ℕ) where
  -- what makes a CR pass
  pub passes-parts : (until : Until) (i : ℕ) → (ltb i (limit until (length s)) && crlf_at s i) ≡ true → (ltb i (limit until (length s)) ≡ true) × (crlf_at s i ≡ true)
  passes-parts until i h = and_parts (ltb i (limit until (length s))) (crlf_at s i) h

  -- where a byte may be shown and no CR is passed, there is none to pass
  pub shown-none : (until : Until) (i : ℕ) → may_show until i ≡ true → (ltb i (limit until (length s)) && crlf_at s i) ≡ false → crlf_at s i ≡ false
  shown-none (Mark to) i may h = ⊎_elim (λ c. absurd (both_ways (ltb i to && crlf_at s i) h (and_from (ltb i to) (crlf_at s i) may c))) (λ c. c) (cases_Bool (crlf_at s i))
  shown-none End i may h =
      ⊎_elim
      (λ c. absurd (both_ways (ltb i (length s) && crlf_at s i) h (and_from (ltb i (length s)) (crlf_at s i) (lt-ltb i (length s) (omega (arith, (crlf s i c).2))) c)))
      (λ c. c)
      (cases_Bool (crlf_at s i))

  -- past the CR there is none
  pub skipped_none : (i : ℕ) → crlf_at s i ≡ true → crlf_at s (i + 1) ≡ false
  skipped_none i h = crlf_lf s (i + 1) (crlf s i h).1

  module _ (until : Until) where
    pub sound_passed : {m : Machine} → Sound s m → Sound s (passed until m)
    sound_passed (next {n} {c} {r} {us} {es} {ns} f) =
        let i = c.point.index in
        next
        (cond_both (ltb i (limit until (length s)) && crlf_at s i) (skipped c) c (λ (d : Cursor). Fit s n (ready s d) r us es ns)
        (λ h. subst (λ (d : Cursor). Fit s n d r us es ns) (sym (skipped_ready s c (passes-parts until i h).1)) f)
        (λ _. f))
    sound_passed (retry f) = retry f
    sound_passed (over p cl) = over p cl

    -- the state that is due finds what it counts on
    pub due-called : {m : Machine} → Sound s m → (n : StateName) → due until (passed until m) ≡ Some n → Called s n (shown (passed until m))
    due-called (next {n = k} {c} {r} {us} {es} {ns} f) n e =
        let i = c.point.index in
        let T = ltb i (limit until (length s)) && crlf_at s i in
        cond_both T (skipped c) c
        (λ (d : Cursor). cond (may_show until d.point.index) (Some k) None ≡ Some n → Called s n (made_of s (Next k) (looking s d) r us es ns))
        (λ h q.
        let p = some-parts (may_show until (i + 1)) k n q in
        let has = (passes-parts until i h).1 in
        called (subst (λ (x : StateName). Fit s x (looking s (skipped c)) r us es ns) p.1
        (subst (λ (d : Cursor). Fit s k d r us es ns) (sym (looking_ready s (skipped c) (skipped_none i has) ∙ skipped_ready s c has)) f)))
        (λ h q.
        let p = some-parts (may_show until i) k n q in
        called (subst (λ (x : StateName). Fit s x (looking s c) r us es ns) p.1
        (subst (λ (d : Cursor). Fit s k d r us es ns) (sym (looking_ready s c (shown-none until i p.0 h))) f)))
        e
    due-called (retry {n = k} {c} {r} {us} {es} {ns} f) n e = called (subst (λ (x : StateName). Fit s x c r us es ns) (ap (some_or n) e) f)
    due-called (over p cl) n e = absurd (true≢false (ap none_due e))

  -- a state call, settled
  pub called-kept : (mem : ℕ → Bool) (n : StateName) {m : Machine} → Called s n m → Sound s (settled (call mem n m))
  called-kept mem n (called {a} {c} {r} {us} {es} {ns} f) =
      subst (λ (x : Machine). Sound s (settled x)) (call_any mem s n (Retry n) a c r us es ns) (call_keeps s mem f)

  pub called-ready : (n : StateName) {m : Machine} → Called s n m → Ready s n m
  called-ready n (called f) = fit_ready f

  -- a sound machine is settled
  pub sound_settled : {m : Machine} → Sound s m → settled m ≡ m
  sound_settled (next f) = refl
  sound_settled (retry f) = refl
  sound_settled (over p cl) = refl

  pub settled_sound : {m : Machine} → Sound s m → Sound s (settled m)
  settled_sound {m} h = subst (Sound s) (sym (sound_settled h)) h

  -- ---- the invariant in a run

  pub run_sound : (mem : ℕ → Bool) (until : Until) (k : ℕ) (m : Machine) → Sound s (settled m) → Sound s (run mem until k m).after
  run_sound mem until zero m h = sound_passed until h
  run_sound mem until (suc k) m h =
      choose_both (due until (prepared until m)) (λ (o : Outcome). Sound s o.after) (stopped (prepared until m) true) _
      (λ _. sound_passed until h)
      (λ n e. run_sound mem until k (call mem n (shown (prepared until m))) (called-kept mem n (due-called until h n e)))

  pub worked_sound : (ps : List Piece) (m : Machine) → Sound s m → Sound s (worked ps m)
  worked_sound [] m h = h
  worked_sound (p ∷ ps) m h = worked_sound ps (run p.member p.until p.allowance m).after (run_sound p.member p.until p.allowance m (settled_sound h))

pub lawful_at_every_moment : LawfulAtEveryMoment
lawful_at_every_moment s ps = sound_lawful (worked_sound s ps (beginning s) (sound_beginning s))

pub every_step_keeps : EveryStepKeeps
every_step_keeps s =
    record {
      begins = sound_beginning s;
      passes = λ until m h. sound_passed s until h;
      shows = λ until m n h e. due-called s until h n e;
      calls = λ mem n m h. called-kept s mem n h;
      ready = λ n m h. called-ready s n h;
      lawful = λ m h. sound_lawful h;
    }
