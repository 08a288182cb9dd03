-- A note that is being read: what its reader and the calls so far tell, and that each call leads on.
-- Assumes nothing.
use Rattle.std.proofs.Common.{◌≡◌, ℕ, zero, suc, ◌+◌, ◌-◌, ◌<◌, ◌≤◌, min, Bool, true, false, not, ◌&&◌, ◌||◌, eqb, ltb, List, [], ◌∷◌, ◌++◌, length, Some, None, Ok, Option, Result, sym, refl, ap, ◌∙◌, subst, add_assoc, append_assoc, append-nil, length-append, zero-add, ⊎_elim, arith}
use Rattle.std.specs.NonZero.{non_zero_u64_get, non_zero_usize_get}
use Rattle.std.proofs.lemmas.Bool.{cases_lt, cond-true, cond-false, and_from, le-ltb, lt-ltb, ne_eqb, or_from}
use Rattle.text.specs.declared.refusals.Fault.{Fault}
use Rattle.punctuation.specs.RangeLists.{house}
use Rattle.punctuation.specs.declared.range_lists.RangeList.{RangeList}
use Rattle.rules.specs.Segments.{segments}
use Rattle.machine.specs.declared.cursors.Until.{Until}
use Rattle.machine.specs.declared.cursors.Until.TheVariants.{Mark, End}
use Rattle.machine.specs.declared.runs.Ran.{Ran}
use Rattle.machine.specs.Invariant.{Sound}
use Rattle.machine.specs.Joins.{joined}
use Rattle.machine.specs.Laws.{Part, no_later, none_later}
use Rattle.machine.specs.Moves.{Machine, with_tables}
use Rattle.machine.specs.Runs.{Outcome, beginning, plus, run}
use Rattle.machine.proofs.Facts.{sound_lawful}
use Rattle.machine.proofs.Keeps.{sound_beginning}
use Rattle.machine.proofs.Splits.{split, done_more, splits_alike, pauses_exactly}
use Rattle.machine.proofs.Turns.{run_sound, settled_sound}
use Rattle.findings.specs.Pieces.{segment_events}
use Rattle.findings.proofs.FindsLinks.{finds_links}
use Rattle.calls.specs.Calls.{Model, is_empty, is_loaded, is_over, checked, answer_of, new, loaded, load, pushed, closed, ended}
use Rattle.calls.specs.declared.phases.Phase.TheVariants.{Loaded, Ending, Ended}
use Rattle.reader.specs.View.{meaning_of, view}
use Rattle.punctuation.specs.declared.sets.PunctuationSet.{Ghosts}
use Rattle.reader.specs.declared.reader.Reader.{Reader}
use Rattle.readings.specs.declared.lines.Answered.{Answered}
use Rattle.readings.specs.declared.plans.Plan.{Plan}
use Rattle.readings.specs.Readings.{called, next_target, ran_of, then_target, calls_from, first_calls, AllCalls, Accepts, steps_made, TakesSteps, ReadThrough}

-- ---- steps

-- n steps from the beginning lead to this machine: the end goes on from there as from the beginning
abbrev pub LeadsTo : List ℕ → ℕ → Machine → Type 0
LeadsTo s n m = (k : ℕ) → run house End (n + k) (beginning s) ≡ plus n (run house End k m)

plus-plus : (n k : ℕ) (o : Outcome) → plus n (plus k o) ≡ plus (n + k) o
plus-plus n k o = ap (λ (j : ℕ). record { after = o.after; steps = j; done = o.done }) (sym (add_assoc n k o.steps))

no_later-end : (u : Until) → no_later u End ≡ true
no_later-end (Mark to) = refl
no_later-end End = refl

before-end : (ps : List Part) → none_later ps End ≡ true
before-end [] = refl
before-end (p ∷ ps) = and_from (no_later p.until End) (none_later ps End) (no_later-end p.until) (before-end ps)

leads-begin : (s : List ℕ) → LeadsTo s 0 (beginning s)
leads-begin s k =
    let o : Outcome = run house End k (beginning s) in
    ap (λ (j : ℕ). run house End j (beginning s)) (zero-add k) ∙ ap (λ (j : ℕ). record { after = o.after; steps = j; done = o.done }) (sym (zero-add o.steps))

-- a run leads on by its steps
leads-run : (s : List ℕ) (n : ℕ) (m : Machine) (u : Until) (a : ℕ) → LeadsTo s n m → LeadsTo s (n + (run house u a m).steps) (run house u a m).after
leads-run s n m u a h k =
    let o : Outcome = run house u a m in
    ap (λ (j : ℕ). run house End j (beginning s)) (add_assoc n o.steps k)
    ∙ h (o.steps + k)
    ∙ ap (plus n) (split u End (no_later-end u) house a k m)
    ∙ plus-plus n o.steps (run house End k o.after)

-- no more than are enough for the end
leads-within : (s : List ℕ) (n : ℕ) (m : Machine) → LeadsTo s n m → n ≤ (finds_links house s).enough
leads-within s n m h =
    let b = beginning s in
    let e : ℕ = (finds_links house s).enough in
    let done : (run house End e b).done ≡ true = (finds_links house s).ends [] e (omega arith) in
    let most : (run house End e b).steps ≤ e = (pauses_exactly house End b e 0).0 in
    let all : (run house End (n + 0) b).steps ≡ n + (run house End 0 m).steps = ap (λ (o : Outcome). o.steps) (h 0) in
    ⊎_elim
    (λ lt.
    let more : e + (n - e) ≡ n + 0 = omega arith in
    let same : (run house End (n + 0) b).steps ≡ (run house End e b).steps =
    ap (λ (j : ℕ). (run house End j b).steps) (sym more) ∙ ap (λ (o : Outcome). o.steps) (done_more house End e (n - e) b done) in
    omega arith)
    (λ le. le)
    (cases_lt e n)

-- a run to the end that is done has read the note
leads-done : (s : List ℕ) (n : ℕ) (m : Machine) (a : ℕ) → LeadsTo s n m → (run house End a m).done ≡ true →
    (joined (run house End a m).after.events ≡ segment_events s (segments house s)) × TakesSteps s (n + (run house End a m).steps)
leads-done s n m a h d =
    let o : Outcome = run house End a m in
    let all : run house End (n + a) (beginning s) ≡ plus n o = h a in
    let done : (run house End (n + a) (beginning s)).done ≡ true = ap (λ (x : Outcome). x.done) all ∙ d in (
      ap (λ (x : Outcome). joined x.after.events) (sym all) ∙ (finds_links house s).found [] (n + a) done,
      λ parts k q. ap (λ (x : Outcome). x.steps) (splits_alike house (beginning s) parts [] End k (n + a) (before-end parts) refl q done ∙ all),
    )

-- one call more
pub made_more : (calls : List Answered) (c : Answered) → steps_made (calls ++ c ∷ []) ≡ steps_made calls + c.ran.steps
made_more [] c = omega arith
made_more (x ∷ calls) c = omega (arith, made_more calls c)

-- ---- a call that is not refused

abbrev moved : Until → Outcome → Model → Model
moved (Mark to) o m = pushed to o m
moved End o m = ended o m

abbrev outcome : Until → ℕ → Model → Outcome
outcome u a m = run house u a m.machine

unchecked : {A : Type 0} (m : Model) (b c d e : Bool) (f g h i : Fault) (r : Model × A) → b ≡ false → c ≡ false → d ≡ false → e ≡ false →
    checked m ((b, f) ∷ (c, g) ∷ (d, h) ∷ (e, i) ∷ []) r ≡ (r.0, Ok r.1)
unchecked m b c d e f g h i r p q s t = cond-false b _ _ p ∙ cond-false c _ _ q ∙ cond-false d _ _ s ∙ cond-false e _ _ t

some_allowance : (a : ℕ) → 0 < a → eqb a 0 ≡ false
some_allowance a h = ne_eqb a 0 (λ e. omega (arith, e))

accepted : (u : Until) (m : Model) (a : ℕ) → 0 < a → Accepts u m → called u m a ≡ (moved u (outcome u a m) m, Ok (answer_of (outcome u a m)))
accepted (Mark to) m a pos h =
    unchecked m _ _ _ _ _ _ _ _ (pushed to (outcome (Mark to) a m) m, answer_of (outcome (Mark to) a m))
    (ap is_empty h.0) (ap (λ p. not (is_loaded p)) h.0) (some_allowance a pos)
    (or_from (ltb to m.mark) (ltb (length m.machine.note) to) (le-ltb to m.mark h.1) (le-ltb (length m.machine.note) to h.2))
accepted End m a pos h =
    unchecked m _ _ _ _ _ _ _ _ (ended (outcome End a m) m, answer_of (outcome End a m))
    h.0 h.1 (some_allowance a pos) h.2

-- ---- the note underway

-- how many calls may follow that are done
abbrev pub targets_left : ℕ → Until → ℕ
targets_left n (Mark to) = 1 + (n - to)
targets_left n End = 0

-- these calls, and then those from one to u on, read the note
abbrev pub Before : Plan → List ℕ → List Answered → Until → Model → Type 0
Before plan s calls u m = (n : ℕ) → first_calls plan s (length calls + n) ≡ calls ++ calls_from (length s) (non_zero_usize_get plan.piece) (non_zero_u64_get plan.allowance) n (Some u) m

-- after these calls, the next one, to u, is accepted and goes on with the note
pub record Underway {g : Ghosts RangeList} (plan : Plan) (s : List ℕ) (calls : List Answered) (u : Until) (r : Reader RangeList g) : Type 0 where
  pub before : Before plan s calls u (view r)
  pub means : meaning_of r ≡ house
  pub unlinked : (view r).links ≡ []
  pub accepts : Accepts u (view r)
  pub sound : Sound s (view r).machine
  pub leads : LeadsTo s (steps_made calls) (view r).machine

-- a new reader takes a note that is not too long
pub loads : {g : Ghosts RangeList} (r r' : Reader RangeList g) (s : List ℕ) (answer : Result (Unit {0}) Fault) → length s ≤ 1024 → view r ≡ new → ◌≡◌ {A = Model × Result (Unit {0}) Fault} (view r', answer) (load (view r) s) → view r' ≡ loaded s
loads r r' s answer short is e =
    ap (λ (x : Model × Result (Unit {0}) Fault). x.0) (e ∙ ap (λ m. load m s) is ∙ cond-false (ltb 1024 (length s)) _ _ (le-ltb 1024 (length s) short))

begins-before : (plan : Plan) (s : List ℕ) (calls : List Answered) (k : ℕ) → calls ≡ [] → k ≡ min (length s) (non_zero_usize_get plan.piece) → Before plan s calls (Mark k) (loaded s)
begins-before plan s calls k none is n =
    ap (first_calls plan s) (ap (λ (cs : List Answered). length cs + n) none ∙ zero-add n)
    ∙ (λ i. sym none i ++ calls_from (length s) (non_zero_usize_get plan.piece) (non_zero_u64_get plan.allowance) n (Some (Mark (sym is i))) (loaded s))

pub begins : {g : Ghosts RangeList} (plan : Plan) (s : List ℕ) (calls : List Answered) (r : Reader RangeList g) (n : ℕ) → calls ≡ [] → n ≡ min (length s) (non_zero_usize_get plan.piece) → meaning_of r ≡ house → view r ≡ loaded s → Underway plan s calls (Mark n) r
begins plan s calls r n none is means e = record {
  before = subst (Before plan s calls (Mark n)) (sym e) (begins-before plan s calls n none is);
  means = means;
  unlinked = ap (λ (m : Model). m.links) e;
  accepts = subst (Accepts (Mark n)) (sym e) (refl, omega arith, omega (arith, is));
  sound = subst (λ (m : Model). Sound s m.machine) (sym e) (sound_beginning s);
  leads = subst (λ (m : Model). LeadsTo s (steps_made calls) m.machine) (sym e) (subst (λ n. LeadsTo s n (beginning s)) (sym (ap steps_made none)) (leads-begin s));
}

-- ---- what a call leaves

links-stay : (u : Until) (o : Outcome) (m : Model) → (moved u o m).links ≡ m.links
links-stay (Mark to) o m = refl
links-stay End o m = refl

machine-paused : (u : Until) (o : Outcome) (m : Model) → o.done ≡ false → (moved u o m).machine ≡ o.after
machine-paused (Mark to) o m d = refl
machine-paused End o m d = ap (λ es. with_tables es o.after.names o.after) (cond-false o.done (joined o.after.events) o.after.events d)

-- a paused call may be made again
accepts-paused : (u : Until) (o : Outcome) (m : Model) → o.done ≡ false → o.after.note ≡ m.machine.note → Accepts u m → Accepts u (moved u o m)
accepts-paused (Mark to) o m d n h = (h.0, omega arith, omega (arith, h.2, ap length n))
accepts-paused End o m d n h =
    let phase : (ended o m).phase ≡ Ending = cond-false o.done Ended Ending d in
    (ap is_empty phase, ap is_over phase, ap (λ p. is_loaded p && (ltb m.mark (length (closed o).note) || m.paused)) phase)

-- a push that is done may be followed by one further on, or by the end
record Follows (n : ℕ) (u next : Until) (o : Outcome) (m : Model) : Type 0 where
  push : (moved u o m).machine ≡ o.after
  accepts : Accepts next (moved u o m)
  fewer : targets_left n next < targets_left n u

further : (n piece to : ℕ) (o : Outcome) (m : Model) → 0 < piece → length o.after.note ≡ n → m.phase ≡ Loaded → to < n → Follows n (Mark to) (Mark (min (to + piece) n)) o m
further n piece to o m pos len phase lt = record { push = refl; accepts = (phase, omega arith, omega arith); fewer = omega arith }

to_the_end : (n to : ℕ) (o : Outcome) (m : Model) → o.done ≡ true → length o.after.note ≡ n → m.phase ≡ Loaded → n ≤ to → Follows n (Mark to) End o m
to_the_end n to o m d len phase le = record {
  push = refl;
  accepts = (
    ap is_empty phase,
    ap is_over phase,
    ap (λ p. is_loaded p && (ltb to (length o.after.note) || not o.done)) phase
        ∙ or_from (ltb to (length o.after.note)) (not o.done) (le-ltb to (length o.after.note) (omega (arith, len, le))) (ap not d),
  );
  fewer = omega arith;
}

some_is : {A : Type 0} (x y : A) → Some x ≡ Some y → x ≡ y
some_is x y e = cc

some_none : {A B : Type 0} (x : A) → ◌≡◌ {A = Option A} (Some x) None → B
some_none x e = cc

follows : (n piece : ℕ) (u next : Until) (o : Outcome) (m : Model) → 0 < piece → o.done ≡ true → length o.after.note ≡ n → Accepts u m → Some next ≡ next_target u n piece → Follows n u next o m
follows n piece (Mark to) next o m pos d len h e =
    ⊎_elim
    (λ lt.
    let is : next ≡ Mark (min (to + piece) n) = some_is next _ (e ∙ cond-true (ltb to n) _ _ (lt-ltb to n lt)) in
    subst (λ v. Follows n (Mark to) v o m) (sym is) (further n piece to o m pos len h.0 lt))
    (λ le.
    let is : next ≡ End = some_is next _ (e ∙ cond-false (ltb to n) _ _ (le-ltb to n le)) in
    subst (λ v. Follows n (Mark to) v o m) (sym is) (to_the_end n to o m d len h.0 le))
    (cases_lt to n)
follows n piece End next o m pos d len h e = some_none next e

-- nothing follows the end alone
last-end : (n piece : ℕ) (u : Until) → next_target u n piece ≡ None → u ≡ End
last-end n piece (Mark to) e =
    ⊎_elim
    (λ lt. some_none _ (sym (cond-true (ltb to n) (Some (Mark (min (to + piece) n))) (Some End) (lt-ltb to n lt)) ∙ e))
    (λ le. some_none _ (sym (cond-false (ltb to n) (Some (Mark (min (to + piece) n))) (Some End) (le-ltb to n le)) ∙ e))
    (cases_lt to n)
last-end n piece End e = refl

ok_is : {A E : Type 0} (x y : A) → ◌≡◌ {A = Result A E} (Ok x) (Ok y) → x ≡ y
ok_is x y e = cc

-- ---- a call more

module _ {g : Ghosts RangeList} (plan : Plan) (s : List ℕ) (calls : List Answered) (u : Until) (r r' : Reader RangeList g) (ran : Ran) (h : Underway plan s calls u r) (a : ℕ) (value : a ≡ non_zero_u64_get plan.allowance) (pos : 0 < a)
    (e : ◌≡◌ {A = Model × Result Ran Fault} (view r', Ok ran) (called u (view r) a)) (means' : meaning_of r' ≡ house)
    (calls' : List Answered) (q : calls' ≡ calls ++ record { until = u; ran = ran } ∷ []) where
  abbrev m : Model
  m = view r

  abbrev o : Outcome
  o = outcome u a m

  both : ◌≡◌ {A = Model × Result Ran Fault} (view r', Ok ran) (moved u o m, Ok (answer_of o))
  both = e ∙ accepted u m a pos h.accepts

  view-is : view r' ≡ moved u o m
  view-is = ap (λ (x : Model × Result Ran Fault). x.0) both

  ran-is : ran ≡ answer_of o
  ran-is = ok_is ran (answer_of o) (ap (λ (x : Model × Result Ran Fault). x.1) both)

  made-is : steps_made calls' ≡ steps_made calls + o.steps
  made-is = ap steps_made q ∙ made_more calls (record { until = u; ran = ran }) ∙ ap (λ (x : Ran). steps_made calls + x.steps) ran-is

  after-leads : LeadsTo s (steps_made calls') o.after
  after-leads = subst (λ n. LeadsTo s n o.after) (sym made-is) (leads-run s (steps_made calls) m.machine u a h.leads)

  after-sound : Sound s o.after
  after-sound = run_sound s house u a m.machine (settled_sound s h.sound)

  still-unlinked : (view r').links ≡ []
  still-unlinked = ap (λ (x : Model). x.links) view-is ∙ links-stay u o m ∙ h.unlinked

  same-note : o.after.note ≡ m.machine.note
  same-note = (sound_lawful after-sound).note ∙ sym (sound_lawful h.sound).note

  abbrev rest : ℕ → Option Until → List Answered
  rest n next = calls_from (length s) (non_zero_usize_get plan.piece) (non_zero_u64_get plan.allowance) n next (view r')

  abbrev next_after : Option Until
  next_after = then_target ran.done u (length s) (non_zero_usize_get plan.piece)

  -- this call, and then those that follow it
  goes-on : (n : ℕ) → first_calls plan s (length calls' + n) ≡ calls' ++ rest n next_after
  goes-on n =
      let c : Answered = record { until = u; ran = ran } in
      let p : ℕ = non_zero_usize_get plan.piece in
      let k : ℕ = non_zero_u64_get plan.allowance in
      let answer : ◌≡◌ {A = Model × Result Ran Fault} (view r', Ok ran) (called u m k) = e ∙ ap (called u m) value in
      let more : length calls' + n ≡ length calls + suc n = omega (arith, ap length q, length-append calls (c ∷ [])) in
      ap (first_calls plan s) more
      ∙ h.before (suc n)
      ∙ ap (λ (x : Model × Result Ran Fault). calls ++ record { until = u; ran = ran_of x.1 } ∷ calls_from (length s) p k n (then_target (ran_of x.1).done u (length s) p) x.0) (sym answer)
      ∙ sym (append_assoc calls (c ∷ []) (rest n next_after))
      ∙ ap (λ cs. cs ++ rest n next_after) (sym q)

  before-on : (next : Until) → next_after ≡ Some next → Before plan s calls' next (view r')
  before-on next is n = goes-on n ∙ ap (λ x. calls' ++ rest n x) is

  reader-on : (next : Until) → next_after ≡ Some next → (moved u o m).machine ≡ o.after → Accepts next (moved u o m) → Underway plan s calls' next r'
  reader-on next follows is accepts =
      let machine-is : (view r').machine ≡ o.after = ap (λ (x : Model). x.machine) view-is ∙ is in
      record {
        before = before-on next follows;
        means = means';
        unlinked = still-unlinked;
        accepts = subst (Accepts next) (sym view-is) accepts;
        sound = subst (Sound s) (sym machine-is) after-sound;
        leads = subst (LeadsTo s (steps_made calls')) (sym machine-is) after-leads;
      }

  abbrev left : ℕ → Until → ℕ
  left made v = targets_left (length s) v + ((finds_links house s).enough - made)

  pub paused-on : ran.done ≡ false → Underway plan s calls' u r'
  paused-on p =
      let d : o.done ≡ false = sym (ap (λ (x : Ran). x.done) ran-is) ∙ p in
      reader-on u (cond-false ran.done _ _ p) (machine-paused u o m d) (accepts-paused u o m d same-note h.accepts)

  pub paused-left : ran.done ≡ false → left (steps_made calls') u < left (steps_made calls) u
  paused-left p =
      let d : o.done ≡ false = sym (ap (λ (x : Ran). x.done) ran-is) ∙ p in
      let all : o.steps ≡ a = (pauses_exactly house u m.machine a 0).1.0 d in
      omega (arith, leads-within s (steps_made calls') o.after after-leads, made-is, all, pos)

  module _ (next : Until) (some : 0 < non_zero_usize_get plan.piece) (is : Some next ≡ next_target u (length s) (non_zero_usize_get plan.piece)) (p : ran.done ≡ true) where
    d : o.done ≡ true
    d = sym (ap (λ (x : Ran). x.done) ran-is) ∙ p

    followed : Follows (length s) u next o m
    followed = follows (length s) (non_zero_usize_get plan.piece) u next o m some d (ap length (sound_lawful after-sound).note) h.accepts is

    pub done-on : Underway plan s calls' next r'
    done-on = reader-on next (cond-true ran.done _ _ p ∙ sym is) followed.push followed.accepts

    pub done-left : left (steps_made calls') next < left (steps_made calls) u
    done-left = omega (arith, followed.fewer, made-is)

  nothing : (n : ℕ) → rest n None ≡ []
  nothing zero = refl
  nothing (suc n) = refl

  all-calls : next_after ≡ None → AllCalls plan s calls'
  all-calls none n le =
      let k : ℕ = n - length calls' in
      let more : n ≡ length calls' + k = omega arith in
      ap (first_calls plan s) more ∙ goes-on k ∙ ap (λ x. calls' ++ rest k x) none ∙ ap (λ cs. calls' ++ cs) (nothing k) ∙ append-nil calls'

  -- the end is done
  pub read_through : next_target u (length s) (non_zero_usize_get plan.piece) ≡ None → ran.done ≡ true → ReadThrough plan s calls' (view r')
  read_through none p =
      let last : u ≡ End = last-end (length s) (non_zero_usize_get plan.piece) u none in
      let same : outcome u a m ≡ outcome End a m = ap (λ v. outcome v a m) last in
      let d : (outcome End a m).done ≡ true = sym (ap (λ (x : Outcome). x.done) same) ∙ sym (ap (λ (x : Ran). x.done) ran-is) ∙ p in
      let all = leads-done s (steps_made calls) m.machine a h.leads d in
      let made : steps_made calls' ≡ steps_made calls + (outcome End a m).steps = made-is ∙ ap (λ (x : Outcome). steps_made calls + x.steps) same in
      record {
        made = all-calls (cond-true ran.done _ _ p ∙ none);
        ended =
            ap (λ (x : Model). x.phase) view-is ∙ ap (λ v. (moved v (outcome v a m) m).phase) last
            ∙ cond-true (outcome End a m).done Ended Ending d;
        note =
            ap (λ (x : Model). x.machine.note) view-is ∙ ap (λ v. (moved v o m).machine.note) last
            ∙ (sound_lawful after-sound).note;
        unlinked = still-unlinked;
        events =
            ap (λ (x : Model). x.machine.events) view-is ∙ ap (λ v. (moved v (outcome v a m) m).machine.events) last
            ∙ cond-true (outcome End a m).done (joined (outcome End a m).after.events) (outcome End a m).after.events d
            ∙ all.0;
        steps = subst (TakesSteps s) (sym made) all.1;
      }
