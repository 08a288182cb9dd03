-- What every list of calls leaves true of a reader, and so the claim; from what the machine finds.
-- Assumes nothing.
use Rattle.std.proofs.Common.{◌≡◌, ℕ, suc, ◌<◌, ◌≤◌, Bool, true, false, cond, not, List, [], ◌∷◌, ◌++◌, length, Some, None, Ok, sym, refl, ap, ◌∙◌, subst, arith}
use Rattle.std.proofs.lemmas.Bool.{and_parts, and_from, both_ways, not-false, leb-false, ltb-false, true≢false}
use Rattle.std.proofs.lemmas.List.{length_push}
use Rattle.machine.specs.declared.cursors.Until.TheVariants.{Mark, End}
use Rattle.machine.specs.declared.events.Event.{Event}
use Rattle.machine.specs.Joins.{joined}
use Rattle.machine.specs.Moves.{Machine, settled, with_tables}
use Rattle.machine.specs.Runs.{run}
use Rattle.machine.specs.Invariant.{Sound}
use Rattle.machine.proofs.Facts.{sound_lawful}
use Rattle.machine.proofs.Turns.{settled_sound}
use Rattle.findings.specs.Findings.{FindsTheLinks}
use Rattle.calls.specs.declared.links.MarkedRun.{MarkedRun}
use Rattle.calls.specs.declared.phases.Phase.{Phase}
use Rattle.calls.specs.declared.phases.Phase.TheVariants.{Empty, Loaded, Ending, Ended, Resolved}
use Rattle.calls.specs.declared.scripts.Call.{Call}
use Rattle.calls.specs.declared.scripts.Call.TheVariants as call
use Rattle.calls.specs.Calls.{Model, new, is_empty, is_loaded, is_over, answer_of, loaded, pushed, ended}
use Rattle.calls.specs.Claims.{FullyRead, FullyResolved}
use Rattle.calls.specs.EventLists.{LawfulEvents}
use Rattle.calls.specs.Links.{beyond, markable, marked_in_turn, resolved, ended_events, resolved_events}
use Rattle.calls.specs.Steps.{held, is_ended, is_resolved, most_links, most_events, run_of, with_link, with_resolved, answer, step}
use Rattle.calls.specs.Moments.{after, answers, Reachable, Told, nothing, telling, told, AlwaysTrue, Moment}
use Rattle.calls.proofs.Checks.{checks, by_checks}
use Rattle.calls.proofs.Ended.{ended-lawful, ended-read}
use Rattle.calls.proofs.Lengths.{ended-room, resolved-room}
use Rattle.calls.proofs.Resolves.{resolved-lawful, resolved_read, resolved-resolved}
use Rattle.calls.proofs.Reached.{Reached, reached_first, reached_more, reached_sound, reached_note, reached_lawful, reached_end}

-- ---- phases

empty_is : (p : Phase) → not (is_empty p) ≡ false → p ≡ Empty
empty_is Empty e = refl
empty_is Loaded e = absurd (true≢false e)
empty_is Ending e = absurd (true≢false e)
empty_is Ended e = absurd (true≢false e)
empty_is Resolved e = absurd (true≢false e)

loaded-is : (p : Phase) → not (is_loaded p) ≡ false → p ≡ Loaded
loaded-is Empty e = absurd (true≢false e)
loaded-is Loaded e = refl
loaded-is Ending e = absurd (true≢false e)
loaded-is Ended e = absurd (true≢false e)
loaded-is Resolved e = absurd (true≢false e)

ended_is : (p : Phase) → not (is_ended p) ≡ false → p ≡ Ended
ended_is Empty e = absurd (true≢false e)
ended_is Loaded e = absurd (true≢false e)
ended_is Ending e = absurd (true≢false e)
ended_is Ended e = refl
ended_is Resolved e = absurd (true≢false e)

-- ---- one link more

in_turn-more : (es : List Event) (a : ℕ) (ls : List MarkedRun) (l : MarkedRun) → marked_in_turn es a ls ≡ true → markable es (beyond a ls) l ≡ true → marked_in_turn es a (ls ++ l ∷ []) ≡ true
in_turn-more es a [] l h k = and_from (markable es a l) true k refl
in_turn-more es a (x ∷ ls) l h k =
    let p = and_parts (markable es a x) (marked_in_turn es (suc x.last) ls) h in
    and_from (markable es a x) (marked_in_turn es (suc x.last) (ls ++ l ∷ [])) p.0 (in_turn-more es (suc x.last) ls l p.1 k)

module _ (member : ℕ → Bool) (finds : FindsTheLinks) where
  -- ---- what is kept: t is what calls and answers have told

  -- before the end is done, nothing is told but the note
  record Reading (t : Told) (m : Model) : Type 0 where
    ended : t.ended ≡ false
    resolved : t.resolved ≡ false
    links : t.links ≡ []
    reached : Reached member t.note m.machine

  record Over (t : Told) (m : Model) : Type 0 where
    ended : t.ended ≡ true
    resolved : t.resolved ≡ false
    holds : held m ≡ ended_events member t.note
    in_turn : marked_in_turn (ended_events member t.note) 0 t.links ≡ true

  record Settled (t : Told) (m : Model) : Type 0 where
    ended : t.ended ≡ true
    resolved : t.resolved ≡ true
    holds : held m ≡ resolved_events member t.note t.links
    in_turn : marked_in_turn (ended_events member t.note) 0 t.links ≡ true

  abbrev At : Phase → Told → Model → Type 0
  At Empty t m = Reading t m
  At Loaded t m = Reading t m
  At Ending t m = Reading t m
  At Ended t m = Over t m
  At Resolved t m = Settled t m

  record Kept (t : Told) (m : Model) : Type 0 where
    note : m.machine.note ≡ t.note
    short : length t.note ≤ 1024
    links : m.links ≡ t.links
    few : length t.links ≤ most_links
    at : At m.phase t m

  -- ---- it gives the laws

  lawful-at : (p : Phase) (t : Told) (m : Model) → At p t m → LawfulEvents t.note (held m)
  lawful-at Empty t m a = reached_lawful member a.reached
  lawful-at Loaded t m a = reached_lawful member a.reached
  lawful-at Ending t m a = reached_lawful member a.reached
  lawful-at Ended t m a = subst (LawfulEvents t.note) (sym a.holds) (ended-lawful member t.note)
  lawful-at Resolved t m a = subst (LawfulEvents t.note) (sym a.holds) (resolved-lawful member t.note t.links a.in_turn)

  read_at : (p : Phase) (t : Told) (m : Model) → At p t m → t.ended ≡ true → FullyRead member t.note (held m)
  read_at Empty t m a e = absurd (both_ways t.ended a.ended e)
  read_at Loaded t m a e = absurd (both_ways t.ended a.ended e)
  read_at Ending t m a e = absurd (both_ways t.ended a.ended e)
  read_at Ended t m a e = subst (FullyRead member t.note) (sym a.holds) (ended-read member t.note)
  read_at Resolved t m a e = subst (FullyRead member t.note) (sym a.holds) (resolved_read member t.note t.links a.in_turn)

  resolved-at : (p : Phase) (t : Told) (m : Model) → At p t m → t.resolved ≡ true → FullyResolved member t.note t.links (held m)
  resolved-at Empty t m a e = absurd (both_ways t.resolved a.resolved e)
  resolved-at Loaded t m a e = absurd (both_ways t.resolved a.resolved e)
  resolved-at Ending t m a e = absurd (both_ways t.resolved a.resolved e)
  resolved-at Ended t m a e = absurd (both_ways t.resolved a.resolved e)
  resolved-at Resolved t m a e = subst (FullyResolved member t.note t.links) (sym a.holds) (resolved-resolved member t.note t.links a.in_turn)

  fits-at : (p : Phase) (t : Told) (m : Model) → length t.note ≤ 1024 → length t.links ≤ most_links → At p t m → length (held m) ≤ most_events
  fits-at Empty t m short few a = omega (arith, (sound_lawful (reached_sound member a.reached)).events)
  fits-at Loaded t m short few a = omega (arith, (sound_lawful (reached_sound member a.reached)).events)
  fits-at Ending t m short few a = omega (arith, (sound_lawful (reached_sound member a.reached)).events)
  fits-at Ended t m short few a = omega (arith, ap length a.holds, ended-room member t.note)
  fits-at Resolved t m short few a = omega (arith, ap length a.holds, resolved-room member t.note t.links a.in_turn)

  -- ---- each call keeps it

  over_told : (p : Phase) (t : Told) (m : Model) → is_over p ≡ true → At p t m → t.ended ≡ true
  over_told Empty t m e a = absurd (true≢false (sym e))
  over_told Loaded t m e a = absurd (true≢false (sym e))
  over_told Ending t m e a = absurd (true≢false (sym e))
  over_told Ended t m e a = a.ended
  over_told Resolved t m e a = a.ended

  resolved_told : (p : Phase) (t : Told) (m : Model) → is_resolved p ≡ true → At p t m → t.resolved ≡ true
  resolved_told Empty t m e a = absurd (true≢false (sym e))
  resolved_told Loaded t m e a = absurd (true≢false (sym e))
  resolved_told Ending t m e a = absurd (true≢false (sym e))
  resolved_told Ended t m e a = absurd (true≢false (sym e))
  resolved_told Resolved t m e a = a.resolved

  may_resolve : (p : Phase) (t : Told) (m : Model) → is_ended p ≡ true → At p t m → Over t m
  may_resolve Empty t m e a = absurd (true≢false (sym e))
  may_resolve Loaded t m e a = absurd (true≢false (sym e))
  may_resolve Ending t m e a = absurd (true≢false (sym e))
  may_resolve Ended t m e a = a
  may_resolve Resolved t m e a = absurd (true≢false (sym e))

  in_turn-at : (p : Phase) (t : Told) (m : Model) → At p t m → marked_in_turn (ended_events member t.note) 0 t.links ≡ true
  in_turn-at Empty t m a = ap (marked_in_turn (ended_events member t.note) 0) a.links
  in_turn-at Loaded t m a = ap (marked_in_turn (ended_events member t.note) 0) a.links
  in_turn-at Ending t m a = ap (marked_in_turn (ended_events member t.note) 0) a.links
  in_turn-at Ended t m a = a.in_turn
  in_turn-at Resolved t m a = a.in_turn

  kept_true : (t : Told) (m : Model) → Kept t m → AlwaysTrue member m
  kept_true t m k =
      record {
        short = omega (arith, ap length k.note, k.short);
        few = omega (arith, ap length k.links, k.few);
        in_turn = ap (λ s. marked_in_turn (ended_events member s) 0 m.links) k.note ∙ ap (marked_in_turn (ended_events member t.note) 0) k.links ∙ in_turn-at m.phase t m k.at;
        lawful = subst (λ s. LawfulEvents s (held m)) (sym k.note) (lawful-at m.phase t m k.at);
        fits = fits-at m.phase t m k.short k.few k.at;
        read = λ e. subst (λ s. FullyRead member s (held m)) (sym k.note) (read_at m.phase t m k.at (over_told m.phase t m e k.at));
        ended = λ e. (may_resolve m.phase t m e k.at).holds ∙ ap (ended_events member) (sym k.note);
        resolved = λ e. subst (λ s. FullyResolved member s m.links (held m)) (sym k.note)
            (subst (λ ls. FullyResolved member t.note ls (held m)) (sym k.links) (resolved-at m.phase t m k.at (resolved_told m.phase t m e k.at)));
      }

  new-kept : Kept nothing new
  new-kept = record { note = refl; short = omega arith; links = refl; few = omega arith; at = record { ended = refl; resolved = refl; links = refl; reached = reached_first member [] } }

  load_kept : (t : Told) (m : Model) (s : List ℕ) → length s ≤ 1024 → m.phase ≡ Empty → Kept t m → Kept (record { note = s; ended = t.ended; resolved = t.resolved; links = t.links }) (loaded s)
  load_kept t m s short p k =
      let a : Reading t m = subst (λ q. At q t m) p k.at in
      record {
        note = refl;
        short = short;
        links = sym a.links;
        few = k.few;
        at = record { ended = a.ended; resolved = a.resolved; links = a.links; reached = reached_first member s };
      }

  push_kept : (t : Told) (m : Model) (to allowance : ℕ) → m.phase ≡ Loaded → Kept t m → Kept t (pushed to (run member (Mark to) allowance m.machine) m)
  push_kept t m to allowance p k =
      let a : Reading t m = subst (λ q. At q t m) p k.at in
      let m' = pushed to (run member (Mark to) allowance m.machine) m in
      let r : Reached member t.note m'.machine = reached_more member t.note (Mark to) allowance m.machine a.reached in
      let b : Reading t m' = record { ended = a.ended; resolved = a.resolved; links = a.links; reached = r } in
      record { note = reached_note member r; short = k.short; links = k.links; few = k.few; at = subst (λ q. At q t m') (sym p) b }

  may_end : (p : Phase) (t : Told) (m : Model) → is_empty p ≡ false → is_over p ≡ false → At p t m → Reading t m
  may_end Empty t m e f a = absurd (true≢false e)
  may_end Loaded t m e f a = a
  may_end Ending t m e f a = a
  may_end Ended t m e f a = absurd (true≢false f)
  may_end Resolved t m e f a = absurd (true≢false f)

  -- what an end leaves, by whether it is done
  abbrev ended_as : Bool → Machine → Model → Model
  ended_as d k m =
      record {
        phase = cond d Ended Ending;
        mark = m.mark;
        paused = m.paused;
        machine = with_tables (cond d (joined k.events) k.events) k.names k;
        links = m.links;
      }

  end_kept : (t : Told) (m : Model) (k : Machine) (steps allowance : ℕ) (d : Bool) → Kept t m → Reading t m → Reached member t.note k → (d ≡ true → joined k.events ≡ ended_events member t.note) →
      Kept (telling t (call.End allowance) (Ok (Some (record { steps = steps; done = d })))) (ended_as d k m)
  end_kept t m k steps allowance true kept a r found =
      record {
        note = reached_note member r;
        short = kept.short;
        links = kept.links;
        few = kept.few;
        at = record { ended = refl; resolved = a.resolved; holds = found refl; in_turn = ap (marked_in_turn (ended_events member t.note) 0) a.links };
      }
  end_kept t m k steps allowance false kept a r found =
      record { note = reached_note member r; short = kept.short; links = kept.links; few = kept.few; at = record { ended = a.ended; resolved = a.resolved; links = a.links; reached = r } }

  link-kept : (t : Told) (m : Model) (l : MarkedRun) → m.phase ≡ Ended → markable (held m) (beyond 0 m.links) l ≡ true → length m.links < most_links → Kept t m → Kept (record { note = t.note; ended = t.ended; resolved = t.resolved; links = t.links ++ l ∷ [] }) (with_link l m)
  link-kept t m l p ok room k =
      let a : Over t m = subst (λ q. At q t m) p k.at in
      let t' : Told = record { note = t.note; ended = t.ended; resolved = t.resolved; links = t.links ++ l ∷ [] } in
      let may : markable (ended_events member t.note) (beyond 0 t.links) l ≡ true = ap (λ ls. markable (ended_events member t.note) (beyond 0 ls) l) (sym k.links) ∙ ap (λ es. markable es (beyond 0 m.links) l) (sym a.holds) ∙ ok in
      let b : Over t' (with_link l m) =
      record { ended = a.ended; resolved = a.resolved; holds = a.holds; in_turn = in_turn-more (ended_events member t.note) 0 t.links l a.in_turn may } in
      record { note = k.note; short = k.short; links = ap (λ ls. ls ++ l ∷ []) k.links; few = omega (arith, length_push t.links l, ap length k.links); at = subst (λ q. At q t' (with_link l m)) (sym p) b }

  resolve-kept : (t : Told) (m : Model) → m.phase ≡ Ended → Kept t m → Kept (record { note = t.note; ended = t.ended; resolved = true; links = t.links }) (with_resolved m)
  resolve-kept t m p k =
      let a : Over t m = subst (λ q. At q t m) p k.at in
      record {
        note = k.note;
        short = k.short;
        links = k.links;
        few = k.few;
        at = record { ended = a.ended; resolved = refl; holds = λ i. resolved (k.note i) (k.links i) (a.holds i); in_turn = a.in_turn };
      }

  step_kept : (t : Told) (m : Model) (c : Call) → Kept t m → Kept (telling t c (step member m c).1) (step member m c).0
  step_kept t m (call.Load s) k =
      by_checks (λ o. Kept (telling t (call.Load s) (answer (λ _. None) o.1)) o.0) m (checks m (call.Load s)) (loaded s.now, tt) (λ f. k)
      (λ c. load_kept t m s.now (ltb-false 1024 (length s.now) c.0) (empty_is m.phase c.1.0) k)
  step_kept t m (call.Push to allowance) k =
      by_checks (λ o. Kept (telling t (call.Push to allowance) (answer Some o.1)) o.0) m (checks m (call.Push to allowance)) (let o = run member (Mark to) allowance m.machine in (pushed to o m, answer_of o)) (λ f. k)
      (λ c. push_kept t m to allowance (loaded-is m.phase c.1.0) k)
  step_kept t m (call.End allowance) k =
      by_checks (λ o. Kept (telling t (call.End allowance) (answer Some o.1)) o.0) m (checks m (call.End allowance)) (let o = run member End allowance m.machine in (ended o m, answer_of o)) (λ f. k)
      (λ c.
      let a = may_end m.phase t m c.0 c.1.0 k.at in
      let o = run member End allowance m.machine in
      end_kept t m o.after o.steps allowance o.done k a (reached_more member t.note End allowance m.machine a.reached)
      (reached_end member t.note (finds member t.note) allowance m.machine a.reached))
  step_kept t m (call.Link first last) k =
      by_checks (λ o. Kept (telling t (call.Link first last) (answer (λ _. None) o.1)) o.0) m (checks m (call.Link first last)) (with_link (run_of first last) m, tt) (λ f. k)
      (λ c. link-kept t m (run_of first last) (ended_is m.phase c.1.0) (not-false (markable (held m) (beyond 0 m.links) (run_of first last)) c.1.1.0) (leb-false most_links (length m.links) c.1.1.1.0) k)
  step_kept t m call.Resolve k =
      by_checks (λ o. Kept (telling t call.Resolve (answer (λ _. None) o.1)) o.0) m (checks m call.Resolve) (with_resolved m, tt) (λ f. k)
      (λ c. resolve-kept t m (ended_is m.phase c.1.0) k)
  step_kept t m call.Clear k = new-kept

  after_kept : (cs : List Call) (t : Told) (m : Model) → Kept t m → Kept (told t cs (answers member m cs)) (after member m cs)
  after_kept [] t m k = k
  after_kept (c ∷ cs) t m k = after_kept cs (telling t c (step member m c).1) (step member m c).0 (step_kept t m c k)

  -- ---- the claim

  pub moment : (cs : List Call) → Moment member cs (answers member new cs) (held (after member new cs))
  moment cs =
      let m = after member new cs in
      let t = told nothing cs (answers member new cs) in
      let k = after_kept cs nothing new new-kept in
      record { answered = refl; lawful = lawful-at m.phase t m k.at; fits = fits-at m.phase t m k.short k.few k.at; read = read_at m.phase t m k.at; resolved = resolved-at m.phase t m k.at }

  -- ---- readers to which calls have led

  reachable_kept : (m : Model) → Reachable member m → (t : Told) × Kept t m
  reachable_kept m r =
      let t = told nothing r.calls (answers member new r.calls) in
      (t, subst (Kept t) (sym r.led) (after_kept r.calls nothing new new-kept))

  pub reachable_true : (m : Model) → Reachable member m → AlwaysTrue member m
  reachable_true m r =
      let k = reachable_kept m r in
      kept_true k.0 m k.1

  module _ (m : Model) (r : Reachable member m) (some : is_empty m.phase ≡ false) (on : is_over m.phase ≡ false) where
    -- while a note is read, the machine is as every step keeps it
    pub reading_sound : Sound m.machine.note (settled m.machine)
    reading_sound =
        let k = reachable_kept m r in
        subst (λ s. Sound s (settled m.machine)) (sym k.1.note) (settled_sound k.0.note (reached_sound member (may_end m.phase k.0 m some on k.1.at).reached))

    -- an end that is done leaves what the rules find
    pub end_leaves : (allowance : ℕ) → (run member End allowance m.machine).done ≡ true → joined (run member End allowance m.machine).after.events ≡ ended_events member m.machine.note
    end_leaves allowance done =
        let k = reachable_kept m r in
        reached_end member k.0.note (finds member k.0.note) allowance m.machine (may_end m.phase k.0 m some on k.1.at).reached done
        ∙ ap (ended_events member) (sym k.1.note)
