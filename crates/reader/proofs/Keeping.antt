-- Each call leads from a reader to which calls have led to another such reader.
-- Assumes nothing.
use Rattle.std.proofs.Common.{◌≡◌, ℕ, ◌<◌, ◌≤◌, Bool, true, false, cond, not, ◌||◌, ltb, Bor, List, [], ◌∷◌, ◌++◌, length, Ok, Err, Result, is_ok, refl, sym, ap, ◌∙◌, subst, arith}
use Rattle.std.proofs.lemmas.Bool.{ne_eqb, le-ltb, lt-leb, true≢false}
use mathlib.Core.Logic.{∥∥₁_map, ∥∥₁_elim}
use Rattle.std.proofs.Math.Nat.{ℕ_set}
use Rattle.std.proofs.Math.Bool.{Bool-set}
use mathlib.Core.List.{is_set as List-set}
use mathlib.Core.Sum.{⊎_set}
use Rattle.text.specs.Notes.{too_long, checked_length}
use Rattle.text.specs.declared.refusals.Fault.{Fault}
use Rattle.text.specs.declared.refusals.Fault.TheVariants.{NoteTooLong}
use Rattle.findings.proofs.FindsLinks.{finds_links}
use Rattle.calls.specs.declared.links.MarkedRun.{MarkedRun}
use Rattle.calls.specs.declared.phases.Phase.{Phase}
use Rattle.calls.specs.declared.phases.Phase.TheVariants.{Empty, Loaded, Ending, Ended, Resolved}
use Rattle.calls.specs.declared.scripts.Call.TheVariants as call
use Rattle.calls.specs.Calls.{Model, model, is_empty, is_loaded, is_over, pushed, ended, unread}
use Rattle.calls.specs.Moments.{Reachable, AlwaysTrue}
use Rattle.calls.proofs.Checks.{Passed, checks}
use Rattle.calls.proofs.EveryMoment.{reachable_true, reading_sound, end_leaves}
use Rattle.calls.proofs.Reaching.{reachable_loaded, reachable_pushed, reachable_ended, reachable_linked, reachable_resolved}
use Rattle.calls.specs.Links.{beyond, markable, marked_in_turn, ended_events, resolved}
use Rattle.calls.specs.Steps.{held, is_ended}
use Rattle.machine.specs.declared.events.Event.{Event}
use Rattle.machine.specs.declared.cursors.Until.TheVariants.{Mark, End}
use Rattle.machine.specs.Invariant.{Sound}
use Rattle.machine.specs.Joins.{joined}
use Rattle.machine.specs.Moves.{Machine, settled, with_tables}
use Rattle.machine.specs.Runs.{beginning, run, Outcome}
use Rattle.resolving.specs.Ended.{Resolvable}
use Rattle.tokenizer.specs.Joining.{paired}
use Rattle.tokenizer.proofs.Pairs.{done-paired}

pub loaded_not-over : (p : Phase) → is_loaded p ≡ true → is_over p ≡ false
loaded_not-over Empty e = refl
loaded_not-over Loaded e = refl
loaded_not-over Ending e = refl
loaded_not-over Ended e = absurd (true≢false (sym e))
loaded_not-over Resolved e = absurd (true≢false (sym e))

-- a note whose length was checked
checked_short : (s : List ℕ) (n : ℕ) (b : Bool) → ◌≡◌ {A = Result ℕ Fault} (cond b (Err NoteTooLong) (Ok (length s))) (Ok n) → b ≡ false
checked_short s n true e = absurd (true≢false (sym (ap is_ok e)))
checked_short s n false e = refl

pub led_by_load : (member : ℕ → Bool) (m : Model) (bytes : Bor (List ℕ)) (n : ℕ) (k : Machine) (ls : List MarkedRun) → checked_length bytes.now ≡ Ok n → is_empty m.phase ≡ true → k ≡ beginning bytes.now → ls ≡ [] → ∥ Reachable member m ∥₁ → ∥ Reachable member (model Loaded 0 false k ls) ∥₁
led_by_load member m bytes n k ls short empty is none h =
    let passed : Passed (checks m (call.Load bytes)) = (checked_short bytes.now n (too_long bytes.now) short, (ap not empty, tt)) in
    ∥∥₁_map h (λ r. subst (λ x. Reachable member (model Loaded 0 false k x)) (sym none) (subst (λ x. Reachable member (model Loaded 0 false x [])) (sym is) (reachable_loaded member m r bytes passed)))

-- with a set that means the same
pub with_meaning : (member member' : ℕ → Bool) (m : Model) → member' ≡ member → ∥ Reachable member m ∥₁ → ∥ Reachable member' m ∥₁
with_meaning member member' m q h = subst (λ p. ∥ Reachable p m ∥₁) (sym q) h

Event-set : IsSet Event
Event-set = hlevel (ℕ_set, Bool-set, ⊎_set)

pub events-set : IsSet (List Event)
events-set = List-set Event-set

-- while a note is read
module _ (member : ℕ → Bool) (m : Model) (h : ∥ Reachable member m ∥₁) (some : is_empty m.phase ≡ false) (on : is_over m.phase ≡ false) where
  pub sound_of : ∥ Sound m.machine.note (settled m.machine) ∥₁
  sound_of = ∥∥₁_map h (λ r. reading_sound member finds_links m r some on)

  -- once the end is done, the events are enters, each with its exit behind it
  pub end-paired : (k : ℕ) → (run member End k m.machine).done ≡ true → paired (run member End k m.machine).after.events ≡ true
  end-paired k d = done-paired member k m.machine sound_of d

  pub found : (k : ℕ) → (run member End k m.machine).done ≡ true → joined (run member End k m.machine).after.events ≡ ended_events member m.machine.note
  found k d = ∥∥₁_elim h (events-set (joined (run member End k m.machine).after.events) (ended_events member m.machine.note)) (λ r. end_leaves member finds_links m r some on k d)

-- what an end leaves, by whether it is done
abbrev ended_as : Bool → Outcome → Model → Model
ended_as d o m = model (cond d Ended Ending) m.mark m.paused (with_tables (cond d (joined o.after.events) o.after.events) o.after.names o.after) m.links

-- a push, and an end, that are not refused lead on to what they are told to leave
module _ (member member' : ℕ → Bool) (m : Model) (h : ∥ Reachable member m ∥₁) (o : Outcome) (same : member' ≡ member) (some : is_empty m.phase ≡ false) where
  pub led_by_push : (to allowance : ℕ) → o ≡ run member (Mark to) allowance m.machine → is_loaded m.phase ≡ true → (allowance ≡ 0 → ⊥) → m.mark ≤ to → to ≤ length m.machine.note → ∥ Reachable member' (pushed to o m) ∥₁
  led_by_push to allowance is on allowed low high =
      let outside : (ltb to m.mark || ltb (length m.machine.note) to) ≡ false =
      ap (λ b. b || ltb (length m.machine.note) to) (le-ltb to m.mark low) ∙ le-ltb (length m.machine.note) to high in
      let passed : Passed (checks m (call.Push to allowance)) = (some, (ap not on, (ne_eqb allowance 0 allowed, (outside, tt)))) in
      with_meaning member member' (pushed to o m) same (∥∥₁_map h (λ r. subst (λ q. Reachable member (pushed to q m)) (sym is) (reachable_pushed member m r to allowance passed)))

  led_by_end : (allowance : ℕ) (d : Bool) → o.done ≡ d → o ≡ run member End allowance m.machine → is_over m.phase ≡ false → (allowance ≡ 0 → ⊥) → unread m ≡ false → ∥ Reachable member' (ended_as d o m) ∥₁
  led_by_end allowance d e is on allowed all =
      let passed : Passed (checks m (call.End allowance)) = (some, (on, (ne_eqb allowance 0 allowed, (all, tt)))) in
      with_meaning member member' (ended_as d o m) same
      (∥∥₁_map h (λ r. subst (λ b. Reachable member (ended_as b o m)) e (subst (λ q. Reachable member (ended q m)) (sym is) (reachable_ended member m r allowance passed))))

  -- a paused end goes on where it paused
  pub led_by_pause : (allowance : ℕ) → o.done ≡ false → o ≡ run member End allowance m.machine → is_over m.phase ≡ false → (allowance ≡ 0 → ⊥) → unread m ≡ false → ∥ Reachable member' (model Ending m.mark m.paused o.after m.links) ∥₁
  led_by_pause allowance e is on allowed all = led_by_end allowance false e is on allowed all

  -- once it is done, Data is joined
  pub led_by_joining : (allowance : ℕ) (k : Machine) → k ≡ with_tables (joined o.after.events) o.after.names o.after → o.done ≡ true → o ≡ run member End allowance m.machine → is_over m.phase ≡ false → (allowance ≡ 0 → ⊥) → unread m ≡ false → ∥ Reachable member' (model Ended m.mark m.paused k m.links) ∥₁
  led_by_joining allowance k j e is on allowed all = subst (λ x. ∥ Reachable member' (model Ended m.mark m.paused x m.links) ∥₁) (sym j) (led_by_end allowance true e is on allowed all)

-- what is true of every reader is true of this one
pub always : (member : ℕ → Bool) (m : Model) → ∥ Reachable member m ∥₁ → ∥ AlwaysTrue member m ∥₁
always member m h = ∥∥₁_map h (reachable_true member finds_links m)

pub led_by_link : (member : ℕ → Bool) (m : Model) (l : MarkedRun) (ls : List MarkedRun) → ls ≡ m.links ++ l ∷ [] → is_empty m.phase ≡ false → is_ended m.phase ≡ true → markable (held m) (beyond 0 m.links) l ≡ true → length m.links < 64 → ∥ Reachable member m ∥₁ → ∥ Reachable member (model m.phase m.mark m.paused m.machine ls) ∥₁
led_by_link member m l ls is some over may room h =
    let passed : Passed (checks m (call.Link l.first l.last)) = (some, (ap not over, (ap not may, (lt-leb 64 (length m.links) room, tt)))) in
    ∥∥₁_map h (λ r. subst (λ x. Reachable member (model m.phase m.mark m.paused m.machine x)) (sym is) (reachable_linked member m r l.first l.last passed))

-- an ended reader has what resolving asks for
pub resolvable : (member : ℕ → Bool) (m : Model) (s : List ℕ) (ls : List MarkedRun) → s ≡ m.machine.note → ls ≡ m.links → is_ended m.phase ≡ true → ∥ Reachable member m ∥₁ → Resolvable s ls (held m)
resolvable member m s ls note links over h =
    ∥∥₁_map (always member m h)
    (λ a.
    let ended : held m ≡ ended_events member m.machine.note = a.ended over in
    record {
      member = member;
      ended = ended ∙ ap (ended_events member) (sym note);
      short = omega (arith, ap length note, a.short);
      marked = (λ i. marked_in_turn (ended i) 0 (links i)) ∙ a.in_turn;
      few = omega (arith, ap length links, a.few);
    })

pub led_by_resolve : (member : ℕ → Bool) (m : Model) (es : List Event) → es ≡ resolved m.machine.note m.links (held m) → is_empty m.phase ≡ false → is_ended m.phase ≡ true → ∥ Reachable member m ∥₁ → ∥ Reachable member (model Resolved m.mark m.paused (with_tables es m.machine.names m.machine) m.links) ∥₁
led_by_resolve member m es is some over h =
    let passed : Passed (checks m call.Resolve) = (some, (ap not over, tt)) in
    ∥∥₁_map h (λ r. subst (λ x. Reachable member (model Resolved m.mark m.paused (with_tables x m.machine.names m.machine) m.links)) (sym is) (reachable_resolved member m r passed))
