-- When the end of a note has been read, each enter of the table is followed by its exit.
-- Assumes nothing.
use Rattle.std.proofs.Common.{◌≡◌, ℕ, zero, suc, Bool, true, not, ◌&&◌, List, [], ◌∷◌, ◌++◌, sym, refl, ap, subst, arith}
use mathlib.Core.Logic.{∥∥₁_elim}
use mathlib.Core.Bool.{Bool-set}
use Rattle.std.proofs.lemmas.Bool.{and_from, and_parts, eq-eqb, true≢false}
use Rattle.machine.specs.declared.cursors.Until.{Until}
use Rattle.machine.specs.declared.cursors.Until.TheVariants.{End}
use Rattle.machine.specs.declared.events.Event.{Event}
use Rattle.machine.specs.declared.events.EventKind.TheVariants.{Enter, Exit}
use Rattle.machine.specs.declared.states.State.TheVariants.{Ok}
use Rattle.machine.specs.Laws.{event_at, enters, same_name, name_number}
use Rattle.machine.specs.Moves.{Machine, settled}
use Rattle.machine.specs.States.{call}
use Rattle.machine.specs.Runs.{prepared, due, shown, Outcome, stopped, none_due, run}
use Rattle.machine.specs.Invariant.{Closed, none, more, Sound, next, retry, over}
use Rattle.machine.proofs.Turns.{choose_both, run_sound}
use Rattle.tokenizer.specs.Joining.{paired}

-- ---- one more pair

abbrev Pair : Event → Event → Type 0
Pair a b = (enters a.kind && not (enters b.kind) ≡ true) × (same_name a.name b.name ≡ true)

paired-more : (es : List Event) (a b : Event) → paired es ≡ true → Pair a b → paired ((es ++ a ∷ []) ++ b ∷ []) ≡ true
paired-more [] a b p q = and_from (enters a.kind && not (enters b.kind)) (same_name a.name b.name && true) q.0 (and_from (same_name a.name b.name) true q.1 refl)
paired-more (x ∷ []) a b p q = absurd (true≢false (sym p))
paired-more (x ∷ y ∷ es) a b p q =
    let T = enters x.kind && not (enters y.kind) in
    let N = same_name x.name y.name in
    let outer = and_parts T (N && paired es) p in
    let inner = and_parts N (paired es) outer.1 in
    and_from T (N && paired ((es ++ a ∷ []) ++ b ∷ [])) outer.0 (and_from N (paired ((es ++ a ∷ []) ++ b ∷ [])) inner.0 (paired-more es a b inner.1 q))

module _ {s : List ℕ} where
  closed-paired : {i : ℕ} {es : List Event} → Closed s i es → paired es ≡ true
  closed-paired none = refl
  closed-paired (more {i} {j} {es} {a} {b} n c at_a at_b l) =
      let x = event_at s Enter n i in
      let y = event_at s Exit n j in
      let one : Pair x y = (refl, eq-eqb (name_number n) (name_number n) refl) in
      paired-more es a b (closed-paired c) (subst (λ (e : Event). Pair e b) (sym at_a) (subst (λ (e : Event). Pair x e) (sym at_b) one))

  -- ---- a machine that is over

  over-paired : {m : Machine} → Sound s m → m.state ≡ Ok → paired m.events ≡ true
  over-paired (next f) e = let no : ◌≡◌ {A = ℕ} 0 1 = cc in absurd (omega arith)
  over-paired (retry f) e = let no : ◌≡◌ {A = ℕ} 0 1 = cc in absurd (omega arith)
  over-paired (over p c) e = closed-paired c

  -- no state is due at the end: then all is over
  end-paired : {m : Machine} → Sound s m → none_due (due End m) ≡ true → paired m.events ≡ true
  end-paired (next f) e = absurd (true≢false (sym e))
  end-paired (retry f) e = absurd (true≢false (sym e))
  end-paired (over p c) e = closed-paired c

-- a run is done where no state is due
done_none : (member : ℕ → Bool) (until : Until) (k : ℕ) (m : Machine) → (run member until k m).done ≡ true → none_due (due until (run member until k m).after) ≡ true
done_none member until zero m e = e
done_none member until (suc k) m e =
    choose_both (due until (prepared until m)) (λ (o : Outcome). o.done ≡ true → none_due (due until o.after) ≡ true) (stopped (prepared until m) true) _
    (λ q _. ap none_due q)
    (λ n _. done_none member until k (call member n (shown (prepared until m))))
    e

-- ---- as it is held

pub held-paired : {s : List ℕ} (m : Machine) → ∥ Sound s m ∥₁ → m.state ≡ Ok → paired m.events ≡ true
held-paired m h e = ∥∥₁_elim h (Bool-set (paired m.events) true) (λ x. over-paired x e)

pub done-paired : {s : List ℕ} (member : ℕ → Bool) (k : ℕ) (m : Machine) → ∥ Sound s (settled m) ∥₁ → (run member End k m).done ≡ true → paired (run member End k m).after.events ≡ true
done-paired {s} member k m h e =
    ∥∥₁_elim h (Bool-set (paired (run member End k m).after.events) true)
    (λ x. end-paired (run_sound s member End k m x) (done_none member End k m e))
