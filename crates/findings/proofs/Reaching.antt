-- A machine comes, in some number of steps, to one with a property: the rules by which such runs are put together.
-- A step is one state call and the settling of what it answers; for the steps of a run see proofs/EverySplit.
-- Assumes nothing.
use Rattle.std.proofs.Common.{◌≡◌, ℕ, zero, suc, ◌+◌, Bool, true, false, cond, List, get_or, Option, sym, ◌∙◌, subst}
use Rattle.std.proofs.lemmas.Bool.{cond_both}
use Rattle.machine.specs.declared.attempts.Attempt.{Attempt}
use Rattle.machine.specs.declared.cursors.Cursor.{Cursor}
use Rattle.machine.specs.declared.cursors.Registers.{Registers}
use Rattle.machine.specs.declared.events.Event.{Event}
use Rattle.machine.specs.declared.events.Name.{Name}
use Rattle.machine.specs.declared.states.State.TheVariants.{Next, Retry}
use Rattle.machine.specs.declared.states.StateName.{StateName}
use Rattle.machine.specs.Cursors.{consumed_at}
use Rattle.machine.specs.Moves.{Machine, made_of, settled}
use Rattle.machine.specs.States.{on}
use Rattle.machine.specs.Invariant.{Plain, byte_shown, cursor_at, ready}
use Rattle.machine.proofs.Walk.{shown_test, eaten, ready_at}
use Rattle.machine.proofs.Keeps.{after, step}

abbrev pub after-steps : (ℕ → Bool) → ℕ → Machine → Machine
after-steps mem zero m = m
after-steps mem (suc n) m = after-steps mem n (step mem m)

pub record Reach (mem : ℕ → Bool) (m : Machine) (Goal : Machine → Type 0) : Type 0 where
  pub steps : ℕ
  pub is : Goal (after-steps mem steps m)

module _ {mem : ℕ → Bool} {s : List ℕ} {Goal : Machine → Type 0} {n : StateName} {r : Registers} {us : List Attempt} {es : List Event} {ns : List Name} where
  -- the state looks at the same byte again
  pub go_retry : {c : Cursor} → Reach mem (after mem s n c r us es ns) Goal → Reach mem (made_of s (Retry n) c r us es ns) Goal
  go_retry h = record { steps = suc h.steps; is = h.is }

  -- the state is shown what is at the point
  pub go_next : (c d : Cursor) → ready s c ≡ d → Reach mem (after mem s n d r us es ns) Goal → Reach mem (made_of s (Next n) c r us es ns) Goal
  go_next c d e h =
      let h' = subst (λ (x : Cursor). Reach mem (after mem s n x r us es ns) Goal) (sym e) h in
      record { steps = suc h'.steps; is = h'.is }

  -- a plain byte is consumed, and the state is shown the next
  pub go_on : (i : ℕ) (v : Option ℕ) → Plain s i → Reach mem (after mem s n (cursor_at s (i + 1) (byte_shown s i)) r us es ns) Goal → Reach mem (made_of s (Next n) (consumed_at s (cursor_at s i v)) r us es ns) Goal
  go_on i v f h = go_next (consumed_at s (cursor_at s i v)) (cursor_at s (i + 1) (byte_shown s i)) (eaten s i f v) h

  -- the state is shown the same place once more
  pub go_back : (i : ℕ) (v : Option ℕ) → Reach mem (after mem s n (cursor_at s i v) r us es ns) Goal → Reach mem (made_of s (Next n) (cursor_at s i v) r us es ns) Goal
  go_back i v h = go_next (cursor_at s i v) (cursor_at s i v) (ready_at s i v) h

module _ {mem : ℕ → Bool} {Goal : Machine → Type 0} where
  pub there : {m : Machine} → Goal m → Reach mem m Goal
  there h = record { steps = 0; is = h }

  -- a state that does x or y by a test
  pub by_bool : (b : Bool) (x y : Machine) → (b ≡ true → Reach mem (settled x) Goal) → (b ≡ false → Reach mem (settled y) Goal) → Reach mem (settled (cond b x y)) Goal
  by_bool b x y p q = cond_both b x y (λ m. Reach mem (settled m) Goal) p q

  -- the same by a test of the byte that it is shown
  pub by_byte : (s : List ℕ) (p : ℕ → Bool) → p 0 ≡ false → p 10 ≡ false → p 13 ≡ false → (i : ℕ) (x y : Machine) → (p (get_or s i 0) ≡ true → Reach mem (settled x) Goal) → (p (get_or s i 0) ≡ false → Reach mem (settled y) Goal) → Reach mem (settled (cond (on p (byte_shown s i)) x y)) Goal
  by_byte s p z l c i x y f g = by_bool (on p (byte_shown s i)) x y (λ h. f (sym (shown_test s i p z l c) ∙ h)) (λ h. g (sym (shown_test s i p z l c) ∙ h))
