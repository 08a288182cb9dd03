-- A state that is called has the room and the numbers that it counts on.
-- Assumes nothing.
use Rattle.std.proofs.Common.{◌≡◌, ℕ, ◌<◌, ◌≤◌, Bool, false, not, ltb, List, length, Some, sym, ap, ◌∙◌, subst, arith}
use mathlib.Core.Logic.{∥∥₁_elim}
use native.Mathlib.Nat.{ℕ_set}
use Rattle.std.proofs.lemmas.Bool.{ltb-true, not-false}
use Rattle.machine.specs.declared.cursors.Until.{Until}
use Rattle.machine.specs.declared.states.StateName.{StateName}
use Rattle.machine.specs.Moves.{Machine, settled}
use Rattle.machine.specs.Runs.{prepared, due, shown}
use Rattle.machine.specs.States.{at_end, call}
use Rattle.machine.specs.Invariant.{Sound, Called}
use Rattle.machine.proofs.Facts.{sound_lawful}
use Rattle.machine.proofs.Held.{held-prepared, held-called, held_next, held-attempts, held-names, held-events, called-size, called-size_b, called-started, called-index, called-line, called-column, called-vs, called-shown}
use Rattle.tokenizer.specs.Bounds.{Within, Callable}

module _ {s : List ℕ} (m : Machine) (h : ∥ Sound s m ∥₁) where
  -- the note is the one that is read
  pub held-length : length m.note ≡ length s
  held-length = ∥∥₁_elim h (ℕ_set _ _) (λ x. ap length (sound_lawful x).note)

  -- the byte at the point is a byte of the note where the end is not shown
  inside : (i n k : ℕ) (e : Bool) → n ≡ k → e ≡ not (ltb i k) → e ≡ false → i < n
  inside i n k e q p f = omega (arith, ltb-true i k (not-false (ltb i k) (sym p ∙ f)), q)

  module _ (n : StateName) (c : ∥ Called s n (shown m) ∥₁) (short : length s ≤ 1024) where
    pub within : Within (length m.note) (shown m).cursor
    within =
        record {
          line = omega (arith, called-line c, short);
          column = omega (arith, called-column c, short);
          vs = called-vs c;
          index = omega (arith, called-index c, short);
          end = omega (arith, called-index c, held-length);
          inside = inside (shown m).cursor.point.index (length m.note) (length s) (at_end (shown m).cursor.current) held-length (called-shown c);
        }

    pub callable : Callable (shown m)
    callable =
        record {
          attempts = held-attempts h;
          names = held-names h;
          events = omega (arith, held-events h, short);
          size = omega (arith, called-size c, short);
          size_b = omega (arith, called-size_b c, short);
          started = called-started c;
          within = within;
        }

-- ---- in a turn, from m over p (prepared) and q (shown) to r (called)

module _ (s : List ℕ) (until : Until) (m p q : Machine) (n : StateName) (e : p ≡ prepared until m) (d : due until p ≡ Some n) (f : q ≡ shown p) where
  is-due : due until (prepared until m) ≡ Some n
  is-due = subst (λ (x : Machine). due until x ≡ Some n) e d

  shows : q ≡ shown (prepared until m)
  shows = f ∙ ap shown e

  pub turn_callable : length s ≤ 1024 → ∥ Sound s (settled m) ∥₁ → Callable q
  turn_callable short h =
      subst Callable (sym shows) (callable (prepared until m) (held-prepared m h until) n (held-called m h until n is-due) short)

  pub turn_sound : (r : Machine) (member : ℕ → Bool) → r ≡ call member n q → ∥ Sound s (settled m) ∥₁ → ∥ Sound s (settled r) ∥₁
  turn_sound r member g h = held_next m h r member until n is-due (g ∙ ap (call member n) shows)
