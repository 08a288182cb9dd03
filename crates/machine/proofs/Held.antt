-- The invariant as a ghost field holds it: that there is a proof of it. What follows from it, fact by fact.
-- Assumes nothing.
use Rattle.std.proofs.Common.{◌≡◌, ℕ, ◌+◌, ◌*◌, ◌<◌, ◌≤◌, Bool, true, false, not, ltb, List, [], ◌∷◌, length, Some, None, Option, sym, refl, subst}
use mathlib.Core.Logic.{∥∥₁_elim, ∥∥₁_map}
use mathlib.Core.Bool.{Bool-set}
use native.Mathlib.Bridge.{le_prop}
use native.Mathlib.Nat.{ℕ_set}
use Rattle.machine.specs.declared.cursors.Until.{Until}
use Rattle.machine.specs.declared.states.StateName.{StateName}
use Rattle.machine.specs.declared.states.StateName.TheVariants.{Before}
use Rattle.machine.specs.Moves.{Machine, settled}
use Rattle.machine.specs.States.{at_end, call}
use Rattle.machine.specs.Runs.{beginning, prepared, due, shown, run}
use Rattle.std.proofs.lemmas.Bool.{and_from, le-leb}
use Rattle.text.specs.declared.places.Point.{Point}
use Rattle.machine.specs.declared.attempts.Attempt.{Attempt}
use Rattle.machine.specs.declared.attempts.Progress.{Progress}
use Rattle.machine.specs.Laws.{in_text_order, PointBounded, CapturedBounded, AttemptsBounded, point_within, captured_within, attempts_within}
use Rattle.machine.specs.Invariant.{Sound, Called, depth, opens}
use Rattle.machine.proofs.Keeps.{sound_beginning}
use Rattle.machine.proofs.Facts.{sound_lawful}
use Rattle.machine.proofs.Turns.{sound_passed, due-called, called-kept, called-ready, settled_sound, run_sound}

-- ---- how it is handed on, turn by turn

pub held-beginning : (s : List ℕ) → ∥ Sound s (settled (beginning s)) ∥₁
held-beginning s = ∣ sound_beginning s ∣₁

module _ {s : List ℕ} (m : Machine) (h : ∥ Sound s (settled m) ∥₁) where
  pub held-prepared : (until : Until) → ∥ Sound s (prepared until m) ∥₁
  held-prepared until = ∥∥₁_map h (λ x. sound_passed s until x)

  -- prepared, and nothing called
  pub held_still : (until : Until) → ∥ Sound s (settled (prepared until m)) ∥₁
  held_still until = ∥∥₁_map h (λ x. settled_sound s (sound_passed s until x))

  -- the state that is due
  pub held-called : (until : Until) (n : StateName) → due until (prepared until m) ≡ Some n → ∥ Called s n (shown (prepared until m)) ∥₁
  held-called until n e = ∥∥₁_map h (λ x. due-called s until x n e)

  -- a whole turn
  pub held_turn : (mem : ℕ → Bool) (until : Until) (n : StateName) → due until (prepared until m) ≡ Some n → ∥ Sound s (settled (call mem n (shown (prepared until m)))) ∥₁
  held_turn mem until n e = ∥∥₁_map h (λ x. called-kept s mem n (due-called s until x n e))

  -- a whole turn, to a machine that is told to be the next
  pub held_next : (next : Machine) (mem : ℕ → Bool) (until : Until) (n : StateName) → due until (prepared until m) ≡ Some n → next ≡ call mem n (shown (prepared until m)) → ∥ Sound s (settled next) ∥₁
  held_next next mem until n e q = ∥∥₁_map h (λ x. subst (λ (y : Machine). Sound s (settled y)) (sym q) (called-kept s mem n (due-called s until x n e)))

  -- a whole run
  pub held-run : (mem : ℕ → Bool) (until : Until) (k : ℕ) → ∥ Sound s (settled (run mem until k m).after) ∥₁
  held-run mem until k = ∥∥₁_map h (λ x. settled_sound s (run_sound s mem until k m x))

pub held-settled : {s : List ℕ} {m : Machine} → ∥ Sound s m ∥₁ → ∥ Sound s (settled m) ∥₁
held-settled {s} h = ∥∥₁_map h (λ x. settled_sound s x)

-- a machine that is settled, as the reader holds it between calls
pub held-at-rest : {s : List ℕ} (m : Machine) → settled m ≡ m → ∥ Sound s (settled m) ∥₁ → ∥ Sound s m ∥₁
held-at-rest {s} m e h = ∥∥₁_map h (λ x. subst (Sound s) e x)

pub held-call : {s : List ℕ} {n : StateName} {m : Machine} (mem : ℕ → Bool) → ∥ Called s n m ∥₁ → ∥ Sound s (settled (call mem n m)) ∥₁
held-call {s} {n} mem h = ∥∥₁_map h (λ x. called-kept s mem n x)

-- ---- bounds as tests

bounded_within : (s : List ℕ) (p : Point) → PointBounded s p → point_within (length s) p ≡ true
bounded_within s p b =
    and_from _ _ (le-leb _ _ b.index) (and_from _ _ (le-leb _ _ b.line) (and_from _ _ (le-leb _ _ b.column) (le-leb _ _ b.vs)))

progress_within : (s : List ℕ) (k : ℕ) (o : Option Progress) → CapturedBounded s k o → captured_within (length s) o ≡ true
progress_within s k None b = refl
progress_within s k (Some p) b = bounded_within s p.cursor.point b.0

stack-within : (s : List ℕ) (k : ℕ) (us : List Attempt) → AttemptsBounded s k us → attempts_within (length s) us ≡ true
stack-within s k [] b = refl
stack-within s k (a ∷ us) b = and_from _ _ (progress_within s k a.progress b.0) (stack-within s k us b.1)

-- ---- what a settled machine has

module _ {s : List ℕ} {m : Machine} (h : ∥ Sound s m ∥₁) where
  pub held-attempts : length m.attempts ≤ 3
  held-attempts = ∥∥₁_elim h le_prop (λ x. (sound_lawful x).attempts)

  pub held-names : length m.names ≤ 1
  held-names = ∥∥₁_elim h le_prop (λ x. (sound_lawful x).names)

  pub held-events : length m.events ≤ 2 * length s
  held-events = ∥∥₁_elim h le_prop (λ x. (sound_lawful x).events)

  pub held-index : m.cursor.point.index ≤ length s
  held-index = ∥∥₁_elim h le_prop (λ x. (sound_lawful x).point.index)

  pub held-line : m.cursor.point.line ≤ length s + 1
  held-line = ∥∥₁_elim h le_prop (λ x. (sound_lawful x).point.line)

  pub held-column : m.cursor.point.column ≤ 4 * length s + 1
  held-column = ∥∥₁_elim h le_prop (λ x. (sound_lawful x).point.column)

  pub held-point_within : point_within (length s) m.cursor.point ≡ true
  held-point_within = ∥∥₁_elim h (Bool-set (point_within (length s) m.cursor.point) true) (λ x. bounded_within s m.cursor.point (sound_lawful x).point)

  pub held-attempts_within : attempts_within (length s) m.attempts ≡ true
  held-attempts_within = ∥∥₁_elim h (Bool-set (attempts_within (length s) m.attempts) true) (λ x. stack-within s (length m.events) m.attempts (sound_lawful x).captured)

  pub held-ordered : in_text_order s 0 m.events ≡ true
  held-ordered = ∥∥₁_elim h (Bool-set (in_text_order s 0 m.events) true) (λ x. (sound_lawful x).ordered)

-- ---- what a state that is called may count on

module _ {s : List ℕ} {n : StateName} {m : Machine} (h : ∥ Called s n m ∥₁) where
  pub called-depth : length m.attempts ≡ depth n
  called-depth = ∥∥₁_elim h (ℕ_set _ _) (λ x. (called-ready s n x).stack)

  pub called-names : length m.names ≡ opens n
  called-names = ∥∥₁_elim h (ℕ_set _ _) (λ x. (called-ready s n x).names)

  pub called-room : (n ≡ Before → at_end m.cursor.current ≡ false) → length m.events < 2 * length s
  called-room k = ∥∥₁_elim h le_prop (λ x. (called-ready s n x).room k)

  pub called-size : m.registers.size ≤ length s + 4
  called-size = ∥∥₁_elim h le_prop (λ x. (called-ready s n x).registers.size)

  pub called-size_b : m.registers.size_b ≤ length s
  called-size_b = ∥∥₁_elim h le_prop (λ x. (called-ready s n x).registers.size_b)

  pub called-started : m.registers.start ≤ m.cursor.point.index
  called-started = ∥∥₁_elim h le_prop (λ x. (called-ready s n x).started)

  pub called-index : m.cursor.point.index ≤ length s
  called-index = ∥∥₁_elim h le_prop (λ x. (called-ready s n x).point.index)

  pub called-line : m.cursor.point.line ≤ length s + 1
  called-line = ∥∥₁_elim h le_prop (λ x. (called-ready s n x).point.line)

  pub called-column : m.cursor.point.column ≤ 4 * length s + 1
  called-column = ∥∥₁_elim h le_prop (λ x. (called-ready s n x).point.column)

  pub called-vs : m.cursor.point.vs ≤ 3
  called-vs = ∥∥₁_elim h le_prop (λ x. (called-ready s n x).point.vs)

  -- the end is shown exactly at the end
  pub called-shown : at_end m.cursor.current ≡ not (ltb m.cursor.point.index (length s))
  called-shown = ∥∥₁_elim h (Bool-set _ _) (λ x. (called-ready s n x).shown)

  pub called-point_within : point_within (length s) m.cursor.point ≡ true
  called-point_within = ∥∥₁_elim h (Bool-set (point_within (length s) m.cursor.point) true) (λ x. bounded_within s m.cursor.point (called-ready s n x).point)

  pub called-attempts_within : attempts_within (length s) m.attempts ≡ true
  called-attempts_within = ∥∥₁_elim h (Bool-set (attempts_within (length s) m.attempts) true) (λ x. stack-within s (length m.events) m.attempts (called-ready s n x).captured)
