-- One turn of a run, and its end: how a loop over state calls adds up to the run that is defined.
-- Assumes nothing.
use Rattle.std.proofs.Common.{◌≡◌, ℕ, zero, suc, ◌+◌, Bool, true, Some, None, Option, sym, ap, ◌∙◌, subst, add-zero, add_assoc}
use Rattle.machine.specs.declared.cursors.Until.{Until}
use Rattle.machine.specs.declared.states.StateName.{StateName}
use Rattle.machine.specs.Moves.{Machine}
use Rattle.machine.specs.Runs.{Outcome, stopped, plus, choose, none_due, prepared, due, shown, run}
use Rattle.machine.specs.States.{call}

abbrev outcome : Machine → ℕ → Bool → Outcome
outcome m steps done = record { after = m; steps = steps; done = done }

module _ (member : ℕ → Bool) (until : Until) where
  -- no state call is due: whatever the allowance, none is made
  still : (m : Machine) (k : ℕ) → due until (prepared until m) ≡ None → run member until k m ≡ stopped (prepared until m) true
  still m zero d = ap (λ (o : Option StateName). stopped (prepared until m) (none_due o)) d
  still m (suc k) d =
      ap (λ (o : Option StateName). choose o (stopped (prepared until m) true) (λ n. plus 1 (run member until k (call member n (shown (prepared until m)))))) d

  -- the loop stops with p, done after so many steps
  pub stops : (m p : Machine) (k steps : ℕ) → p ≡ prepared until m → due until p ≡ None → outcome p steps true ≡ plus steps (run member until k m)
  stops m p k steps e d =
      ap (λ (q : Machine). outcome q steps true) e
      ∙ ap (λ (n : ℕ). outcome (prepared until m) n true) (sym (add-zero steps))
      ∙ ap (plus steps) (sym (still m k (subst (λ (q : Machine). due until q ≡ None) e d)))

  -- the allowance is made and a state call is due
  pub pauses : (m p : Machine) (n : StateName) (steps : ℕ) → p ≡ prepared until m → due until p ≡ Some n → outcome p steps (none_due (due until p)) ≡ plus steps (run member until 0 m)
  pauses m p n steps e d =
      ap (λ (q : Machine). outcome q steps (none_due (due until q))) e
      ∙ ap (λ (k : ℕ). outcome (prepared until m) k (none_due (due until (prepared until m)))) (sym (add-zero steps))

  goes_on : (m : Machine) (n : StateName) (k : ℕ) → due until (prepared until m) ≡ Some n → run member until (suc k) m ≡ plus 1 (run member until k (call member n (shown (prepared until m))))
  goes_on m n k d =
      ap (λ (o : Option StateName). choose o (stopped (prepared until m) true) (λ n. plus 1 (run member until k (call member n (shown (prepared until m)))))) d

  -- one state call, from m over p and q to r
  pub turns :
      (m p q r : Machine) (n : StateName) (k j steps : ℕ) (mine : ℕ → Bool) → p ≡ prepared until m → due until p ≡ Some n → q ≡ shown p → r ≡ call mine n q → mine ≡ member → j ≡ suc k →
      plus (steps + 1) (run member until k r) ≡ plus steps (run member until j m)
  turns m p q r n k j steps mine e d f g same i =
      let after = call member n (shown (prepared until m)) in
      let last : r ≡ after = g ∙ ap (λ (t : ℕ → Bool). call t n q) same ∙ ap (call member n) (f ∙ ap shown e) in
      let o = run member until k after in
      ap (λ (x : Machine). plus (steps + 1) (run member until k x)) last
      ∙ ap (λ (x : ℕ). outcome o.after x o.done) (add_assoc steps 1 o.steps)
      ∙ ap (plus steps) (sym (goes_on m n k (subst (λ (x : Machine). due until x ≡ Some n) e d)) ∙ ap (λ (x : ℕ). run member until x m) (sym i))
