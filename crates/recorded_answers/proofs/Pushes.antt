-- Pushes made in turn, from the middle of a row of them, and the reading that they are part of.
-- Assumes nothing.
use Rattle.std.proofs.Common.{◌≡◌, ℕ, ◌-◌, ◌^◌, Bool, List, [], ◌∷◌, ◌++◌, Ok, Err, Result, refl, ap, sym, ◌∙◌, append_assoc}
use Rattle.text.specs.declared.refusals.Fault.{Fault}
use Rattle.machine.specs.declared.events.Event.{Event}
use Rattle.machine.specs.declared.runs.Ran.{Ran}
use Rattle.recorded_answers.specs.declared.records.Push.{Push}
use Rattle.calls.specs.declared.links.MarkedRun.{MarkedRun}
use Rattle.calls.specs.Calls.{Model, load, end}
use Rattle.calls.specs.Steps.{held}
use Rattle.recorded_answers.specs.Replays.{in_front, pushes_made, resolving, with_resolved, closing, end_made, reading}

-- answers that are there already, before those that follow
abbrev pub behind : List Ran → Result (Model × List Ran) Fault → Result (Model × List Ran) Fault
behind rs (Ok x) = Ok (x.0, rs ++ x.1)
behind rs (Err f) = Err f

pub behind_none : (x : Result (Model × List Ran) Fault) → behind [] x ≡ x
behind_none (Ok x) = refl
behind_none (Err f) = refl

pub behind_one : (rs : List Ran) (r : Ran) (x : Result (Model × List Ran) Fault) → behind rs (in_front r x) ≡ behind (rs ++ r ∷ []) x
behind_one rs r (Ok x) = ap (λ l. Ok (x.0, l)) (sym (append_assoc rs (r ∷ []) x.1))
behind_one rs r (Err f) = refl

-- A note taken, pushes made, an end done and links resolved are a reading. The set may change on the way, and not what it means.
module _ (member pushing ending : ℕ → Bool) (same : pushing ≡ member) (still : ending ≡ pushing) where
  pub read_through : (m₀ m₁ m₂ m₃ : Model) (s : List ℕ) (ps : List Push) (ls : List MarkedRun) (rs : List Ran) (r : Ran) → (m₁, Ok tt) ≡ load m₀ s → pushes_made pushing m₁ ps ≡ Ok (m₂, rs) → (m₃, Ok r) ≡ end ending m₂ (2 ^ 64 - 1) → (runs : List Ran) (events after : List Event) → runs ≡ rs ++ r ∷ [] → events ≡ held m₃ → resolving m₃ ls ≡ Ok after → reading member ps ls (load m₀ s) ≡ Ok (record { runs = runs; events = events; resolved = after })
  read_through m₀ m₁ m₂ m₃ s ps ls rs r taken made done runs events after all ended answered =
      let made_so : pushes_made member m₁ ps ≡ Ok (m₂, rs) = ap (λ f. pushes_made f m₁ ps) (sym same) ∙ made in
      let done_so : (m₃, Ok r) ≡ end member m₂ (2 ^ 64 - 1) = done ∙ ap (λ f. end f m₂ (2 ^ 64 - 1)) (still ∙ same) in
      ap (reading member ps ls) (sym taken) ∙ ap (end_made member ls) made_so ∙ ap (closing ls rs) (sym done_so)
      ∙ ap (with_resolved (rs ++ r ∷ []) (held m₃)) answered
      ∙ (λ i. Ok (record { runs = sym all i; events = sym ended i; resolved = after }))
