-- Which characters the supplied punctuation sets have, by membership.
-- Assumes nothing.
use Rattle.std.specs.Prelude.{◌≡◌, ℕ, ◌≤◌, Bool, true, false, ◌||◌}
use Rattle.std.proofs.Math.Utf8.{scalar}

-- every member is a scalar value, and none is below 128
abbrev pub AreHighScalars : (ℕ → Bool) → Type 0
AreHighScalars member = (c : ℕ) → member c ≡ true → (128 ≤ c) × (scalar c ≡ true)

abbrev pub nothing : ℕ → Bool
nothing c = false

abbrev pub either : (ℕ → Bool) → (ℕ → Bool) → ℕ → Bool
either p q c = p c || q c
