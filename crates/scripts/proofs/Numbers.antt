-- Digits.
-- Assumes nothing.
use Rattle.std.proofs.Common.{◌≡◌, ℕ, List, [], ◌∷◌, None, refl}
use Rattle.scripts.specs.Words.{number_from}

-- what is no number stays none
pub none_stays : (ds : List ℕ) → number_from None ds ≡ None
none_stays [] = refl
none_stays (d ∷ ds) = none_stays ds
