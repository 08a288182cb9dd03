-- Texts in quotes, read from the middle on.
-- Assumes nothing.
use Rattle.std.proofs.Common.{◌≡◌, ℕ, List, [], ◌∷◌, ◌++◌, Ok, Err, Some, Result, refl, sym, ap, append_assoc}
use Rattle.scripts.specs.declared.errors.Expected.{Expected}
use Rattle.scripts.specs.Quotes.{in_front}

-- bytes that are read already, before those that follow
abbrev pub behind : List ℕ → Result (List ℕ) Expected → Result (List ℕ) Expected
behind read (Ok bs) = Ok (read ++ bs)
behind read (Err e) = Err e

pub behind_none : (r : Result (List ℕ) Expected) → behind [] r ≡ r
behind_none (Ok bs) = refl
behind_none (Err e) = refl

pub behind_one : (read : List ℕ) (b : ℕ) (r : Result (List ℕ) Expected) → behind read (in_front (Some b) r) ≡ behind (read ++ b ∷ []) r
behind_one read b (Ok bs) = ap (λ l. Ok l) (sym (append_assoc read (b ∷ []) bs))
behind_one read b (Err e) = refl
