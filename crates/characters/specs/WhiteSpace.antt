-- Which characters are white space.
-- Assumes nothing.
use Rattle.std.specs.Prelude.{ℕ, Bool, List, [], ◌∷◌}
use Rattle.std.specs.List.{list_any}
use Rattle.text.specs.Bytes.{within}

-- c is in one of these ranges, each from its first to its last value
abbrev pub in_ranges : List (ℕ × ℕ) → ℕ → Bool
in_ranges rs c = list_any (λ r. within r.0 r.1 c) rs

-- Unicode's White_Space
abbrev pub white_space_ranges : List (ℕ × ℕ)
white_space_ranges =
    (0x0009, 0x000D) ∷
    (0x0020, 0x0020) ∷
    (0x0085, 0x0085) ∷
    (0x00A0, 0x00A0) ∷
    (0x1680, 0x1680) ∷
    (0x2000, 0x200A) ∷
    (0x2028, 0x2029) ∷
    (0x202F, 0x202F) ∷
    (0x205F, 0x205F) ∷
    (0x3000, 0x3000) ∷
    []

abbrev pub white_space : ℕ → Bool
white_space c = in_ranges white_space_ranges c
