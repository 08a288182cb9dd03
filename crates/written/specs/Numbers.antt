-- Numbers in groups of seven bits, the low group first: a byte each, with the high bit set on all but the last.
-- Assumes nothing.
use Rattle.std.specs.Prelude.{◌≡◌, ℕ, zero, suc, ◌+◌, ◌-◌, ◌*◌, ◌/◌, ◌%◌, ◌^◌, ◌<◌, ◌≤◌, cond, List, [], ◌∷◌, ◌++◌, length, Some, None, Option, nat_lt}
use Rattle.std.specs.Option.{option_and_then}
use Rattle.std.specs.List.{AllByRecursion}

-- at most k groups with a high bit, then the last
abbrev pub groups : ℕ → ℕ → List ℕ
groups zero n = n ∷ []
groups (suc k) n = cond (nat_lt n 128) (n ∷ []) ((n % 128 + 128) ∷ groups k (n / 128))

-- ten groups hold 64 bits
unfoldable pub number : ℕ → List ℕ
number n = groups 9 n

-- the number at the front, and what follows it
abbrev pub read_number : List ℕ → Option (ℕ × List ℕ)
read_number [] = None
read_number (b ∷ bs) = cond (nat_lt b 128) (Some (b, bs)) (option_and_then (λ r. Some (b - 128 + 128 * r.0, r.1)) (read_number bs))

-- of every number of 64 bits: its bytes read back as it, and no fewer bytes do
pub record NumbersAreShortest : Type 0 where
  pub read_back : (n : ℕ) (more : List ℕ) → n < 2 ^ 64 → read_number (number n ++ more) ≡ Some (n, more)
  pub shortest : (n : ℕ) (bytes : List ℕ) → AllByRecursion (λ b. b < 256) bytes → read_number bytes ≡ Some (n, []) → length (number n) ≤ length bytes
