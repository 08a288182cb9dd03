-- What the options ask for.
-- Assumes nothing.
use Rattle.std.specs.Prelude.{◌≡◌, ℕ, zero, suc, ◌-◌, ◌*◌, ◌/◌, ◌^◌, ◌<◌, true, false, ◌⊎◌, List, [], map, length, codes, string_bytes, slice_index_or, String}
use Rattle.std.specs.declared.alloc.Global.{Global}
use Rattle.std.specs.Simd.{first_chunks}
use Rattle.std.specs.NonZero.{non_zero_u64_get, non_zero_usize_get}
use Rattle.std.specs.Str.Parse.{digits_value, without_leading_plus, IsNumeral}
use Rattle.readings.specs.declared.plans.Plan.{Plan}

-- one push and one end, as far as 64 bits go, and no lines of calls
pub record Plain (plan : Plan) : Type 0 where
  pub piece : non_zero_usize_get plan.piece ≡ 2 ^ 64 - 1
  pub allowance : non_zero_u64_get plan.allowance ≡ 2 ^ 64 - 1
  pub silent : plan.shows_calls ≡ false

abbrev pub number_of : List ℕ → ℕ
number_of digits = digits_value 10 (without_leading_plus digits)

-- an option, and a number from 1 that 64 bits hold
abbrev pub Understood : List ℕ → List ℕ → Type 0
Understood option number =
    ((option ≡ codes "--pieces") ⊎ (option ≡ codes "--allowance"))
    × (IsNumeral 10 (without_leading_plus number) × (0 < number_of number) × (number_of number < 2 ^ 64))

-- what one option changes, with its number
abbrev pub Changed : List ℕ → List ℕ → Plan → Plan → Type 0
Changed option number before after =
    (after.shows_calls ≡ true)
    × (((option ≡ codes "--pieces") × (non_zero_usize_get after.piece ≡ number_of number) × (after.allowance ≡ before.allowance))
    ⊎ ((option ≡ codes "--allowance") × (non_zero_u64_get after.allowance ≡ number_of number) × (after.piece ≡ before.piece)))

-- word j of option k: the option itself, and its number
abbrev pub word : List (String Global) → ℕ → ℕ → List ℕ
word words k j = slice_index_or (map string_bytes (slice_index_or (first_chunks 2 (length words / 2) words) k [])) j []

-- the plan that the first k options ask for, each of which changes what those before it left
abbrev pub AskedFor : List (String Global) → ℕ → Plan → Type 0
AskedFor words zero plan = Plain plan
AskedFor words (suc k) plan = (before : Plan) × AskedFor words k before × Changed (word words k 0) (word words k 1) before plan

-- by all words, an option and its number each
pub record Asked (words : List (String Global)) (plan : Plan) : Type 0 where
  pub options : ℕ
  pub all : length words ≡ 2 * options
  pub asked : AskedFor words options plan

-- each word has its pair, and each pair is understood
pub record AllUnderstood (words : List (String Global)) : Type 0 where
  pub paired : length words ≡ 2 * (length words / 2)
  pub each : (k : ℕ) → k < length words / 2 → Understood (word words k 0) (word words k 1)
