-- Range lists: numbers first, last, first, last. Which ranges are lawful, which are taken up, and what a list is refused for.
-- Assumes nothing.
use Rattle.std.specs.Prelude.{◌≡◌, ℕ, zero, suc, ◌+◌, ◌*◌, ◌/◌, ◌%◌, ◌<◌, ◌≤◌, min, Bool, true, false, cond, not, ◌&&◌, ◌||◌, List, [], ◌∷◌, length, Ok, Err, Result, ◌==◌, nat_le, nat_lt, slice_index}
use Rattle.std.specs.List.{flat_map}
use Rattle.std.proofs.Math.Utf8.{scalar}
use Rattle.text.specs.declared.refusals.Fault.{Fault}
use Rattle.text.specs.declared.refusals.Fault.TheVariants.{BadRangeListLength, UnlawfulRange}
use Rattle.text.specs.Bytes.{within, seek}

-- ---- the ranges of a list, counted from 0

abbrev pub first_of : List ℕ → ℕ → ℕ
first_of xs k = slice_index xs (2 * k)

abbrev pub last_of : List ℕ → ℕ → ℕ
last_of xs k = slice_index xs (2 * k + 1)

-- an odd last number belongs to no range
abbrev pub range_count : List ℕ → ℕ
range_count xs = length xs / 2

-- range k begins beyond the last number of the range before it
abbrev pub beyond_the_one_before : List ℕ → ℕ → Bool
beyond_the_one_before xs zero = true
beyond_the_one_before xs (suc k) = nat_lt (last_of xs k) (first_of xs (suc k))

abbrev pub lawful : List ℕ → ℕ → Bool
lawful xs k = nat_le 128 (first_of xs k) && nat_le (first_of xs k) (last_of xs k) && nat_le (last_of xs k) 1114111 && beyond_the_one_before xs k

-- a range of numbers in order, the first beyond b
abbrev pub lawful_after : ℕ → List ℕ → Bool
lawful_after b r = nat_lt b (slice_index r 0) && nat_le (slice_index r 0) (slice_index r 1) && nat_le (slice_index r 1) 1114111

-- how many of the first n ranges come before the first unlawful one
abbrev pub lawful_front : List ℕ → ℕ → ℕ
lawful_front xs n = seek (λ k. not (lawful xs k)) n 0

-- ---- a list as a set

-- the longest lawful front of at most 512 ranges
abbrev pub taken_up : List ℕ → ℕ
taken_up xs = lawful_front xs (min (range_count xs) 512)

-- the numbers of some ranges, as a list has them
abbrev pub numbers_of : List (List ℕ) → List ℕ
numbers_of rs = flat_map (λ r. slice_index r 0 ∷ slice_index r 1 ∷ []) rs

-- c lies in one of the first n ranges
abbrev pub in_first : List ℕ → ℕ → ℕ → Bool
in_first xs zero c = false
in_first xs (suc n) c = in_first xs n c || within (first_of xs n) (last_of xs n) c

-- the scalar values in the ranges that are taken up
abbrev pub range_member : List ℕ → ℕ → Bool
range_member xs c = scalar c && in_first xs (taken_up xs) c

-- ---- a list that is checked

abbrev pub bad_length : List ℕ → Bool
bad_length xs = length xs % 2 == 1 || nat_lt 1024 (length xs)

abbrev pub ranges_check : List ℕ → Result (Unit {0}) Fault
ranges_check xs =
    let k : ℕ = lawful_front xs (range_count xs) in
    cond (nat_lt k (range_count xs)) (Err (UnlawfulRange k)) (Ok tt)

-- the length comes first
abbrev pub range_list_check : List ℕ → Result (Unit {0}) Fault
range_list_check xs = cond (bad_length xs) (Err BadRangeListLength) (ranges_check xs)

-- ---- the same in the words of the rules

-- n ranges are lawful, whole and at most 512, and no longer front is
pub record LongestLawfulFront (xs : List ℕ) (n : ℕ) : Type 0 where
  pub each_is_lawful : (k : ℕ) → k < n → lawful xs k ≡ true
  pub whole : 2 * n ≤ length xs
  pub at_most_512 : n ≤ 512
  pub next_is_not : n < 512 → 2 * n + 1 < length xs → lawful xs n ≡ false

-- a list that the check accepts is taken up to its last number
abbrev pub AcceptedIsTakenWhole : List ℕ → Result (Unit {0}) Fault → Type 0
AcceptedIsTakenWhole xs r = r ≡ Ok tt → 2 * taken_up xs ≡ length xs

-- a range that it refuses is not lawful, and those before it are
abbrev pub RefusedIsFirstUnlawful : List ℕ → Result (Unit {0}) Fault → Type 0
RefusedIsFirstUnlawful xs r = (k : ℕ) → r ≡ Err (UnlawfulRange k) → (lawful xs k ≡ false) × (2 * k + 1 < length xs) × ((j : ℕ) → j < k → lawful xs j ≡ true)

-- ---- the house set: U+2010 to U+2027 and U+2030 to U+205E

abbrev pub house : ℕ → Bool
house c = within 0x2010 0x2027 c || within 0x2030 0x205E c
