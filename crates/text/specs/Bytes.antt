-- Words on lists of bytes: which bytes, which places, which parts, and the first place with a property.
-- A place is a number of bytes from the start. `slice_index s i`, the byte at i, is 0 past the end.
-- Assumes nothing.
use Rattle.std.specs.Prelude.{ℕ, zero, suc, ◌-◌, Bool, true, false, cond, ◌&&◌, ◌||◌, List, [], ◌∷◌, length, take, drop, ◌==◌, nat_le}

-- b is one of these bytes
abbrev pub among : List ℕ → ℕ → Bool
among [] b = false
among (c ∷ cs) b = b == c || among cs b

-- b is from lo to hi
abbrev pub within : ℕ → ℕ → ℕ → Bool
within lo hi b = nat_le lo b && nat_le b hi

-- p holds of some byte
abbrev pub some : (ℕ → Bool) → List ℕ → Bool
some p [] = false
some p (b ∷ bs) = p b || some p bs

-- p holds of each byte
abbrev pub each : (ℕ → Bool) → List ℕ → Bool
each p [] = true
each p (b ∷ bs) = p b && each p bs

-- the bytes from a to b − 1
abbrev pub part : ℕ → ℕ → List ℕ → List ℕ
part a b s = take (b - a) (drop a s)

-- two lists of bytes are equal
abbrev pub same : List ℕ → List ℕ → Bool
same [] [] = true
same [] (c ∷ cs) = false
same (b ∷ bs) [] = false
same (b ∷ bs) (c ∷ cs) = b == c && same bs cs

-- the first of the n places from i on where p holds, and i + n where it holds at none
abbrev pub seek : (ℕ → Bool) → ℕ → ℕ → ℕ
seek p zero i = i
seek p (suc n) i = cond (p i) i (seek p n (suc i))

-- the first place of s from i on where p holds, and the end where there is none
abbrev pub first : (ℕ → Bool) → List ℕ → ℕ → ℕ
first p s i = seek p (length s - i) i

-- the least place from c on with only bytes of p from there to k
abbrev pub run_start : (ℕ → Bool) → List ℕ → ℕ → ℕ → ℕ
run_start p s c k = seek (λ a. each p (part a k s)) (k - c) c
