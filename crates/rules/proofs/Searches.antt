-- The first place with a property, as std's searches find it.
-- Assumes nothing.
use Rattle.std.proofs.Common.{◌≡◌, ℕ, ◌+◌, ◌-◌, ◌<◌, ◌≤◌, Bool, true, false, not, ◌||◌, List, [], ◌∷◌, length, get_or, take, drop, reverse, Some, None, Option, sym, refl, ap, ◌∙◌, arith, ◌&&◌, eqb, codes, ⊎_elim}
use Rattle.std.proofs.lemmas.List.Sums.{fails_before_first, passes_at_first, prefix_len_passes, prefix_len_stops, suffix_len-le-length}
use Rattle.std.proofs.lemmas.List.Sums.{prefix_len-le-length}
use Rattle.std.proofs.lemmas.List.{get_or-reverse, length-reverse, drop-take, drop-drop, take-take, take_all}
use Rattle.std.specs.List.{list_any, position_or_len, suffix_len}
use Rattle.std.specs.Option.{MatchOption, unwrap_or}
use Rattle.std.proofs.lemmas.Bool.{cases_lt}
use Rattle.std.proofs.lemmas.List.{get_or_past}
use Rattle.text.specs.Ascii.{letter_or_digit}
use Rattle.rules.specs.Mail.{in_domain, in_resource}
use Rattle.text.specs.Bytes.{among, some, part, first, run_start}
use Rattle.text.proofs.Firsts.{first-seek}
use Rattle.text.proofs.Runs.{part_length, part_at, run_start-is}

-- what `find` over the places from i to the end gives
pub first_found : (p : ℕ → Bool) (s : List ℕ) (i : ℕ) (o : Option ℕ) → i ≤ length s → MatchOption o ((k : ℕ) → i ≤ k → k < length s → p k ≡ false) (λ j. (i ≤ j) × (j < length s) × (p j ≡ true) × ((k : ℕ) → i ≤ k → k < j → p k ≡ false)) → unwrap_or o (length s) ≡ first p s i
first_found p s i None le h = sym (first-seek p (length s - i) i (length s) (record { low = le; high = omega arith; none = h; here = λ lt. absurd (omega arith) }))
first_found p s i (Some j) le h = sym (first-seek p (length s - i) i j (record { low = h.0; high = omega (arith, h.1); none = h.3; here = λ lt. h.2 }))

-- the length of the run up to it
pub first_run : (q : ℕ → Bool) (s : List ℕ) (i : ℕ) → i ≤ length s → first (λ j. q (get_or s j 0)) s i ≡ i + position_or_len q (part i (length s) s)
first_run q s i le =
    let t = part i (length s) s in
    let n = position_or_len q t in
    let long : length t ≡ length s - i = part_length i (length s) s (omega arith) in
    let few : n ≤ length t = prefix_len-le-length (λ b. not (q b)) t in
    first-seek (λ j. q (get_or s j 0)) (length s - i) i (i + n) (record {
      low = omega arith;
      high = omega (arith, few, long);
      none = λ j a b.
          let lt : j - i < length s - i = omega (arith, few, long) in
          let e : i + (j - i) ≡ j = omega arith in
          ap q (ap (λ k. get_or s k 0) (sym e) ∙ sym (part_at i (length s) s (j - i) lt)) ∙ fails_before_first q t (j - i) 0 (omega arith);
      here = λ lt.
          let inside : n < length s - i = omega arith in
          ap q (sym (part_at i (length s) s n inside)) ∙ passes_at_first q t 0 (omega (arith, long));
    })

-- std's word for it
pub some_is : (p : ℕ → Bool) (xs : List ℕ) → some p xs ≡ list_any p xs
some_is p [] = refl
some_is p (x ∷ xs) = ap (λ b. p x || b) (some_is p xs)

-- ---- runs at the end of bytes

-- the bytes of a part from its end backwards
backwards : (s : List ℕ) (c k i : ℕ) → k ≤ length s → i < k - c → get_or (reverse (part c k s)) i 0 ≡ get_or s (k - 1 - i) 0
backwards s c k i fits lt =
    let t = part c k s in
    let long : length t ≡ k - c = part_length c k s fits in
    let inside : i < length t = omega arith in
    let before : k - c - 1 - i < k - c = omega arith in
    let there : length t - 1 - i ≡ k - c - 1 - i = omega arith in
    let place : c + (k - c - 1 - i) ≡ k - 1 - i = omega arith in
    get_or-reverse t i 0 inside ∙ ap (λ j. get_or t j 0) there ∙ part_at c k s (k - c - 1 - i) before ∙ ap (λ j. get_or s j 0) place

-- the run before k starts as many bytes before k as std counts
pub run_back : (p : ℕ → Bool) (s : List ℕ) (c k : ℕ) → c ≤ k → k ≤ length s → run_start p s c k ≡ k - suffix_len p (part c k s)
run_back p s c k le fits =
    let t = part c k s in
    let m = suffix_len p t in
    let long : length t ≡ k - c = part_length c k s fits in
    let few : m ≤ length t = suffix_len-le-length p t in
    run_start-is p s c k (k - m) fits (omega arith) (omega arith)
    (λ j from below.
    let i : k - 1 - (k - 1 - j) ≡ j = omega arith in
    let lt : k - 1 - j < k - c = omega arith in
    ap p (ap (λ n. get_or s n 0) (sym i) ∙ sym (backwards s c k (k - 1 - j) fits lt)) ∙ prefix_len_passes p (reverse t) (k - 1 - j) 0 (omega arith))
    (λ lt.
    let inside : m < k - c = omega arith in
    let back : length (reverse t) ≡ length t = length-reverse t in
    let place : k - m - 1 ≡ k - 1 - m = omega arith in
    ap p (ap (λ n. get_or s n 0) place ∙ sym (backwards s c k m fits inside)) ∙ prefix_len_stops p (reverse t) 0 (omega arith))

-- a part of a part
pub part_part : (s : List ℕ) (c k a b : ℕ) → a ≤ b → b ≤ k - c → part a b (part c k s) ≡ part (c + a) (c + b) s
part_part s c k a b le fits =
    let n : a + (k - c - a) ≡ k - c = omega arith in
    let w : c + b - (c + a) ≡ b - a = omega arith in
    let short : b - a ≤ k - c - a = omega arith in
    ap (λ x. take (b - a) (drop a (take x (drop c s)))) (sym n)
    ∙ ap (take (b - a)) (drop-take a (k - c - a) (drop c s))
    ∙ take-take (b - a) (k - c - a) (drop a (drop c s)) short
    ∙ ap (take (b - a)) (drop-drop a c s)
    ∙ ap (λ x. take x (drop (c + a) s)) (sym w)

-- the run in a part, up to a place of it
pub run_part : (p : ℕ → Bool) (s : List ℕ) (c k e : ℕ) → c ≤ k → k ≤ length s → e ≤ k - c → c + run_start p (part c k s) 0 e ≡ run_start p s c (c + e)
run_part p s c k e le fits inside =
    let t = part c k s in
    let long : length t ≡ k - c = part_length c k s fits in
    let same : part 0 e t ≡ part (c + 0) (c + e) s = part_part s c k 0 e (omega arith) inside in
    let zero : c + 0 ≡ c = omega arith in
    let here : suffix_len p (part 0 e t) ≡ suffix_len p (part c (c + e) s) = ap (suffix_len p) same ∙ ap (λ n. suffix_len p (part n (c + e) s)) zero in
    let few : suffix_len p (part 0 e t) ≤ length (part 0 e t) = suffix_len-le-length p (part 0 e t) in
    let wide : length (part 0 e t) ≡ e - 0 = part_length 0 e t (omega arith) in
    omega (arith, run_back p t 0 e (omega arith) (omega arith), run_back p s c (c + e) (omega arith) (omega arith), here)

-- the run at the end of the bytes
pub run_all : (p : ℕ → Bool) (s : List ℕ) → run_start p s 0 (length s) ≡ length s - suffix_len p s
run_all p s = run_back p s 0 (length s) (omega arith) (omega arith) ∙ ap (λ (t : List ℕ). length s - suffix_len p t) (take_all (length s - 0) s (omega arith))

-- the bytes but for the last one, and a part of them to their end
pub front_is : (s : List ℕ) → part 0 (length s - 1) s ≡ take (length s - 1) s
front_is s = let n : length s - 1 - 0 ≡ length s - 1 = omega arith in ap (λ k. take k s) n

pub front_part : (s : List ℕ) (h : ℕ) → h ≤ length s - 1 → part h (length (take (length s - 1) s)) (take (length s - 1) s) ≡ part h (length s - 1) s
front_part s h le =
    let n = length s - 1 in
    let long : length (take n s) ≡ n = ap length (sym (front_is s)) ∙ part_length 0 n s (omega arith) ∙ omega arith in
    let low : 0 + h ≡ h = omega arith in
    let high : 0 + n ≡ n = omega arith in
    ap (λ k. part h k (take n s)) long
    ∙ ap (part h n) (sym (front_is s))
    ∙ part_part s 0 n h n le (omega arith)
    ∙ ap (λ a. part a (0 + n) s) low
    ∙ ap (λ b. part h b s) high

-- the bytes from a place on
from_at : (s : List ℕ) (z j : ℕ) → get_or (part z (length s) s) j 0 ≡ get_or s (z + j) 0
from_at s z j =
    ⊎_elim
    (λ lt. part_at z (length s) s j lt)
    (λ ge.
    let long = part_length z (length s) s (omega arith) in
    get_or_past (part z (length s) s) j 0 (omega arith) ∙ sym (get_or_past s (z + j) 0 (omega arith)))
    (cases_lt j (length s - z))

-- what is said of the first byte of these, and of the one after it, is said of the place
at_place : {X : Type 0} (f : ℕ → ℕ → X) (s : List ℕ) (z : ℕ) → f (get_or (part z (length s) s) 0 0) (get_or (part z (length s) s) (0 + 1) 0) ≡ f (get_or s z 0) (get_or s (z + 1) 0)
at_place f s z =
    let zero : z + 0 ≡ z = omega arith in
    let one : z + (0 + 1) ≡ z + 1 = omega arith in
    let a : get_or (part z (length s) s) 0 0 ≡ get_or s z 0 = from_at s z 0 ∙ ap (λ k. get_or s k 0) zero in
    let b : get_or (part z (length s) s) (0 + 1) 0 ≡ get_or s (z + 1) 0 = from_at s z (0 + 1) ∙ ap (λ k. get_or s k 0) one in
    λ i. f (a i) (b i)

pub domain_at : (s : List ℕ) (z : ℕ) → in_domain (part z (length s) s) 0 ≡ in_domain s z
domain_at = at_place (λ b next. letter_or_digit b || among (codes "-_") b || (eqb b 46 && letter_or_digit next))

pub resource_at : (s : List ℕ) (z : ℕ) → in_resource (part z (length s) s) 0 ≡ in_resource s z
resource_at = at_place (λ b next. letter_or_digit b || eqb b 64 || (eqb b 46 && letter_or_digit next))

-- a search by one property is a search by another that is the same at each place
pub first_by : (p q : ℕ → Bool) (s : List ℕ) (i : ℕ) → ((z : ℕ) → p z ≡ q z) → first p s i ≡ first q s i
first_by p q s i e = ap (λ (r : ℕ → Bool). first r s i) (λ j z. e z j)
