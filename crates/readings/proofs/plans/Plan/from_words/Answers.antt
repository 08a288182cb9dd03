use Rattle.std.proofs.Common.{◌≡◌, ℕ, zero, suc, ◌*◌, ◌/◌, ◌<◌, ◌≤◌, List, [], map, length, get_or, drop, string_bytes, String, Option, Some, None, IfNone, sym, refl, ap, ◌∙◌, subst, add-one, length-drop, arith}
use Rattle.std.specs.Simd.{first_chunks}
use Rattle.std.specs.declared.alloc.Global.{Global}
use Rattle.std.proofs.lemmas.List.{get_or-map, get_or_read_under, length-take-le}
use Rattle.readings.specs.Plans.{Understood, Changed, word, AskedFor}
use Rattle.readings.proofs.plans.Plan.from_words.Goals as goal

-- each pair has two words
pair_length : {X : Type 0} (n k : ℕ) (xs : List X) → k < n → 2 * n ≤ length xs → length (get_or (first_chunks 2 n xs) k []) ≡ 2
pair_length zero k xs lt le = absurd (omega (arith, lt))
pair_length (suc n) zero xs lt le = length-take-le 2 xs (omega (arith, le))
pair_length (suc n) (suc k) xs lt le = pair_length n k (drop 2 xs) (omega (arith, lt)) (omega (arith, le, length-drop 2 xs))

-- a word of pair k, as it was read
word_read : (words : List (String Global)) (n k j : ℕ) (pairs : List (List (String Global))) (pair : List (String Global)) (x : String Global) (t : List ℕ) → pairs ≡ first_chunks 2 n words → 2 * n ≤ length words → k < n → pair ≡ get_or pairs k [] → j < 2 → t ≡ string_bytes (get_or pair j x) →
    t ≡ get_or (map string_bytes (get_or (first_chunks 2 n words) k [])) j []
word_read words n k j pairs pair x t front le lt is small shown =
    let pair-is : pair ≡ get_or (first_chunks 2 n words) k [] = is ∙ ap (λ (ps : List (List (String Global))). get_or ps k []) front in
    let two : length pair ≡ 2 = ap length pair-is ∙ pair_length n k words lt le in
    shown ∙ sym (get_or-map string_bytes pair j x [] (omega (arith, two, small))) ∙ ap (λ p. get_or (map string_bytes p) j []) pair-is

-- the words of pair k: an option and its number
pair_read : (words : List (String Global)) (k : ℕ) (pairs : List (List (String Global))) (pair : List (String Global)) (x y : String Global) (option number : List ℕ) → pairs ≡ first_chunks 2 (length words / 2) words → length pairs ≡ length words / 2 → k < length pairs → pair ≡ get_or pairs k pair → option ≡ string_bytes (get_or pair 0 x) → number ≡ string_bytes (get_or pair 1 y) →
    (k < length words / 2) × (option ≡ word words k 0) × (number ≡ word words k 1)
pair_read words k pairs pair x y option number front len lt is a b =
    let n : ℕ = length words / 2 in
    let inside : k < n = omega (arith, lt, len) in
    let fit : 2 * n ≤ length words = omega arith in
    let item : pair ≡ get_or pairs k [] = get_or_read_under pairs k (length pairs) pair [] is lt refl in
    (inside, word_read words n k 0 pairs pair x option front fit inside item (omega arith) a, word_read words n k 1 pairs pair y number front fit inside item (omega arith) b)

pub loop-option-preserved : goal.loop-option-preserved
loop-option-preserved c =
    let words : List (String Global) = c.args.words.now in
    let k : ℕ = c.loop-option.option-index in
    let read = pair_read words k _ _ _ _ _ _ c.as_chunks.ensures.front c.as_chunks.ensures.front_len c.loop-option-test.true c.option-item.is c.as_str.ensures.value c.as_str-in-loop-option.ensures.value in
    subst (λ n. AskedFor words n c.in_ok-plan.plan) (sym (add-one k)) (
      c.loop-option.plan,
      c.loop-option.invariant,
      subst (λ o. Changed o (word words k 1) c.loop-option.plan c.in_ok-plan.plan) read.1
          (subst (λ o. Changed c.as_str.result.now o c.loop-option.plan c.in_ok-plan.plan) read.2 c.in_ok-plan.ensures.changed),
    )

in_none : {A : Type 0} (r : Option A) (P : Type 0) → P → IfNone r P
in_none None P p = p
in_none (Some x) P p = tt

pub returns-in_err-plan-clause-refused : goal.returns-in_err-plan-clause-refused
returns-in_err-plan-clause-refused c =
    let words : List (String Global) = c.args.words.now in
    let k : ℕ = c.loop-option.option-index in
    let read = pair_read words k _ _ _ _ _ _ c.as_chunks.ensures.front c.as_chunks.ensures.front_len c.loop-option-test.true c.option-item.is c.as_str.ensures.value c.as_str-in-loop-option.ensures.value in
    in_none c.from_residual.result _ (λ all. c.in_err-plan.ensures.refused
    (subst (λ o. Understood o c.as_str-in-loop-option.result.now) (sym read.1)
    (subst (Understood (word words k 0)) (sym read.2) (all.each k read.0))))
