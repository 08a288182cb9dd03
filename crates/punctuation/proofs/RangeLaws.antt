-- What is taken up is the longest lawful front, and what the check says of a list.
-- Assumes nothing.
use Rattle.std.proofs.Common.{◌≡◌, ℕ, ◌%◌, ◌<◌, ◌≤◌, min, false, not, List, length, Ok, ap, subst, arith}
use Rattle.std.proofs.lemmas.Bool.{not-true, not-false}
use Rattle.std.proofs.lemmas.Bool.Decides.{nat_tests}
use Rattle.punctuation.specs.RangeLists.{range_count, lawful, lawful_front, taken_up, bad_length, range_list_check, LongestLawfulFront, AcceptedIsTakenWhole, RefusedIsFirstUnlawful}
use Rattle.text.proofs.Firsts.{seek-first}
use Rattle.punctuation.proofs.RangeSearch.{taken_within, taken_lawful, front_within}

module _ (xs : List ℕ) where
  pub taken_longest : LongestLawfulFront xs (taken_up xs)
  taken_longest =
      let f = seek-first (λ k. not (lawful xs k)) (min (range_count xs) 512) 0 in
      record {
        each_is_lawful = taken_lawful xs;
        whole = taken_within xs;
        at_most_512 = omega (arith, f.high);
        next_is_not = λ few more. not-true (lawful xs (taken_up xs)) (f.here (omega arith));
      }

  -- an accepted list has an even length of at most 1,024, and no unlawful range
  accepted_means : range_list_check xs ≡ Ok tt → (bad_length xs ≡ false) × (range_count xs ≤ lawful_front xs (range_count xs))
  accepted_means e = grind (arith, nat_tests)

  pub accepted_is_taken_whole : AcceptedIsTakenWhole xs (range_list_check xs)
  accepted_is_taken_whole e =
      let a = accepted_means e in
      let good = a.0 in
      let even : length xs % 2 ≡ 0 = grind (arith, nat_tests) in
      let few : length xs ≤ 1024 = grind (arith, nat_tests) in
      let all : min (range_count xs) 512 ≡ range_count xs = omega arith in
      let same : taken_up xs ≡ lawful_front xs (range_count xs) = ap (lawful_front xs) all in
      omega (arith, front_within xs (range_count xs))

  pub refused_is_first_unlawful : RefusedIsFirstUnlawful xs (range_list_check xs)
  refused_is_first_unlawful k e =
      let n = lawful_front xs (range_count xs) in
      let at : (n ≡ k) × (n < range_count xs) = grind (arith, nat_tests) in
      let g = seek-first (λ j. not (lawful xs j)) (range_count xs) 0 in (
        subst (λ j. lawful xs j ≡ false) at.0 (not-true (lawful xs n) (g.here (omega (arith, at)))),
        omega (arith, at),
        λ j below. not-false (lawful xs j) (g.none j (omega arith) (omega (arith, at))),
      )
