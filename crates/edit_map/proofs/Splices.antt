-- Elements put into a list, and parts of a list written over those of another.
-- Assumes nothing.
use Rattle.std.proofs.Common.{◌≡◌, ℕ, ◌+◌, ◌-◌, ◌≤◌, List, ◌++◌, length, take, drop, sym, ap, ◌∙◌, arith, take-add}
use lib.Seq.{take-append_seam, drop-append_seam}
use Rattle.std.proofs.lemmas.List.{append_assoc, length-append, length-take, length-drop, length-take-le, take_at, drop_at, take-take, drop-drop, drop-take}
use Rattle.std.proofs.lemmas.Slice.{take-put_mid, drop-put_mid}
use borrow.Rule.Slice.PartMut.{put_mid}
use Rattle.edit_map.specs.Entries.{spliced}

module _ {A : Type 0} (xs : List A) where
  -- a splice behind the first c elements leaves them
  pub behind_take : (c p : ℕ) (s : List A) → c + p ≤ length s → take c (spliced s (c + p) xs) ≡ take c s
  behind_take c p s h =
      ap (λ l. take c (l ++ (xs ++ drop (c + p) s))) (take-add c p s)
      ∙ ap (take c) (append_assoc (take c s) (take p (drop c s)) (xs ++ drop (c + p) s))
      ∙ take_at (take c s) (take p (drop c s) ++ (xs ++ drop (c + p) s)) c (length-take-le c s (omega arith))

  pub behind_drop : (c p : ℕ) (s : List A) → c + p ≤ length s → drop c (spliced s (c + p) xs) ≡ spliced (drop c s) p xs
  behind_drop c p s h =
      ap (λ l. drop c (l ++ (xs ++ drop (c + p) s))) (take-add c p s)
      ∙ ap (drop c) (append_assoc (take c s) (take p (drop c s)) (xs ++ drop (c + p) s))
      ∙ drop_at (take c s) (take p (drop c s) ++ (xs ++ drop (c + p) s)) c (length-take-le c s (omega arith))
      ∙ ap (λ l. take p (drop c s) ++ (xs ++ l)) (sym (drop-drop p c s))

  -- a splice right behind c elements, cut behind the new ones
  pub seam-take : (c : ℕ) (s : List A) → c ≤ length s → take (c + length xs) (spliced s c xs) ≡ take c s ++ xs
  seam-take c s h =
      ap (take (c + length xs)) (sym (append_assoc (take c s) xs (drop c s)))
      ∙ take_at (take c s ++ xs) (drop c s) (c + length xs) (length-append (take c s) xs ∙ ap (λ j. j + length xs) (length-take-le c s h))

  pub seam-drop : (c : ℕ) (s : List A) → c ≤ length s → drop (c + length xs) (spliced s c xs) ≡ drop c s
  seam-drop c s h =
      ap (drop (c + length xs)) (sym (append_assoc (take c s) xs (drop c s)))
      ∙ drop_at (take c s ++ xs) (drop c s) (c + length xs) (length-append (take c s) xs ∙ ap (λ j. j + length xs) (length-take-le c s h))

  -- a splice in front of c elements, cut behind them
  pub front_take : (c : ℕ) (s : List A) → take (c + length xs) (xs ++ s) ≡ xs ++ take c s
  front_take c s =
      let e : c + length xs ≡ length xs + c = omega arith in
      ap (λ n. take n (xs ++ s)) e ∙ take-add (length xs) c (xs ++ s)
      ∙ (λ i. take-append_seam xs s i ++ take c (drop-append_seam xs s i))

  pub front_drop : (c : ℕ) (s : List A) → drop (c + length xs) (xs ++ s) ≡ drop c s
  front_drop c s =
      let e : c + length xs ≡ length xs + c = omega arith in
      ap (λ n. drop n (xs ++ s)) e ∙ sym (drop-drop c (length xs) (xs ++ s)) ∙ ap (drop c) (drop-append_seam xs s)

pub length-spliced : {A : Type 0} (s : List A) (at : ℕ) (xs : List A) → at ≤ length s → length (spliced s at xs) ≡ length s + length xs
length-spliced s at xs h = simp (length-append, length-take, length-drop) (omega arith)

-- ---- a splice by turning a part round and writing over its front

module _ {A : Type 0} where
  -- of m + n elements the last n were brought to the front, and the first n of what then stands there are dropped
  turned : (m n : ℕ) (d : List A) → m + n ≤ length d → drop n ((drop m (take (m + n) d) ++ take m (take (m + n) d)) ++ drop (m + n) d) ≡ take m d ++ drop (m + n) d
  turned m n d h =
      let long : length (drop m (take (m + n) d)) ≡ n = simp (length-drop, length-take) (omega arith) in
      let some : m ≤ m + n = omega arith in
      ap (drop n) (append_assoc (drop m (take (m + n) d)) (take m (take (m + n) d)) (drop (m + n) d))
      ∙ drop_at (drop m (take (m + n) d)) (take m (take (m + n) d) ++ drop (m + n) d) n long
      ∙ ap (λ l. l ++ drop (m + n) d) (take-take m (m + n) d some)

  -- the same, of the elements from `at` on in a list
  turned_from : (m n at : ℕ) (s xs : List A) → at + (m + n) ≤ length s → put_mid at n (put_mid at (m + n) s (drop m (take (m + n) (drop at s)) ++ take m (take (m + n) (drop at s)))) xs ≡ spliced (take (at + m) s) at xs ++ drop (at + (m + n)) s
  turned_from m n at s xs h =
      let d = drop at s in
      let t = drop m (take (m + n) d) ++ take m (take (m + n) d) in
      let front : length (take at s) ≡ at = length-take-le at s (omega arith) in
      let low : at ≤ at + m = omega arith in
      let fits : m + n ≤ length (drop at s) = simp length-drop (omega arith) in
      (λ i. take_at (take at s) (t ++ drop (m + n) d) at front i ++ (xs ++ drop n (drop_at (take at s) (t ++ drop (m + n) d) at front i)))
      ∙ ap (λ l. take at s ++ (xs ++ l)) (turned m n d fits ∙ ap (λ l. take m d ++ l) (drop-drop (m + n) at s))
      ∙ ap (λ l. take at s ++ l) (sym (append_assoc xs (take m d) (drop (at + (m + n)) s)))
      ∙ sym (append_assoc (take at s) (xs ++ take m d) (drop (at + (m + n)) s))
      ∙ (λ i. (sym (take-take at (at + m) s low) i ++ (xs ++ sym (drop-take at m s) i)) ++ drop (at + (m + n)) s)

  pub spliced_in : (s xs rot new : List A) (used at : ℕ) → at ≤ used → used + length xs ≤ length s → rot ≡ drop (length (take (used + length xs - at) (drop at s)) - length xs) (take (used + length xs - at) (drop at s)) ++ take (length (take (used + length xs - at) (drop at s)) - length xs) (take (used + length xs - at) (drop at s)) → new ≡ xs → put_mid at (at + length xs - at) (put_mid at (used + length xs - at) s rot) new ≡ spliced (take used s) at xs ++ drop (used + length xs) s
  spliced_in s xs rot new used at in-used room turn is =
      let n = length xs in
      let m = used - at in
      let k : used + length xs - at ≡ used - at + length xs = omega arith in
      let long : length (take (used + length xs - at) (drop at s)) - length xs ≡ used - at = simp (length-take, length-drop) (omega arith) in
      let all : at + length xs - at ≡ length xs = omega arith in
      let u : at + (used - at) ≡ used = omega arith in
      let v : at + (used - at + length xs) ≡ used + length xs = omega arith in
      let w : rot ≡ drop m (take (m + n) (drop at s)) ++ take m (take (m + n) (drop at s)) = turn ∙ (λ i. drop (long i) (take (k i) (drop at s)) ++ take (long i) (take (k i) (drop at s))) in
      (λ i. put_mid at (all i) (put_mid at (k i) s (w i)) (is i))
      ∙ turned_from m n at s xs (omega arith)
      ∙ (λ i. spliced (take (u i) s) at xs ++ drop (v i) s)

  -- ---- a part written over a part

  pub over_front : (out part : List A) (at : ℕ) → at + length part ≤ length out → take (at + length part) (put_mid at (at + length part - at) out part) ≡ take at out ++ part
  over_front out part at room = take-put_mid at (at + length part - at) out part (at + length part) (omega arith) (omega arith)

  pub over-rest : (out part : List A) (at : ℕ) → at + length part ≤ length out → drop (at + length part) (put_mid at (at + length part - at) out part) ≡ drop (at + length part) out
  over-rest out part at room = drop-put_mid at (at + length part - at) out part (at + length part) (omega arith) (omega arith) (omega arith)
