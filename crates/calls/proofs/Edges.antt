-- Where events may stand, not between CR and LF, and the line endings of a note as its segments have them.
-- Assumes nothing.
use Rattle.std.proofs.Common.{◌≡◌, ℕ, zero, suc, ◌+◌, ◌-◌, ◌<◌, ◌≤◌, true, false, not, ◌&&◌, ◌||◌, eqb, ltb, List, ◌∷◌, get_or, sym, refl, ap, ◌∙◌, ⊎_elim, arith}
use Rattle.std.proofs.lemmas.Bool.{cases_Bool, cond-true, cond-false, cond_both, and_from, and_left, and_right, or_parts, lt-ltb, not_from_false, not_from_true}
use Rattle.rules.specs.Segments.{line_ending_at, line_ending_end}
use Rattle.machine.specs.Cursors.{crlf_at}
use Rattle.machine.specs.declared.events.Name.TheVariants as name
use Rattle.machine.specs.Invariant.{Edge}
use Rattle.machine.proofs.Walk.{crlf, crlf_lf, edge_after}
use Rattle.calls.specs.EventLists.{span}
use Rattle.calls.specs.Claims.{line_ending_begins, line_endings_from}

module _ (s : List ℕ) where
  -- ---- edges

  plain_no_crlf : (i : ℕ) → line_ending_at s i ≡ false → crlf_at s i ≡ false
  plain_no_crlf i h = and_left (eqb (get_or s i 0) 13) (eqb (get_or s (i + 1) 0) 10) (or_parts (eqb (get_or s i 0) 13) (eqb (get_or s i 0) 10 || false) h).0

  -- after a byte of no line ending
  pub edge_after_plain : (i j : ℕ) → i < j → line_ending_at s (j - 1) ≡ false → Edge s j
  edge_after_plain i j lt h = and_right (ltb 0 j) (crlf_at s (j - 1)) (plain_no_crlf (j - 1) h)

  -- after a line ending
  pub edge_after_line : (i : ℕ) → Edge s (line_ending_end s i)
  edge_after_line i =
      cond_both (crlf_at s i) (i + 2) (i + 1) (Edge s)
      (λ h.
      let e : i + 2 - 1 ≡ i + 1 = omega arith in
      and_right (ltb 0 (i + 2)) (crlf_at s (i + 2 - 1)) (ap (crlf_at s) e ∙ crlf_lf s (i + 1) (crlf s i h).1))
      (λ h. edge_after s i h)

  -- ---- line endings

  plain_begins_none : (i : ℕ) → line_ending_at s i ≡ false → line_ending_begins s i ≡ false
  plain_begins_none i h = and_left (line_ending_at s i) (not (ltb 0 i && crlf_at s (i - 1))) h

  -- one place more, where none begins
  pass_one : (n i : ℕ) → line_ending_begins s i ≡ false → line_endings_from s (suc n) i ≡ line_endings_from s n (i + 1)
  pass_one n i h = cond-false (line_ending_begins s i) _ _ h

  -- bytes of no line ending are passed
  pub pass_plain : (d n i j k : ℕ) → i + d ≡ j → n ≡ d + k → ((l : ℕ) → i ≤ l → l < j → line_ending_at s l ≡ false) → line_endings_from s n i ≡ line_endings_from s k j
  pass_plain zero n i j k e f h = let e' : i ≡ j = omega arith in let f' : n ≡ k = omega arith in λ t. line_endings_from s (f' t) (e' t)
  pass_plain (suc d) n i j k e f h =
      let f' : n ≡ suc (d + k) = omega arith in
      ap (λ m. line_endings_from s m i) f'
      ∙ pass_one (d + k) i (plain_begins_none i (h i (omega arith) (omega arith)))
      ∙ pass_plain d (d + k) (i + 1) j k (omega arith) refl (λ l lo hi. h l (omega arith) hi)

  -- a line ending that begins at an edge comes first
  pub take-line : (n i j k : ℕ) → Edge s i → line_ending_at s i ≡ true → j ≡ line_ending_end s i → i + n ≡ j + k → line_endings_from s n i ≡ span name.LineEnding i j ∷ line_endings_from s k j
  take-line zero i j k edge h e f =
      let more = cond_both (crlf_at s i) (i + 2) (i + 1) (λ t. i < t) (λ _. omega arith) (λ _. omega arith) in
      absurd (omega (arith, e, more))
  take-line (suc n) i j k edge h e f =
      let here : line_ending_begins s i ≡ true = and_from (line_ending_at s i) (not (ltb 0 i && crlf_at s (i - 1))) h (not_from_false (ltb 0 i && crlf_at s (i - 1)) edge) in
      cond-true (line_ending_begins s i) _ _ here
      ∙ ap (λ t. span name.LineEnding i t ∷ line_endings_from s n (i + 1)) (sym e)
      ∙ ap (λ l. span name.LineEnding i j ∷ l) (⊎_elim (λ c. both c) (λ c. alone c) (cases_Bool (crlf_at s i)))
    where
      alone : crlf_at s i ≡ false → line_endings_from s n (i + 1) ≡ line_endings_from s k j
      alone c =
          let at : i + 1 ≡ j = sym (e ∙ cond-false (crlf_at s i) (i + 2) (i + 1) c) in
          let left : n ≡ k = omega arith in
          λ t. line_endings_from s (left t) (at t)

      both : crlf_at s i ≡ true → line_endings_from s n (i + 1) ≡ line_endings_from s k j
      both c =
          let at : i + 1 + 1 ≡ j = sym (e ∙ cond-true (crlf_at s i) (i + 2) (i + 1) c ∙ (let p : i + 2 ≡ i + 1 + 1 = omega arith in p)) in
          let left : n ≡ suc k = omega arith in
          let back : i + 1 - 1 ≡ i = omega arith in
          let none : line_ending_begins s (i + 1) ≡ false =
          and_right (line_ending_at s (i + 1)) (not (ltb 0 (i + 1) && crlf_at s (i + 1 - 1))) (not_from_true (ltb 0 (i + 1) && crlf_at s (i + 1 - 1)) (and_from (ltb 0 (i + 1)) (crlf_at s (i + 1 - 1)) (lt-ltb 0 (i + 1) (omega arith)) (ap (crlf_at s) back ∙ c))) in
          ap (λ m. line_endings_from s m (i + 1)) left ∙ pass_one k (i + 1) none ∙ ap (line_endings_from s k) at
