-- The addresses of a note's lines: how a loop over the lines steps.
-- Assumes nothing.
use Rattle.std.proofs.Common.{◌≡◌, ℕ, zero, suc, ◌+◌, ◌-◌, ◌<◌, ◌≤◌, ltb, List, [], ◌∷◌, ◌++◌, length, get_or, sym, refl, ap, ◌∙◌, ⊎_elim, arith, length-append}
use Rattle.std.proofs.lemmas.List.{length-map}
use Rattle.std.proofs.lemmas.Bool.{cases_lt, lt-ltb, le-ltb, cond-true, cond-false}
use Rattle.text.specs.declared.spans.Span.{Span}
use Rattle.text.specs.Bytes.{part}
use Rattle.text.proofs.Firsts.{first-within}
use Rattle.text.proofs.Runs.{part_length}
use Rattle.rules.specs.Mail.{address_at, addresses}
use Rattle.rules.specs.Notes.{line_ending_byte, line_stop, moved, line_addresses, lines_from, note_addresses, note_addresses_left}
use Rattle.rules.proofs.AddressParts.{mail-forward}
use Rattle.rules.proofs.Turns.{at_most}

no_items : (xs : List Span) → length xs ≡ 0 → xs ≡ []
no_items [] e = refl
no_items (x ∷ xs) e = absurd (omega arith)

module _ (s : List ℕ) where
  -- those that are left from the line at i on
  abbrev pub left : ℕ → List Span
  left i = lines_from s (length s) i

  pub stop_low : (i : ℕ) → i ≤ length s → i ≤ line_stop s i
  stop_low i le = (first-within (λ j. line_ending_byte (get_or s j 0)) s i le).low

  pub stop_high : (i : ℕ) → i ≤ length s → line_stop s i ≤ length s
  stop_high i le = (first-within (λ j. line_ending_byte (get_or s j 0)) s i le).high

  line-more : (n i : ℕ) → i < length s → lines_from s (suc n) i ≡ line_addresses s i ++ lines_from s n (line_stop s i + 1)
  line-more n i lt = cond-true (ltb i (length s)) (line_addresses s i ++ lines_from s n (line_stop s i + 1)) [] (lt-ltb i (length s) lt)

  line-none : (n i : ℕ) → length s ≤ i → lines_from s n i ≡ []
  line-none zero i le = refl
  line-none (suc n) i le = cond-false (ltb i (length s)) (line_addresses s i ++ lines_from s n (line_stop s i + 1)) [] (le-ltb i (length s) le)

  -- how many lines are looked at does not matter, if it is enough
  enough : (n k i : ℕ) → length s ≤ i + n → length s ≤ i + k → lines_from s n i ≡ lines_from s k i
  enough zero k i a b = sym (line-none k i (omega arith))
  enough (suc n) zero i a b = line-none (suc n) i (omega arith)
  enough (suc n) (suc k) i a b =
      ⊎_elim
      (λ lt.
      let low = stop_low i (omega arith) in
      line-more n i lt
      ∙ ap (λ (xs : List Span). line_addresses s i ++ xs) (enough n k (line_stop s i + 1) (omega (arith, low)) (omega (arith, low)))
      ∙ sym (line-more k i lt))
      (λ le. line-none (suc n) i le ∙ sym (line-none (suc k) i le))
      (cases_lt i (length s))

  pub left-more : (i : ℕ) → i < length s → left i ≡ line_addresses s i ++ left (line_stop s i + 1)
  left-more i lt = enough (length s) (suc (length s)) i (omega arith) (omega arith) ∙ line-more (length s) i lt

  pub left-none : (i : ℕ) → length s ≤ i → left i ≡ []
  left-none i le = line-none (length s) i le

  -- ---- how a loop over the lines steps

  pub length-line : (i : ℕ) → length (line_addresses s i) ≡ length (addresses (part i (line_stop s i) s))
  length-line i = length-map (addresses (part i (line_stop s i) s)) (moved i)

  -- a line has no more addresses than bytes
  pub line-few : (i : ℕ) → i ≤ length s → length (addresses (part i (line_stop s i) s)) ≤ line_stop s i - i
  line-few i le =
      let t = part i (line_stop s i) s in
      omega (arith, at_most (address_at t) t (mail-forward t), part_length i (line_stop s i) s (stop_high i le))

  -- the line at i, which stops at e, gives its addresses and those of the lines after it
  pub line_left : (i e c : ℕ) (line : List ℕ) → i ≤ length s → e ≡ line_stop s i → line ≡ part i e s → c ≡ 0 → note_addresses_left s i line c ≡ left i
  line_left i e c line le stop is none =
      let whole : line ≡ part i (line_stop s i) s = is ∙ ap (λ k. part i k s) stop in
      let t = part i (line_stop s i) s in
      let long : length t ≡ line_stop s i - i = part_length i (line_stop s i) s (stop_high i le) in
      let end : i + length t ≡ line_stop s i = omega (arith, long, stop_low i le) in
      ap (λ (xs : List ℕ). note_addresses_left s i xs c) whole
      ∙ ap (note_addresses_left s i t) none
      ∙ ap (λ k. line_addresses s i ++ left (k + 1)) end
      ∙ ⊎_elim
      (λ lt. sym (left-more i lt))
      (λ ge.
      let few : length (line_addresses s i) ≡ 0 = omega (arith, length-line i, line-few i le, stop_high i le) in
      ap (λ (xs : List Span). xs ++ left (line_stop s i + 1)) (no_items (line_addresses s i) few) ∙ left-none (line_stop s i + 1) (omega (arith, stop_low i le)) ∙ sym (left-none i ge))
      (cases_lt i (length s))

  -- no note has more addresses than bytes
  left-few : (n i : ℕ) → length s ≤ i + n → length (left i) ≤ length s - i
  left-few zero i h = omega (arith, ap length (left-none i (omega arith)))
  left-few (suc n) i h =
      ⊎_elim
      (λ lt.
      let low = stop_low i (omega arith) in
      let rest = left-few n (line_stop s i + 1) (omega (arith, low)) in
      omega (arith, ap length (left-more i lt), length-append (line_addresses s i) (left (line_stop s i + 1)), length-line i, line-few i (omega arith), stop_high i (omega arith), low, rest))
      (λ le. omega (arith, ap length (left-none i le)))
      (cases_lt i (length s))

  pub note-few : length (note_addresses s) ≤ length s
  note-few = omega (arith, left-few (length s) 0 (omega arith))
