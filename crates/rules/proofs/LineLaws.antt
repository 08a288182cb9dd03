-- The laws of the addresses of a note, from those of its lines.
-- Assumes nothing.
use Rattle.std.proofs.Common.{◌≡◌, ℕ, zero, suc, ◌+◌, ◌-◌, ◌<◌, ◌≤◌, true, List, [], ◌∷◌, ◌++◌, map, length, get_or, sym, refl, ap, ◌∙◌, subst, inl, inr, ⊎_elim, arith}
use Rattle.std.specs.List.{AllByRecursion}
use Rattle.std.proofs.ByRecursion.{All-append}
use Rattle.std.proofs.lemmas.List.{get_or_past}
use Rattle.std.proofs.lemmas.Bool.{cases_lt, true≢false}
use Rattle.text.specs.declared.spans.Span.{Span}
use Rattle.text.specs.Ascii.{letter}
use Rattle.text.specs.Bytes.{part}
use Rattle.text.proofs.Runs.{part_length, part_at}
use Rattle.rules.specs.InTurn.{InTextOrder}
use Rattle.rules.specs.Mail.{addresses}
use Rattle.rules.specs.MailLaws.{Domain, Address, EachIsAnAddress}
use Rattle.rules.specs.Notes.{line_stop, moved, line_addresses, note_addresses}
use Rattle.rules.proofs.AddressParts.{before-end, addresses-in_order, addresses_are}
use Rattle.rules.proofs.Lines.{left, left-more, left-none, stop_low, stop_high}

-- ---- an address of a part of the note is one of the note

module _ (s : List ℕ) (i e : ℕ) (le : e ≤ length s) where
  long : length (part i e s) ≡ e - i
  long = part_length i e s le

  -- the byte at j of the part is the byte at k of the note
  same_byte : (j k : ℕ) → j < length (part i e s) → k ≡ i + j → get_or (part i e s) j 0 ≡ get_or s k 0
  same_byte j k lt at = part_at i e s j (omega (arith, long)) ∙ ap (λ n. get_or s n 0) (sym at)

  letter-inside : (j : ℕ) → letter (get_or (part i e s) j 0) ≡ true → j < length (part i e s)
  letter-inside j h = ⊎_elim (λ lt. lt) (λ ge. absurd (true≢false (sym h ∙ ap letter (get_or_past (part i e s) j 0 ge)))) (cases_lt j (length (part i e s)))

  domain-moved : (d z d' z' : ℕ) → d' ≡ i + d → z' ≡ i + z → Domain (part i e s) d z → Domain s d' z'
  domain-moved d z d' z' from to a =
      let dot = before-end (part i e s) a.dot 46 a.is_dot (omega arith) in
      let last = letter-inside (z - 1) a.letter_last in
      record {
        dot = i + a.dot;
        dot_inside = (omega (arith, a.dot_inside.0), omega (arith, a.dot_inside.1));
        is_dot = sym (same_byte a.dot (i + a.dot) dot refl) ∙ a.is_dot;
        no_dot_first = λ h. a.no_dot_first (same_byte d d' (omega (arith, a.dot_inside.0, dot)) from ∙ h);
        letter_last = ap letter (sym (same_byte (z - 1) (z' - 1) last (omega (arith, a.dot_inside.1)))) ∙ a.letter_last;
      }

  address_moved : (x : Span) → Address (part i e s) x → Address s (moved i x)
  address_moved x a =
      let inside = before-end (part i e s) a.at_sign 64 a.is_at_sign (omega arith) in
      record {
        at_sign = i + a.at_sign;
        stop = i + a.stop;
        is_at_sign = sym (same_byte a.at_sign (i + a.at_sign) inside refl) ∙ a.is_at_sign;
        local_part = omega (arith, a.local_part);
        domain = domain-moved (a.at_sign + 1) a.stop (i + a.at_sign + 1) (i + a.stop) (omega arith) refl a.domain;
        to_the_end =
            ⊎_elim
            (λ h. inl (ap (λ n. i + n) h))
            (λ h.
            inr (
              h.0,
              (
                sym (same_byte a.stop (i + a.stop) (before-end (part i e s) a.stop 47 h.1.0 (omega arith)) refl) ∙ h.1.0,
                omega (arith, h.1.1),
              ),
            ))
            a.to_the_end;
        within = omega (arith, a.within, long, inside);
      }

  pub all_moved : (xs : List Span) → AllByRecursion (Address (part i e s)) xs → AllByRecursion (Address s) (map (moved i) xs)
  all_moved [] h = tt
  all_moved (x ∷ xs) h = (address_moved x h.0, all_moved xs h.1)

  -- each ends within the part
  pub all-inside : (xs : List Span) → AllByRecursion (Address (part i e s)) xs → i ≤ e → AllByRecursion (λ x. x.to ≤ e) (map (moved i) xs)
  all-inside [] h low = tt
  all-inside (x ∷ xs) h low = (omega (arith, h.0.within, long), all-inside xs h.1 low)

-- ---- lists of spans in text order

pub order_moved : (i c : ℕ) (xs : List Span) → InTextOrder c xs → InTextOrder (i + c) (map (moved i) xs)
order_moved i c [] h = tt
order_moved i c (x ∷ xs) h = ((omega (arith, h.0.0), omega (arith, h.0.1)), order_moved i x.to xs h.1)

pub order_lower : (c d : ℕ) (xs : List Span) → c ≤ d → InTextOrder d xs → InTextOrder c xs
order_lower c d [] le h = tt
order_lower c d (x ∷ xs) le h = ((omega (arith, h.0.0), h.0.1), h.1)

pub order_append : (c d : ℕ) (xs ys : List Span) → c ≤ d → InTextOrder c xs → AllByRecursion (λ x. x.to ≤ d) xs → InTextOrder d ys → InTextOrder c (xs ++ ys)
order_append c d [] ys le h most k = order_lower c d ys le k
order_append c d (x ∷ xs) ys le h most k = (h.0, order_append x.to d xs ys most.0 h.1 most.1 k)

-- ---- the lines of a note, from the last to the first

module _ (s : List ℕ) where
  line-in_order : (i : ℕ) → InTextOrder i (line_addresses s i)
  line-in_order i = let e : i + 0 ≡ i = omega arith in subst (λ c. InTextOrder c (line_addresses s i)) e (order_moved i 0 (addresses (part i (line_stop s i) s)) (addresses-in_order (part i (line_stop s i) s)))

  lines-in_order : (n i : ℕ) → length s ≤ i + n → InTextOrder i (left s i)
  lines-in_order zero i h = subst (InTextOrder i) (sym (left-none s i (omega arith))) tt
  lines-in_order (suc n) i h =
      ⊎_elim
      (λ lt.
      let low = stop_low s i (omega arith) in
      let high = stop_high s i (omega arith) in
      let t = part i (line_stop s i) s in
      subst (InTextOrder i) (sym (left-more s i lt))
      (order_append i (line_stop s i) (line_addresses s i) (left s (line_stop s i + 1)) low
      (line-in_order i)
      (all-inside s i (line_stop s i) high (addresses t) (addresses_are t) low)
      (order_lower (line_stop s i) (line_stop s i + 1) (left s (line_stop s i + 1)) (omega arith) (lines-in_order n (line_stop s i + 1) (omega (arith, low))))))
      (λ le. subst (InTextOrder i) (sym (left-none s i le)) tt)
      (cases_lt i (length s))

  pub note-in_order : InTextOrder 0 (note_addresses s)
  note-in_order = lines-in_order (length s) 0 (omega arith)

  lines_are : (n i : ℕ) → length s ≤ i + n → EachIsAnAddress s (left s i)
  lines_are zero i h = subst (AllByRecursion (Address s)) (sym (left-none s i (omega arith))) tt
  lines_are (suc n) i h =
      ⊎_elim
      (λ lt.
      let low = stop_low s i (omega arith) in
      let high = stop_high s i (omega arith) in
      let t = part i (line_stop s i) s in
      subst (AllByRecursion (Address s)) (sym (left-more s i lt))
      (All-append (Address s) (line_addresses s i) (left s (line_stop s i + 1))
      (all_moved s i (line_stop s i) high (addresses t) (addresses_are t))
      (lines_are n (line_stop s i + 1) (omega (arith, low)))))
      (λ le. subst (AllByRecursion (Address s)) (sym (left-none s i le)) tt)
      (cases_lt i (length s))

  pub note_are : EachIsAnAddress s (note_addresses s)
  note_are = lines_are (length s) 0 (omega arith)
