-- The spans of a rule, one after another: the next one, those that are left, and the laws of all of them.
-- Assumes nothing.
use Rattle.std.proofs.Common.{◌≡◌, ℕ, zero, suc, ◌+◌, ◌-◌, ◌<◌, ◌≤◌, false, List, [], ◌∷◌, length, is_some, Some, None, Option, sym, refl, ap, ◌∙◌, subst, ⊎_elim, arith}
use Rattle.std.specs.List.{AllByRecursion}
use Rattle.std.proofs.lemmas.Bool.{cases_lt, true≢false}
use Rattle.text.specs.declared.spans.Span.{Span}
use Rattle.text.specs.Bytes.{first}
use Rattle.text.proofs.Firsts.{first_more, first_here, first-end, seek-first}
use Rattle.rules.specs.InTurn.{Rule, found, next, or_else, then_from_its_end, in_turn, all, FoundInTurn, InTextOrder}

-- ---- what p gives at the first place from i on where it gives something: not here, here, and none

pub found-more : (p : ℕ → Option Span) (s : List ℕ) (i : ℕ) → i < length s → p i ≡ None → found p s i ≡ found p s (i + 1)
found-more p s i lt h = ap p (first_more (λ j. is_some (p j)) s i lt (ap is_some h))

pub found_here : (p : ℕ → Option Span) (s : List ℕ) (i : ℕ) (x : Span) → i < length s → p i ≡ Some x → found p s i ≡ Some x
found_here p s i x lt h = ap p (first_here (λ j. is_some (p j)) s i lt (ap is_some h)) ∙ h

pub found-end : (p : ℕ → Option Span) (s : List ℕ) (i : ℕ) → length s ≤ i → p i ≡ None → found p s i ≡ None
found-end p s i le h = ap p (first-end (λ j. is_some (p j)) s i le) ∙ h

by_what : (p : ℕ → Option Span) (s : List ℕ) (i : ℕ) (o : Option Span) → i < length s → p i ≡ o → found p s i ≡ or_else o (found p s (i + 1))
by_what p s i None lt h = found-more p s i lt h
by_what p s i (Some x) lt h = found_here p s i x lt h

pub found-or_else : (p : ℕ → Option Span) (s : List ℕ) (i : ℕ) (o : Option Span) → i < length s → o ≡ p i → found p s i ≡ or_else o (found p s (i + 1))
found-or_else p s i o lt h = by_what p s i o lt (sym h)

none_of : (o : Option Span) → is_some o ≡ false → o ≡ None
none_of None e = refl
none_of (Some x) e = absurd (true≢false e)

-- ---- rules that go forward

-- a rule that gives nothing past the end, and whose spans begin at or after the end of the one before, are not empty,
-- lie around the place where they are given, and end within s
pub record Forward (rule : Rule) (s : List ℕ) : Type 0 where
  pub ends : (c i : ℕ) → length s ≤ i → rule c i ≡ None
  pub low : (c i : ℕ) (x : Span) → c ≤ i → rule c i ≡ Some x → c ≤ x.from
  pub some : (c i : ℕ) (x : Span) → c ≤ i → rule c i ≡ Some x → x.from < x.to
  pub on : (c i : ℕ) (x : Span) → c ≤ i → rule c i ≡ Some x → i < x.to
  pub high : (c i : ℕ) (x : Span) → c ≤ i → rule c i ≡ Some x → x.to ≤ length s

module _ (rule : Rule) (s : List ℕ) (f : Forward rule s) where
  -- the place at which the next span is found
  abbrev at : ℕ → ℕ
  at c = first (λ i. is_some (rule c i)) s c

  at_low : (c : ℕ) → c ≤ at c
  at_low c = (seek-first (λ i. is_some (rule c i)) (length s - c) c).low

  at_none : (c j : ℕ) → c ≤ j → j < at c → rule c j ≡ None
  at_none c j a b = none_of (rule c j) ((seek-first (λ i. is_some (rule c i)) (length s - c) c).none j a b)

  next-on : (c : ℕ) (x : Span) → next rule s c ≡ Some x → c < x.to
  next-on c x e = omega (arith, f.on c (at c) x (at_low c) e, at_low c)

  next_high : (c : ℕ) (x : Span) → next rule s c ≡ Some x → x.to ≤ length s
  next_high c x e = f.high c (at c) x (at_low c) e

  past-none : (c : ℕ) → length s ≤ c → next rule s c ≡ None
  past-none c le = f.ends c (at c) (omega (arith, at_low c))

  -- how many are looked for does not matter, if it is enough
  same_then : (n k c : ℕ) (o : Option Span) → next rule s c ≡ o → ((d : ℕ) → c < d → in_turn rule s n d ≡ in_turn rule s k d) → then_from_its_end (in_turn rule s n) o ≡ then_from_its_end (in_turn rule s k) o
  same_then n k c None e h = refl
  same_then n k c (Some x) e h = ap (λ t. x ∷ t) (h x.to (next-on c x e))

  enough : (n k c : ℕ) → length s ≤ c + n → length s ≤ c + k → in_turn rule s n c ≡ in_turn rule s k c
  enough zero zero c a b = refl
  enough zero (suc k) c a b = sym (ap (then_from_its_end (in_turn rule s k)) (past-none c (omega arith)))
  enough (suc n) zero c a b = ap (then_from_its_end (in_turn rule s n)) (past-none c (omega arith))
  enough (suc n) (suc k) c a b = same_then n k c (next rule s c) refl (λ d lt. enough n k d (omega arith) (omega arith))

  -- ---- those that are left from c on: one, and then the others, or none

  abbrev pub left : ℕ → List Span
  left c = in_turn rule s (length s) c

  pub left_one : (c : ℕ) → left c ≡ then_from_its_end left (next rule s c)
  left_one c =
      enough (length s) (suc (length s)) c (omega arith) (omega arith)

  pub left-more : (c : ℕ) (x : Span) → next rule s c ≡ Some x → left c ≡ x ∷ left x.to
  left-more c x e = left_one c ∙ ap (then_from_its_end left) e

  pub left-none : (c : ℕ) → next rule s c ≡ None → left c ≡ []
  left-none c e = left_one c ∙ ap (then_from_its_end left) e

  -- ---- an induction over the spans that are found

  module _ (P : ℕ → List Span → Type 0)
      (none : (c : ℕ) → next rule s c ≡ None → P c [])
      (more : (c : ℕ) (x : Span) (xs : List Span) → next rule s c ≡ Some x → P x.to xs → P c (x ∷ xs)) where
    by_next : (n c : ℕ) (o : Option Span) → next rule s c ≡ o → length s ≤ c + suc n → ((d : ℕ) → c < d → P d (left d)) → P c (then_from_its_end left o)
    by_next n c None e h r = none c e
    by_next n c (Some x) e h r = more c x (left x.to) e (r x.to (next-on c x e))

    by_fuel : (n c : ℕ) → length s ≤ c + n → P c (left c)
    by_fuel zero c h = subst (P c) (sym (left-none c (past-none c (omega arith)))) (none c (past-none c (omega arith)))
    by_fuel (suc n) c h = subst (P c) (sym (left_one c)) (by_next n c (next rule s c) refl h (λ d lt. by_fuel n d (omega arith)))

    pub over-left : (c : ℕ) → P c (left c)
    over-left c = by_fuel (length s) c (omega arith)

  -- ---- the laws

  nothing-on : (c : ℕ) → next rule s c ≡ None → (k : ℕ) → c ≤ k → rule c k ≡ None
  nothing-on c e k le =
      ⊎_elim
      (λ lt. at_none c k le lt)
      (λ ge.
      ⊎_elim
      (λ inside. absurd (let w = seek-first (λ i. is_some (rule c i)) (length s - c) c in
      true≢false (sym (w.here (omega arith)) ∙ ap is_some e)))
      (λ past. f.ends c k (omega arith))
      (cases_lt (at c) (length s)))
      (cases_lt k (at c))

  pub left-in_turn : (c : ℕ) → FoundInTurn rule c (left c)
  left-in_turn =
      over-left (FoundInTurn rule) nothing-on
      (λ c x xs e r. ((at c, (at_low c, (at_none c, e))), r))

  pub left-in_order : (c : ℕ) → InTextOrder c (left c)
  left-in_order =
      over-left InTextOrder (λ c e. tt)
      (λ c x xs e r. ((f.low c (at c) x (at_low c) e, f.some c (at c) x (at_low c) e), r))

  pub left-all : (Q : Span → Type 0) → ((c i : ℕ) (x : Span) → c ≤ i → rule c i ≡ Some x → Q x) → (c : ℕ) → AllByRecursion Q (left c)
  left-all Q h =
      over-left (λ _ xs. AllByRecursion Q xs) (λ c e. tt)
      (λ c x xs e r. (h c (at c) x (at_low c) e, r))

  -- ---- how many they are

  length-left : (c : ℕ) → length (left c) ≤ length s - c
  length-left =
      over-left (λ c xs. length xs ≤ length s - c) (λ c e. omega arith)
      (λ c x xs e r. omega (arith, next-on c x e, next_high c x e))

  pub at_most : length (all rule s) ≤ length s
  at_most = omega (arith, length-left 0)
