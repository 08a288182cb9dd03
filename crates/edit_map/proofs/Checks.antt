-- The tests before edits are made: what they ask of the entries, and how the loops that ask it step.
-- Assumes nothing.
use Rattle.std.proofs.Common.{◌≡◌, ℕ, suc, ◌+◌, ◌<◌, ◌≤◌, false, cond, ltb, List, [], ◌∷◌, length, get_or, drop, Ok, Err, Result, Some, None, Option, sym, refl, ap, ◌∙◌, ⊎_elim, arith}
use Rattle.std.proofs.lemmas.List.{at_drop_more, at_drop_all}
use Rattle.std.proofs.lemmas.Bool.{cond-true, cond-false, lt-ltb, le-ltb, ltb-true, ltb-false, cases_Bool}
use Rattle.std.specs.List.{position, position_or_len}
use Rattle.std.proofs.lemmas.List.Recursion.{is_position_or_len}
use Rattle.text.specs.declared.refusals.Fault.{Fault}
use Rattle.text.specs.declared.refusals.Fault.TheVariants.{EditOutOfRange, EditInsideRemoval, NoRoomForEdit}
use Rattle.edit_map.specs.declared.entries.Entry.{Entry}
use Rattle.edit_map.specs.Edits.{Edit, past_end, inside_removal, IsRank, consume_check}
use Rattle.edit_map.specs.Entries.{entry, edits, bare}
use Rattle.edit_map.specs.Laws.{InOrder}
use Rattle.edit_map.proofs.Adds.{length-edits}
use Rattle.edit_map.proofs.Lengths.{in_order}

-- ---- the elements are not asked

pub length-bare : (es : List Entry) → length (bare es) ≡ length es
length-bare [] = refl
length-bare (e ∷ es) = ap suc (length-bare es)

past_end-bare : {A : Type 0} (len : ℕ) (es : List Entry) (s : List A) → past_end len (bare es) ≡ past_end len (edits es s)
past_end-bare len [] s = refl
past_end-bare len (e ∷ es) s = ap (λ n. cond (ltb len (e.place + e.count)) 0 (suc n)) (past_end-bare len es (drop e.size s))

inside-bare : {A : Type 0} (from : ℕ) (es : List Entry) (s : List A) → inside_removal from (bare es) ≡ inside_removal from (edits es s)
inside-bare from [] s = refl
inside-bare from (e ∷ es) s = ap (λ n. cond (ltb e.place from) 0 (suc n)) (inside-bare (e.place + e.count) es (drop e.size s))

pub check_bare : {A : Type 0} (room kept len : ℕ) (es : List Entry) (s : List A) → consume_check room kept len (bare es) ≡ consume_check room kept len (edits es s)
check_bare {A} room kept len es s = λ i. answer room kept (past_end-bare len es s i) (inside-bare 0 es s i) (◌∙◌ (length-bare es) (sym (length-edits es s)) i)
  where
    answer : (room kept past inside n : ℕ) → Result (Unit {0}) Fault
    answer room kept past inside n = cond (ltb past n) (Err (EditOutOfRange past)) (cond (ltb inside n) (Err (EditInsideRemoval inside)) (cond (ltb room kept) (Err NoRoomForEdit) (Ok tt)))

-- ---- what a passed test says

pub passed : {A : Type 0} (room kept len : ℕ) (es : List (Edit A)) → consume_check room kept len es ≡ Ok tt → InOrder 0 len es × (kept ≤ room)
passed room kept len es e =
    let in_list : ltb (past_end len es) (length es) ≡ false = ⊎_elim (λ t. absurd (never (EditOutOfRange (past_end len es)) _ (cond-true (ltb (past_end len es) (length es)) _ _ t) e)) (λ f. f) (cases_Bool (ltb (past_end len es) (length es))) in
    let e₁ = sym (cond-false (ltb (past_end len es) (length es)) _ _ in_list) ∙ e in
    let apart : ltb (inside_removal 0 es) (length es) ≡ false = ⊎_elim (λ t. absurd (never (EditInsideRemoval (inside_removal 0 es)) _ (cond-true (ltb (inside_removal 0 es) (length es)) _ _ t) e₁)) (λ f. f) (cases_Bool (ltb (inside_removal 0 es) (length es))) in
    let e₂ = sym (cond-false (ltb (inside_removal 0 es) (length es)) _ _ apart) ∙ e₁ in
    let stored : ltb room kept ≡ false = ⊎_elim (λ t. absurd (never NoRoomForEdit _ (cond-true (ltb room kept) _ _ t) e₂)) (λ f. f) (cases_Bool (ltb room kept)) in
    (in_order 0 len es (ltb-false (past_end len es) (length es) in_list) (ltb-false (inside_removal 0 es) (length es) apart), ltb-false room kept stored)
  where
    never : (f : Fault) (r : Result (Unit {0}) Fault) → r ≡ Err f → r ≡ Ok tt → ⊥
    never f r a b = let z : ◌≡◌ {A = ℕ} 0 1 = cc in omega arith

-- ---- steps of the loops

module _ (es : List Entry) (i : ℕ) (lt : i < length es) where
  abbrev here : Entry
  here = get_or es i (entry 0 0 0)

  pub inside_here : (from : ℕ) → (get_or es i (entry 0 0 0)).place < from → inside_removal from (bare (drop i es)) ≡ 0
  inside_here from h = at_drop_more (λ l. inside_removal from (bare l)) es i (entry 0 0 0) lt ∙ cond-true (ltb here.place from) 0 _ (lt-ltb here.place from h)

  pub inside-more : (from : ℕ) → from ≤ (get_or es i (entry 0 0 0)).place → inside_removal from (bare (drop i es)) ≡ suc (inside_removal ((get_or es i (entry 0 0 0)).place + (get_or es i (entry 0 0 0)).count) (bare (drop (i + 1) es)))
  inside-more from h = at_drop_more (λ l. inside_removal from (bare l)) es i (entry 0 0 0) lt ∙ cond-false (ltb here.place from) 0 _ (le-ltb here.place from h)

pub inside-all : (es : List Entry) (from i : ℕ) → length es ≤ i → inside_removal from (bare (drop i es)) ≡ 0
inside-all es from i h = at_drop_all (λ l. inside_removal from (bare l)) es i h

-- ---- the first edit past the end, as the library finds it

past_position : (len : ℕ) (es : List Entry) → past_end len (bare es) ≡ position_or_len (λ e. ltb len (e.place + e.count)) es
past_position len es = is_position_or_len (λ es. past_end len (bare es)) (λ e. ltb len (e.place + e.count)) refl (λ x xs. let more : suc (past_end len (bare xs)) ≡ 1 + past_end len (bare xs) = omega arith in ap (λ n. cond (ltb len (x.place + x.count)) 0 n) more) es

pub past_found : (len : ℕ) (es : List Entry) (r : Option ℕ) → r ≡ position (λ e. ltb len (e.place + e.count)) es → IsRank r (past_end len (bare es)) (length es)
past_found len es r is = rw past_position (found (position_or_len (λ e. ltb len (e.place + e.count)) es) r is)
  where
    found : (n : ℕ) (r : Option ℕ) → r ≡ cond (ltb n (length es)) (Some n) None → IsRank r n (length es)
    found n None is = ⊎_elim (λ t. let e = is ∙ cond-true (ltb n (length es)) (Some n) None t in let z : ◌≡◌ {A = ℕ} 0 1 = cc e in absurd (omega arith)) (λ f. ltb-false n (length es) f) (cases_Bool (ltb n (length es)))
    found n (Some k) is = ⊎_elim (λ t. let e = is ∙ cond-true (ltb n (length es)) (Some n) None t in let same : k ≡ n = cc e in (same, omega (arith, ltb-true n (length es) t))) (λ f. let e = is ∙ cond-false (ltb n (length es)) (Some n) None f in let z : ◌≡◌ {A = ℕ} 0 1 = cc e in absurd (omega arith)) (cases_Bool (ltb n (length es)))

-- ---- which test fails

module _ (room kept len : ℕ) (es : List Entry) where
  pub fails_13 : (k : ℕ) → k ≡ past_end len (bare es) → k < length es → Err (EditOutOfRange k) ≡ consume_check room kept len (bare es)
  fails_13 k is lt =
      ap (λ j. Err (EditOutOfRange j)) is
      ∙ sym (cond-true (ltb (past_end len (bare es)) (length (bare es))) _ _ (lt-ltb (past_end len (bare es)) (length (bare es)) (omega (arith, length-bare es))))

  module _ (in_list : length es ≤ past_end len (bare es)) where
    past_13 : ltb (past_end len (bare es)) (length (bare es)) ≡ false
    past_13 = le-ltb (past_end len (bare es)) (length (bare es)) (omega (arith, length-bare es))

    pub fails_14 : (k : ℕ) → k ≡ inside_removal 0 (bare es) → k < length es → Err (EditInsideRemoval k) ≡ consume_check room kept len (bare es)
    fails_14 k is lt =
        ap (λ j. Err (EditInsideRemoval j)) is
        ∙ sym (cond-false (ltb (past_end len (bare es)) (length (bare es))) _ _ past_13
        ∙ cond-true (ltb (inside_removal 0 (bare es)) (length (bare es))) _ _ (lt-ltb (inside_removal 0 (bare es)) (length (bare es)) (omega (arith, length-bare es))))

    module _ (apart : length es ≤ inside_removal 0 (bare es)) where
      past_14 : consume_check room kept len (bare es) ≡ cond (ltb room kept) (Err NoRoomForEdit) (Ok tt)
      past_14 =
          cond-false (ltb (past_end len (bare es)) (length (bare es))) _ _ past_13
          ∙ cond-false (ltb (inside_removal 0 (bare es)) (length (bare es))) _ _ (le-ltb (inside_removal 0 (bare es)) (length (bare es)) (omega (arith, length-bare es)))

      pub fails_15 : room < kept → Err NoRoomForEdit ≡ consume_check room kept len (bare es)
      fails_15 lt = sym (past_14 ∙ cond-true (ltb room kept) _ _ (lt-ltb room kept lt))

      pub passes : kept ≤ room → Ok tt ≡ consume_check room kept len (bare es)
      passes le = sym (past_14 ∙ cond-false (ltb room kept) _ _ (le-ltb room kept le))
