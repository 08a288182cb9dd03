-- Edits that lie in order in a list are made, where there is room.
-- Assumes nothing.
use Rattle.std.proofs.Common.{◌≡◌, ℕ, suc, ◌+◌, ◌≤◌, ltb, List, [], ◌∷◌, ◌++◌, length, take, drop, Ok, Err, Result, sym, refl, ap, ◌∙◌, arith}
use Rattle.std.proofs.lemmas.List.{take_at}
use Rattle.std.proofs.lemmas.Bool.{cond-true, cond-false, le-ltb, le-leb}
use Rattle.text.specs.declared.refusals.Fault.{Fault}
use Rattle.text.specs.declared.refusals.Fault.TheVariants.{BufferTooShort}
use Rattle.text.specs.Lent.{fits, overwritten}
use Rattle.edit_map.specs.Edits.{Edit, applied, past_end, inside_removal, consume_answer, size_answer, needed, unless_refused}
use Rattle.edit_map.specs.Laws.{InOrder}

pub not_both : {X Y : Type 0} (n : X) (f : Fault) (r : Result X Fault) → Err f ≡ r → r ≡ Ok n → Y
not_both {X} n f r e o = let z : ◌≡◌ {A = ℕ} 0 1 = cc (e, o) in absurd (omega arith)

none-past_end : {A : Type 0} (from len : ℕ) (es : List (Edit A)) → InOrder from len es → past_end len es ≡ length es
none-past_end from len [] o = refl
none-past_end from len (e ∷ es) o =
    cond-false (ltb len (e.place + e.count)) 0 (suc (past_end len es)) (le-ltb len (e.place + e.count) o.1)
    ∙ ap suc (none-past_end (e.place + e.count) len es o.2)

none_inside : {A : Type 0} (from len : ℕ) (es : List (Edit A)) → InOrder from len es → inside_removal from es ≡ length es
none_inside from len [] o = refl
none_inside from len (e ∷ es) o =
    cond-false (ltb e.place from) 0 (suc (inside_removal (e.place + e.count) es)) (le-ltb e.place from o.0)
    ∙ ap suc (none_inside (e.place + e.count) len es o.2)

-- xs stand in front of what was written
pub record Front {A : Type 0} (xs out out' : List A) (n : ℕ) : Type 0 where
  pub count : n ≡ length xs
  pub inside : n ≤ length out
  pub written : take n out' ≡ xs

-- shown: the list, as it is lent
module _ {A : Type 0} (es : List (Edit A)) (list shown out : List A) (is : shown ≡ list) (o : InOrder 0 (length list) es) (enough : length (applied es list) ≤ length out) where
  pub consumed : (room kept : ℕ) → kept ≤ room → consume_answer room kept es shown out ≡ Ok (length (applied es list))
  consumed room kept le =
      let a : length es ≤ past_end (length list) es = omega (arith, none-past_end 0 (length list) es o) in
      let b : length es ≤ inside_removal 0 es = omega (arith, none_inside 0 (length list) es o) in
      ap (λ l. consume_answer room kept es l out) is
      ∙ ap (λ r. unless_refused r (size_answer (applied es list) out))
      (cond-false (ltb (past_end (length list) es) (length es)) _ _ (le-ltb (past_end (length list) es) (length es) a)
      ∙ cond-false (ltb (inside_removal 0 es) (length es)) _ _ (le-ltb (inside_removal 0 es) (length es) b)
      ∙ cond-false (ltb room kept) _ _ (le-ltb room kept le))
      ∙ cond-true (fits (applied es list) out) (Ok (length (applied es list))) (Err (BufferTooShort (needed (applied es list)))) (le-leb (length (applied es list)) (length out) enough)

  pub front : (out' : List A) (n room kept : ℕ) → out' ≡ overwritten (applied es shown) out → kept ≤ room → Ok n ≡ consume_answer room kept es shown out → Front (applied es list) out out' n
  front out' n room kept w le e =
      let xs = applied es list in
      let same : length (applied es list) ≡ n = cc (e, consumed room kept le) in
      record {
        count = sym same;
        inside = omega arith;
        written =
            ap (take n) (w ∙ ap (λ l. overwritten (applied es l) out) is
            ∙ cond-true (fits xs out) (xs ++ drop (length xs) out) out (le-leb (length xs) (length out) enough))
            ∙ take_at xs (drop (length xs) out) n same;
      }
