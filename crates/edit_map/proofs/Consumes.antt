-- Which way the call ends that makes the edits.
-- Assumes nothing.
use Rattle.std.proofs.Common.{◌≡◌, ℕ, ◌+◌, ◌-◌, ◌<◌, ◌≤◌, min, List, [], ◌∷◌, ◌++◌, length, drop, IfOk, IfErr, Ok, Err, Result, sym, refl, ap, ◌∙◌, subst, ⊎_elim, arith}
use Rattle.std.specs.List.{sum_by}
use Rattle.std.proofs.lemmas.List.{length-take-le, length-drop}
use Rattle.std.proofs.lemmas.List.Sums.{sum_by-cons}
use Rattle.std.proofs.lemmas.Bool.{cond-true, cond-false, le-leb, lt-leb, cases_Bool}
use Rattle.text.specs.declared.refusals.Fault.{Fault}
use Rattle.text.specs.declared.refusals.Fault.TheVariants.{BufferTooShort}
use Rattle.text.specs.Lent.{fits, overwritten}
use Rattle.edit_map.specs.declared.entries.Entry.{Entry}
use Rattle.edit_map.specs.declared.map.EditMap.{EditMap}
use Rattle.edit_map.specs.Edits.{applied, needed, consume_check, size_answer, unless_refused, consume_answer, after}
use Rattle.edit_map.specs.Entries.{total, edits, bare}
use Rattle.edit_map.specs.Laws.{InOrder, removed, stored, one_at_a_time, ValuesKept, OrderKept}
use Rattle.edit_map.specs.View.{entries_of, kept_count, edits_of, AsNew}
use Rattle.edit_map.proofs.Checks.{check_bare, passed}
use Rattle.edit_map.proofs.Lengths.{length-applied, removed-within, as_one_at_a_time, values_kept, order_kept}

-- ---- how many elements are needed

stored-edits : {A : Type 0} (es : List Entry) (s : List A) → total es ≤ length s → stored (edits es s) ≡ total es
stored-edits [] s h = refl
stored-edits (e ∷ es) s h =
    let fits : total es ≤ length (drop e.size s) = simp length-drop (omega arith) in
    (λ i. length-take-le e.size s (omega arith) i + stored-edits es (drop e.size s) fits i)

removed-sum : {A : Type 0} (es : List Entry) (s : List A) → removed (edits es s) ≡ sum_by (λ e. e.count) es
removed-sum [] s = refl
removed-sum (e ∷ es) s = omega (arith, removed-sum es (drop e.size s), sum_by-cons (λ (e : Entry). e.count) e es)

module _ {A : Type 0} (es : List Entry) (s list : List A) (order : InOrder 0 (length list) (edits es s)) where
  pub removed_fits : sum_by (λ e. e.count) es ≤ length list
  removed_fits = omega (arith, removed-sum es s, removed-within 0 (length list) (edits es s) (omega arith) order)

  pub new-length : total es ≤ length s → length (applied (edits es s) list) ≡ length list - sum_by (λ e. e.count) es + total es
  new-length h = omega (arith, length-applied (edits es s) list order, stored-edits es s h, removed-sum es s, removed_fits)

module _ {A : Type 0} (xs out : List A) where
  pub short : (n : ℕ) → n ≡ length xs → n < 18446744073709551616 → length out < n → Err (BufferTooShort n) ≡ size_answer xs out
  short n is small lt =
      let e : min (length xs) 18446744073709551615 ≡ n = omega arith in
      ap (λ k. Err (BufferTooShort k)) (sym e) ∙ sym (cond-false (fits xs out) (Ok (length xs)) (Err (BufferTooShort (needed xs))) (lt-leb (length xs) (length out) (omega arith)))

  pub too_many : 18446744073709551616 ≤ length xs → length out < 18446744073709551616 → Err (BufferTooShort 18446744073709551615) ≡ size_answer xs out
  too_many big lt =
      let e : min (length xs) 18446744073709551615 ≡ 18446744073709551615 = omega arith in
      ap (λ k. Err (BufferTooShort k)) (sym e) ∙ sym (cond-false (fits xs out) (Ok (length xs)) (Err (BufferTooShort (needed xs))) (lt-leb (length xs) (length out) (omega arith)))

  pub long-enough : (n : ℕ) → n ≡ length xs → length xs ≤ length out → Ok n ≡ size_answer xs out
  long-enough n is le = ap Ok is ∙ sym (cond-true (fits xs out) (Ok (length xs)) (Err (BufferTooShort (needed xs))) (le-leb (length xs) (length out) le))

  pub over : (out' : List A) → out' ≡ xs ++ drop (length xs) out → length xs ≤ length out → out' ≡ overwritten xs out
  over out' is le = is ∙ sym (cond-true (fits xs out) (xs ++ drop (length xs) out) out (le-leb (length xs) (length out) le))

  written_length : (n : ℕ) → Ok n ≡ size_answer xs out → n ≡ length xs
  written_length n e =
      ⊎_elim
      (λ t. let h = e ∙ cond-true (fits xs out) (Ok (length xs)) (Err (BufferTooShort (needed xs))) t in cc h)
      (λ f. let h = e ∙ cond-false (fits xs out) (Ok (length xs)) (Err (BufferTooShort (needed xs))) f in let z : ◌≡◌ {A = ℕ} 0 1 = cc h in absurd (omega arith))
      (cases_Bool (fits xs out))

-- ---- the three ends

-- what the call that makes the edits leaves: out and out' are the buffer before and after it
pub record Consumed {A : Type 0} (m m' : EditMap) (store list out out' : List A) (r : Result ℕ Fault) : Type 0 where
  pub answer : r ≡ consume_answer (length store) (kept_count m) (edits_of m store) list out
  pub written : out' ≡ after r (overwritten (applied (edits_of m store) list) out) out
  pub as_new : IfOk r (λ _. AsNew m')
  pub refused : IfErr r (λ _. m' ≡ m)
  pub length : IfOk r (λ n. n + removed (edits_of m store) ≡ length list + stored (edits_of m store))
  pub one_at_a_time : IfOk r (λ _. applied (edits_of m store) list ≡ one_at_a_time (edits_of m store) list)
  pub values_kept : IfOk r (λ _. ValuesKept (edits_of m store) list)
  pub order_kept : IfOk r (λ _. OrderKept (edits_of m store))

module _ {A : Type 0} (m : EditMap) (s list out : List A) where
  answer-after : {c : Result (Unit {0}) Fault} → consume_check (length s) (kept_count m) (length list) (bare (entries_of m)) ≡ c → unless_refused c (size_answer (applied (edits_of m s) list) out) ≡ consume_answer (length s) (kept_count m) (edits_of m s) list out
  answer-after {c} e = ap (λ t. unless_refused t (size_answer (applied (edits_of m s) list) out)) (sym e ∙ check_bare (length s) (kept_count m) (length list) (entries_of m) s)

  refused_with : (f : Fault) → Err f ≡ consume_answer (length s) (kept_count m) (edits_of m s) list out → Consumed m m s list out out (Err f)
  refused_with f e = record { answer = e; written = refl; as_new = tt; refused = refl; length = tt; one_at_a_time = tt; values_kept = tt; order_kept = tt }

  pub turned_away : (f : Fault) (r : Result ℕ Fault) → r ≡ Err f → consume_check (length s) (kept_count m) (length list) (bare (entries_of m)) ≡ Err f → Consumed m m s list out out r
  turned_away f r is e = subst (Consumed m m s list out out) (sym is) (refused_with f (answer-after e))

  pub too_short : (f : Fault) (r : Result ℕ Fault) (out' : List A) → r ≡ Err f → consume_check (length s) (kept_count m) (length list) (bare (entries_of m)) ≡ Ok tt → Err f ≡ size_answer (applied (edits_of m s) list) out → out' ≡ out → Consumed m m s list out out' r
  too_short f r out' is e short same =
      subst (λ (o : List A). Consumed m m s list out o r) (sym same) (subst (Consumed m m s list out out) (sym is) (refused_with f (short ∙ answer-after e)))

  pub ready : consume_check (length s) (kept_count m) (length list) (bare (entries_of m)) ≡ Ok tt → InOrder 0 (length list) (edits_of m s) × (kept_count m ≤ length s)
  ready e = passed (length s) (kept_count m) (length list) (edits_of m s) (sym (check_bare (length s) (kept_count m) (length list) (entries_of m) s) ∙ e)

  pub made_all : (n : ℕ) (m' : EditMap) (out' : List A) → consume_check (length s) (kept_count m) (length list) (bare (entries_of m)) ≡ Ok tt → Ok n ≡ size_answer (applied (edits_of m s) list) out → out' ≡ overwritten (applied (edits_of m s) list) out → AsNew m' → Consumed m m' s list out out' (Ok n)
  made_all n m' out' e size written new =
      let o = (ready e).0 in
      record {
        answer = size ∙ answer-after e;
        written = written;
        as_new = new;
        refused = tt;
        length = ap (λ k. k + removed (edits_of m s)) (written_length (applied (edits_of m s) list) out n size) ∙ length-applied (edits_of m s) list o;
        one_at_a_time = as_one_at_a_time (edits_of m s) list o;
        values_kept = values_kept (edits_of m s) list o;
        order_kept = order_kept (length list) (edits_of m s) o;
      }
