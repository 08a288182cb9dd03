-- The edits of the marks made in a note give its marked copy, and none is refused.
-- Assumes nothing.
use Rattle.std.proofs.Common.{◌≡◌, ℕ, ◌+◌, ◌-◌, ◌*◌, ◌≤◌, ltb, List, [], ◌∷◌, ◌++◌, length, take, drop, Ok, Err, sym, refl, ap, ◌∙◌, subst, arith}
use Rattle.std.proofs.lemmas.List.{append_assoc, length-append, length-drop, take-append-drop, take_at, drop_at}
use Rattle.std.proofs.lemmas.Bool.{cond-true, cond-false, le-ltb, le-leb}
use Rattle.text.specs.declared.refusals.Fault.TheVariants.{BufferTooShort}
use Rattle.text.specs.declared.spans.Span.{Span}
use Rattle.text.specs.Bytes.{part}
use Rattle.text.specs.Lent.{fits}
use Rattle.text.proofs.Runs.{part_length}
use Rattle.edit_map.specs.Edits.{Edit, applied, past_end, inside_removal, consume_check, consume_answer, size_answer, needed, unless_refused}
use Rattle.edit_map.specs.Laws.{InOrder}
use Rattle.marked.specs.Marked.{opening, closing, marked_from, marked_copy, unmarked, unmarked_from, OnlyMarks}
use Rattle.marked.specs.Marks.{IsInTurn, marks}
use Rattle.marked.proofs.Puts.{none-past_end, none_inside, marks_of, dropped}

pub wider : (c len more : ℕ) (xs : List Span) → len ≤ more → IsInTurn c len xs → IsInTurn c more xs
wider c len more [] le t = tt
wider c len more (x ∷ xs) le t = (t.0, t.1, omega (arith, t.2), wider x.to len more xs le t.3)

check_passed : (room kept len : ℕ) (es : List (Edit ℕ)) → InOrder 0 len es → kept ≤ room → consume_check room kept len es ≡ Ok tt
check_passed room kept len es o le =
    let a : length es ≤ past_end len es = omega (arith, none-past_end 0 len es o) in
    let b : length es ≤ inside_removal 0 es = omega (arith, none_inside 0 len es o) in
    cond-false (ltb (past_end len es) (length es)) _ _ (le-ltb (past_end len es) (length es) a)
    ∙ cond-false (ltb (inside_removal 0 es) (length es)) _ _ (le-ltb (inside_removal 0 es) (length es) b)
    ∙ cond-false (ltb room kept) _ _ (le-ltb room kept le)

size_fits : (xs out : List ℕ) → length xs ≤ length out → size_answer xs out ≡ Ok (length xs)
size_fits xs out le = cond-true (fits xs out) (Ok (length xs)) (Err (BufferTooShort (needed xs))) (le-leb (length xs) (length out) le)

module _ (s : List ℕ) (xs : List Span) (es : List (Edit ℕ)) (is : es ≡ marks xs) (turn : IsInTurn 0 (length s) xs) where
  pub copied : applied es s ≡ marked_copy s xs
  copied = ap (λ l. applied l s) is ∙ (marks_of 0 (length s) xs turn).made s

  pub copy-accepted : (room kept : ℕ) (out : List ℕ) → kept ≤ room → length (marked_copy s xs) ≤ length out → consume_answer room kept es s out ≡ Ok (length (marked_copy s xs))
  copy-accepted room kept out le enough =
      let o = subst (InOrder 0 (length s)) (sym is) (marks_of 0 (length s) xs turn).in_order in
      ap (λ r. unless_refused r (size_answer (applied es s) out)) (check_passed room kept (length s) es o le)
      ∙ ap (λ l. size_answer l out) copied
      ∙ size_fits (marked_copy s xs) out enough

-- ---- how long the copy is

length_from : (s : List ℕ) (c : ℕ) (xs : List Span) → IsInTurn c (length s) xs → length (marked_from s c xs) ≡ length s - c + 3 * length xs
length_from s c [] t = omega (arith, length-drop c s)
length_from s c (x ∷ xs) t =
    let rest = marked_from s x.to xs in
    let h = length_from s x.to xs t.3 in
    let from-within : x.from ≤ length s = omega (arith, t.1, t.2) in
    let d = length-append closing rest in
    let b = length-append (part x.from x.to s) (closing ++ rest) in
    let o = length-append (opening x.kind) (part x.from x.to s ++ (closing ++ rest)) in
    let a = length-append (part c x.from s) (opening x.kind ++ (part x.from x.to s ++ (closing ++ rest))) in
    let p = part_length c x.from s from-within in
    let q = part_length x.from x.to s t.2 in
    omega (arith, t.0, t.1, t.2)

pub length-copy : (s : List ℕ) (xs : List Span) → IsInTurn 0 (length s) xs → length (marked_copy s xs) ≡ length s + 3 * length xs
length-copy s xs t = omega (arith, length_from s 0 xs t)

-- ---- the copy without its marks

-- a part and what follows it
joined : (a b : ℕ) (s : List ℕ) → a ≤ b → part a b s ++ drop b s ≡ drop a s
joined a b s le = ap (λ l. part a b s ++ l) (sym (dropped a b s le)) ∙ take-append-drop (b - a) (drop a s)

-- two lists in front of the rest
past_two : (xs ys zs : List ℕ) (n : ℕ) → length xs + length ys ≡ n → drop n (xs ++ (ys ++ zs)) ≡ zs
past_two xs ys zs n e = ap (drop n) (sym (append_assoc xs ys zs)) ∙ drop_at (xs ++ ys) zs n (length-append xs ys ∙ e)

unmarked-rest : (s : List ℕ) (c : ℕ) (xs : List Span) → IsInTurn c (length s) xs → unmarked_from c xs (marked_from s c xs) ≡ drop c s
unmarked-rest s c [] t = refl
unmarked-rest s c (x ∷ xs) t =
    let before = part c x.from s in
    let inside = part x.from x.to s in
    let rest = marked_from s x.to xs in
    let from-within : x.from ≤ length s = omega (arith, t.1, t.2) in
    let p : length (part c x.from s) ≡ x.from - c = part_length c x.from s from-within in
    let q : length (part x.from x.to s) ≡ x.to - x.from = part_length x.from x.to s t.2 in
    let p' : length (part c x.from s) + 2 ≡ x.from - c + 2 = omega arith in
    let q' : length (part x.from x.to s) + 1 ≡ x.to - x.from + 1 = omega arith in
    let opened : drop (x.from - c + 2) (marked_from s c (x ∷ xs)) ≡ inside ++ (closing ++ rest) = past_two before (opening x.kind) (inside ++ (closing ++ rest)) (x.from - c + 2) p' in
    let closed : drop (x.to - x.from + 1) (inside ++ (closing ++ rest)) ≡ rest = past_two inside closing rest (x.to - x.from + 1) q' in
    (λ i. take_at before (opening x.kind ++ (inside ++ (closing ++ rest))) (x.from - c) p i
    ++ (take (x.to - x.from) (opened i) ++ unmarked_from x.to xs (drop (x.to - x.from + 1) (opened i))))
    ∙ (λ i. before ++ (take_at inside (closing ++ rest) (x.to - x.from) q i ++ unmarked_from x.to xs (closed i)))
    ∙ ap (λ l. before ++ (inside ++ l)) (unmarked-rest s x.to xs t.3)
    ∙ ap (λ l. before ++ l) (joined x.from x.to s t.1)
    ∙ joined c x.from s t.0

pub copy-unmarked : (s : List ℕ) (xs : List Span) → IsInTurn 0 (length s) xs → unmarked xs (marked_copy s xs) ≡ s
copy-unmarked s xs t = unmarked-rest s 0 xs t

pub only_marks : (s : List ℕ) (xs : List Span) → IsInTurn 0 (length s) xs → OnlyMarks s xs
only_marks s xs t = record { size = length-copy s xs t; only_marks = copy-unmarked s xs t }
