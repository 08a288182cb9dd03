-- An edit put before all edits of a batch, and the batch of the marks of spans.
-- Assumes nothing.
use Rattle.std.proofs.Common.{◌≡◌, ℕ, suc, ◌+◌, ◌-◌, ◌*◌, ◌<◌, ◌≤◌, false, cond, eqb, ltb, List, [], ◌∷◌, ◌++◌, length, take, drop, sym, refl, ap, ◌∙◌, subst, ⊎_elim, arith}
use Rattle.std.proofs.lemmas.List.{append_assoc, drop-drop}
use Rattle.std.proofs.lemmas.Bool.{cond-true, cond-false, le-ltb, eq-eqb, eqb-true, cases_Bool, cases_order}
use Rattle.text.specs.declared.spans.Span.{Span}
use Rattle.edit_map.specs.declared.entries.Side.TheVariants.{Front}
use Rattle.edit_map.specs.Edits.{Edit, edit, put, count_at, applied_from, past_end, inside_removal}
use Rattle.edit_map.specs.Laws.{InOrder}
use Rattle.marked.specs.Marked.{opening, closing, marked_from}
use Rattle.marked.specs.Marks.{IsInTurn, with_marks, marks}

-- ---- one edit put before the others

module _ (p : ℕ) (zs : List ℕ) (e : Edit ℕ) (es : List (Edit ℕ)) where
  put_above : p < e.place → put Front p 0 zs (e ∷ es) ≡ edit p 0 zs ∷ e ∷ es
  put_above lt =
      let le : p ≤ e.place = omega arith in
      let ne : eqb e.place p ≡ false = ⊎_elim (λ t. absurd (omega (arith, eqb-true e.place p t))) (λ f. f) (cases_Bool (eqb e.place p)) in
      cond-false (ltb e.place p) _ _ (le-ltb e.place p le) ∙ cond-false (eqb e.place p) _ _ ne

  put_same : e.place ≡ p → put Front p 0 zs (e ∷ es) ≡ edit p (e.count + 0) (zs ++ e.elements) ∷ es
  put_same is =
      let le : p ≤ e.place = omega arith in
      cond-false (ltb e.place p) _ _ (le-ltb e.place p le) ∙ cond-true (eqb e.place p) _ _ (eq-eqb e.place p is)

-- what holds of the batch with the new edit
pub record PutFirst (p len : ℕ) (zs : List ℕ) (es new : List (Edit ℕ)) : Type 0 where
  pub in_order : InOrder p len new
  pub few : length new ≤ length es + 1
  pub made : (i : ℕ) (t : List ℕ) → applied_from i new t ≡ take (p - i) t ++ (zs ++ applied_from p es (drop (p - i) t))

at_front : (p len : ℕ) (zs : List ℕ) (es : List (Edit ℕ)) → p ≤ len → InOrder p len es → PutFirst p len zs es (edit p 0 zs ∷ es)
at_front p len zs es le o =
    let z : p ≡ p + 0 = omega arith in
    record {
      in_order = (omega arith, omega arith, subst (λ (n : ℕ). InOrder n len es) z o);
      few = omega arith;
      made = λ i t.
          let y : p - i + 0 ≡ p - i = omega arith in
          λ j. take (p - i) t ++ (zs ++ applied_from (sym z j) es (drop (y j) t));
    }

onto_first : (p len : ℕ) (zs : List ℕ) (e : Edit ℕ) (es : List (Edit ℕ)) → e.place ≡ p → InOrder p len (e ∷ es) → PutFirst p len zs (e ∷ es) (edit p (e.count + 0) (zs ++ e.elements) ∷ es)
onto_first p len zs e es is o =
    let stop : e.place + e.count ≡ p + (e.count + 0) = omega arith in
    let within = o.1 in
    record {
      in_order = (omega arith, omega (arith, o.1), subst (λ (n : ℕ). InOrder n len es) stop o.2);
      few = omega arith;
      made = λ i t.
          let none : 0 ≡ e.place - p = omega arith in
          let rest : p - i + (e.count + 0) ≡ p - i + (e.place - p + e.count) = omega arith in
          ap (λ l. take (p - i) t ++ l) (
          append_assoc zs e.elements (applied_from (p + (e.count + 0)) es (drop (p - i + (e.count + 0)) t))
          ∙ (λ j. zs ++ (take (none j) (drop (p - i) t) ++ (e.elements ++ applied_from (sym stop j) es (◌∙◌ (ap (λ k. drop k t) rest) (sym (drop-drop (e.place - p + e.count) (p - i) t)) j)))));
    }

pub put_first : (p len : ℕ) (zs : List ℕ) (es : List (Edit ℕ)) → p ≤ len → InOrder p len es → PutFirst p len zs es (put Front p 0 zs es)
put_first p len zs [] le o = at_front p len zs [] le o
put_first p len zs (e ∷ es) le o =
    ⊎_elim
    (λ same. subst (PutFirst p len zs (e ∷ es)) (sym (put_same p zs e es same)) (onto_first p len zs e es same o))
    (λ other. ⊎_elim
    (λ below. absurd (omega (arith, o.0)))
    (λ above. subst (PutFirst p len zs (e ∷ es)) (sym (put_above p zs e es above)) (at_front p len zs (e ∷ es) le o))
    other)
    (cases_order e.place p)

-- ---- edits that lie in order

pub earlier : (a b len : ℕ) (es : List (Edit ℕ)) → a ≤ b → InOrder b len es → InOrder a len es
earlier a b len [] le o = tt
earlier a b len (e ∷ es) le o = (omega (arith, o.0), o.1, o.2)

pub count_small : (from len p : ℕ) (es : List (Edit ℕ)) → InOrder from len es → count_at p es ≤ len
count_small from len p [] o = omega arith
count_small from len p (e ∷ es) o =
    let later = count_small (e.place + e.count) len p es o.2 in
    ⊎_elim
    (λ t. omega (arith, cond-true (ltb e.place p) (count_at p es) (cond (eqb e.place p) e.count 0) t))
    (λ f. ⊎_elim
    (λ t. omega (arith, cond-false (ltb e.place p) (count_at p es) (cond (eqb e.place p) e.count 0) f, cond-true (eqb e.place p) e.count 0 t, o.1))
    (λ n. omega (arith, cond-false (ltb e.place p) (count_at p es) (cond (eqb e.place p) e.count 0) f, cond-false (eqb e.place p) e.count 0 n))
    (cases_Bool (eqb e.place p)))
    (cases_Bool (ltb e.place p))

pub none-past_end : (from len : ℕ) (es : List (Edit ℕ)) → InOrder from len es → past_end len es ≡ length es
none-past_end from len [] o = refl
none-past_end from len (e ∷ es) o =
    cond-false (ltb len (e.place + e.count)) 0 (suc (past_end len es)) (le-ltb len (e.place + e.count) o.1)
    ∙ ap suc (none-past_end (e.place + e.count) len es o.2)

pub none_inside : (from len : ℕ) (es : List (Edit ℕ)) → InOrder from len es → inside_removal from es ≡ length es
none_inside from len [] o = refl
none_inside from len (e ∷ es) o =
    cond-false (ltb e.place from) 0 (suc (inside_removal (e.place + e.count) es)) (le-ltb e.place from o.0)
    ∙ ap suc (none_inside (e.place + e.count) len es o.2)

-- ---- the marks of spans

pub record TwoMarks (c len : ℕ) (x : Span) (es new : List (Edit ℕ)) : Type 0 where
  pub in_order : InOrder c len new
  pub few : length new ≤ length es + 2
  pub made : (i : ℕ) (s : List ℕ) → i ≤ x.from → applied_from i new (drop i s) ≡ take (x.from - i) (drop i s) ++ (opening x.kind ++ (take (x.to - x.from) (drop x.from s) ++ (closing ++ applied_from x.to es (drop x.to s))))

-- what is left from a on, after the bytes up to b
pub dropped : (a b : ℕ) (s : List ℕ) → a ≤ b → drop (b - a) (drop a s) ≡ drop b s
dropped a b s le = let e : a + (b - a) ≡ b = omega arith in drop-drop (b - a) a s ∙ ap (λ k. drop k s) e

pub two_marks : (c len : ℕ) (x : Span) (es : List (Edit ℕ)) → c ≤ x.from → x.from ≤ x.to → x.to ≤ len → InOrder x.to len es → TwoMarks c len x es (with_marks x es)
two_marks c len x es low forward high o =
    let inner = put_first x.to len closing es high o in
    let outer = put_first x.from len (opening x.kind) (put Front x.to 0 closing es) (omega arith) (earlier x.from x.to len (put Front x.to 0 closing es) forward inner.in_order) in
    record {
      in_order = earlier c x.from len (with_marks x es) low outer.in_order;
      few = omega (arith, inner.few, outer.few);
      made = λ i s le.
          outer.made i (drop i s)
          ∙ ap (λ l. take (x.from - i) (drop i s) ++ (opening x.kind ++ l)) (
          ap (applied_from x.from (put Front x.to 0 closing es)) (dropped i x.from s le)
          ∙ inner.made x.from (drop x.from s)
          ∙ ap (λ l. take (x.to - x.from) (drop x.from s) ++ (closing ++ applied_from x.to es l)) (dropped x.from x.to s forward));
    }

pub record MarksOf (c len : ℕ) (xs : List Span) : Type 0 where
  pub in_order : InOrder c len (marks xs)
  pub few : length (marks xs) ≤ 2 * length xs
  pub made : (s : List ℕ) → applied_from c (marks xs) (drop c s) ≡ marked_from s c xs

pub marks_of : (c len : ℕ) (xs : List Span) → IsInTurn c len xs → MarksOf c len xs
marks_of c len [] t = record { in_order = tt; few = omega arith; made = λ s. refl }
marks_of c len (x ∷ xs) t =
    let rest = marks_of x.to len xs t.3 in
    let both = two_marks c len x (marks xs) t.0 t.1 t.2 rest.in_order in
    record {
      in_order = both.in_order;
      few = omega (arith, rest.few, both.few);
      made = λ s. both.made c s t.0 ∙ ap (λ l. take (x.from - c) (drop c s) ++ (opening x.kind ++ (take (x.to - x.from) (drop x.from s) ++ (closing ++ l)))) (rest.made s);
    }
