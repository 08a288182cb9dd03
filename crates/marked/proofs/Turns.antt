-- Marks put into a map, one after another: none is refused.
-- Assumes nothing.
use Rattle.std.proofs.Common.{◌≡◌, ℕ, ◌+◌, ◌*◌, ◌<◌, ◌≤◌, false, ◌||◌, eqb, ltb, List, [], ◌∷◌, ◌++◌, length, Ok, sym, ap, ◌∙◌, subst, ⊎_elim, arith}
use Rattle.std.proofs.lemmas.List.{append_assoc, length-append}
use Rattle.std.proofs.lemmas.Bool.{cond-false, le-ltb, eqb-true, cases_Bool}
use Rattle.std.specs.List.{push}
use Rattle.text.specs.declared.spans.Span.{Span}
use Rattle.edit_map.specs.declared.entries.Side.TheVariants.{Front}
use Rattle.edit_map.specs.Edits.{Edit, put, idle, count_at, added_before, add_answer}
use Rattle.edit_map.specs.Laws.{InOrder}
use Rattle.marked.specs.Marked.{closing}
use Rattle.marked.specs.Marks.{IsInTurn, marks}
use Rattle.marked.proofs.Puts.{put_first, earlier, count_small, marks_of}

-- ---- one mark

not_idle : (xs : List ℕ) → 0 < length xs → idle 0 xs ≡ false
not_idle xs some = ⊎_elim (λ t. absurd (omega (arith, eqb-true (length xs) 0 t))) (λ f. f) (cases_Bool (eqb (length xs) 0))

pub mark-accepted : (room kept place : ℕ) (xs : List ℕ) (es : List (Edit ℕ)) → place ≤ 1024 → 0 < length xs → InOrder place 1024 es → length es < 1024 → kept + length xs ≤ room → add_answer Front room kept es place 0 xs ≡ Ok tt
mark-accepted room kept place xs es low some o few fits =
    let counts : count_at place es + 0 ≤ 4096 = omega (arith, count_small place 1024 place es o) in
    let low' : place ≤ 4096 = omega arith in
    let places : length (put Front place 0 xs es) ≤ 1024 = omega (arith, (put_first place 1024 xs es low o).few) in
    cond-false (ltb 4096 place || ltb 4096 (count_at place es + 0)) _ _ (λ i. le-ltb 4096 place low' i || le-ltb 4096 (count_at place es + 0) counts i)
    ∙ cond-false (idle 0 xs) _ _ (not_idle xs some)
    ∙ cond-false (ltb 1024 (length (put Front place 0 xs es)) || ltb room (kept + length xs)) _ _ (λ i. le-ltb 1024 (length (put Front place 0 xs es)) places i || le-ltb room (kept + length xs) fits i)

pub mark-put : (place : ℕ) (xs : List ℕ) (es : List (Edit ℕ)) → 0 < length xs → added_before place 0 xs es ≡ put Front place 0 xs es
mark-put place xs es some = cond-false (idle 0 xs) es (put Front place 0 xs es) (not_idle xs some)

-- ---- the second mark of a span

pub second : (from to : ℕ) (es new : List (Edit ℕ)) → from ≤ to → to ≤ 1024 → InOrder to 1024 es → length es + 2 ≤ 1024 → new ≡ put Front to 0 closing es → InOrder from 1024 new × (length new < 1024)
second from to es new forward high o few is =
    let p = put_first to 1024 closing es high o in
    let small : length (put Front to 0 closing es) < 1024 = omega (arith, p.few) in (
      subst (InOrder from 1024) (sym is) (earlier from to 1024 (put Front to 0 closing es) forward p.in_order),
      subst (λ (l : List (Edit ℕ)). length l < 1024) (sym is) small,
    )

-- ---- a loop over the spans, from the last to the first

at-span : (c len : ℕ) (before : List Span) (x : Span) (done : List Span) → IsInTurn c len (before ++ (x ∷ done)) → (x.from ≤ x.to) × (x.to ≤ len) × IsInTurn x.to len done
at-span c len [] x done t = (t.1, t.2, t.3)
at-span c len (b ∷ before) x done t = at-span b.to len before x done t.3

-- what the marks of x ask, where those of the spans behind it are put
pub record Turn (x : Span) (es : List (Edit ℕ)) (kept room : ℕ) : Type 0 where
  pub forward : (x.from ≤ x.to) × (x.to ≤ 1024)
  pub order : InOrder x.to 1024 es
  pub few : length es + 2 ≤ 1024
  pub fits : kept + 3 ≤ room

pub turn : (xs before : List Span) (x : Span) (done : List Span) (es : List (Edit ℕ)) (kept room : ℕ) → IsInTurn 0 1024 xs → length xs ≤ 341 → xs ≡ before ++ (x ∷ done) → es ≡ marks done → kept ≡ 3 * length done → 3 * length xs ≤ room → Turn x es kept room
turn xs before x done es kept room t few all made k r =
    let here = at-span 0 1024 before x done (subst (IsInTurn 0 1024) all t) in
    let m = marks_of x.to 1024 done here.2 in
    let long = ap length all ∙ length-append before (x ∷ done) in
    record {
      forward = (here.0, here.1);
      order = subst (InOrder x.to 1024) (sym made) m.in_order;
      few = omega (arith, m.few, ap length made);
      fits = omega arith;
    }

-- a span is taken from the end of those that are left
pub one_less : (xs left before : List Span) (x : Span) (done : List Span) → xs ≡ left ++ done → left ≡ push before x → xs ≡ before ++ (x ∷ done)
one_less xs left before x done all is = all ∙ ap (λ l. l ++ done) is ∙ append_assoc before (x ∷ []) done

pub all_done : (xs left done : List Span) → xs ≡ left ++ done → length left ≡ 0 → xs ≡ done
all_done xs [] done all none = all
all_done xs (x ∷ left) done all none = absurd (omega arith)
