-- Which spans of a covered stretch lie inside one of the spans that it was made from.
-- Assumes nothing.
use Rattle.std.proofs.Common.{◌≡◌, ℕ, ◌<◌, ◌≤◌, true, leb, List, [], ◌∷◌, ◌++◌, sym, refl, ap, ◌∙◌, subst, ⊎_elim, append-nil, arith}
use Rattle.std.specs.List.{AllByRecursion}
use Rattle.std.proofs.lemmas.List.Elements.{filter-append}
use Rattle.std.proofs.lemmas.Bool.{cond-false, and_from, and_left, and_right, le-leb, lt-leb}
use Rattle.machine.specs.Laws.{Segment, Tiles}
use Rattle.calls.specs.Claims.{In, covers, inside}
use Rattle.calls.proofs.Spans.{tiles-append, tiles_le, kept-all}

pub tiles-split : (xs ys : List Segment) (a c : ℕ) → Tiles a c (xs ++ ys) → (b : ℕ) × Tiles a b xs × Tiles b c ys
tiles-split [] ys a c t = (a, refl, t)
tiles-split (x ∷ xs) ys a c t = let w = tiles-split xs ys x.to c t.2 in (w.0, (t.0, t.1, w.1), w.2)

-- spans after x, before x and of x
pub inside-after : (x : Segment) (zs : List Segment) (a b : ℕ) → Tiles a b zs → x.to ≤ a → inside x zs ≡ []
inside-after x [] a b t le = refl
inside-after x (z ∷ zs) a b t le =
    cond-false (covers x z) _ _ (and_right (leb x.from z.from) (leb z.to x.to) (lt-leb z.to x.to (omega (arith, t.1))))
    ∙ inside-after x zs z.to b t.2 (omega (arith, t.1))

pub inside-before : (x : Segment) (zs : List Segment) (a b : ℕ) → Tiles a b zs → b ≤ x.from → inside x zs ≡ []
inside-before x [] a b t le = refl
inside-before x (z ∷ zs) a b t le =
    let hi = tiles_le zs z.to b t.2 in
    cond-false (covers x z) _ _ (and_left (leb x.from z.from) (leb z.to x.to) (lt-leb x.from z.from (omega (arith, t.0, t.1))))
    ∙ inside-before x zs z.to b t.2 le

all_covered : (x : Segment) (zs : List Segment) (a : ℕ) → Tiles a x.to zs → x.from ≤ a → AllByRecursion (λ z. covers x z ≡ true) zs
all_covered x [] a t le = tt
all_covered x (z ∷ zs) a t le =
    let hi = tiles_le zs z.to x.to t.2 in (
      and_from (leb x.from z.from) (leb z.to x.to) (le-leb x.from z.from (omega (arith, t.0))) (le-leb z.to x.to hi),
      all_covered x zs z.to t.2 (omega (arith, t.1)),
    )

pub inside-all : (x : Segment) (zs : List Segment) → Tiles x.from x.to zs → inside x zs ≡ zs
inside-all x zs t = kept-all (covers x) zs (all_covered x zs x.from t (omega arith))

-- where a span of a covered stretch stands
pub in_tiles : (x : Segment) (xs : List Segment) (a b : ℕ) → Tiles a b xs → In x xs → (a ≤ x.from) × (x.from < x.to) × (x.to ≤ b)
in_tiles x [] a b t h = absurd h
in_tiles x (y ∷ ys) a b t h =
    let hi = tiles_le ys y.to b t.2 in
    ⊎_elim
    (λ e.
    let f = ap (λ (z : Segment). z.from) e in
    let g = ap (λ (z : Segment). z.to) e in
    (omega (arith, t.0), omega (arith, t.0, t.1), omega arith))
    (λ k. let w = in_tiles x ys y.to b t.2 k in (omega (arith, t.1, w.0), w.1, w.2))
    h

-- each span replaced by spans that cover it
abbrev pub expand : (Segment → List Segment) → List Segment → List Segment
expand g [] = []
expand g (x ∷ xs) = g x ++ expand g xs

module _ (g : Segment → List Segment) (most : ℕ) (good : (x : Segment) → x.from < x.to → x.to ≤ most → Tiles x.from x.to (g x)) where
  pub expand_tiles : (xs : List Segment) (a b : ℕ) → b ≤ most → Tiles a b xs → Tiles a b (expand g xs)
  expand_tiles [] a b le t = t
  expand_tiles (x ∷ xs) a b le t =
      let hi = tiles_le xs x.to b t.2 in
      tiles-append (g x) (expand g xs) a x.to b
      (subst (λ k. Tiles k x.to (g x)) t.0 (good x (omega (arith, t.0, t.1)) (omega arith)))
      (expand_tiles xs x.to b le t.2)

  pub inside_expand : (x : Segment) (xs : List Segment) (a b : ℕ) → b ≤ most → Tiles a b xs → In x xs → inside x (expand g xs) ≡ g x
  inside_expand x [] a b le t h = absurd h
  inside_expand x (y ∷ ys) a b le t h =
      let hi = tiles_le ys y.to b t.2 in
      let here : Tiles y.from y.to (g y) = good y (omega (arith, t.0, t.1)) (omega arith) in
      let after : Tiles y.to b (expand g ys) = expand_tiles ys y.to b le t.2 in
      filter-append (covers x) (g y) (expand g ys) ∙
      ⊎_elim
      (λ e.
      let f = ap (λ (z : Segment). z.to) e in
      ap (λ z. inside x (g z) ++ inside x (expand g ys)) (sym e)
      ∙ ap (λ l. inside x (g x) ++ l) (inside-after x (expand g ys) y.to b after (omega arith))
      ∙ append-nil (inside x (g x))
      ∙ inside-all x (g x) (subst (λ z. Tiles z.from z.to (g z)) (sym e) here))
      (λ k.
      let w = in_tiles x ys y.to b t.2 k in
      ap (λ l. l ++ inside x (expand g ys)) (inside-before x (g y) y.from y.to here w.0)
      ∙ inside_expand x ys y.to b le t.2 k)
      h
