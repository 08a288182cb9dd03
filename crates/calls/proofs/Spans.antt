-- Spans that cover a stretch of bytes without a gap, and what their events say.
-- Assumes nothing.
use Rattle.std.proofs.Common.{◌≡◌, ℕ, suc, ◌<◌, ◌≤◌, Bool, true, false, cond, not, ◌&&◌, ltb, leb, List, [], ◌∷◌, ◌++◌, length, filter, sym, refl, ap, ◌∙◌, subst, ⊎_elim, append-nil, arith}
use Rattle.std.specs.List.{AllByRecursion}
use Rattle.std.proofs.lemmas.List.Elements.{filter-append}
use Rattle.std.proofs.ByRecursion.{All-append, All-weaker}
use Rattle.std.proofs.lemmas.Bool.{cond-true, cond-false, cases_lt, and_from, and_left, and_right, lt-ltb, le-ltb, le-leb, lt-leb, eq-eqb, not_from_false}
use Rattle.machine.specs.declared.events.Event.{Event}
use Rattle.machine.specs.declared.events.EventKind.{EventKind}
use Rattle.machine.specs.declared.events.EventKind.TheVariants.{Enter, Exit}
use Rattle.machine.specs.declared.events.Name.{Name}
use Rattle.machine.specs.declared.events.Name.TheVariants as name
use Rattle.machine.specs.Invariant.{Edge}
use Rattle.machine.specs.Laws.{name_number, same_name, event_at, Segment, events_of, Tiles}
use Rattle.calls.specs.EventLists.{span, is_link, nests, open_last, stands_right, only_links_hold, spans_from, spans, with_name, leaves, in_order, holding, goes_forward, Placed}
use Rattle.calls.specs.Links.{data_between, filled}

-- ---- tiles

pub tiles-append : (xs ys : List Segment) (a b c : ℕ) → Tiles a b xs → Tiles b c ys → Tiles a c (xs ++ ys)
tiles-append [] ys a b c t u = subst (λ k. Tiles k c ys) (sym t) u
tiles-append (x ∷ xs) ys a b c t u = (t.0, t.1, tiles-append xs ys x.to b c t.2 u)

pub tiles_le : (xs : List Segment) (a b : ℕ) → Tiles a b xs → a ≤ b
tiles_le [] a b t = omega arith
tiles_le (x ∷ xs) a b t = let h = tiles_le xs x.to b t.2 in omega (arith, t.1)

pub tiles-between : (a b : ℕ) → a ≤ b → Tiles a b (data_between a b)
tiles-between a b le =
    ⊎_elim
    (λ lt. subst (λ l. Tiles a b l) (sym (cond-true (ltb a b) (span name.Data a b ∷ []) [] (lt-ltb a b lt))) (refl, lt, refl))
    (λ ge. subst (λ l. Tiles a b l) (sym (cond-false (ltb a b) (span name.Data a b ∷ []) [] (le-ltb a b ge))) (omega arith))
    (cases_lt a b)

-- spans in order from a to b, none empty, perhaps with gaps between them
abbrev pub Spaced : ℕ → ℕ → List Segment → Type 0
Spaced a b [] = a ≤ b
Spaced a b (x ∷ xs) = (a ≤ x.from) × (x.from < x.to) × Spaced x.to b xs

pub tiles-filled : (xs : List Segment) (a b : ℕ) → Spaced a b xs → Tiles a b (filled a xs b)
tiles-filled [] a b h = tiles-between a b h
tiles-filled (x ∷ xs) a b h =
    tiles-append (data_between a x.from) (x ∷ filled x.to xs b) a x.from b (tiles-between a x.from h.0) (refl, h.1, tiles-filled xs x.to b h.2)

-- ---- in order, and each byte once

pub tiles-ordered : (xs : List Segment) (a b : ℕ) → Tiles a b xs → in_order a xs ≡ true
tiles-ordered [] a b t = refl
tiles-ordered (x ∷ xs) a b t = and_from (leb a x.from) (in_order x.to xs) (le-leb a x.from (omega (arith, t.0))) (tiles-ordered xs x.to b t.2)

pub holding-before : (xs : List Segment) (a b i : ℕ) → Tiles a b xs → i < a → holding xs i ≡ 0
holding-before [] a b i t lt = refl
holding-before (x ∷ xs) a b i t lt =
    cond-false (leb x.from i && ltb i x.to) _ _ (and_left (leb x.from i) (ltb i x.to) (lt-leb x.from i (omega (arith, t.0))))
    ∙ holding-before xs x.to b i t.2 (omega (arith, t.1))

pub holding-once : (xs : List Segment) (a b i : ℕ) → Tiles a b xs → a ≤ i → i < b → holding xs i ≡ 1
holding-once [] a b i t lo hi = absurd (omega arith)
holding-once (x ∷ xs) a b i t lo hi =
    ⊎_elim
    (λ lt.
    cond-true (leb x.from i && ltb i x.to) _ _ (and_from (leb x.from i) (ltb i x.to) (le-leb x.from i (omega (arith, t.0))) (lt-ltb i x.to lt))
    ∙ ap suc (holding-before xs x.to b i t.2 lt))
    (λ ge.
    cond-false (leb x.from i && ltb i x.to) _ _ (and_right (leb x.from i) (ltb i x.to) (le-ltb i x.to ge))
    ∙ holding-once xs x.to b i t.2 ge hi)
    (cases_lt i x.to)

-- ---- spans that pass a test

abbrev pub linking : Segment → Bool
linking x = is_link x.name

abbrev pub unlinked : Segment → Bool
unlinked x = not (is_link x.name)

pub kept-all : (p : Segment → Bool) (xs : List Segment) → AllByRecursion (λ x. p x ≡ true) xs → filter p xs ≡ xs
kept-all p [] h = refl
kept-all p (x ∷ xs) h = cond-true (p x) _ _ h.0 ∙ ap (λ l. x ∷ l) (kept-all p xs h.1)

pub kept-none : (p : Segment → Bool) (xs : List Segment) → AllByRecursion (λ x. p x ≡ false) xs → filter p xs ≡ []
kept-none p [] h = refl
kept-none p (x ∷ xs) h = cond-false (p x) _ _ h.0 ∙ kept-none p xs h.1

pub all-between : (P : Segment → Type 0) (a b : ℕ) → P (span name.Data a b) → AllByRecursion P (data_between a b)
all-between P a b h = elim (ltb a b) as (λ v. AllByRecursion P (cond v (span name.Data a b ∷ []) [])) [ true ↦ (h, tt) | false ↦ tt ]

pub all-filled : (P : Segment → Type 0) → ((a b : ℕ) → P (span name.Data a b)) → (xs : List Segment) (a b : ℕ) → AllByRecursion P xs → AllByRecursion P (filled a xs b)
all-filled P d [] a b h = all-between P a b (d a b)
all-filled P d (x ∷ xs) a b h = All-append P (data_between a x.from) (x ∷ filled x.to xs b) (all-between P a x.from (d a x.from)) (h.0, all-filled P d xs x.to b h.1)

-- data is none of the spans of another name
pub named-filled : (p : Name → Bool) → p name.Data ≡ false → (xs : List Segment) (a b : ℕ) → with_name p (filled a xs b) ≡ with_name p xs
named-filled p d [] a b = kept-none (λ x. p x.name) (data_between a b) (all-between (λ x. p x.name ≡ false) a b d)
named-filled p d (x ∷ xs) a b =
    let h = named-filled p d xs x.to b in
    filter-append (λ y. p y.name) (data_between a x.from) (x ∷ filled x.to xs b)
    ∙ ap (λ l. l ++ with_name p (x ∷ filled x.to xs b)) (kept-none (λ y. p y.name) (data_between a x.from) (all-between (λ y. p y.name ≡ false) a x.from d))
    ∙ (elim (p x.name) as (λ v. cond v (x ∷ with_name p (filled x.to xs b)) (with_name p (filled x.to xs b)) ≡ cond v (x ∷ with_name p xs) (with_name p xs)) [ true ↦ ap (λ l. x ∷ l) h | false ↦ h ])

-- ---- what events say

pub spans-events : (note : List ℕ) (xs : List Segment) (still es : List Event) → spans_from still (events_of note xs ++ es) ≡ xs ++ spans_from still es
spans-events note [] still es = refl
spans-events note (x ∷ xs) still es = ap (λ l. x ∷ l) (spans-events note xs still es)

abbrev pub Full : Segment → Type 0
Full x = x.from < x.to

pub nests-events : (note : List ℕ) (xs : List Segment) (still es : List Event) → AllByRecursion Full xs → nests still es ≡ true → nests still (events_of note xs ++ es) ≡ true
nests-events note [] still es f h = h
nests-events note (x ∷ xs) still es f h =
    and_from (same_name x.name x.name && ltb x.from x.to) (nests still (events_of note xs ++ es))
    (and_from (same_name x.name x.name) (ltb x.from x.to) (eq-eqb (name_number x.name) (name_number x.name) refl) (lt-ltb x.from x.to f.0))
    (nests-events note xs still es f.1 h)

pub open_events : (note : List ℕ) (xs : List Segment) (still es : List Event) → open_last still (events_of note xs ++ es) ≡ open_last still es
open_events note [] still es = refl
open_events note (x ∷ xs) still es = open_events note xs still es

abbrev pub Leaf : Segment → Type 0
Leaf x = is_link x.name ≡ false

-- the latest enter still open is that of a Link, if there is one
abbrev pub Host : List Event → Type 0
Host [] = Unit {0}
Host (o ∷ still) = is_link o.name ≡ true

leaf_stands : (still : List Event) (note : List ℕ) (x : Segment) → Host still → Leaf x → stands_right (event_at note Enter x.name x.from).kind still (event_at note Enter x.name x.from) ≡ true
leaf_stands [] note x k h = refl
leaf_stands (o ∷ still) note x k h = and_from (is_link o.name) (not (is_link x.name)) k (not_from_false (is_link x.name) h)

pub only_links_events : (note : List ℕ) (xs : List Segment) (still es : List Event) → Host still → AllByRecursion Leaf xs → only_links_hold still es ≡ true → only_links_hold still (events_of note xs ++ es) ≡ true
only_links_events note [] still es k f h = h
only_links_events note (x ∷ xs) still es k f h =
    and_from (stands_right (event_at note Enter x.name x.from).kind still (event_at note Enter x.name x.from)) (only_links_hold still (events_of note xs ++ es)) (leaf_stands still note x k f.0) (only_links_events note xs still es k f.1 h)

-- both ends of a span may be points of events
abbrev pub AtEdges : List ℕ → Segment → Type 0
AtEdges note x = Edge note x.from × Edge note x.to

pub placed_at : (note : List ℕ) (kind : EventKind) (n : Name) (i : ℕ) → i ≤ length note → Edge note i → Placed note (event_at note kind n i)
placed_at note kind n i le e = record { inside = le; at_its_place = refl; not_between = e }

pub placed-events : (note : List ℕ) (xs : List Segment) (a b : ℕ) (es : List Event) → Tiles a b xs → b ≤ length note → AllByRecursion (AtEdges note) xs → AllByRecursion (Placed note) es → AllByRecursion (Placed note) (events_of note xs ++ es)
placed-events note [] a b es t le k h = h
placed-events note (x ∷ xs) a b es t le k h =
    let hi = tiles_le xs x.to b t.2 in
    (placed_at note Enter x.name x.from (omega (arith, t.0, t.1)) k.0.0, (placed_at note Exit x.name x.to (omega arith) k.0.1, placed-events note xs x.to b es t.2 le k.1 h))

pub tiles_full : (xs : List Segment) (a b : ℕ) → Tiles a b xs → AllByRecursion Full xs
tiles_full [] a b t = tt
tiles_full (x ∷ xs) a b t = (omega (arith, t.0, t.1), tiles_full xs x.to b t.2)

pub forward-events : (note : List ℕ) (xs : List Segment) (a b : ℕ) (es : List Event) → Tiles a b xs → goes_forward b es ≡ true → goes_forward a (events_of note xs ++ es) ≡ true
forward-events note [] a b es t h = subst (λ k. goes_forward k es ≡ true) (sym t) h
forward-events note (x ∷ xs) a b es t h =
    and_from (leb a x.from) (goes_forward x.from (event_at note Exit x.name x.to ∷ (events_of note xs ++ es))) (le-leb a x.from (omega (arith, t.0)))
    (and_from (leb x.from x.to) (goes_forward x.to (events_of note xs ++ es)) (le-leb x.from x.to (omega (arith, t.0, t.1))) (forward-events note xs x.to b es t.2 h))

-- ---- spans of events, and the events of spans

pub spans_of : (note : List ℕ) (xs : List Segment) → spans (events_of note xs) ≡ xs
spans_of note xs = ap spans (sym (append-nil (events_of note xs))) ∙ spans-events note xs [] [] ∙ append-nil xs

pub leaves_of : (note : List ℕ) (xs : List Segment) → AllByRecursion Leaf xs → leaves (events_of note xs) ≡ xs
leaves_of note xs h =
    ap (with_name (λ n. not (is_link n))) (spans_of note xs)
    ∙ kept-all (λ x. not (is_link x.name)) xs (All-weaker Leaf (λ x. not (is_link x.name) ≡ true) (λ x e. not_from_false (is_link x.name) e) xs h)
