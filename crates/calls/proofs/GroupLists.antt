-- The events of groups, marked runs among other spans: their spans, and that they nest, are placed and go forward.
-- Assumes nothing.
use Rattle.std.proofs.Common.{◌≡◌, ℕ, ◌<◌, ◌≤◌, Bool, true, false, cond, ◌&&◌, ltb, leb, List, [], ◌∷◌, ◌++◌, length, filter, sym, refl, ap, ◌∙◌, subst, append-nil, arith}
use Rattle.std.specs.List.{AllByRecursion}
use Rattle.std.proofs.lemmas.List.Elements.{filter-append}
use Rattle.std.proofs.ByRecursion.{All-append, All-weaker}
use Rattle.std.proofs.lemmas.Bool.{cond-false, cond_both, and_from, lt-ltb, le-leb, not_from_false, true≢false}
use Rattle.machine.specs.declared.events.EventKind.TheVariants.{Enter, Exit}
use Rattle.machine.specs.declared.events.Name.{Name}
use Rattle.machine.specs.declared.events.Name.TheVariants as name
use Rattle.machine.specs.Invariant.{Edge}
use Rattle.machine.specs.Joins.{is_data}
use Rattle.machine.specs.Laws.{event_at, Segment, events_of, Tiles}
use Rattle.calls.specs.EventLists.{span, is_link, is_mail_address, nests, open_last, only_links_hold, spans, with_name, goes_forward, Placed}
use Rattle.calls.specs.Links.{filled, mail_in, split, splits}
use Rattle.calls.proofs.Names.{mail_leaf, mail_no_data, Other}
use Rattle.calls.proofs.Spans.{unlinked, Leaf, AtEdges, all-filled, tiles-append, tiles_le, tiles_full, named-filled, kept-all, kept-none, spans_of, spans-events, nests-events, open_events, only_links_events, placed_at, placed-events, forward-events}
use Rattle.calls.proofs.Ended.{Alone, alone_weaken, Standing}
use Rattle.calls.proofs.Mail.{mail-is-mail, splits-tiles, splits_edges}
use Rattle.calls.proofs.Groups.{Groups, rest, group, flat, group_events, group_links, NoneEmpty, begin, finish}
use Rattle.calls.proofs.Inside.{tiles-split}

-- ---- spans, leaves and links of the groups

unfoldable pub group_spans : List ℕ → Groups → List Segment
group_spans note (rest xs) = splits note xs
group_spans note (group xs ys g) = splits note xs ++ (ys ++ (span name.Link (begin ys) (finish ys) ∷ group_spans note g))

abbrev pub group_leaves : List ℕ → Groups → List Segment
group_leaves note (rest xs) = splits note xs
group_leaves note (group xs ys g) = splits note xs ++ (ys ++ group_leaves note g)

pub spans_group : (note : List ℕ) (g : Groups) → spans (group_events note g) ≡ group_spans note g
unfolding group_spans
spans_group note (rest xs) = spans_of note (splits note xs)
spans_group note (group xs ys g) =
    spans-events note (splits note xs) [] (event_at note Enter name.Link (begin ys) ∷ (events_of note ys ++ (event_at note Exit name.Link (finish ys) ∷ group_events note g)))
    ∙ ap (λ l. splits note xs ++ l) (spans-events note ys (event_at note Enter name.Link (begin ys) ∷ []) (event_at note Exit name.Link (finish ys) ∷ group_events note g))
    ∙ ap (λ l. splits note xs ++ (ys ++ (span name.Link (begin ys) (finish ys) ∷ l))) (spans_group note g)

pub all_split : (P : Segment → Type 0) (xs ys : List Segment) → AllByRecursion P (xs ++ ys) → AllByRecursion P xs × AllByRecursion P ys
all_split P [] ys h = (tt, h)
all_split P (x ∷ xs) ys h = let w = all_split P xs ys h.1 in ((h.0, w.0), w.1)

split-leaves : (note : List ℕ) (x : Segment) → Leaf x → AllByRecursion Leaf (split note x)
split-leaves note x h =
    cond_both (is_data x.name) (filled x.from (mail_in note x) x.to) (x ∷ []) (AllByRecursion Leaf)
    (λ _. all-filled Leaf (λ a b. refl) (mail_in note x) x.from x.to (All-weaker (λ y. is_mail_address y.name ≡ true) Leaf (λ y e. mail_leaf y.name e) (mail_in note x) (mail-is-mail note x)))
    (λ _. (h, tt))

splits-leaves : (note : List ℕ) (xs : List Segment) → AllByRecursion Leaf xs → AllByRecursion Leaf (splits note xs)
splits-leaves note [] h = tt
splits-leaves note (x ∷ xs) h = All-append Leaf (split note x) (splits note xs) (split-leaves note x h.0) (splits-leaves note xs h.1)

leaves_kept : (xs : List Segment) → AllByRecursion Leaf xs → filter unlinked xs ≡ xs
leaves_kept xs h = kept-all unlinked xs (All-weaker Leaf (λ x. unlinked x ≡ true) (λ x e. not_from_false (is_link x.name) e) xs h)

pub leaves_group : (note : List ℕ) (g : Groups) → AllByRecursion Leaf (flat g) → filter unlinked (group_spans note g) ≡ group_leaves note g
unfolding group_spans
leaves_group note (rest xs) h = leaves_kept (splits note xs) (splits-leaves note xs h)
leaves_group note (group xs ys g) h =
    let a = all_split Leaf xs (ys ++ flat g) h in
    let b = all_split Leaf ys (flat g) a.1 in
    filter-append unlinked (splits note xs) (ys ++ (span name.Link (begin ys) (finish ys) ∷ group_spans note g))
    ∙ (λ i. leaves_kept (splits note xs) (splits-leaves note xs a.0) i ++ filter-append unlinked ys (span name.Link (begin ys) (finish ys) ∷ group_spans note g) i)
    ∙ (λ i. splits note xs ++ (leaves_kept ys b.0 i ++ leaves_group note g b.1 i))

pub links_group : (note : List ℕ) (g : Groups) → AllByRecursion Leaf (flat g) → with_name is_link (group_spans note g) ≡ group_links g
unfolding group_spans
links_group note (rest xs) h = kept-none (λ x. is_link x.name) (splits note xs) (splits-leaves note xs h)
links_group note (group xs ys g) h =
    let a = all_split Leaf xs (ys ++ flat g) h in
    let b = all_split Leaf ys (flat g) a.1 in
    let p : Segment → Bool = λ x. is_link x.name in
    filter-append p (splits note xs) (ys ++ (span name.Link (begin ys) (finish ys) ∷ group_spans note g))
    ∙ (λ i. kept-none p (splits note xs) (splits-leaves note xs a.0) i ++ filter-append p ys (span name.Link (begin ys) (finish ys) ∷ group_spans note g) i)
    ∙ (λ i. kept-none p ys b.0 i ++ (span name.Link (begin ys) (finish ys) ∷ links_group note g b.1 i))

named-split : (p : Name → Bool) → Other p → (note : List ℕ) (x : Segment) → with_name p (split note x) ≡ with_name p (x ∷ [])
named-split p o note x =
    cond_both (is_data x.name) (filled x.from (mail_in note x) x.to) (x ∷ []) (λ l. with_name p l ≡ with_name p (x ∷ []))
    (λ d.
    named-filled p (o.of_data name.Data refl) (mail_in note x) x.from x.to
    ∙ kept-none (λ y. p y.name) (mail_in note x) (All-weaker (λ y. is_mail_address y.name ≡ true) (λ y. p y.name ≡ false) (λ y e. o.of_mail y.name e) (mail_in note x) (mail-is-mail note x))
    ∙ sym (kept-none (λ y. p y.name) (x ∷ []) (o.of_data x.name d, tt)))
    (λ _. refl)

named-splits : (p : Name → Bool) → Other p → (note : List ℕ) (xs : List Segment) → with_name p (splits note xs) ≡ with_name p xs
named-splits p o note [] = refl
named-splits p o note (x ∷ xs) =
    filter-append (λ y. p y.name) (split note x) (splits note xs)
    ∙ (λ i. named-split p o note x i ++ named-splits p o note xs i)
    ∙ sym (filter-append (λ y. p y.name) (x ∷ []) xs)

pub named_group : (p : Name → Bool) → Other p → (note : List ℕ) (g : Groups) → with_name p (group_spans note g) ≡ with_name p (flat g)
unfolding group_spans
named_group p o note (rest xs) = named-splits p o note xs
named_group p o note (group xs ys g) =
    let q : Segment → Bool = λ x. p x.name in
    let l = span name.Link (begin ys) (finish ys) in
    filter-append q (splits note xs) (ys ++ (l ∷ group_spans note g))
    ∙ (λ i. named-splits p o note xs i ++ filter-append q ys (l ∷ group_spans note g) i)
    ∙ ap (λ t. with_name p xs ++ (with_name p ys ++ t)) (cond-false (p name.Link) _ _ o.of_link ∙ named_group p o note g)
    ∙ ap (λ t. with_name p xs ++ t) (sym (filter-append q ys (flat g)))
    ∙ sym (filter-append q xs (ys ++ flat g))

-- ---- tiles

pub group_tiles : (note : List ℕ) (g : Groups) (a b : ℕ) → b ≤ length note → Tiles a b (flat g) → Tiles a b (group_leaves note g)
group_tiles note (rest xs) a b le t = splits-tiles note xs a b le t
group_tiles note (group xs ys g) a b le t =
    let w = tiles-split xs (ys ++ flat g) a b t in
    let v = tiles-split ys (flat g) w.0 b w.2 in
    let hi = tiles_le (ys ++ flat g) w.0 b w.2 in
    tiles-append (splits note xs) (ys ++ group_leaves note g) a w.0 b (splits-tiles note xs a w.0 (omega arith) w.1)
    (tiles-append ys (group_leaves note g) w.0 v.0 b v.1 (group_tiles note g v.0 b le v.2))

pub begin_tiles : (ys : List Segment) (a b : ℕ) → Tiles a b ys → 0 < length ys → begin ys ≡ a
begin_tiles [] a b t lt = absurd (omega arith)
begin_tiles (y ∷ ys) a b t lt = t.0

pub finish_tiles : (ys : List Segment) (a b : ℕ) → Tiles a b ys → 0 < length ys → finish ys ≡ b
finish_tiles [] a b t lt = absurd (omega arith)
finish_tiles (y ∷ []) a b t lt = t.2
finish_tiles (y ∷ z ∷ zs) a b t lt = finish_tiles (z ∷ zs) y.to b t.2 (omega arith)

some-tiles : (ys : List Segment) (a b : ℕ) → Tiles a b ys → 0 < length ys → a < b
some-tiles [] a b t lt = absurd (omega arith)
some-tiles (y ∷ ys) a b t lt = let hi = tiles_le ys y.to b t.2 in omega (arith, t.1)

outer_edges : (note : List ℕ) (ys : List Segment) → AllByRecursion (AtEdges note) ys → 0 < length ys → Edge note (begin ys) × Edge note (finish ys)
outer_edges note [] h lt = absurd (omega arith)
outer_edges note (y ∷ []) h lt = h.0
outer_edges note (y ∷ z ∷ zs) h lt = (h.0.0, (outer_edges note (z ∷ zs) h.1 (omega arith)).1)

-- ---- events

pub group_nests : (note : List ℕ) (g : Groups) (a b : ℕ) → b ≤ length note → Tiles a b (flat g) → NoneEmpty g → nests [] (group_events note g) ≡ true
group_nests note (rest xs) a b le t s = ap (nests []) (sym (append-nil (events_of note (splits note xs)))) ∙ nests-events note (splits note xs) [] [] (tiles_full (splits note xs) a b (splits-tiles note xs a b le t)) refl
group_nests note (group xs ys g) a b le t s =
    let w = tiles-split xs (ys ++ flat g) a b t in
    let v = tiles-split ys (flat g) w.0 b w.2 in
    let hi = tiles_le (ys ++ flat g) w.0 b w.2 in
    let lt : begin ys < finish ys = omega (arith, begin_tiles ys w.0 v.0 v.1 s.0, finish_tiles ys w.0 v.0 v.1 s.0, some-tiles ys w.0 v.0 v.1 s.0) in
    nests-events note (splits note xs) [] (event_at note Enter name.Link (begin ys) ∷ (events_of note ys ++ (event_at note Exit name.Link (finish ys) ∷ group_events note g)))
    (tiles_full (splits note xs) a w.0 (splits-tiles note xs a w.0 (omega arith) w.1))
    (nests-events note ys (event_at note Enter name.Link (begin ys) ∷ []) (event_at note Exit name.Link (finish ys) ∷ group_events note g) (tiles_full ys w.0 v.0 v.1)
    (and_from (ltb (begin ys) (finish ys)) (nests [] (group_events note g)) (lt-ltb (begin ys) (finish ys) lt) (group_nests note g v.0 b le v.2 s.1)))

pub group_open : (note : List ℕ) (g : Groups) → open_last [] (group_events note g) ≡ []
group_open note (rest xs) = ap (open_last []) (sym (append-nil (events_of note (splits note xs)))) ∙ open_events note (splits note xs) [] []
group_open note (group xs ys g) =
    open_events note (splits note xs) [] (event_at note Enter name.Link (begin ys) ∷ (events_of note ys ++ (event_at note Exit name.Link (finish ys) ∷ group_events note g)))
    ∙ open_events note ys (event_at note Enter name.Link (begin ys) ∷ []) (event_at note Exit name.Link (finish ys) ∷ group_events note g)
    ∙ group_open note g

pub group_holds : (note : List ℕ) (g : Groups) → AllByRecursion Leaf (flat g) → only_links_hold [] (group_events note g) ≡ true
group_holds note (rest xs) h = ap (only_links_hold []) (sym (append-nil (events_of note (splits note xs)))) ∙ only_links_events note (splits note xs) [] [] tt (splits-leaves note xs h) refl
group_holds note (group xs ys g) h =
    let a = all_split Leaf xs (ys ++ flat g) h in
    let b = all_split Leaf ys (flat g) a.1 in
    only_links_events note (splits note xs) [] (event_at note Enter name.Link (begin ys) ∷ (events_of note ys ++ (event_at note Exit name.Link (finish ys) ∷ group_events note g))) tt (splits-leaves note xs a.0)
    (only_links_events note ys (event_at note Enter name.Link (begin ys) ∷ []) (event_at note Exit name.Link (finish ys) ∷ group_events note g) refl b.0 (group_holds note g b.1))

pub group_placed : (note : List ℕ) (g : Groups) (a b : ℕ) → b ≤ length note → Tiles a b (flat g) → AllByRecursion (Standing note) (flat g) → NoneEmpty g → AllByRecursion (Placed note) (group_events note g)
group_placed note (rest xs) a b le t k s = subst (AllByRecursion (Placed note)) (append-nil (events_of note (splits note xs))) (placed-events note (splits note xs) a b [] (splits-tiles note xs a b le t) le (splits_edges note xs a b le t k) tt)
group_placed note (group xs ys g) a b le t k s =
    let w = tiles-split xs (ys ++ flat g) a b t in
    let v = tiles-split ys (flat g) w.0 b w.2 in
    let p = all_split (Standing note) xs (ys ++ flat g) k in
    let q = all_split (Standing note) ys (flat g) p.1 in
    let hi = tiles_le (ys ++ flat g) w.0 b w.2 in
    let hi2 = tiles_le (flat g) v.0 b v.2 in
    let edges : AllByRecursion (AtEdges note) ys = All-weaker (Standing note) (AtEdges note) (λ x h. h.0) ys q.0 in
    let outer = outer_edges note ys edges s.0 in
    placed-events note (splits note xs) a w.0 (event_at note Enter name.Link (begin ys) ∷ (events_of note ys ++ (event_at note Exit name.Link (finish ys) ∷ group_events note g)))
    (splits-tiles note xs a w.0 (omega arith) w.1) (omega arith) (splits_edges note xs a w.0 (omega arith) w.1 p.0) (
      placed_at note Enter name.Link (begin ys) (omega (arith, begin_tiles ys w.0 v.0 v.1 s.0)) outer.0,
      placed-events note ys w.0 v.0 (event_at note Exit name.Link (finish ys) ∷ group_events note g) v.1 (omega arith) edges
          (placed_at note Exit name.Link (finish ys) (omega (arith, finish_tiles ys w.0 v.0 v.1 s.0)) outer.1, group_placed note g v.0 b le v.2 q.1 s.1),
    )

pub group_forward : (note : List ℕ) (g : Groups) (a b : ℕ) → b ≤ length note → Tiles a b (flat g) → NoneEmpty g → goes_forward a (group_events note g) ≡ true
group_forward note (rest xs) a b le t s = ap (goes_forward a) (sym (append-nil (events_of note (splits note xs)))) ∙ forward-events note (splits note xs) a b [] (splits-tiles note xs a b le t) refl
group_forward note (group xs ys g) a b le t s =
    let w = tiles-split xs (ys ++ flat g) a b t in
    let v = tiles-split ys (flat g) w.0 b w.2 in
    let hi = tiles_le (ys ++ flat g) w.0 b w.2 in
    let bs = begin_tiles ys w.0 v.0 v.1 s.0 in
    let fs = finish_tiles ys w.0 v.0 v.1 s.0 in
    let tail : goes_forward (finish ys) (group_events note g) ≡ true = subst (λ k. goes_forward k (group_events note g) ≡ true) (sym fs) (group_forward note g v.0 b le v.2 s.1) in
    let end : goes_forward v.0 (event_at note Exit name.Link (finish ys) ∷ group_events note g) ≡ true =
    and_from (leb v.0 (finish ys)) (goes_forward (finish ys) (group_events note g)) (le-leb v.0 (finish ys) (omega arith)) tail in
    let run_on : goes_forward (begin ys) (events_of note ys ++ (event_at note Exit name.Link (finish ys) ∷ group_events note g)) ≡ true =
    forward-events note ys (begin ys) v.0 (event_at note Exit name.Link (finish ys) ∷ group_events note g) (subst (λ k. Tiles k v.0 ys) (sym bs) v.1) end in
    forward-events note (splits note xs) a w.0 (event_at note Enter name.Link (begin ys) ∷ (events_of note ys ++ (event_at note Exit name.Link (finish ys) ∷ group_events note g)))
    (splits-tiles note xs a w.0 (omega arith) w.1)
    (and_from (leb w.0 (begin ys)) (goes_forward (begin ys) (events_of note ys ++ (event_at note Exit name.Link (finish ys) ∷ group_events note g))) (le-leb w.0 (begin ys) (omega arith)) run_on)

-- ---- no two Data spans in a row

alone_filled : (xs : List Segment) (a b : ℕ) (ys : List Segment) → AllByRecursion (λ x. is_data x.name ≡ false) xs → Alone true ys → Alone false (filled a xs b ++ ys)
alone_filled [] a b ys h k = elim (ltb a b) as (λ v. Alone false (cond v (span name.Data a b ∷ []) [] ++ ys)) [ true ↦ (refl, k) | false ↦ alone_weaken true ys k ]
alone_filled (x ∷ xs) a b ys h k =
    let r : Alone (is_data x.name) (filled x.to xs b ++ ys) = subst (λ d. Alone d (filled x.to xs b ++ ys)) (sym h.0) (alone_filled xs x.to b ys h.1 k) in
    elim (ltb a x.from) as (λ v. Alone false ((cond v (span name.Data a x.from ∷ []) [] ++ x ∷ filled x.to xs b) ++ ys)) [ true ↦ (refl, (h.0, r)) | false ↦ (refl, r) ]

alone_split : (note : List ℕ) (x : Segment) (d : Bool) (ys : List Segment) → (d && is_data x.name) ≡ false → Alone (is_data x.name) ys → Alone d (split note x ++ ys)
alone_split note x d ys h k =
    cond_both (is_data x.name) (filled x.from (mail_in note x) x.to) (x ∷ []) (λ l. Alone d (l ++ ys))
    (λ e.
    let plain : d ≡ false = left_false d (is_data x.name) e h in
    subst (λ v. Alone v (filled x.from (mail_in note x) x.to ++ ys)) (sym plain)
    (alone_filled (mail_in note x) x.from x.to ys (All-weaker (λ y. is_mail_address y.name ≡ true) (λ y. is_data y.name ≡ false) (λ y m. mail_no_data y.name m) (mail_in note x) (mail-is-mail note x)) (subst (λ v. Alone v ys) e k)))
    (λ _. (h, k))
  where
    left_false : (u v : Bool) → v ≡ true → (u && v) ≡ false → u ≡ false
    left_false true true e f = f
    left_false true false e f = absurd (true≢false (sym e))
    left_false false v e f = refl

alone_splits : (note : List ℕ) (xs ys zs : List Segment) → ((d : Bool) → Alone d ys → Alone d zs) → (d : Bool) → Alone d (xs ++ ys) → Alone d (splits note xs ++ zs)
alone_splits note [] ys zs f d h = f d h
alone_splits note (x ∷ xs) ys zs f d h =
    subst (Alone d) (sym (Rattle.std.proofs.lemmas.List.append_assoc (split note x) (splits note xs) zs))
    (alone_split note x d (splits note xs ++ zs) h.0 (alone_splits note xs ys zs f (is_data x.name) h.1))

alone_same : (xs ys zs : List Segment) → ((d : Bool) → Alone d ys → Alone d zs) → (d : Bool) → Alone d (xs ++ ys) → Alone d (xs ++ zs)
alone_same [] ys zs f d h = f d h
alone_same (x ∷ xs) ys zs f d h = (h.0, alone_same xs ys zs f (is_data x.name) h.1)

pub group_alone : (note : List ℕ) (g : Groups) (d : Bool) → Alone d (flat g) → Alone d (group_leaves note g)
group_alone note (rest xs) d h =
    subst (Alone d) (append-nil (splits note xs)) (alone_splits note xs [] [] (λ _ k. k) d (subst (Alone d) (sym (append-nil xs)) h))
group_alone note (group xs ys g) d h =
    alone_splits note xs (ys ++ flat g) (ys ++ group_leaves note g) (λ d k. alone_same ys (flat g) (group_leaves note g) (λ d k. group_alone note g d k) d k) d h
