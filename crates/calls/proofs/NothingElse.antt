-- No other event lists than those of the definitions have what is claimed.
-- Assumes nothing.
use Rattle.std.proofs.Common.{◌≡◌, ℕ, zero, suc, ◌<◌, ◌≤◌, Bool, true, false, cond, not, ◌&&◌, eqb, ltb, leb, ◌⊎◌, List, [], ◌∷◌, ◌++◌, length, filter, sym, refl, ap, ◌∙◌, inl, inr, ⊎_elim, arith}
use Rattle.std.specs.List.{AllByRecursion}
use Rattle.std.proofs.ByRecursion.{All-weaker, all_kept_by, kept_by_passes}
use Rattle.std.proofs.lemmas.Bool.{cases_Bool, cases_lt, cond-true, cond-false, cond_both, and_parts, and_left, and_right, leb-true, ltb-true, lt-ltb, le-ltb, lt-leb, eq-eqb, not-true, not_from_false, not_from_true, true≢false}
use Rattle.rules.specs.Web.{is_web}
use Rattle.machine.specs.declared.events.Event.{Event}
use Rattle.machine.specs.declared.events.EventKind.{EventKind}
use Rattle.machine.specs.declared.events.EventKind.TheVariants.{Enter, Exit}
use Rattle.machine.specs.declared.events.Name.{Name}
use Rattle.machine.specs.declared.events.Name.TheVariants as name
use Rattle.machine.specs.Joins.{is_data}
use Rattle.machine.specs.Laws.{same_name, Segment, Tiles}
use Rattle.calls.specs.declared.links.MarkedRun.{MarkedRun}
use Rattle.calls.specs.EventLists.{span, is_line_ending, is_link, is_web_address, is_mail_address, open_then, closes, nests, closed_by, spans_from, spans, with_name, leaves, in_order, touches, data_apart, holding, Placed, LawfulEvents}
use Rattle.calls.specs.Links.{marked_in_turn, data_between, filled, ended_spans, ended_events, resolved_events}
use Rattle.calls.specs.Claims.{FullyRead, FullyResolved}
use Rattle.calls.proofs.Names.{mail_leaf, mail_no_data, web_good, line_good, data_is}
use Rattle.calls.proofs.Spans.{unlinked, Full, kept-none, spans_of}
use Rattle.calls.proofs.Ended.{Alone, segment-leaves, segment-no-mail, ended-lawful, ended-read}
use Rattle.calls.proofs.Resolves.{resolved-lawful, resolved_read, resolved-resolved}
use Rattle.calls.proofs.EqualLists.{Fits, no_cons, heads, kept-head, tails, same-events}

-- ---- spans of a lawful list are not empty and end in the note

full_spans : (es still : List Event) → nests still es ≡ true → AllByRecursion Full (spans_from still es)
full_spans [] still h = tt
full_spans (e ∷ es) still h = go e.kind still h (λ still' k. full_spans es still' k)
  where
    go : (d : EventKind) (still : List Event) → (closes d still e && nests (open_then d still e) es) ≡ true → ((still' : List Event) → nests still' es ≡ true → AllByRecursion Full (spans_from still' es)) → AllByRecursion Full (closed_by d still e ++ spans_from (open_then d still e) es)
    go Enter still h rec = rec (e ∷ still) h
    go Exit [] h rec = absurd (true≢false (sym h))
    go Exit (o ∷ still) h rec =
        let a = and_parts (same_name o.name e.name && ltb o.point.index e.point.index) (nests still es) h in
        (ltb-true o.point.index e.point.index (and_parts (same_name o.name e.name) (ltb o.point.index e.point.index) a.0).1, rec still a.1)

ends-spans : (note : List ℕ) (es still : List Event) → AllByRecursion (Placed note) es → AllByRecursion (λ x. x.to ≤ length note) (spans_from still es)
ends-spans note [] still h = tt
ends-spans note (e ∷ es) still h = go e.kind still (λ still'. ends-spans note es still' h.1)
  where
    go : (d : EventKind) (still : List Event) → ((still' : List Event) → AllByRecursion (λ x. x.to ≤ length note) (spans_from still' es)) → AllByRecursion (λ x. x.to ≤ length note) (closed_by d still e ++ spans_from (open_then d still e) es)
    go Enter still rec = rec (e ∷ still)
    go Exit [] rec = rec []
    go Exit (o ∷ still) rec = (h.0.inside, rec still)

-- ---- in order, each byte once: tiles

not_held : (xs : List Segment) (a i : ℕ) → in_order a xs ≡ true → AllByRecursion Full xs → i < a → holding xs i ≡ 0
not_held [] a i o f lt = refl
not_held (x ∷ xs) a i o f lt =
    let w = and_parts (leb a x.from) (in_order x.to xs) o in
    let lo = leb-true a x.from w.0 in
    cond-false (leb x.from i && ltb i x.to) _ _ (and_left (leb x.from i) (ltb i x.to) (lt-leb x.from i (omega arith)))
    ∙ not_held xs x.to i w.1 f.1 (omega (arith, f.0))

tiles-from : (xs : List Segment) (a b : ℕ) → a ≤ b → in_order a xs ≡ true → AllByRecursion Full xs → AllByRecursion (λ x. x.to ≤ b) xs → ((i : ℕ) → a ≤ i → i < b → holding xs i ≡ 1) → Tiles a b xs
tiles-from [] a b le o f t h = ⊎_elim (λ lt. absurd (omega (arith, h a (omega arith) lt))) (λ ge. omega arith) (cases_lt a b)
tiles-from (x ∷ xs) a b le o f t h =
    let w = and_parts (leb a x.from) (in_order x.to xs) o in
    let lo = leb-true a x.from w.0 in
    let start : x.from ≡ a =
    ⊎_elim
    (λ lt.
    let none : holding (x ∷ xs) a ≡ 0 =
    cond-false (leb x.from a && ltb a x.to) _ _ (and_left (leb x.from a) (ltb a x.to) (lt-leb x.from a lt))
    ∙ not_held xs x.to a w.1 f.1 (omega (arith, f.0)) in
    absurd (omega (arith, none, h a (omega arith) (omega (arith, f.0, t.0)))))
    (λ ge. omega arith)
    (cases_lt a x.from) in (
      start,
      omega (arith, f.0),
      tiles-from xs x.to b t.0 w.1 f.1 t.1
          (λ i l u.
          sym (cond-false (leb x.from i && ltb i x.to) (suc (holding xs i)) (holding xs i) (and_right (leb x.from i) (ltb i x.to) (le-ltb i x.to l)))
          ∙ h i (omega (arith, f.0)) u),
    )

leaf_tiles : (member : ℕ → Bool) (note : List ℕ) (es : List Event) → LawfulEvents note es → FullyRead member note es → Tiles 0 (length note) (leaves es)
leaf_tiles member note es l r =
    tiles-from (leaves es) 0 (length note) (omega arith) r.ordered
    (all_kept_by unlinked Full (spans es) (full_spans es [] l.nested))
    (all_kept_by unlinked (λ x. x.to ≤ length note) (spans es) (ends-spans note es [] l.placed))
    (λ i _ u. r.each_byte_once i u)

-- ---- tiles of which no two Data touch have no two Data in a row

apart_alone : (xs : List Segment) (a b : ℕ) → Tiles a b xs → data_apart xs ≡ true → Alone false xs
apart_alone [] a b t h = tt
apart_alone (x ∷ []) a b t h = (refl, tt)
apart_alone (x ∷ y ∷ ys) a b t h =
    let p = and_parts (not (touches x (y ∷ ys))) (data_apart (y ∷ ys)) h in
    let r = apart_alone (y ∷ ys) x.to b t.2 p.1 in
    (refl, (both_data (is_data x.name && is_data y.name) (eqb x.to y.from) (eq-eqb x.to y.from (sym t.2.0)) p.0, r.1))
  where
    both_data : (u v : Bool) → v ≡ true → not (u && v) ≡ true → u ≡ false
    both_data true true e f = absurd (true≢false (sym f))
    both_data true false e f = absurd (true≢false (sym e))
    both_data false v e f = refl

-- ---- tiles without two Data in a row are the others with the gaps filled

abbrev other : Segment → Bool
other x = not (is_data x.name)

between_none : (a b : ℕ) → b ≤ a → data_between a b ≡ []
between_none a b le = cond-false (ltb a b) (span name.Data a b ∷ []) [] (le-ltb a b le)

between-one : (a b : ℕ) → a < b → data_between a b ≡ span name.Data a b ∷ []
between-one a b lt = cond-true (ltb a b) (span name.Data a b ∷ []) [] (lt-ltb a b lt)

data_span : (x : Segment) (a b : ℕ) → is_data x.name ≡ true → x.from ≡ a → x.to ≡ b → x ≡ span name.Data a b
data_span x a b d f t = let n = data_is x.name d in λ i. record { name = n i; from = f i; to = t i }

keeps_other : (x : Segment) (xs : List Segment) (a b : ℕ) → is_data x.name ≡ false → x.from ≡ a → xs ≡ filled x.to (filter other xs) b → x ∷ xs ≡ filled a (filter other (x ∷ xs)) b
keeps_other x xs a b h e rec =
    ap (λ l. x ∷ l) rec
    ∙ sym (ap (λ l. l ++ x ∷ filled x.to (filter other xs) b) (between_none a x.from (omega arith)))
    ∙ ap (λ l. filled a l b) (sym (cond-true (other x) (x ∷ filter other xs) (filter other xs) (not_from_false (is_data x.name) h)))

refilled : (xs : List Segment) (a b : ℕ) (d : Bool) → Tiles a b xs → Alone d xs → xs ≡ filled a (filter other xs) b
refilled [] a b d t k = sym (between_none a b (omega arith))
refilled (x ∷ []) a b d t k =
    ⊎_elim
    (λ h.
    ap (λ l. l ∷ []) (data_span x a b h t.0 t.2) ∙ sym (between-one a b (omega (arith, t.1, t.2)))
    ∙ ap (λ l. filled a l b) (sym (cond-false (other x) (x ∷ []) [] (not_from_true (is_data x.name) h))))
    (λ h. keeps_other x [] a b h t.0 (refilled [] x.to b d t.2 tt))
    (cases_Bool (is_data x.name))
refilled (x ∷ z ∷ zs) a b d t k =
    ⊎_elim
    (λ h.
    let plain : is_data z.name ≡ false = ap (λ u. u && is_data z.name) (sym h) ∙ k.1.0 in
    let rec = refilled zs z.to b (is_data z.name) t.2.2 k.1.1 in
    let next : x.to ≡ z.from = sym t.2.0 in
    (λ i. data_span x a z.from h t.0 next i ∷ z ∷ rec i)
    ∙ sym (ap (λ l. l ++ z ∷ filled z.to (filter other zs) b) (between-one a z.from (omega (arith, t.1))))
    ∙ ap (λ l. filled a l b) (sym (cond-true (other z) (z ∷ filter other zs) (filter other zs) (not_from_false (is_data z.name) plain)) ∙ sym (cond-false (other x) (x ∷ filter other (z ∷ zs)) (filter other (z ∷ zs)) (not_from_true (is_data x.name) h))))
    (λ h. keeps_other x (z ∷ zs) a b h t.0 (refilled (z ∷ zs) x.to b (is_data x.name) t.2 k.1))
    (cases_Bool (is_data x.name))

-- ---- spans in order, by their sorts

abbrev Ordered : ℕ → List Segment → Type 0
Ordered a [] = Unit {0}
Ordered a (x ∷ xs) = (a ≤ x.from) × (x.from < x.to) × Ordered x.to xs

ordered_later : (a b : ℕ) (xs : List Segment) → a ≤ b → Ordered b xs → Ordered a xs
ordered_later a b [] le h = tt
ordered_later a b (x ∷ xs) le h = (omega (arith, h.0), h.1, h.2)

ordered-all : (a b : ℕ) (xs : List Segment) → a ≤ b → Ordered b xs → AllByRecursion (λ x. a ≤ x.from) xs
ordered-all a b [] le h = tt
ordered-all a b (x ∷ xs) le h = (omega (arith, h.0), ordered-all a x.to xs (omega (arith, h.0, h.1)) h.2)

tiles-in_order : (p : Segment → Bool) (xs : List Segment) (a b : ℕ) → Tiles a b xs → Ordered a (filter p xs)
tiles-in_order p [] a b t = tt
tiles-in_order p (x ∷ xs) a b t =
    let rec = tiles-in_order p xs x.to b t.2 in
    cond_both (p x) (x ∷ filter p xs) (filter p xs) (Ordered a) (λ _. (omega (arith, t.0), omega (arith, t.0, t.1), rec)) (λ _. ordered_later a x.to (filter p xs) (omega (arith, t.1)) rec)

-- web, line ending, mail
abbrev sort : ℕ → Segment → Bool
sort zero x = is_web_address x.name
sort (suc zero) x = is_line_ending x.name
sort (suc (suc zero)) x = is_mail_address x.name
sort (suc (suc (suc j))) x = false

abbrev sort_of : Name → ℕ
sort_of name.Data = 3
sort_of name.LineEnding = 1
sort_of name.Link = 3
sort_of (name.Address kind) = cond (is_web kind) 0 2

abbrev Good : Segment → Type 0
Good x = (is_data x.name ≡ false) × (is_link x.name ≡ false)

good_sort : (x : Segment) → Good x → sort (sort_of x.name) x ≡ true
good_sort x g = go x.name refl g.0 g.1
  where
    go : (n : Name) → x.name ≡ n → is_data n ≡ false → is_link n ≡ false → sort (sort_of n) x ≡ true
    go name.Data e a b = absurd (true≢false a)
    go name.LineEnding e a b = ap is_line_ending e
    go name.Link e a b = absurd (true≢false b)
    go (name.Address kind) e a b =
        cond_both (is_web kind) 0 2 (λ j. sort j x ≡ true) (λ h. ap is_web_address e ∙ h) (λ h. ap is_mail_address e ∙ not_from_false (is_web kind) h)

merged : (xs ys : List Segment) (a b : ℕ) → Ordered a xs → Ordered b ys → AllByRecursion Good xs → AllByRecursion Good ys → ((j : ℕ) → filter (sort j) xs ≡ filter (sort j) ys) → xs ≡ ys
merged [] [] a b o u g h e = refl
merged [] (y ∷ ys) a b o u g h e = absurd (no_cons y (filter (sort (sort_of y.name)) ys) (sym (cond-true (sort (sort_of y.name) y) _ _ (good_sort y h.0)) ∙ sym (e (sort_of y.name))))
merged (x ∷ xs) [] a b o u g h e = absurd (no_cons x (filter (sort (sort_of x.name)) xs) (sym (cond-true (sort (sort_of x.name) x) _ _ (good_sort x g.0)) ∙ e (sort_of x.name)))
merged (x ∷ xs) (y ∷ ys) a b o u g h e = go (cases_Bool (sort j y)) (cases_Bool (sort k x)) (λ c d p q r s t. merged xs ys c d p q r s t)
  where
    j : ℕ
    j = sort_of x.name

    k : ℕ
    k = sort_of y.name

    by_x : filter (sort (sort_of x.name)) (x ∷ xs) ≡ x ∷ filter (sort (sort_of x.name)) xs
    by_x = cond-true (sort (sort_of x.name) x) (x ∷ filter (sort (sort_of x.name)) xs) (filter (sort (sort_of x.name)) xs) (good_sort x g.0)

    by_y : filter (sort (sort_of y.name)) (y ∷ ys) ≡ y ∷ filter (sort (sort_of y.name)) ys
    by_y = cond-true (sort (sort_of y.name) y) (y ∷ filter (sort (sort_of y.name)) ys) (filter (sort (sort_of y.name)) ys) (good_sort y h.0)

    rest : x ≡ y → ((c d : ℕ) → Ordered c xs → Ordered d ys → AllByRecursion Good xs → AllByRecursion Good ys → ((j : ℕ) → filter (sort j) xs ≡ filter (sort j) ys) → xs ≡ ys) → x ∷ xs ≡ y ∷ ys
    rest s rec =
        let t : xs ≡ ys = rec x.to y.to o.2 u.2 g.1 h.1 (λ i. ⊎_elim (λ w. w.2) (λ w. w.1) (tails (sort i) x y xs ys (ap (sort i) s) (e i))) in
        λ i. s i ∷ t i

    go : ((sort (sort_of x.name) y ≡ true) ⊎ (sort (sort_of x.name) y ≡ false)) → ((sort (sort_of y.name) x ≡ true) ⊎ (sort (sort_of y.name) x ≡ false)) → ((c d : ℕ) → Ordered c xs → Ordered d ys → AllByRecursion Good xs → AllByRecursion Good ys → ((j : ℕ) → filter (sort j) xs ≡ filter (sort j) ys) → xs ≡ ys) → x ∷ xs ≡ y ∷ ys
    go (inl p) q rec =
        rest (heads x y (filter (sort (sort_of x.name)) xs) (filter (sort (sort_of x.name)) ys) (sym by_x ∙ e (sort_of x.name) ∙ cond-true (sort (sort_of x.name) y) (y ∷ filter (sort (sort_of x.name)) ys) (filter (sort (sort_of x.name)) ys) p)).0 rec
    go (inr p) (inl q) rec =
        rest (heads x y (filter (sort (sort_of y.name)) xs) (filter (sort (sort_of y.name)) ys) (sym (cond-true (sort (sort_of y.name) x) (x ∷ filter (sort (sort_of y.name)) xs) (filter (sort (sort_of y.name)) xs) q) ∙ e (sort_of y.name) ∙ by_y)).0 rec
    go (inr p) (inr q) rec =
        let hx : filter (sort (sort_of x.name)) ys ≡ x ∷ filter (sort (sort_of x.name)) xs =
        sym (cond-false (sort (sort_of x.name) y) (y ∷ filter (sort (sort_of x.name)) ys) (filter (sort (sort_of x.name)) ys) p) ∙ sym (e (sort_of x.name)) ∙ by_x in
        let hy : filter (sort (sort_of y.name)) xs ≡ y ∷ filter (sort (sort_of y.name)) ys =
        sym (cond-false (sort (sort_of y.name) x) (x ∷ filter (sort (sort_of y.name)) xs) (filter (sort (sort_of y.name)) xs) q) ∙ e (sort_of y.name) ∙ by_y in
        let lx : y.to ≤ x.from = kept-head (sort (sort_of x.name)) (λ z. y.to ≤ z.from) ys x (filter (sort (sort_of x.name)) xs) (All-weaker (λ z. y.to ≤ z.from) (λ z. sort (sort_of x.name) z ≡ true → y.to ≤ z.from) (λ z w _. w) ys (ordered-all y.to y.to ys (omega arith) u.2)) hx in
        let ly : x.to ≤ y.from = kept-head (sort (sort_of y.name)) (λ z. x.to ≤ z.from) xs y (filter (sort (sort_of y.name)) ys) (All-weaker (λ z. x.to ≤ z.from) (λ z. sort (sort_of y.name) z ≡ true → x.to ≤ z.from) (λ z w _. w) xs (ordered-all x.to x.to xs (omega arith) o.2)) hy in
        absurd (omega (arith, o.1, u.1))

-- ---- the same web spans, line endings and mail spans make the same spans but Link spans

kept-kept : (p q : Segment → Bool) → ((x : Segment) → p x ≡ true → q x ≡ true) → (xs : List Segment) → filter p (filter q xs) ≡ filter p xs
kept-kept p q f [] = refl
kept-kept p q f (x ∷ xs) =
    let rec = kept-kept p q f xs in
    ⊎_elim
    (λ a.
    ap (filter p) (cond-true (q x) (x ∷ filter q xs) (filter q xs) (f x a)) ∙ cond-true (p x) (x ∷ filter p (filter q xs)) (filter p (filter q xs)) a ∙ ap (λ l. x ∷ l) rec
    ∙ sym (cond-true (p x) (x ∷ filter p xs) (filter p xs) a))
    (λ a. left_out a (cases_Bool (q x)) rec ∙ sym (cond-false (p x) (x ∷ filter p xs) (filter p xs) a))
    (cases_Bool (p x))
  where
    left_out : p x ≡ false → ((q x ≡ true) ⊎ (q x ≡ false)) → filter p (filter q xs) ≡ filter p xs → filter p (filter q (x ∷ xs)) ≡ filter p xs
    left_out a (inl b) rec = ap (filter p) (cond-true (q x) (x ∷ filter q xs) (filter q xs) b) ∙ cond-false (p x) (x ∷ filter p (filter q xs)) (filter p (filter q xs)) a ∙ rec
    left_out a (inr b) rec = ap (filter p) (cond-false (q x) (x ∷ filter q xs) (filter q xs) b) ∙ rec

sort_good : (j : ℕ) (x : Segment) → sort j x ≡ true → Good x
sort_good zero x e = web_good x.name e
sort_good (suc zero) x e = line_good x.name e
sort_good (suc (suc zero)) x e = (mail_no_data x.name e, mail_leaf x.name e)
sort_good (suc (suc (suc j))) x e = absurd (true≢false (sym e))

sorts_of : (es : List Event) (j : ℕ) → filter (sort j) (filter other (leaves es)) ≡ filter (sort j) (spans es)
sorts_of es j =
    kept-kept (sort j) other (λ x e. not_from_false (is_data x.name) (sort_good j x e).0) (leaves es)
    ∙ kept-kept (sort j) unlinked (λ x e. not_from_false (is_link x.name) (sort_good j x e).1) (spans es)

never : (xs : List Segment) (j : ℕ) → filter (sort (suc (suc (suc j)))) xs ≡ []
never [] j = refl
never (x ∷ xs) j = never xs j

good_others : (es : List Event) → AllByRecursion Good (filter other (leaves es))
good_others es = both (filter other (leaves es)) (kept_by_passes other (leaves es)) (all_kept_by other (λ x. unlinked x ≡ true) (leaves es) (kept_by_passes unlinked (spans es)))
  where
    both : (xs : List Segment) → AllByRecursion (λ x. other x ≡ true) xs → AllByRecursion (λ x. unlinked x ≡ true) xs → AllByRecursion Good xs
    both [] a b = tt
    both (x ∷ xs) a b = ((not-true (is_data x.name) a.0, not-true (is_link x.name) b.0), both xs a.1 b.1)

module _ (member : ℕ → Bool) (note : List ℕ) (es fs : List Event) (le : LawfulEvents note es) (lf : LawfulEvents note fs) (re : FullyRead member note es) (rf : FullyRead member note fs) (mail : with_name is_mail_address (spans es) ≡ with_name is_mail_address (spans fs)) (links : with_name is_link (spans es) ≡ with_name is_link (spans fs)) where
  sorts : (j : ℕ) → filter (sort j) (spans es) ≡ filter (sort j) (spans fs)
  sorts zero = re.web ∙ sym rf.web
  sorts (suc zero) = re.lines ∙ sym rf.lines
  sorts (suc (suc zero)) = mail
  sorts (suc (suc (suc j))) = never (spans es) j ∙ sym (never (spans fs) j)

  others : filter other (leaves es) ≡ filter other (leaves fs)
  others =
      merged (filter other (leaves es)) (filter other (leaves fs)) 0 0
      (tiles-in_order other (leaves es) 0 (length note) (leaf_tiles member note es le re)) (tiles-in_order other (leaves fs) 0 (length note) (leaf_tiles member note fs lf rf))
      (good_others es) (good_others fs) (λ j. sorts_of es j ∙ sorts j ∙ sym (sorts_of fs j))

  refilled_leaves : (gs : List Event) → LawfulEvents note gs → FullyRead member note gs → leaves gs ≡ filled 0 (filter other (leaves gs)) (length note)
  refilled_leaves gs l r = let t = leaf_tiles member note gs l r in refilled (leaves gs) 0 (length note) false t (apart_alone (leaves gs) 0 (length note) t r.uncut)

  fits : (gs : List Event) → LawfulEvents note gs → FullyRead member note gs → Fits note [] 0 gs
  fits gs l r = record { nested = l.nested; holds = r.flat; onward = r.forward; placed = l.placed; closed = r.all_closed }

  -- they are determined by the note, the mail spans and the Link spans
  pub determined : es ≡ fs
  determined =
      same-events note es fs [] 0 0 tt (fits es le re) (fits fs lf rf)
      (refilled_leaves es le re ∙ ap (λ l. filled 0 l (length note)) others ∙ sym (refilled_leaves fs lf rf))
      links

-- of a note read to its end, without mail spans and Link spans
pub exactly_segments : (member : ℕ → Bool) (note : List ℕ) (es : List Event) → LawfulEvents note es → FullyRead member note es → with_name is_mail_address (spans es) ≡ [] → with_name is_link (spans es) ≡ [] → es ≡ ended_events member note
exactly_segments member note es l r mail links =
    determined member note es (ended_events member note) l (ended-lawful member note) r (ended-read member note)
    (mail ∙ sym (none_of is_mail_address (segment-no-mail member note))) (links ∙ sym (none_of is_link (segment-leaves member note)))
  where
    none_of : (p : Name → Bool) → AllByRecursion (λ x. p x.name ≡ false) (ended_spans member note) → with_name p (spans (ended_events member note)) ≡ []
    none_of p h = ap (with_name p) (spans_of note (ended_spans member note)) ∙ kept-none (λ x. p x.name) (ended_spans member note) h

-- of a resolved one
pub exactly_resolved : (member : ℕ → Bool) (note : List ℕ) (ls : List MarkedRun) (es : List Event) → marked_in_turn (ended_events member note) 0 ls ≡ true → LawfulEvents note es → FullyRead member note es → FullyResolved member note ls es → es ≡ resolved_events member note ls
exactly_resolved member note ls es ok l r v =
    let w = resolved-resolved member note ls ok in
    determined member note es (resolved_events member note ls) l (resolved-lawful member note ls ok) r (resolved_read member note ls ok) (v.mail ∙ sym w.mail) (v.around ∙ sym w.around)
