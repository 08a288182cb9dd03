-- Of the spans of groups: which data is split and which is whole, and that the mail spans are the addresses outside the marked runs.
-- Assumes nothing.
use Rattle.std.proofs.Common.{◌≡◌, ℕ, ◌<◌, ◌≤◌, Bool, true, false, cond, ◌||◌, leb, ◌⊎◌, List, [], ◌∷◌, ◌++◌, length, filter, sym, refl, ap, ◌∙◌, inl, inr, ⊎_elim, append-nil, arith}
use Rattle.std.specs.List.{AllByRecursion}
use Rattle.std.proofs.lemmas.List.Elements.{filter-append}
use Rattle.std.proofs.ByRecursion.{All-weaker, all_kept_by}
use Rattle.std.proofs.lemmas.Bool.{both_ways, cond-true, and_from, and_left, and_right, or_left, or_from, le-leb, lt-leb}
use Rattle.machine.specs.declared.events.Name.TheVariants as name
use Rattle.machine.specs.Joins.{is_data}
use Rattle.machine.specs.Laws.{Segment, Tiles}
use Rattle.calls.specs.EventLists.{span, is_mail_address, with_name}
use Rattle.calls.specs.Links.{filled, mail_in, split, splits}
use Rattle.calls.specs.Claims.{In, covers, inside, within, mail_outside}
use Rattle.calls.proofs.Spans.{tiles_le, named-filled, kept-all, kept-none}
use Rattle.calls.proofs.Mail.{mail-is-mail, split-tiles, splits-tiles}
use Rattle.calls.proofs.Groups.{Groups, rest, group, flat, group_links, NoneEmpty, begin, finish}
use Rattle.calls.proofs.Inside.{tiles-split, inside-after, inside-before, in_tiles, expand, inside_expand}
use Rattle.calls.proofs.GroupLists.{group_spans, group_leaves, all_split, group_tiles, begin_tiles, finish_tiles}

-- ---- data inside and outside the marked runs

splits_expand : (note : List ℕ) (xs : List Segment) → splits note xs ≡ expand (split note) xs
splits_expand note [] = refl
splits_expand note (x ∷ xs) = ap (λ l. split note x ++ l) (splits_expand note xs)

same_expand : (xs : List Segment) → xs ≡ expand (λ x. x ∷ []) xs
same_expand [] = refl
same_expand (x ∷ xs) = ap (λ l. x ∷ l) (same_expand xs)

in_append : (x : Segment) (xs ys : List Segment) → In x (xs ++ ys) → In x xs ⊎ In x ys
in_append x [] ys h = inr h
in_append x (y ∷ xs) ys h = ⊎_elim (λ e. inl (inl e)) (λ k. ⊎_elim (λ j. inl (inr j)) (λ j. inr j) (in_append x xs ys k)) h

pub in_kept : (p : Segment → Bool) (x : Segment) (xs : List Segment) → In x (filter p xs) → In x xs × (p x ≡ true)
in_kept p x [] h = absurd h
in_kept p x (y ∷ ys) h = go (p y) refl h (λ k. in_kept p x ys k)
  where
    go : (b : Bool) → p y ≡ b → In x (cond b (y ∷ filter p ys) (filter p ys)) → (In x (filter p ys) → In x ys × (p x ≡ true)) → In x (y ∷ ys) × (p x ≡ true)
    go true e h rec = ⊎_elim (λ k. (inl k, ap p k ∙ e)) (λ k. let w = rec k in (inr w.0, w.1)) h
    go false e h rec = let w = rec h in (inr w.0, w.1)

-- runs from c on do not hold what begins before c
runs_after : (g : Groups) (x : Segment) (c d : ℕ) → Tiles c d (flat g) → NoneEmpty g → x.from < c → within (group_links g) x ≡ false
runs_after (rest xs) x c d t s lt = refl
runs_after (group xs ys g) x c d t s lt =
    let w = tiles-split xs (ys ++ flat g) c d t in
    let v = tiles-split ys (flat g) w.0 d w.2 in
    let lo = tiles_le xs c w.0 w.1 in
    let lo2 = tiles_le ys w.0 v.0 v.1 in
    or_from (covers (span name.Link (begin ys) (finish ys)) x) (within (group_links g) x)
    (and_left (leb (begin ys) x.from) (leb x.to (finish ys)) (lt-leb (begin ys) x.from (omega (arith, begin_tiles ys w.0 v.0 v.1 s.0))))
    (runs_after g x v.0 d v.2 s.1 (omega arith))

-- what stands inside x: x split, or x alone where it lies in a marked run
abbrev pub Stands : List ℕ → Groups → Segment → Type 0
Stands note g x = ((within (group_links g) x ≡ false) × (inside x (group_leaves note g) ≡ split note x)) ⊎ ((within (group_links g) x ≡ true) × (inside x (group_leaves note g) ≡ x ∷ []))

pub stands : (note : List ℕ) (g : Groups) (x : Segment) (a b : ℕ) → b ≤ length note → Tiles a b (flat g) → NoneEmpty g → In x (flat g) → Stands note g x
stands note (rest xs) x a b le t s h =
    inl (refl, ap (inside x) (splits_expand note xs) ∙ inside_expand (split note) (length note) (split-tiles note) x xs a b le t h)
stands note (group xs ys g) x a b le t s h =
    let w = tiles-split xs (ys ++ flat g) a b t in
    let v = tiles-split ys (flat g) w.0 b w.2 in
    let hi = tiles_le (ys ++ flat g) w.0 b w.2 in
    let mid = tiles_le ys w.0 v.0 v.1 in
    let hi2 = tiles_le (flat g) v.0 b v.2 in
    let first : Tiles a w.0 (splits note xs) = splits-tiles note xs a w.0 (omega arith) w.1 in
    let last : Tiles v.0 b (group_leaves note g) = group_tiles note g v.0 b le v.2 in
    let parts : inside x (group_leaves note (group xs ys g)) ≡ inside x (splits note xs) ++ (inside x ys ++ inside x (group_leaves note g)) =
    filter-append (covers x) (splits note xs) (ys ++ group_leaves note g) ∙ ap (λ l. inside x (splits note xs) ++ l) (filter-append (covers x) ys (group_leaves note g)) in
    let bs = begin_tiles ys w.0 v.0 v.1 s.0 in
    let fs = finish_tiles ys w.0 v.0 v.1 s.0 in
    let here = covers (span name.Link (begin ys) (finish ys)) x in
    ⊎_elim
    (λ k.
    let p = in_tiles x xs a w.0 w.1 k in
    inl (
      or_from here (within (group_links g) x)
          (and_left (leb (begin ys) x.from) (leb x.to (finish ys)) (lt-leb (begin ys) x.from (omega (arith, p.1, p.2))))
          (runs_after g x v.0 b v.2 s.1 (omega (arith, p.1, p.2))),
      parts
          ∙ (λ i. inside x (splits_expand note xs i) ++ (inside-after x ys w.0 v.0 v.1 p.2 i ++ inside-after x (group_leaves note g) v.0 b last (omega (arith, p.2)) i))
          ∙ append-nil (inside x (expand (split note) xs))
          ∙ inside_expand (split note) (length note) (split-tiles note) x xs a w.0 (omega arith) w.1 k,
    ))
    (λ k. ⊎_elim
    (λ j.
    let p = in_tiles x ys w.0 v.0 v.1 j in
    inr (
      or_left here (within (group_links g) x) (and_from (leb (begin ys) x.from) (leb x.to (finish ys)) (le-leb (begin ys) x.from (omega (arith, p.0))) (le-leb x.to (finish ys) (omega (arith, p.2)))),
      parts
          ∙ (λ i. inside-before x (splits note xs) a w.0 first p.0 i ++ (inside x (same_expand ys i) ++ inside-after x (group_leaves note g) v.0 b last p.2 i))
          ∙ append-nil (inside x (expand (λ y. y ∷ []) ys))
          ∙ inside_expand (λ y. y ∷ []) (length note) (λ y lt _. (refl, lt, refl)) x ys w.0 v.0 (omega arith) v.1 j,
    ))
    (λ j.
    let p = in_tiles x (flat g) v.0 b v.2 j in
    let off : here ≡ false = and_right (leb (begin ys) x.from) (leb x.to (finish ys)) (lt-leb x.to (finish ys) (omega (arith, p.0, p.1))) in
    let same : within (group_links (group xs ys g)) x ≡ within (group_links g) x = ap (λ u. u || within (group_links g) x) off in
    let only-last : inside x (group_leaves note (group xs ys g)) ≡ inside x (group_leaves note g) =
    parts ∙ (λ i. inside-before x (splits note xs) a w.0 first (omega (arith, p.0)) i ++ (inside-before x ys w.0 v.0 v.1 p.0 i ++ inside x (group_leaves note g))) in
    ⊎_elim (λ r. inl (same ∙ r.0, only-last ∙ r.1)) (λ r. inr (same ∙ r.0, only-last ∙ r.1)) (stands note g x v.0 b le v.2 s.1 j))
    (in_append x ys (flat g) k))
    (in_append x xs (ys ++ flat g) h)

-- ---- the mail spans are the addresses outside the runs

abbrev pub NotMail : Segment → Type 0
NotMail x = is_mail_address x.name ≡ false

abbrev mailing : Segment → Bool
mailing x = is_mail_address x.name

outside_append : (note : List ℕ) (rs xs ys : List Segment) → mail_outside note rs (xs ++ ys) ≡ mail_outside note rs xs ++ mail_outside note rs ys
outside_append note rs [] ys = refl
outside_append note rs (x ∷ xs) ys =
    ap (λ l. cond (within rs x) [] (mail_in note x) ++ l) (outside_append note rs xs ys)
    ∙ sym (Rattle.std.proofs.lemmas.List.append_assoc (cond (within rs x) [] (mail_in note x)) (mail_outside note rs xs) (mail_outside note rs ys))

outside_same : (note : List ℕ) (rs qs xs : List Segment) → AllByRecursion (λ x. within rs x ≡ within qs x) xs → mail_outside note rs xs ≡ mail_outside note qs xs
outside_same note rs qs [] h = refl
outside_same note rs qs (x ∷ xs) h = λ i. cond (h.0 i) [] (mail_in note x) ++ outside_same note rs qs xs h.1 i

outside_none : (note : List ℕ) (rs xs : List Segment) → AllByRecursion (λ x. within rs x ≡ true) xs → mail_outside note rs xs ≡ []
outside_none note rs [] h = refl
outside_none note rs (x ∷ xs) h = λ i. cond (h.0 i) [] (mail_in note x) ++ outside_none note rs xs h.1 i

splits-mail : (note : List ℕ) (rs xs : List Segment) → AllByRecursion (λ x. within rs x ≡ false) xs → AllByRecursion NotMail xs → with_name is_mail_address (splits note xs) ≡ mail_outside note rs (with_name is_data xs)
splits-mail note rs [] h k = refl
splits-mail note rs (x ∷ xs) h k =
    filter-append mailing (split note x) (splits note xs) ∙ go (is_data x.name) refl (splits-mail note rs xs h.1 k.1)
  where
    go : (d : Bool) → is_data x.name ≡ d → with_name is_mail_address (splits note xs) ≡ mail_outside note rs (with_name is_data xs) → with_name is_mail_address (cond d (filled x.from (mail_in note x) x.to) (x ∷ [])) ++ with_name is_mail_address (splits note xs) ≡ mail_outside note rs (cond d (x ∷ with_name is_data xs) (with_name is_data xs))
    go true e rec =
        (λ i. ◌∙◌ (named-filled is_mail_address refl (mail_in note x) x.from x.to) (kept-all mailing (mail_in note x) (mail-is-mail note x)) i ++ rec i)
        ∙ ap (λ b. cond b [] (mail_in note x) ++ mail_outside note rs (with_name is_data xs)) (sym h.0)
    go false e rec = λ i. kept-none mailing (x ∷ []) (k.0, tt) i ++ rec i

tiles-all : (xs : List Segment) (lo a b hi : ℕ) → lo ≤ a → Tiles a b xs → b ≤ hi → AllByRecursion (λ x. (lo ≤ x.from) × (x.from < x.to) × (x.to ≤ hi)) xs
tiles-all [] lo a b hi l t h = tt
tiles-all (x ∷ xs) lo a b hi l t h =
    let stands_right = tiles_le xs x.to b t.2 in
    ((omega (arith, t.0), omega (arith, t.0, t.1), omega arith), tiles-all xs lo x.to b hi (omega (arith, t.1)) t.2 h)

pub mail_group : (note : List ℕ) (g : Groups) (a b : ℕ) → b ≤ length note → Tiles a b (flat g) → NoneEmpty g → AllByRecursion NotMail (flat g) → with_name is_mail_address (group_spans note g) ≡ mail_outside note (group_links g) (with_name is_data (flat g))
unfolding group_spans
mail_group note (rest xs) a b le t s n = splits-mail note [] xs (All-weaker (λ x. (a ≤ x.from) × (x.from < x.to) × (x.to ≤ b)) (λ x. within [] x ≡ false) (λ _ _. refl) xs (tiles-all xs a a b b (omega arith) t (omega arith))) n
mail_group note (group xs ys g) a b le t s n =
    let w = tiles-split xs (ys ++ flat g) a b t in
    let v = tiles-split ys (flat g) w.0 b w.2 in
    let p = all_split NotMail xs (ys ++ flat g) n in
    let q = all_split NotMail ys (flat g) p.1 in
    let mid = tiles_le ys w.0 v.0 v.1 in
    let bs = begin_tiles ys w.0 v.0 v.1 s.0 in
    let fs = finish_tiles ys w.0 v.0 v.1 s.0 in
    let r = span name.Link (begin ys) (finish ys) in
    let rs = group_links g in
    let P : ℕ → ℕ → Segment → Type 0 = λ lo hi x. (lo ≤ x.from) × (x.from < x.to) × (x.to ≤ hi) in
    let before : AllByRecursion (λ x. within (r ∷ rs) x ≡ false) xs =
    All-weaker (P a w.0) (λ x. within (r ∷ rs) x ≡ false) (λ x h. or_from (covers r x) (within rs x) (and_left (leb (begin ys) x.from) (leb x.to (finish ys)) (lt-leb (begin ys) x.from (omega (arith, h.1, h.2)))) (runs_after g x v.0 b v.2 s.1 (omega (arith, h.1, h.2)))) xs
    (tiles-all xs a a w.0 w.0 (omega arith) w.1 (omega arith)) in
    let here : AllByRecursion (λ x. within (r ∷ rs) x ≡ true) ys =
    All-weaker (P w.0 v.0) (λ x. within (r ∷ rs) x ≡ true) (λ x h. or_left (covers r x) (within rs x) (and_from (leb (begin ys) x.from) (leb x.to (finish ys)) (le-leb (begin ys) x.from (omega (arith, h.0))) (le-leb x.to (finish ys) (omega (arith, h.2))))) ys
    (tiles-all ys w.0 w.0 v.0 v.0 (omega arith) v.1 (omega arith)) in
    let later : AllByRecursion (λ x. within (r ∷ rs) x ≡ within rs x) (flat g) =
    All-weaker (P v.0 b) (λ x. within (r ∷ rs) x ≡ within rs x) (λ x h. ap (λ u. u || within rs x) (and_right (leb (begin ys) x.from) (leb x.to (finish ys)) (lt-leb x.to (finish ys) (omega (arith, h.0, h.1))))) (flat g)
    (tiles-all (flat g) v.0 v.0 b b (omega arith) v.2 (omega arith)) in
    let isD : Segment → Bool = λ x. is_data x.name in
    filter-append mailing (splits note xs) (ys ++ (r ∷ group_spans note g))
    ∙ (λ i. splits-mail note (r ∷ rs) xs before p.0 i ++ filter-append mailing ys (r ∷ group_spans note g) i)
    ∙ (λ i. mail_outside note (r ∷ rs) (with_name is_data xs) ++ (kept-none mailing ys q.0 i ++ mail_group note g v.0 b le v.2 s.1 q.1 i))
    ∙ (λ i. mail_outside note (r ∷ rs) (with_name is_data xs) ++ (sym (outside_none note (r ∷ rs) (with_name is_data ys) (all_kept_by isD (λ x. within (r ∷ rs) x ≡ true) ys here)) i ++ sym (outside_same note (r ∷ rs) rs (with_name is_data (flat g)) (all_kept_by isD (λ x. within (r ∷ rs) x ≡ within rs x) (flat g) later)) i))
    ∙ ap (λ l. mail_outside note (r ∷ rs) (with_name is_data xs) ++ l) (sym (outside_append note (r ∷ rs) (with_name is_data ys) (with_name is_data (flat g))))
    ∙ sym (outside_append note (r ∷ rs) (with_name is_data xs) (with_name is_data ys ++ with_name is_data (flat g)))
    ∙ ap (mail_outside note (r ∷ rs)) (ap (λ l. with_name is_data xs ++ l) (sym (filter-append isD ys (flat g))) ∙ sym (filter-append isD xs (ys ++ flat g)))

-- the same of a list of leaves and a list of runs that are those of the groups
pub whole_by : (note : List ℕ) (g : Groups) (x : Segment) (held rs : List Segment) → held ≡ group_leaves note g → rs ≡ group_links g → Stands note g x → within rs x ≡ true → inside x held ≡ x ∷ []
whole_by note g x held rs p q (inl r) e = absurd (both_ways (within (group_links g) x) r.0 (ap (λ l. within l x) (sym q) ∙ e))
whole_by note g x held rs p q (inr r) e = ap (inside x) p ∙ r.1

pub split_by : (note : List ℕ) (g : Groups) (x : Segment) (held rs : List Segment) → held ≡ group_leaves note g → rs ≡ group_links g → Stands note g x → is_data x.name ≡ true → within rs x ≡ false → inside x held ≡ filled x.from (mail_in note x) x.to
split_by note g x held rs p q (inl r) d e = ap (inside x) p ∙ r.1 ∙ cond-true (is_data x.name) (filled x.from (mail_in note x) x.to) (x ∷ []) d
split_by note g x held rs p q (inr r) d e = absurd (both_ways (within (group_links g) x) (ap (λ l. within l x) (sym q) ∙ e) r.0)
