-- Two lawful event lists with the same Link spans and the same other spans are equal.
-- Assumes nothing.
use Rattle.std.proofs.Common.{◌≡◌, ℕ, ◌<◌, ◌≤◌, Bool, true, false, not, ◌&&◌, ltb, leb, ◌⊎◌, List, [], ◌∷◌, ◌++◌, length, filter, sym, refl, ap, ◌∙◌, subst, inl, inr, ⊎_elim, arith}
use Rattle.std.specs.List.{AllByRecursion}
use Rattle.std.proofs.lemmas.Bool.{cases_Bool, both_ways, cond-true, cond-false, and_parts, leb-true, ltb-true, eqb-true, not-true, not_from_false, not_from_true, true≢false}
use Rattle.text.specs.Places.{point_at}
use Rattle.machine.specs.declared.events.Event.{Event}
use Rattle.machine.specs.declared.events.EventKind.{EventKind}
use Rattle.machine.specs.declared.events.EventKind.TheVariants.{Enter, Exit}
use Rattle.machine.specs.declared.events.Name.{Name}
use Rattle.machine.specs.Laws.{name_number, same_name, Segment}
use Rattle.calls.specs.EventLists.{span, is_link, open_then, closes, nests, open_last, stands_right, only_links_hold, closed_by, spans_from, goes_forward, Placed}
use Rattle.calls.proofs.Names.{link-is, same_names}
use Rattle.calls.proofs.Spans.{linking, unlinked}

-- ---- one event on

pub record Fits (note : List ℕ) (still : List Event) (p : ℕ) (es : List Event) : Type 0 where
  pub nested : nests still es ≡ true
  pub holds : only_links_hold still es ≡ true
  pub onward : goes_forward p es ≡ true
  pub placed : AllByRecursion (Placed note) es
  pub closed : open_last still es ≡ []

record Step (note : List ℕ) (still : List Event) (p : ℕ) (e : Event) (es : List Event) (d : EventKind) : Type 0 where
  closing : closes d still e ≡ true
  standing : stands_right d still e ≡ true
  low : p ≤ e.point.index
  point : e.point ≡ point_at note e.point.index
  rest : Fits note (open_then d still e) e.point.index es
  spans : spans_from still (e ∷ es) ≡ closed_by d still e ++ spans_from (open_then d still e) es

step-on : (note : List ℕ) (still : List Event) (p : ℕ) (e : Event) (es : List Event) (d : EventKind) → e.kind ≡ d → Fits note still p (e ∷ es) → Step note still p e es d
step-on note still p e es d q f =
    let c = and_parts (closes d still e) (nests (open_then d still e) es) (subst (λ g. (closes g still e && nests (open_then g still e) es) ≡ true) q f.nested) in
    let s = and_parts (stands_right d still e) (only_links_hold (open_then d still e) es) (subst (λ g. (stands_right g still e && only_links_hold (open_then g still e) es) ≡ true) q f.holds) in
    let o = and_parts (leb p e.point.index) (goes_forward e.point.index es) f.onward in
    record {
      closing = c.0;
      standing = s.0;
      low = leb-true p e.point.index o.0;
      point = f.placed.0.at_its_place;
      rest = record { nested = c.1; holds = s.1; onward = o.1; placed = f.placed.1; closed = subst (λ g. open_last (open_then g still e) es ≡ []) q f.closed };
      spans = ap (λ g. closed_by g still e ++ spans_from (open_then g still e) es) q;
    }

-- an enter or an exit
enter_or_exit_of : (d : EventKind) → (d ≡ Enter) ⊎ (d ≡ Exit)
enter_or_exit_of Enter = inl refl
enter_or_exit_of Exit = inr refl

pub no_cons : {A : Type 0} (x : A) (xs : List A) → x ∷ xs ≡ [] → ⊥
no_cons x xs e = let z : ◌≡◌ {A = ℕ} 0 1 = cc in omega arith

pub heads : {A : Type 0} (x y : A) (xs ys : List A) → x ∷ xs ≡ y ∷ ys → (x ≡ y) × (xs ≡ ys)
heads x y xs ys e = (cc, cc)

-- ---- an enter of another name than Link is closed by the next event

record Closed (note : List ℕ) (still : List Event) (e : Event) (es : List Event) : Type 0 where
  to : ℕ
  others : List Event
  lt : e.point.index < to
  spans : spans_from (e ∷ still) es ≡ span e.name e.point.index to ∷ spans_from still others
  rest : Fits note still to others

leaf_closed : (note : List ℕ) (still : List Event) (e : Event) (es : List Event) (p : ℕ) → is_link e.name ≡ false → Fits note (e ∷ still) p es → Closed note still e es
leaf_closed note still e [] p h f = absurd (no_cons e still f.closed)
leaf_closed note still e (g ∷ es) p h f =
    ⊎_elim
    (λ q. let s = step-on note (e ∷ still) p g es Enter q f in absurd (both_ways (is_link e.name) h (and_parts (is_link e.name) (not (is_link g.name)) s.standing).0))
    (λ q.
    let s = step-on note (e ∷ still) p g es Exit q f in
    let c = and_parts (same_name e.name g.name) (ltb e.point.index g.point.index) s.closing in
    record { to = g.point.index; others = es; lt = ltb-true e.point.index g.point.index c.1; spans = s.spans; rest = s.rest })
    (enter_or_exit_of g.kind)

-- ---- spans begin where their enters stand

bound : (c : Name → Bool) (q : ℕ) (es still : List Event) (p : ℕ) → q ≤ p → goes_forward p es ≡ true → AllByRecursion (λ o. c o.name ≡ true → q ≤ o.point.index) still → AllByRecursion (λ x. c x.name ≡ true → q ≤ x.from) (spans_from still es)
bound c q [] still p le h o = tt
bound c q (e ∷ es) still p le h o =
    let s = and_parts (leb p e.point.index) (goes_forward e.point.index es) h in
    let lo = leb-true p e.point.index s.0 in
    go e.kind still o (λ still' o'. bound c q es still' e.point.index (omega arith) s.1 o') lo
  where
    go : (d : EventKind) (still : List Event) → AllByRecursion (λ o. c o.name ≡ true → q ≤ o.point.index) still → ((still' : List Event) → AllByRecursion (λ o. c o.name ≡ true → q ≤ o.point.index) still' → AllByRecursion (λ x. c x.name ≡ true → q ≤ x.from) (spans_from still' es)) → p ≤ e.point.index → AllByRecursion (λ x. c x.name ≡ true → q ≤ x.from) (closed_by d still e ++ spans_from (open_then d still e) es)
    go Enter still o rec lo = rec (e ∷ still) ((λ _. omega arith), o)
    go Exit [] o rec lo = rec [] tt
    go Exit (x ∷ still) o rec lo = (o.0, rec still o.1)

pub kept-head : (c : Segment → Bool) (P : Segment → Type 0) (xs : List Segment) (x : Segment) (rest : List Segment) → AllByRecursion (λ y. c y ≡ true → P y) xs → filter c xs ≡ x ∷ rest → P x
kept-head c P [] x rest h e = absurd (no_cons x rest (sym e))
kept-head c P (y ∷ ys) x rest h e =
    ⊎_elim
    (λ t. subst P (heads y x (filter c ys) rest (sym (cond-true (c y) (y ∷ filter c ys) (filter c ys) t) ∙ e)).0 (h.0 t))
    (λ f. kept-head c P ys x rest h.1 (sym (cond-false (c y) (y ∷ filter c ys) (filter c ys) f) ∙ e))
    (cases_Bool (c y))

-- ---- an open Link is the first to be closed

record Next (still : List Event) (o : Event) (p : ℕ) (es : List Event) : Type 0 where
  link : Segment
  others : List Segment
  is : filter linking (spans_from still es) ≡ link ∷ others
  from : link.from ≡ o.point.index
  to : p ≤ link.to

link-closed : (note : List ℕ) (o : Event) → is_link o.name ≡ true → (es above : List Event) (p : ℕ) → AllByRecursion (λ x. is_link x.name ≡ false) above → length above ≤ 1 → Fits note (above ++ o ∷ []) p es → Next (above ++ o ∷ []) o p es
link-closed note o h [] [] p a l f = absurd (no_cons o [] f.closed)
link-closed note o h [] (x ∷ xs) p a l f = absurd (no_cons x (xs ++ o ∷ []) f.closed)
link-closed note o h (e ∷ es) [] p a l f =
    ⊎_elim
    (λ q.
    let s = step-on note (o ∷ []) p e es Enter q f in
    let leaf : is_link e.name ≡ false = not-true (is_link e.name) (and_parts (is_link o.name) (not (is_link e.name)) s.standing).1 in
    let n = link-closed note o h es (e ∷ []) e.point.index (leaf, tt) (omega arith) s.rest in
    let low = s.low in
    record { link = n.link; others = n.others; is = ap (filter linking) s.spans ∙ n.is; from = n.from; to = omega (arith, n.to) })
    (λ q.
    let s = step-on note (o ∷ []) p e es Exit q f in
    record {
      link = span o.name o.point.index e.point.index;
      others = filter linking (spans_from [] es);
      is = ap (filter linking) s.spans ∙ cond-true (is_link o.name) _ _ h;
      from = refl;
      to = s.low;
    })
    (enter_or_exit_of e.kind)
link-closed note o h (e ∷ es) (x ∷ []) p a l f =
    ⊎_elim
    (λ q. let s = step-on note (x ∷ o ∷ []) p e es Enter q f in absurd (both_ways (is_link x.name) a.0 (and_parts (is_link x.name) (not (is_link e.name)) s.standing).0))
    (λ q.
    let s = step-on note (x ∷ o ∷ []) p e es Exit q f in
    let n = link-closed note o h es [] e.point.index tt (omega arith) s.rest in
    let low = s.low in
    record { link = n.link; others = n.others; is = ap (filter linking) s.spans ∙ cond-false (is_link x.name) _ _ a.0 ∙ n.is; from = n.from; to = omega (arith, n.to) })
    (enter_or_exit_of e.kind)
link-closed note o h (e ∷ es) (x ∷ y ∷ ys) p a l f = absurd (omega arith)

open_link : (note : List ℕ) (o : Event) (es : List Event) (p : ℕ) → is_link o.name ≡ true → Fits note (o ∷ []) p es → Next (o ∷ []) o p es
open_link note o es p h f = link-closed note o h es [] p tt (omega arith) f

-- ---- the enters that can be open: none, one, or one of another name in a Link

abbrev pub Stack : List Event → Type 0
Stack [] = Unit {0}
Stack (x ∷ []) = Unit {0}
Stack (x ∷ o ∷ []) = (is_link o.name ≡ true) × (is_link x.name ≡ false)
Stack (x ∷ o ∷ y ∷ still) = ⊥

-- an enter where a Link is open, or nothing
enter_stack : (still : List Event) (e : Event) → Stack still → stands_right Enter still e ≡ true → Stack (e ∷ still) × ((is_link e.name ≡ true → still ≡ []))
enter_stack [] e s t = (tt, λ _. refl)
enter_stack (o ∷ []) e s t =
    let w = and_parts (is_link o.name) (not (is_link e.name)) t in
    ((w.0, not-true (is_link e.name) w.1), λ h. absurd (both_ways (is_link e.name) (not-true (is_link e.name) w.1) h))
enter_stack (x ∷ o ∷ []) e s t =
    absurd (both_ways (is_link x.name) s.1 (and_parts (is_link x.name) (not (is_link e.name)) t).0)
enter_stack (x ∷ o ∷ y ∷ still) e s t = absurd s

exit_stack : (x : Event) (still : List Event) → Stack (x ∷ still) → Stack still
exit_stack x [] s = tt
exit_stack x (o ∷ []) s = tt
exit_stack x (o ∷ y ∷ still) s = absurd s

-- ---- what cannot be

abbrev pub leaves-from : List Event → List Event → List Segment
leaves-from still es = filter unlinked (spans_from still es)

abbrev pub links-from : List Event → List Event → List Segment
links-from still es = filter linking (spans_from still es)

-- one list enters a Link, the other another span
link_or_leaf : (note : List ℕ) (e f : Event) (es fs : List Event) → is_link e.name ≡ true → is_link f.name ≡ false → Fits note (e ∷ []) e.point.index es → Fits note (f ∷ []) f.point.index fs → leaves-from (e ∷ []) es ≡ leaves-from (f ∷ []) fs → links-from (e ∷ []) es ≡ links-from (f ∷ []) fs → ⊥
link_or_leaf note e f es fs he hf fe ff le ke =
    let c = leaf_closed note [] f fs f.point.index hf ff in
    let x = span f.name f.point.index c.to in
    let head : leaves-from (e ∷ []) es ≡ x ∷ filter unlinked (spans_from [] c.others) =
    le ∙ ap (filter unlinked) c.spans ∙ cond-true (unlinked x) _ _ (not_from_false (is_link f.name) hf) in
    let b1 = bound (λ n. not (is_link n)) e.point.index es (e ∷ []) e.point.index (omega arith) fe.onward ((λ t. absurd (both_ways (is_link e.name) (not-true (is_link e.name) t) he)), tt) in
    let low : e.point.index ≤ f.point.index = kept-head unlinked (λ y. e.point.index ≤ y.from) (spans_from (e ∷ []) es) x _ b1 head in
    let n = open_link note e es e.point.index he fe in
    let tail : links-from [] c.others ≡ n.link ∷ n.others =
    sym (cond-false (linking x) _ _ hf) ∙ sym (ap (filter linking) c.spans) ∙ sym ke ∙ n.is in
    let b2 = bound is_link c.to c.others [] c.to (omega arith) c.rest.onward tt in
    let high : c.to ≤ n.link.from = kept-head linking (λ y. c.to ≤ y.from) (spans_from [] c.others) n.link n.others b2 tail in
    omega (arith, c.lt, n.from)

-- in an open Link, one list enters a span, the other leaves the Link
enter_or_exit : (note : List ℕ) (o e f : Event) (es fs : List Event) → is_link o.name ≡ true → is_link e.name ≡ false → Fits note (e ∷ o ∷ []) e.point.index es → Fits note [] f.point.index fs → leaves-from (e ∷ o ∷ []) es ≡ leaves-from [] fs → links-from (e ∷ o ∷ []) es ≡ span o.name o.point.index f.point.index ∷ links-from [] fs → ⊥
enter_or_exit note o e f es fs ho he fe ff le ke =
    let c = leaf_closed note (o ∷ []) e es e.point.index he fe in
    let x = span e.name e.point.index c.to in
    let head : leaves-from [] fs ≡ x ∷ filter unlinked (spans_from (o ∷ []) c.others) =
    sym le ∙ ap (filter unlinked) c.spans ∙ cond-true (unlinked x) _ _ (not_from_false (is_link e.name) he) in
    let b = bound (λ n. not (is_link n)) f.point.index fs [] f.point.index (omega arith) ff.onward tt in
    let low : f.point.index ≤ e.point.index = kept-head unlinked (λ y. f.point.index ≤ y.from) (spans_from [] fs) x _ b head in
    let n = open_link note o c.others c.to ho c.rest in
    let tail : n.link ∷ n.others ≡ span o.name o.point.index f.point.index ∷ links-from [] fs =
    sym n.is ∙ sym (cond-false (linking x) _ _ he) ∙ sym (ap (filter linking) c.spans) ∙ ke in
    let last : n.link.to ≡ f.point.index = ap (λ (y : Segment). y.to) (heads n.link (span o.name o.point.index f.point.index) n.others (links-from [] fs) tail).0 in
    omega (arith, c.lt, n.to)

-- one list is at its end, the other is not
ended_or_not : (note : List ℕ) (still : List Event) (q : ℕ) (f : Event) (fs : List Event) → still ≡ [] → Fits note still q (f ∷ fs) → [] ≡ leaves-from still (f ∷ fs) → [] ≡ links-from still (f ∷ fs) → ⊥
ended_or_not note still q f fs z ff le ke =
    let g : Fits note [] q (f ∷ fs) = subst (λ t. Fits note t q (f ∷ fs)) z ff in
    let le' : [] ≡ leaves-from [] (f ∷ fs) = subst (λ t. [] ≡ leaves-from t (f ∷ fs)) z le in
    let ke' : [] ≡ links-from [] (f ∷ fs) = subst (λ t. [] ≡ links-from t (f ∷ fs)) z ke in
    ⊎_elim
    (λ d.
    let s = step-on note [] q f fs Enter d g in
    ⊎_elim
    (λ h. let n = open_link note f fs f.point.index h s.rest in no_cons n.link n.others (sym n.is ∙ sym (ap (filter linking) s.spans) ∙ sym ke'))
    (λ h.
    let c = leaf_closed note [] f fs f.point.index h s.rest in
    let x = span f.name f.point.index c.to in
    no_cons x (filter unlinked (spans_from [] c.others)) (sym (ap (filter unlinked) c.spans ∙ cond-true (unlinked x) _ _ (not_from_false (is_link f.name) h)) ∙ sym (ap (filter unlinked) s.spans) ∙ sym le'))
    (cases_Bool (is_link f.name)))
    (λ d. let s = step-on note [] q f fs Exit d g in true≢false (sym s.closing))
    (enter_or_exit_of f.kind)

-- ---- events that are equal

same-event : (note : List ℕ) (e f : Event) → e.kind ≡ f.kind → e.name ≡ f.name → e.point ≡ point_at note e.point.index → f.point ≡ point_at note f.point.index → e.point.index ≡ f.point.index → e ≡ f
same-event note e f a b p q i =
    let pts : e.point ≡ f.point = p ∙ ap (point_at note) i ∙ sym q in
    λ k. record { kind = a k; name = b k; point = pts k }

both_enter : (note : List ℕ) (still : List Event) (e f : Event) (es fs : List Event) → (is_link e.name ≡ true → still ≡ []) → (is_link f.name ≡ true → still ≡ []) → Fits note (e ∷ still) e.point.index es → Fits note (f ∷ still) f.point.index fs → leaves-from (e ∷ still) es ≡ leaves-from (f ∷ still) fs → links-from (e ∷ still) es ≡ links-from (f ∷ still) fs → (e.name ≡ f.name) × (e.point.index ≡ f.point.index)
both_enter note still e f es fs te tf fe ff le ke = go (cases_Bool (is_link e.name)) (cases_Bool (is_link f.name))
  where
    at_bottom : (g : Event) (gs : List Event) → still ≡ [] → Fits note (g ∷ still) g.point.index gs → Fits note (g ∷ []) g.point.index gs
    at_bottom g gs z h = subst (λ t. Fits note (g ∷ t) g.point.index gs) z h

    go : ((is_link e.name ≡ true) ⊎ (is_link e.name ≡ false)) → ((is_link f.name ≡ true) ⊎ (is_link f.name ≡ false)) → (e.name ≡ f.name) × (e.point.index ≡ f.point.index)
    go (inl he) (inl hf) =
        let z = te he in
        let n = open_link note e es e.point.index he (at_bottom e es z fe) in
        let k = open_link note f fs f.point.index hf (at_bottom f fs z ff) in
        let ke' : links-from (e ∷ []) es ≡ links-from (f ∷ []) fs = subst (λ t. links-from (e ∷ t) es ≡ links-from (f ∷ t) fs) z ke in
        let same : n.link ≡ k.link = (heads n.link k.link n.others k.others (sym n.is ∙ ke' ∙ k.is)).0 in
        (link-is e.name he ∙ sym (link-is f.name hf), sym n.from ∙ ap (λ (y : Segment). y.from) same ∙ k.from)
    go (inl he) (inr hf) =
        let z = te he in
        absurd (link_or_leaf note e f es fs he hf (at_bottom e es z fe) (at_bottom f fs z ff) (subst (λ t. leaves-from (e ∷ t) es ≡ leaves-from (f ∷ t) fs) z le) (subst (λ t. links-from (e ∷ t) es ≡ links-from (f ∷ t) fs) z ke))
    go (inr he) (inl hf) =
        let z = tf hf in
        absurd (link_or_leaf note f e fs es hf he (at_bottom f fs z ff) (at_bottom e es z fe) (subst (λ t. leaves-from (f ∷ t) fs ≡ leaves-from (e ∷ t) es) z (sym le)) (subst (λ t. links-from (f ∷ t) fs ≡ links-from (e ∷ t) es) z (sym ke)))
    go (inr he) (inr hf) =
        let c = leaf_closed note still e es e.point.index he fe in
        let d = leaf_closed note still f fs f.point.index hf ff in
        let x = span e.name e.point.index c.to in
        let y = span f.name f.point.index d.to in
        let ex : leaves-from (e ∷ still) es ≡ x ∷ filter unlinked (spans_from still c.others) = ap (filter unlinked) c.spans ∙ cond-true (unlinked x) _ _ (not_from_false (is_link e.name) he) in
        let ey : leaves-from (f ∷ still) fs ≡ y ∷ filter unlinked (spans_from still d.others) = ap (filter unlinked) d.spans ∙ cond-true (unlinked y) _ _ (not_from_false (is_link f.name) hf) in
        let same : x ≡ y = (heads x y (filter unlinked (spans_from still c.others)) (filter unlinked (spans_from still d.others)) (sym ex ∙ le ∙ ey)).0 in
        (ap (λ (z : Segment). z.name) same, ap (λ (z : Segment). z.from) same)

-- two spans of one test lead two lists, or none does
pub tails : (c : Segment → Bool) (x y : Segment) (xs ys : List Segment) → c x ≡ c y → filter c (x ∷ xs) ≡ filter c (y ∷ ys) → ((c x ≡ true) × (x ≡ y) × (filter c xs ≡ filter c ys)) ⊎ ((c x ≡ false) × (filter c xs ≡ filter c ys))
tails c x y xs ys s e =
    ⊎_elim
    (λ t. let h = heads x y (filter c xs) (filter c ys) (sym (cond-true (c x) (x ∷ filter c xs) (filter c xs) t) ∙ e ∙ cond-true (c y) (y ∷ filter c ys) (filter c ys) (sym s ∙ t)) in inl (t, h.0, h.1))
    (λ f. inr (f, sym (cond-false (c x) (x ∷ filter c xs) (filter c xs) f) ∙ e ∙ cond-false (c y) (y ∷ filter c ys) (filter c ys) (sym s ∙ f)))
    (cases_Bool (c x))

-- of two exits of the same enter: equal, and so is what is left
both_exit : (o : Event) (i j : ℕ) (xs ys : List Segment) → filter unlinked (span o.name o.point.index i ∷ xs) ≡ filter unlinked (span o.name o.point.index j ∷ ys) → filter linking (span o.name o.point.index i ∷ xs) ≡ filter linking (span o.name o.point.index j ∷ ys) → (i ≡ j) × (filter unlinked xs ≡ filter unlinked ys) × (filter linking xs ≡ filter linking ys)
both_exit o i j xs ys le ke =
    let x = span o.name o.point.index i in
    let y = span o.name o.point.index j in
    go (tails unlinked x y xs ys refl le) (tails linking x y xs ys refl ke)
  where
    go : ((not (is_link o.name) ≡ true) × (span o.name o.point.index i ≡ span o.name o.point.index j) × (filter unlinked xs ≡ filter unlinked ys)) ⊎ ((not (is_link o.name) ≡ false) × (filter unlinked xs ≡ filter unlinked ys)) → ((is_link o.name ≡ true) × (span o.name o.point.index i ≡ span o.name o.point.index j) × (filter linking xs ≡ filter linking ys)) ⊎ ((is_link o.name ≡ false) × (filter linking xs ≡ filter linking ys)) → (i ≡ j) × (filter unlinked xs ≡ filter unlinked ys) × (filter linking xs ≡ filter linking ys)
    go (inl a) (inl b) = (ap (λ (z : Segment). z.to) a.1, a.2, b.2)
    go (inl a) (inr b) = (ap (λ (z : Segment). z.to) a.1, a.2, b.1)
    go (inr a) (inl b) = (ap (λ (z : Segment). z.to) b.1, a.1, b.2)
    go (inr a) (inr b) = absurd (both_ways (not (is_link o.name)) a.0 (not_from_false (is_link o.name) b.0))

-- ---- and so lists that are

pub same-events : (note : List ℕ) (es fs still : List Event) (p q : ℕ) → Stack still → Fits note still p es → Fits note still q fs → leaves-from still es ≡ leaves-from still fs → links-from still es ≡ links-from still fs → es ≡ fs
same-events note [] [] still p q k fe ff le ke = refl
same-events note [] (f ∷ fs) still p q k fe ff le ke = absurd (ended_or_not note still q f fs fe.closed ff le ke)
same-events note (e ∷ es) [] still p q k fe ff le ke = absurd (ended_or_not note still p e es ff.closed fe (sym le) (sym ke))
same-events note (e ∷ es) (f ∷ fs) still p q k fe ff le ke = go (enter_or_exit_of e.kind) (enter_or_exit_of f.kind) (λ still' p' q' k' a b c d. same-events note es fs still' p' q' k' a b c d)
  where
    one_in : (still : List Event) (x y : Event) (xs ys : List Event) (p q : ℕ) → Stack still → Step note still p x xs Enter → Step note still q y ys Exit → leaves-from still (x ∷ xs) ≡ leaves-from still (y ∷ ys) → links-from still (x ∷ xs) ≡ links-from still (y ∷ ys) → ⊥
    one_in [] x y xs ys p q k sx sy le ke = true≢false (sym sy.closing)
    one_in (o ∷ []) x y xs ys p q k sx sy le ke =
        let w = and_parts (is_link o.name) (not (is_link x.name)) sx.standing in
        let hx = not-true (is_link x.name) w.1 in
        let s = span o.name o.point.index y.point.index in
        enter_or_exit note o x y xs ys w.0 hx sx.rest sy.rest
        (sym (ap (filter unlinked) sx.spans) ∙ le ∙ ap (filter unlinked) sy.spans ∙ cond-false (unlinked s) _ _ (not_from_true (is_link o.name) w.0))
        (sym (ap (filter linking) sx.spans) ∙ ke ∙ ap (filter linking) sy.spans ∙ cond-true (linking s) _ _ w.0)
    one_in (z ∷ o ∷ []) x y xs ys p q k sx sy le ke = both_ways (is_link z.name) k.1 (and_parts (is_link z.name) (not (is_link x.name)) sx.standing).0
    one_in (z ∷ o ∷ u ∷ still) x y xs ys p q k sx sy le ke = k

    out : (still : List Event) → Stack still → Step note still p e es Exit → Step note still q f fs Exit → leaves-from still (e ∷ es) ≡ leaves-from still (f ∷ fs) → links-from still (e ∷ es) ≡ links-from still (f ∷ fs) → e.kind ≡ f.kind → ((still : List Event) (p q : ℕ) → Stack still → Fits note still p es → Fits note still q fs → leaves-from still es ≡ leaves-from still fs → links-from still es ≡ links-from still fs → es ≡ fs) → e ∷ es ≡ f ∷ fs
    out [] k se sf le ke d rec = absurd (true≢false (sym se.closing))
    out (o ∷ still) k se sf le ke d rec =
        let ne = and_parts (same_name o.name e.name) (ltb o.point.index e.point.index) se.closing in
        let nf = and_parts (same_name o.name f.name) (ltb o.point.index f.point.index) sf.closing in
        let names : e.name ≡ f.name = same_names e.name f.name (sym (eqb-true (name_number o.name) (name_number e.name) ne.0) ∙ eqb-true (name_number o.name) (name_number f.name) nf.0) in
        let w = both_exit o e.point.index f.point.index (spans_from still es) (spans_from still fs) (sym (ap (filter unlinked) se.spans) ∙ le ∙ ap (filter unlinked) sf.spans) (sym (ap (filter linking) se.spans) ∙ ke ∙ ap (filter linking) sf.spans) in
        let ev : e ≡ f = same-event note e f d names se.point sf.point w.0 in
        let tl : es ≡ fs = rec still e.point.index f.point.index (exit_stack o still k) se.rest sf.rest w.1 w.2 in
        λ i. ev i ∷ tl i

    go : ((e.kind ≡ Enter) ⊎ (e.kind ≡ Exit)) → ((f.kind ≡ Enter) ⊎ (f.kind ≡ Exit)) → ((still : List Event) (p q : ℕ) → Stack still → Fits note still p es → Fits note still q fs → leaves-from still es ≡ leaves-from still fs → links-from still es ≡ links-from still fs → es ≡ fs) → e ∷ es ≡ f ∷ fs
    go (inl a) (inl b) rec =
        let se = step-on note still p e es Enter a fe in
        let sf = step-on note still q f fs Enter b ff in
        let ue = enter_stack still e k se.standing in
        let uf = enter_stack still f k sf.standing in
        let le' : leaves-from (e ∷ still) es ≡ leaves-from (f ∷ still) fs = sym (ap (filter unlinked) se.spans) ∙ le ∙ ap (filter unlinked) sf.spans in
        let ke' : links-from (e ∷ still) es ≡ links-from (f ∷ still) fs = sym (ap (filter linking) se.spans) ∙ ke ∙ ap (filter linking) sf.spans in
        let w = both_enter note still e f es fs ue.1 uf.1 se.rest sf.rest le' ke' in
        let ev : e ≡ f = same-event note e f (a ∙ sym b) w.0 se.point sf.point w.1 in
        let tl : es ≡ fs =
        rec (e ∷ still) e.point.index f.point.index ue.0 se.rest (subst (λ g. Fits note (g ∷ still) f.point.index fs) (sym ev) sf.rest)
        (le' ∙ ap (λ g. leaves-from (g ∷ still) fs) (sym ev)) (ke' ∙ ap (λ g. links-from (g ∷ still) fs) (sym ev)) in
        λ i. ev i ∷ tl i
    go (inl a) (inr b) rec = absurd (one_in still e f es fs p q k (step-on note still p e es Enter a fe) (step-on note still q f fs Exit b ff) le ke)
    go (inr a) (inl b) rec = absurd (one_in still f e fs es q p k (step-on note still q f fs Enter b ff) (step-on note still p e es Exit a fe) (sym le) (sym ke))
    go (inr a) (inr b) rec = out still k (step-on note still p e es Exit a fe) (step-on note still q f fs Exit b ff) le ke (a ∙ sym b) rec
