-- The events of a note that was read to its end: what the two passes need to know of them.
-- Assumes nothing.
use Rattle.std.proofs.Common.{◌≡◌, ℕ, suc, ◌+◌, ◌-◌, ◌*◌, ◌≤◌, Bool, true, false, List, [], ◌∷◌, ◌++◌, length, drop, sym, refl, ap, ◌∙◌, subst, arith}
use mathlib.Core.Logic.{∥∥₁_elim}
use mathlib.Core.Bool.{Bool-set}
use mathlib.Core.List.{is_set}
use native.Mathlib.Bridge.{le_prop}
use native.Mathlib.Nat.{ℕ_set}
use Rattle.std.specs.List.{AllByRecursion}
use Rattle.std.proofs.lemmas.List.{append-nil, length-append, length-drop, length-take-le}
use Rattle.std.proofs.lemmas.Bool.{true≢false}
use Rattle.edit_map.specs.Edits.{Edit, applied}
use Rattle.machine.specs.declared.events.Event.{Event}
use Rattle.machine.specs.declared.events.EventKind.{EventKind}
use Rattle.machine.specs.declared.events.EventKind.TheVariants.{Enter, Exit}
use Rattle.machine.specs.declared.events.Name.TheVariants as name
use Rattle.machine.specs.Laws.{event_at, Segment, events_of, Tiles}
use Rattle.calls.specs.declared.links.MarkedRun.{MarkedRun}
use Rattle.calls.specs.Links.{marked_in_turn, numbered, linked, resolved, ended_spans, ended_events}
use Rattle.calls.specs.Passes.{with_links_from, with_links, mail_cut}
use Rattle.calls.proofs.Spans.{Leaf, tiles_le}
use Rattle.calls.proofs.Ended.{segment-tiles, segment-leaves}
use Rattle.calls.proofs.GroupLists.{all_split}
use Rattle.calls.proofs.Groups.{Groups, rest, group, flat, begin, finish, group_linked, Grouped, grouped}
use Rattle.calls.proofs.Inside.{tiles-split}
use Rattle.calls.proofs.Lengths.{ended-room, resolved-room}
use Rattle.calls.proofs.Passes.{two_passes_resolve}
use Rattle.resolving.specs.Ended.{EndedWith, Resolvable}
use Rattle.resolving.specs.Places.{AllPlaced, PairsInOrder}
use Rattle.resolving.proofs.Marking.{run_of}
use Rattle.resolving.proofs.Sets.{events-set}

-- ---- places

all-placed : (note : List ℕ) (xs : List Segment) → AllPlaced note (events_of note xs)
all-placed note [] = tt
all-placed note (x ∷ xs) = (refl, (refl, all-placed note xs))

-- ---- how long the list with links is

length-linked : (note : List ℕ) (es : List Event) (a : ℕ) (ls : List MarkedRun) → marked_in_turn es a ls ≡ true → length (with_links_from note es a ls) ≡ length es - a + 2 * length ls
length-linked note es a [] e = omega (arith, length-drop a es)
length-linked note es a (l ∷ ls) e =
    let r = run_of es a l ls e in
    let h = length-linked note es (suc l.last) ls r.1 in
    let inner = numbered l.first (suc l.last) es in
    let p = length-append (numbered a l.first es ++ linked note es l) (with_links_from note es (suc l.last) ls) in
    let q = length-append (numbered a l.first es) (linked note es l) in
    let s = length-append inner (event_at note Exit name.Link (Rattle.calls.specs.Links.index_of es l.last) ∷ []) in
    let n : length (numbered a l.first es) ≡ l.first - a = length-take-le (l.first - a) (drop a es) (simp length-drop (omega (arith, r.0.low, r.0.up, r.0.within))) in
    let m : length (numbered l.first (suc l.last) es) ≡ suc l.last - l.first = length-take-le (suc l.last - l.first) (drop l.first es) (simp length-drop (omega (arith, r.0.up, r.0.within))) in
    omega (arith, r.0.low, r.0.up, r.0.within)

-- ---- pairs in order

module _ (note : List ℕ) where
  pairs_events : (xs : List Segment) (es : List Event) (a b : ℕ) → Tiles a b xs → b ≤ length note → AllByRecursion Leaf xs → PairsInOrder note b es → PairsInOrder note a (events_of note xs ++ es)
  pairs_events [] es a b t le h p = subst (λ (k : ℕ). PairsInOrder note k es) (sym t) p
  pairs_events (x ∷ xs) es a b t le h p =
      let hi = tiles_le xs x.to b t.2 in (
        λ link. absurd (true≢false (sym link ∙ h.0)),
        λ _. (refl, omega (arith, t.0), omega (arith, t.0, t.1), omega arith, pairs_events xs es x.to b t.2 le h.1 p),
      )

  pairs-link : (kind : EventKind) (i a : ℕ) (es : List Event) → PairsInOrder note a es → PairsInOrder note a (event_at note kind name.Link i ∷ es)
  pairs-link kind i a [] p = tt
  pairs-link kind i a (e ∷ es) p = (λ _. p, λ f. absurd (true≢false f))

  pairs_group : (g : Groups) (a b : ℕ) → Tiles a b (flat g) → b ≤ length note → AllByRecursion Leaf (flat g) → PairsInOrder note a (group_linked note g)
  pairs_group (rest xs) a b t le h = subst (PairsInOrder note a) (append-nil (events_of note xs)) (pairs_events xs [] a b t le h tt)
  pairs_group (group xs ys g) a b t le h =
      let w = tiles-split xs (ys ++ flat g) a b t in
      let v = tiles-split ys (flat g) w.0 b w.2 in
      let hi = tiles_le (ys ++ flat g) w.0 b w.2 in
      let hi' = tiles_le (flat g) v.0 b v.2 in
      let p = all_split Leaf xs (ys ++ flat g) h in
      let q = all_split Leaf ys (flat g) p.1 in
      let behind = pairs-link Exit (finish ys) v.0 (group_linked note g) (pairs_group g v.0 b v.2 le q.1) in
      let inner = pairs_events ys (event_at note Exit name.Link (finish ys) ∷ group_linked note g) w.0 v.0 v.1 (omega arith) q.0 behind in
      pairs_events xs (event_at note Enter name.Link (begin ys) ∷ (events_of note ys ++ (event_at note Exit name.Link (finish ys) ∷ group_linked note g))) a w.0 w.1 (omega arith) p.0
      (pairs-link Enter (begin ys) w.0 (events_of note ys ++ (event_at note Exit name.Link (finish ys) ∷ group_linked note g)) inner)

-- ---- what is known of the two passes

pub record Passes (note : List ℕ) (links : List MarkedRun) (es : List Event) : Type 0 where
  pub short : length note ≤ 1024
  pub few : length links ≤ 64
  pub marked : marked_in_turn es 0 links ≡ true
  pub length_ended : length es ≤ 2048
  pub placed : AllPlaced note es
  pub length_linked : length (with_links note links es) ≤ 2176
  pub pairs : PairsInOrder note 0 (with_links note links es)
  pub resolves : mail_cut note false (with_links note links es) ≡ resolved note links es
  pub length_resolved : length (resolved note links es) ≤ 2176

passes-ended : (member : ℕ → Bool) (note : List ℕ) (links : List MarkedRun) → length note ≤ 1024 → marked_in_turn (ended_events member note) 0 links ≡ true → length links ≤ 64 → Passes note links (ended_events member note)
passes-ended member note links short marked few =
    let xs = ended_spans member note in
    let tiles = segment-tiles member note in
    let leaves = segment-leaves member note in
    let by : Grouped note xs 0 links = grouped note xs links 0 marked in
    record {
      short = short;
      few = few;
      marked = marked;
      length_ended = omega (arith, ended-room member note);
      placed = all-placed note xs;
      length_linked = omega (arith, length-linked note (ended_events member note) 0 links marked, ended-room member note);
      pairs =
          subst (PairsInOrder note 0) (sym by.linked_are)
          (pairs_group note by.groups 0 (length note) (subst (Tiles 0 (length note)) (sym by.flat_are) tiles) (omega arith) (subst (AllByRecursion Leaf) (sym by.flat_are) leaves));
      resolves = two_passes_resolve note xs links leaves marked;
      length_resolved = omega (arith, resolved-room member note links marked);
    }

from_ended : (note : List ℕ) (links : List MarkedRun) (es : List Event) → EndedWith note links es → Passes note links es
from_ended note links es e =
    subst (Passes note links) (sym e.ended)
    (passes-ended e.member note links e.short (subst (λ (l : List Event). marked_in_turn l 0 links ≡ true) e.ended e.marked) e.few)

-- ---- and it does not depend on what the punctuation set meant

module _ (note : List ℕ) where
  placed_prop : (es : List Event) → IsProp (AllPlaced note es)
  placed_prop [] = hlevel
  placed_prop (e ∷ es) = hlevel (ℕ_set, placed_prop es)

  pairs_prop : (es : List Event) (a : ℕ) → IsProp (PairsInOrder note a es)
  pairs_prop [] a = hlevel
  pairs_prop (x ∷ []) a = hlevel
  pairs_prop (x ∷ y ∷ es) a = hlevel (ℕ_set, le_prop, pairs_prop (y ∷ es) a, pairs_prop es y.point.index)

  passes_prop : (links : List MarkedRun) (es : List Event) → IsProp (Passes note links es)
  passes_prop links es = hlevel (le_prop, Bool-set, events-set, is_set, placed_prop es, pairs_prop (with_links note links es) 0)

  pub passes : (links : List MarkedRun) (es : List Event) → Resolvable note links es → Passes note links es
  passes links es r = ∥∥₁_elim r (passes_prop links es) (from_ended note links es)

-- ---- what the passes leave; shown: the events as they are lent to a pass

module _ (note : List ℕ) (links : List MarkedRun) (es : List Event) (p : Passes note links es) (batch : List (Edit Event)) (shown : List Event) where
  pub after_first : shown ≡ es → ((n : List ℕ) → AllPlaced n shown → applied batch shown ≡ with_links n links shown) → applied batch es ≡ with_links note links es
  after_first is made = subst (λ (l : List Event). applied batch l ≡ with_links note links l) is (made note (subst (AllPlaced note) (sym is) p.placed))

  pub after_second : (middle : List Event) → middle ≡ with_links note links es → shown ≡ middle → applied batch shown ≡ mail_cut note false shown → applied batch middle ≡ resolved note links es
  after_second middle linked is made = ap (applied batch) (sym is) ∙ made ∙ ap (mail_cut note false) (is ∙ linked) ∙ p.resolves
