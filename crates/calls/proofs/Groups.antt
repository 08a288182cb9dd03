-- Marked runs of an ended list, as runs of its spans.
-- Assumes nothing.
use Rattle.std.proofs.Common.{◌≡◌, ℕ, zero, suc, ◌+◌, ◌-◌, ◌<◌, ◌≤◌, true, ◌&&◌, ltb, leb, List, [], ◌∷◌, ◌++◌, length, take, drop, sym, refl, ap, ◌∙◌, subst, arith}
use Rattle.std.proofs.lemmas.List.{append_assoc, take-append-drop, drop-drop}
use Rattle.std.proofs.lemmas.Bool.{and_parts, leb-true, ltb-true, true≢false}
use Rattle.machine.specs.declared.events.Event.{Event}
use Rattle.machine.specs.declared.events.EventKind.TheVariants.{Enter, Exit}
use Rattle.machine.specs.declared.events.Name.TheVariants as name
use Rattle.machine.specs.Laws.{event_at, Segment, events_of}
use Rattle.calls.specs.declared.links.MarkedRun.{MarkedRun}
use Rattle.calls.specs.EventLists.{span, spans}
use Rattle.calls.specs.Links.{has_enter, has_exit, markable, marked_in_turn, splits, mail_cut_out, index_of, numbered, resolved_from}
use Rattle.calls.specs.Claims.{link_spans}
use Rattle.calls.specs.Passes.{with_links_from}
use Rattle.calls.proofs.Spans.{spans_of}

-- event number k + k is the enter of span number k, and the next its exit
enters_even : (note : List ℕ) (xs : List Segment) (n : ℕ) → has_enter (events_of note xs) n ≡ true → (k : ℕ) × (n ≡ k + k) × (k < length xs)
enters_even note [] n e = absurd (true≢false (sym e))
enters_even note (x ∷ xs) zero e = (0, omega arith, omega arith)
enters_even note (x ∷ xs) (suc zero) e = absurd (true≢false (sym e))
enters_even note (x ∷ xs) (suc (suc n)) e = let w = enters_even note xs n e in (suc w.0, omega (arith, w.1), omega (arith, w.2))

exits_odd : (note : List ℕ) (xs : List Segment) (n : ℕ) → has_exit (events_of note xs) n ≡ true → (k : ℕ) × (n ≡ suc (k + k)) × (k < length xs)
exits_odd note [] n e = absurd (true≢false (sym e))
exits_odd note (x ∷ xs) zero e = absurd (true≢false (sym e))
exits_odd note (x ∷ xs) (suc zero) e = (0, omega arith, omega arith)
exits_odd note (x ∷ xs) (suc (suc n)) e = let w = exits_odd note xs n e in (suc w.0, omega (arith, w.1), omega (arith, w.2))

twice : (k : ℕ) → suc k + suc k ≡ suc (suc (k + k))
twice k = omega arith

drop-events : (note : List ℕ) (xs : List Segment) (k : ℕ) → drop (k + k) (events_of note xs) ≡ events_of note (drop k xs)
drop-events note xs zero = refl
drop-events note [] (suc k) = ap (λ n. drop n (events_of note [])) (twice k)
drop-events note (x ∷ xs) (suc k) = ap (λ n. drop n (events_of note (x ∷ xs))) (twice k) ∙ drop-events note xs k

take-events : (note : List ℕ) (xs : List Segment) (k : ℕ) → take (k + k) (events_of note xs) ≡ events_of note (take k xs)
take-events note xs zero = refl
take-events note [] (suc k) = ap (λ n. take n (events_of note [])) (twice k)
take-events note (x ∷ xs) (suc k) =
    ap (λ n. take n (events_of note (x ∷ xs))) (twice k) ∙ ap (λ l. event_at note Enter x.name x.from ∷ event_at note Exit x.name x.to ∷ l) (take-events note xs k)

numbered-events : (note : List ℕ) (xs : List Segment) (a b : ℕ) → numbered (a + a) (b + b) (events_of note xs) ≡ events_of note (take (b - a) (drop a xs))
numbered-events note xs a b =
    let e : b + b - (a + a) ≡ (b - a) + (b - a) = omega arith in
    ap (λ n. take n (drop (a + a) (events_of note xs))) e ∙ ap (take ((b - a) + (b - a))) (drop-events note xs a) ∙ take-events note (drop a xs) (b - a)

-- where a list of spans begins and ends
abbrev pub begin : List Segment → ℕ
begin [] = 0
begin (x ∷ xs) = x.from

abbrev pub finish : List Segment → ℕ
finish [] = 0
finish (x ∷ []) = x.to
finish (x ∷ y ∷ ys) = finish (y ∷ ys)

abbrev to_of : List Segment → ℕ → ℕ
to_of [] n = 0
to_of (x ∷ xs) zero = x.to
to_of (x ∷ xs) (suc n) = to_of xs n

index_enter : (note : List ℕ) (xs : List Segment) (k : ℕ) → index_of (events_of note xs) (k + k) ≡ begin (drop k xs)
index_enter note [] zero = refl
index_enter note (x ∷ xs) zero = refl
index_enter note [] (suc k) = ap (index_of (events_of note [])) (twice k)
index_enter note (x ∷ xs) (suc k) = ap (index_of (events_of note (x ∷ xs))) (twice k) ∙ index_enter note xs k

index_exit : (note : List ℕ) (xs : List Segment) (k : ℕ) → index_of (events_of note xs) (suc (k + k)) ≡ to_of xs k
index_exit note [] zero = refl
index_exit note (x ∷ xs) zero = refl
index_exit note [] (suc k) = ap (λ n. index_of (events_of note []) (suc n)) (twice k)
index_exit note (x ∷ xs) (suc k) = ap (λ n. index_of (events_of note (x ∷ xs)) (suc n)) (twice k) ∙ index_exit note xs k

begin_take : (xs : List Segment) (n : ℕ) → begin (take (suc n) xs) ≡ begin xs
begin_take [] n = refl
begin_take (x ∷ xs) n = refl

finish_take : (xs : List Segment) (n : ℕ) → n < length xs → finish (take (suc n) xs) ≡ to_of xs n
finish_take [] n lt = absurd (omega arith)
finish_take (x ∷ xs) zero lt = refl
finish_take (x ∷ []) (suc n) lt = absurd (omega arith)
finish_take (x ∷ y ∷ ys) (suc n) lt = finish_take (y ∷ ys) n (omega arith)

to_at_drop : (xs : List Segment) (p n : ℕ) → to_of (drop p xs) n ≡ to_of xs (p + n)
to_at_drop xs zero n = let e : n ≡ 0 + n = omega arith in ap (to_of xs) e
to_at_drop [] (suc p) n = refl
to_at_drop (x ∷ xs) (suc p) n = let e : suc (p + n) ≡ suc p + n = omega arith in to_at_drop xs p n ∙ ap (to_of (x ∷ xs)) e

-- ---- spans outside links and marked runs of spans, in turn

pub data Groups : Type 0 where
  rest : List Segment → Groups
  group : List Segment → List Segment → Groups → Groups

abbrev pub flat : Groups → List Segment
flat (rest xs) = xs
flat (group xs ys g) = xs ++ (ys ++ flat g)

abbrev pub group_events : List ℕ → Groups → List Event
group_events note (rest xs) = events_of note (splits note xs)
group_events note (group xs ys g) =
    events_of note (splits note xs) ++ (event_at note Enter name.Link (begin ys) ∷ (events_of note ys ++ (event_at note Exit name.Link (finish ys) ∷ group_events note g)))

-- the same before mail is cut out
abbrev pub group_linked : List ℕ → Groups → List Event
group_linked note (rest xs) = events_of note xs
group_linked note (group xs ys g) =
    events_of note xs ++ (event_at note Enter name.Link (begin ys) ∷ (events_of note ys ++ (event_at note Exit name.Link (finish ys) ∷ group_linked note g)))

abbrev pub group_links : Groups → List Segment
group_links (rest xs) = []
group_links (group xs ys g) = span name.Link (begin ys) (finish ys) ∷ group_links g

-- no marked run is empty
abbrev pub NoneEmpty : Groups → Type 0
NoneEmpty (rest xs) = Unit {0}
NoneEmpty (group xs ys g) = (0 < length ys) × NoneEmpty g

pub record Grouped (note : List ℕ) (xs : List Segment) (k : ℕ) (ls : List MarkedRun) : Type 0 where
  pub groups : Groups
  pub flat_are : flat groups ≡ drop k xs
  pub none_empty : NoneEmpty groups
  pub events_are : resolved_from note (events_of note xs) (k + k) ls ≡ group_events note groups
  pub linked_are : with_links_from note (events_of note xs) (k + k) ls ≡ group_linked note groups
  pub links_are : link_spans (events_of note xs) ls ≡ group_links groups

mailed_is : (note : List ℕ) (es : List Event) (xs : List Segment) → es ≡ events_of note xs → mail_cut_out note es ≡ events_of note (splits note xs)
mailed_is note es xs e = ap (λ t. events_of note (splits note t)) (ap spans e ∙ spans_of note xs)

length_taken : (xs : List Segment) (p n : ℕ) → p < length xs → 0 < length (take (suc n) (drop p xs))
length_taken [] p n lt = absurd (omega arith)
length_taken (x ∷ xs) zero n lt = omega arith
length_taken (x ∷ xs) (suc p) n lt = length_taken xs p n (omega arith)

length-past : (xs : List Segment) (p q : ℕ) → p ≤ q → q < length xs → q - p < length (drop p xs)
length-past xs p q le lt = simp Rattle.std.proofs.lemmas.List.length-drop (omega arith)

-- a run between two events, put between others
between : (es fs gs : List Event) (x y : Event) → es ++ (x ∷ (fs ++ y ∷ [])) ++ gs ≡ es ++ (x ∷ (fs ++ (y ∷ gs)))
between es fs gs x y = append_assoc es (x ∷ (fs ++ y ∷ [])) gs ∙ ap (λ t. es ++ (x ∷ t)) (append_assoc fs (y ∷ []) gs)

-- one link more, over spans p to q
one_more : (note : List ℕ) (xs : List Segment) (k p q : ℕ) (l : MarkedRun) (ls : List MarkedRun) → k ≤ p → p ≤ q → p < length xs → q < length xs → l.first ≡ p + p → l.last ≡ suc (q + q) → Grouped note xs (suc q) ls → Grouped note xs k (l ∷ ls)
one_more note xs k p q l ls kp pq pl ql fe le g =
    let E = events_of note xs in
    let before = take (p - k) (drop k xs) in
    let chosen = take (suc q - p) (drop p xs) in
    let n : suc q - p ≡ suc (q - p) = omega arith in
    let next : suc l.last ≡ suc q + suc q = omega arith in
    let at : k + (p - k) ≡ p = omega arith in
    let past : p + (suc q - p) ≡ suc q = omega arith in
    let there : p + (q - p) ≡ q = omega arith in
    let begins : index_of E l.first ≡ begin chosen = ap (index_of E) fe ∙ index_enter note xs p ∙ sym (begin_take (drop p xs) (q - p)) ∙ sym (ap (λ j. begin (take j (drop p xs))) n) in
    let finishes : index_of E l.last ≡ finish chosen =
    ap (index_of E) le ∙ index_exit note xs q ∙ ap (to_of xs) (sym there) ∙ sym (to_at_drop xs p (q - p))
    ∙ sym (finish_take (drop p xs) (q - p) (length-past xs p q pq ql)) ∙ sym (ap (λ j. finish (take j (drop p xs))) n) in
    let front : numbered (k + k) l.first E ≡ events_of note before = ap (λ j. numbered (k + k) j E) fe ∙ numbered-events note xs k p in
    let cut-front : mail_cut_out note (numbered (k + k) l.first E) ≡ events_of note (splits note before) = mailed_is note (numbered (k + k) l.first E) before front in
    let middle : numbered l.first (suc l.last) E ≡ events_of note chosen =
    ap (λ j. numbered j (suc l.last) E) fe ∙ ap (λ j. numbered (p + p) j E) next ∙ numbered-events note xs p (suc q) in
    let tail : resolved_from note E (suc l.last) ls ≡ group_events note g.groups = ap (λ j. resolved_from note E j ls) next ∙ g.events_are in
    let linked-tail : with_links_from note E (suc l.last) ls ≡ group_linked note g.groups = ap (λ j. with_links_from note E j ls) next ∙ g.linked_are in
    record {
      groups = group before chosen g.groups;
      flat_are =
          ap (λ t. before ++ (chosen ++ t)) (g.flat_are ∙ ap (λ j. drop j xs) (sym past) ∙ sym (drop-drop (suc q - p) p xs))
          ∙ ap (λ t. before ++ t) (take-append-drop (suc q - p) (drop p xs) ∙ ap (λ j. drop j xs) (sym at) ∙ sym (drop-drop (p - k) k xs))
          ∙ take-append-drop (p - k) (drop k xs);
      none_empty = (subst (λ j. 0 < length (take j (drop p xs))) (sym n) (length_taken xs p (q - p) pl), g.none_empty);
      events_are =
          (λ i. cut-front i ++ (event_at note Enter name.Link (begins i) ∷ (middle i ++ event_at note Exit name.Link (finishes i) ∷ [])) ++ tail i)
          ∙ between (events_of note (splits note before)) (events_of note chosen) (group_events note g.groups) (event_at note Enter name.Link (begin chosen)) (event_at note Exit name.Link (finish chosen));
      linked_are =
          (λ i. front i ++ (event_at note Enter name.Link (begins i) ∷ (middle i ++ event_at note Exit name.Link (finishes i) ∷ [])) ++ linked-tail i)
          ∙ between (events_of note before) (events_of note chosen) (group_linked note g.groups) (event_at note Enter name.Link (begin chosen)) (event_at note Exit name.Link (finish chosen));
      links_are = λ i. span name.Link (begins i) (finishes i) ∷ g.links_are i;
    }

pub grouped : (note : List ℕ) (xs : List Segment) (ls : List MarkedRun) (k : ℕ) → marked_in_turn (events_of note xs) (k + k) ls ≡ true → Grouped note xs k ls
grouped note xs [] k e = record {
  groups = rest (drop k xs);
  flat_are = refl;
  none_empty = tt;
  events_are = mailed_is note (drop (k + k) (events_of note xs)) (drop k xs) (drop-events note xs k);
  linked_are = drop-events note xs k;
  links_are = refl;
}
grouped note xs (l ∷ ls) k e =
    let E = events_of note xs in
    let a = and_parts (markable E (k + k) l) (marked_in_turn E (suc l.last) ls) e in
    let b = and_parts (leb (k + k) l.first && ltb l.first l.last && has_enter E l.first) (has_exit E l.last) a.0 in
    let c = and_parts (leb (k + k) l.first && ltb l.first l.last) (has_enter E l.first) b.0 in
    let d = and_parts (leb (k + k) l.first) (ltb l.first l.last) c.0 in
    let low = leb-true (k + k) l.first d.0 in
    let up = ltb-true l.first l.last d.1 in
    let p = enters_even note xs l.first c.1 in
    let q = exits_odd note xs l.last b.1 in
    let next : suc l.last ≡ suc q.0 + suc q.0 = omega (arith, q.1) in
    one_more note xs k p.0 q.0 l ls (omega (arith, p.1)) (omega (arith, p.1, q.1)) p.2 q.2 p.1 q.1
    (grouped note xs ls (suc q.0) (subst (λ j. marked_in_turn E j ls ≡ true) next a.1))
