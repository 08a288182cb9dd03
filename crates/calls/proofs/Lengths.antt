-- How many events a note can have: two for each byte, and two for each link.
-- Assumes nothing.
use Rattle.std.proofs.Common.{◌≡◌, ℕ, suc, ◌+◌, ◌*◌, ◌≤◌, Bool, true, List, [], ◌∷◌, ◌++◌, length, sym, refl, ap, ◌∙◌, subst, arith}
use Rattle.std.proofs.lemmas.List.{length-append}
use Rattle.machine.specs.declared.events.Event.{Event}
use Rattle.machine.specs.declared.events.EventKind.TheVariants.{Enter, Exit}
use Rattle.machine.specs.declared.events.Name.TheVariants as name
use Rattle.machine.specs.Laws.{event_at, Segment, events_of, Tiles}
use Rattle.calls.specs.declared.links.MarkedRun.{MarkedRun}
use Rattle.calls.specs.Links.{marked_in_turn, splits, resolved, ended_spans, ended_events, resolved_events}
use Rattle.calls.specs.Claims.{link_spans}
use Rattle.calls.proofs.Spans.{tiles_le}
use Rattle.calls.proofs.Ended.{segment-tiles}
use Rattle.calls.proofs.Mail.{splits-tiles}
use Rattle.calls.proofs.Groups.{Groups, rest, group, flat, group_events, group_links, begin, finish, Grouped, grouped}
use Rattle.calls.proofs.Inside.{tiles-split}

length-events : (note : List ℕ) (xs : List Segment) → length (events_of note xs) ≡ 2 * length xs
length-events note [] = refl
length-events note (x ∷ xs) = let h = length-events note xs in omega arith

tiles-few : (xs : List Segment) (a b : ℕ) → Tiles a b xs → a + length xs ≤ b
tiles-few [] a b t = omega arith
tiles-few (x ∷ xs) a b t = let h = tiles-few xs x.to b t.2 in omega (arith, t.1)

events-few : (note : List ℕ) (xs : List Segment) (a b : ℕ) → Tiles a b xs → 2 * a + length (events_of note xs) ≤ 2 * b
events-few note xs a b t = let h = tiles-few xs a b t in let e = length-events note xs in omega arith

pub ended-room : (member : ℕ → Bool) (note : List ℕ) → length (ended_events member note) ≤ 2 * length note
ended-room member note = let h = events-few note (ended_spans member note) 0 (length note) (segment-tiles member note) in omega arith

group_few : (note : List ℕ) (g : Groups) (a b : ℕ) → b ≤ length note → Tiles a b (flat g) → 2 * a + length (group_events note g) ≤ 2 * b + 2 * length (group_links g)
group_few note (rest xs) a b le t = let h = events-few note (splits note xs) a b (splits-tiles note xs a b le t) in omega arith
group_few note (group xs ys g) a b le t =
    let w = tiles-split xs (ys ++ flat g) a b t in
    let v = tiles-split ys (flat g) w.0 b w.2 in
    let hi = tiles_le (ys ++ flat g) w.0 b w.2 in
    let h1 = events-few note (splits note xs) a w.0 (splits-tiles note xs a w.0 (omega arith) w.1) in
    let h2 = events-few note ys w.0 v.0 v.1 in
    let h3 = group_few note g v.0 b le v.2 in
    let e1 = length-append (events_of note (splits note xs)) (event_at note Enter name.Link (begin ys) ∷ (events_of note ys ++ (event_at note Exit name.Link (finish ys) ∷ group_events note g))) in
    let e2 = length-append (events_of note ys) (event_at note Exit name.Link (finish ys) ∷ group_events note g) in
    omega arith

length-links : (es : List Event) (ls : List MarkedRun) → length (link_spans es ls) ≡ length ls
length-links es [] = refl
length-links es (l ∷ ls) = ap suc (length-links es ls)

-- of spans that tile the text up to a byte, whatever they are
pub tiled-room : (note : List ℕ) (xs : List Segment) (to : ℕ) (ls : List MarkedRun) → Tiles 0 to xs → to ≤ length note → marked_in_turn (events_of note xs) 0 ls ≡ true → length (resolved note ls (events_of note xs)) ≤ 2 * to + 2 * length ls
tiled-room note xs to ls t le ok =
    let by : Grouped note xs 0 ls = grouped note xs ls 0 ok in
    let h = group_few note by.groups 0 to le (subst (λ l. Tiles 0 to l) (sym by.flat_are) t) in
    let e : length (resolved note ls (events_of note xs)) ≡ length (group_events note by.groups) = ap length by.events_are in
    let f : length ls ≡ length (group_links by.groups) = sym (length-links (events_of note xs) ls) ∙ ap length by.links_are in
    omega arith

-- of the segments of a note
pub resolved-room : (member : ℕ → Bool) (note : List ℕ) (ls : List MarkedRun) → marked_in_turn (ended_events member note) 0 ls ≡ true → length (resolved_events member note ls) ≤ 2 * length note + 2 * length ls
resolved-room member note ls ok = tiled-room note (ended_spans member note) (length note) ls (segment-tiles member note) (omega arith) ok
