-- Resolving in two passes over an event list: links are put in, then mail is cut out of the data outside them.
-- Assumes nothing.
use Rattle.std.specs.Prelude.{◌≡◌, ℕ, suc, Bool, true, false, cond, not, ◌||◌, List, [], ◌∷◌, ◌++◌, drop}
use Rattle.std.specs.List.{AllByRecursion}
use Rattle.machine.specs.declared.events.Event.{Event}
use Rattle.machine.specs.Joins.{is_data}
use Rattle.machine.specs.Laws.{enters, Segment, events_of}
use Rattle.calls.specs.declared.links.MarkedRun.{MarkedRun}
use Rattle.calls.specs.EventLists.{span, is_link}
use Rattle.calls.specs.Links.{marked_in_turn, split, numbered, linked, resolved}

-- from number a on: what stands before the next link, that link, and so on
abbrev pub with_links_from : List ℕ → List Event → ℕ → List MarkedRun → List Event
with_links_from note es a [] = drop a es
with_links_from note es a (l ∷ ls) = numbered a l.first es ++ linked note es l ++ with_links_from note es (suc l.last) ls

abbrev pub with_links : List ℕ → List MarkedRun → List Event → List Event
with_links note ls es = with_links_from note es 0 ls

-- in_link: whether a Link is open. An enter and an exit outside links, of Data, give way to those of the Data split around its addresses
abbrev pub mail_cut : List ℕ → Bool → List Event → List Event
mail_cut note in_link [] = []
mail_cut note in_link (a ∷ []) = a ∷ []
mail_cut note in_link (a ∷ b ∷ es) =
    let past_a = mail_cut note (enters a.kind) (b ∷ es) in
    let past_b = mail_cut note in_link es in
    cond (is_link a.name) (a ∷ past_a)
    (cond (in_link || not (is_data a.name)) (a ∷ b ∷ past_b)
    (events_of note (split note (span a.name a.point.index b.point.index)) ++ past_b))

-- together they resolve: of any events of spans, none of them a Link
abbrev pub TwoPassesResolve : Type 0
TwoPassesResolve =
    (note : List ℕ) (xs : List Segment) (ls : List MarkedRun) → AllByRecursion (λ x. is_link x.name ≡ false) xs → marked_in_turn (events_of note xs) 0 ls ≡ true →
    mail_cut note false (with_links note ls (events_of note xs)) ≡ resolved note ls (events_of note xs)
