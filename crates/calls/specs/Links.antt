-- Runs of events marked as links, and what an ended list becomes when it is resolved.
-- Assumes nothing.
use Rattle.std.specs.Prelude.{ℕ, zero, suc, ◌-◌, Bool, true, false, cond, not, ◌&&◌, List, [], ◌∷◌, ◌++◌, map, take, drop, nat_le, nat_lt}
use Rattle.text.specs.declared.spans.Span.{Span}
use Rattle.text.specs.Bytes.{part}
use Rattle.rules.specs.Mail.{addresses}
use Rattle.rules.specs.Notes.{moved}
use Rattle.rules.specs.Segments.{segments}
use Rattle.machine.specs.declared.events.Event.{Event}
use Rattle.machine.specs.declared.events.EventKind.TheVariants.{Enter, Exit}
use Rattle.machine.specs.declared.events.Name.TheVariants as name
use Rattle.machine.specs.Joins.{is_data}
use Rattle.machine.specs.Laws.{enters, event_at, Segment, events_of}
use Rattle.findings.specs.Pieces.{named, segment_events}
use Rattle.calls.specs.declared.links.MarkedRun.{MarkedRun}
use Rattle.calls.specs.EventLists.{span, spans}

-- ---- which runs may be marked

-- whether event number n is there, and an enter, or an exit
abbrev pub has_enter : List Event → ℕ → Bool
has_enter [] n = false
has_enter (e ∷ es) zero = enters e.kind
has_enter (e ∷ es) (suc n) = has_enter es n

abbrev pub has_exit : List Event → ℕ → Bool
has_exit [] n = false
has_exit (e ∷ es) zero = not (enters e.kind)
has_exit (e ∷ es) (suc n) = has_exit es n

-- the first number beyond the runs, a where there is none
abbrev pub beyond : ℕ → List MarkedRun → ℕ
beyond a [] = a
beyond a (l ∷ ls) = beyond (suc l.last) ls

-- from an enter to a later exit, from number a on
abbrev pub markable : List Event → ℕ → MarkedRun → Bool
markable es a l = nat_le a l.first && nat_lt l.first l.last && has_enter es l.first && has_exit es l.last

-- each may be marked, beyond the ones before it
abbrev pub marked_in_turn : List Event → ℕ → List MarkedRun → Bool
marked_in_turn es a [] = true
marked_in_turn es a (l ∷ ls) = markable es a l && marked_in_turn es (suc l.last) ls

-- ---- data split around its addresses

-- the bytes from a to b − 1 as one Data span, if there are any
abbrev pub data_between : ℕ → ℕ → List Segment
data_between a b = cond (nat_lt a b) (span name.Data a b ∷ []) []

-- spans, and each longest run of the other bytes from a to b − 1 as one Data span
abbrev pub filled : ℕ → List Segment → ℕ → List Segment
filled a [] b = data_between a b
filled a (x ∷ xs) b = data_between a x.from ++ x ∷ filled x.to xs b

-- a span that the rules name
abbrev pub as_named : Span → Segment
as_named x = span (name.Address x.kind) x.from x.to

-- the addresses that the mail rules name in the bytes of a span, with places counted in the note
abbrev pub mail_in : List ℕ → Segment → List Segment
mail_in note x = map as_named (map (moved x.from) (addresses (part x.from x.to note)))

-- a Data span is split exactly around its addresses; another span stays
abbrev pub split : List ℕ → Segment → List Segment
split note x = cond (is_data x.name) (filled x.from (mail_in note x) x.to) (x ∷ [])

abbrev pub splits : List ℕ → List Segment → List Segment
splits note [] = []
splits note (x ∷ xs) = split note x ++ splits note xs

-- ---- the resolved list

-- events outside links
abbrev pub mail_cut_out : List ℕ → List Event → List Event
mail_cut_out note es = events_of note (splits note (spans es))

-- the byte in front of which event number n stands
abbrev pub index_of : List Event → ℕ → ℕ
index_of [] n = 0
index_of (e ∷ es) zero = e.point.index
index_of (e ∷ es) (suc n) = index_of es n

-- events number a to b − 1
abbrev pub numbered : ℕ → ℕ → List Event → List Event
numbered a b es = take (b - a) (drop a es)

-- a marked run, with Enter Link before it and Exit Link after it, at its outer points
abbrev pub linked : List ℕ → List Event → MarkedRun → List Event
linked note es l =
    event_at note Enter name.Link (index_of es l.first) ∷ numbered l.first (suc l.last) es ++ event_at note Exit name.Link (index_of es l.last) ∷ []

-- from number a on: what stands before the next link, that link, and so on
abbrev pub resolved_from : List ℕ → List Event → ℕ → List MarkedRun → List Event
resolved_from note es a [] = mail_cut_out note (drop a es)
resolved_from note es a (l ∷ ls) =
    mail_cut_out note (numbered a l.first es) ++ linked note es l ++ resolved_from note es (suc l.last) ls

abbrev pub resolved : List ℕ → List MarkedRun → List Event → List Event
resolved note ls es = resolved_from note es 0 ls

-- ---- of a note

-- the spans and the events of a note that was read to its end
abbrev pub ended_spans : (ℕ → Bool) → List ℕ → List Segment
ended_spans member note = map named (segments member note)

abbrev pub ended_events : (ℕ → Bool) → List ℕ → List Event
ended_events member note = segment_events note (segments member note)

abbrev pub resolved_events : (ℕ → Bool) → List ℕ → List MarkedRun → List Event
resolved_events member note ls = resolved note ls (ended_events member note)
