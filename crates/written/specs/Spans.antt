-- Which spans of an event list are written: those of web and of mail addresses.
-- Assumes nothing.
use Rattle.std.specs.Prelude.{ℕ, Bool, List, [], ◌∷◌, ◌++◌}
use Rattle.text.specs.declared.spans.Span.{Span}
use Rattle.machine.specs.declared.events.Event.{Event}
use Rattle.machine.specs.declared.events.Name.{Name}
use Rattle.machine.specs.declared.events.Name.TheVariants as name
use Rattle.machine.specs.Laws.{Segment}
use Rattle.calls.specs.declared.links.MarkedRun.{MarkedRun}
use Rattle.calls.specs.Claims.{FullyRead, FullyResolved}
use Rattle.calls.specs.EventLists.{spans, LawfulEvents}

-- the bytes from `from` to `to` − 1, if they are an address
abbrev pub address : Name → ℕ → ℕ → List Span
address name.Data from to = []
address name.LineEnding from to = []
address name.Link from to = []
address (name.Address kind) from to = record { kind = kind; from = from; to = to } ∷ []

abbrev pub addresses_of : List Segment → List Span
addresses_of [] = []
addresses_of (x ∷ xs) = address x.name x.from x.to ++ addresses_of xs

-- in the order of the events
abbrev pub written_spans : List Event → List Span
written_spans es = addresses_of (spans es)

-- the events are those of a note that was read to its end and resolved
pub record IsResolved (note : List ℕ) (es : List Event) : Type 0 where
  pub member : ℕ → Bool
  pub links : List MarkedRun
  pub lawful : LawfulEvents note es
  pub read : FullyRead member note es
  pub resolved : FullyResolved member note links es
