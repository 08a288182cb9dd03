-- What the events of a note that was read to its end must be, and what they must be once resolved.
-- Assumes nothing.
use Rattle.std.specs.Prelude.{◌≡◌, ℕ, zero, suc, ◌+◌, ◌-◌, ◌<◌, Bool, true, false, cond, not, ◌&&◌, ◌||◌, ◌⊎◌, List, [], ◌∷◌, ◌++◌, map, length, filter, nat_le, nat_lt}
use Rattle.rules.specs.Segments.{line_ending_at, line_ending_end}
use Rattle.rules.specs.Web.{links}
use Rattle.machine.specs.declared.events.Event.{Event}
use Rattle.machine.specs.declared.events.Name.TheVariants as name
use Rattle.machine.specs.Cursors.{crlf_at}
use Rattle.machine.specs.Joins.{is_data}
use Rattle.machine.specs.Laws.{Segment}
use Rattle.calls.specs.declared.links.MarkedRun.{MarkedRun}
use Rattle.calls.specs.EventLists.{span, is_line_ending, is_link, is_web_address, is_mail_address, only_links_hold, open_last, spans, with_name, leaves, in_order, data_apart, holding, goes_forward}
use Rattle.calls.specs.Links.{filled, as_named, mail_in, index_of, ended_spans, ended_events}

-- ---- a note that was read to its end

-- a line ending begins at i: CR LF, or a CR or an LF alone; so not at the LF of a CR LF
abbrev pub line_ending_begins : List ℕ → ℕ → Bool
line_ending_begins s i = line_ending_at s i && not (nat_lt 0 i && crlf_at s (i - 1))

-- those that begin at one of the n bytes from i on
abbrev pub line_endings_from : List ℕ → ℕ → ℕ → List Segment
line_endings_from s zero i = []
line_endings_from s (suc n) i =
    cond (line_ending_begins s i) (span name.LineEnding i (line_ending_end s i) ∷ line_endings_from s n (i + 1)) (line_endings_from s n (i + 1))

abbrev pub line_endings : List ℕ → List Segment
line_endings s = line_endings_from s (length s) 0

-- every span is closed, and all are in text order; only a Link holds others. Web spans, names included, are exactly those that
-- the link rules name, line-ending spans exactly the line endings, and with data and mail they have each byte exactly once.
-- Data is not cut: no two Data spans touch
pub record FullyRead (member : ℕ → Bool) (note : List ℕ) (es : List Event) : Type 0 where
  pub all_closed : open_last [] es ≡ []
  pub forward : goes_forward 0 es ≡ true
  pub flat : only_links_hold [] es ≡ true
  pub web : with_name is_web_address (spans es) ≡ map as_named (links member note)
  pub lines : with_name is_line_ending (spans es) ≡ line_endings note
  pub ordered : in_order 0 (leaves es) ≡ true
  pub each_byte_once : (i : ℕ) → i < length note → holding (leaves es) i ≡ 1
  pub uncut : data_apart (leaves es) ≡ true

-- ---- once it is resolved

-- x is one of the spans
abbrev pub In : Segment → List Segment → Type 0
In x [] = ⊥
In x (y ∷ ys) = (x ≡ y) ⊎ In x ys

-- the spans inside x
abbrev pub covers : Segment → Segment → Bool
covers x y = nat_le x.from y.from && nat_le y.to x.to

abbrev pub inside : Segment → List Segment → List Segment
inside x ys = filter (covers x) ys

-- x lies in one of the spans
abbrev pub within : List Segment → Segment → Bool
within [] x = false
within (r ∷ rs) x = covers r x || within rs x

-- the data of a note: the longest runs of bytes in no line ending and in no span that the link rules name
abbrev pub data_of : (ℕ → Bool) → List ℕ → List Segment
data_of member note = with_name is_data (ended_spans member note)

-- the bytes of marked runs of a list, each as a Link span
abbrev pub link_spans : List Event → List MarkedRun → List Segment
link_spans es [] = []
link_spans es (l ∷ ls) = span name.Link (index_of es l.first) (index_of es l.last) ∷ link_spans es ls

-- those of a note: the runs were marked in its events when it had been read to its end
abbrev pub marked_spans : (ℕ → Bool) → List ℕ → List MarkedRun → List Segment
marked_spans member note ls = link_spans (ended_events member note) ls

-- the addresses that the mail rules name in data outside the links, in text order
abbrev pub mail_outside : List ℕ → List Segment → List Segment → List Segment
mail_outside note links [] = []
mail_outside note links (x ∷ xs) = cond (within links x) [] (mail_in note x) ++ mail_outside note links xs

-- Link spans stand exactly around the marked runs, and the mail spans are exactly the addresses in data outside them. In the place of
-- data outside there are its addresses, and each longest run of its other bytes as one Data span. Data inside is not split
pub record FullyResolved (member : ℕ → Bool) (note : List ℕ) (ls : List MarkedRun) (es : List Event) : Type 0 where
  pub around : with_name is_link (spans es) ≡ marked_spans member note ls
  pub mail : with_name is_mail_address (spans es) ≡ mail_outside note (marked_spans member note ls) (data_of member note)
  pub split_outside : (x : Segment) → In x (data_of member note) → within (marked_spans member note ls) x ≡ false → inside x (leaves es) ≡ filled x.from (mail_in note x) x.to
  pub whole_inside : (x : Segment) → In x (data_of member note) → within (marked_spans member note ls) x ≡ true → inside x (leaves es) ≡ x ∷ []
