-- Neighbouring Data spans joined, as is done once the end of a note has been read; what this does, and examples.
-- Assumes nothing.
use Rattle.std.specs.Prelude.{◌≡◌, ℕ, Bool, true, false, cond, not, ◌&&◌, ◌||◌, List, [], ◌∷◌, ◌++◌, codes, nat_le, nat_lt}
use Rattle.text.specs.declared.spans.SpanKind.TheVariants.{Www}
use Rattle.machine.specs.declared.events.Event.{Event}
use Rattle.machine.specs.declared.events.EventKind.TheVariants.{Enter, Exit}
use Rattle.machine.specs.declared.events.Name.{Name}
use Rattle.machine.specs.declared.events.Name.TheVariants as name
use Rattle.machine.specs.Laws.{Segment, event_at, events_of, Tiles, enters}

abbrev pub is_data : Name → Bool
is_data name.Data = true
is_data name.LineEnding = false
is_data name.Link = false
is_data (name.Address kind) = false

-- an exit of Data, and an enter of Data right behind it
abbrev pub seam : Event → Event → Bool
seam a b = (not (enters a.kind) && is_data a.name) && (enters b.kind && is_data b.name)

-- both events of each seam are dropped, so that what they parted is one span
abbrev pub joined : List Event → List Event
joined [] = []
joined (a ∷ []) = a ∷ []
joined (a ∷ b ∷ es) =
    let beyond = joined es in
    let from-b = joined (b ∷ es) in
    cond (seam a b) beyond (a ∷ from-b)

-- ---- what joining does to the events of segments that tile the text

-- no two Data spans touch
abbrev pub seamless : List Event → Bool
seamless [] = true
seamless (a ∷ []) = true
seamless (a ∷ b ∷ es) = not (seam a b) && seamless (b ∷ es)

-- the byte i lies in Data
abbrev pub in_data : List Segment → ℕ → Bool
in_data [] i = false
in_data (x ∷ xs) i = (is_data x.name && (nat_le x.from i && nat_lt i x.to)) || in_data xs i

-- the segments that are not Data
abbrev pub others : List Segment → List Segment
others [] = []
others (x ∷ xs) = cond (is_data x.name) (others xs) (x ∷ others xs)

-- the segments xs of the note s end at n
pub record JoinedLawfully (s : List ℕ) (n : ℕ) (xs : List Segment) : Type 0 where
  -- these are what is left
  pub segments : List Segment
  pub events : joined (events_of s xs) ≡ events_of s segments
  -- they cover the same text, one after another, and none is empty
  pub tiles : Tiles 0 n segments
  pub apart : seamless (joined (events_of s xs)) ≡ true
  -- the same bytes lie in Data, and what is not Data is the same, in the same order
  pub same_data : (i : ℕ) → in_data segments i ≡ in_data xs i
  pub same_others : others segments ≡ others xs
  -- no other segments cover the text, leave no seam, and are the same where they are not Data
  pub no_other : (ys : List Segment) → Tiles 0 n ys → seamless (events_of s ys) ≡ true → others ys ≡ others xs → ys ≡ segments
  -- joining twice is joining once
  pub once : joined (joined (events_of s xs)) ≡ joined (events_of s xs)

abbrev pub JoiningIsLawful : Type 0
JoiningIsLawful = (s : List ℕ) (n : ℕ) (xs : List Segment) → Tiles 0 n xs → JoinedLawfully s n xs

-- ---- examples

-- a span from one place of s to another, as its two events
abbrev span : List ℕ → Name → ℕ → ℕ → List Event
span s name from to = event_at s Enter name from ∷ event_at s Exit name to ∷ []

abbrev data_span : List ℕ → ℕ → ℕ → List Event
data_span s from to = span s name.Data from to

pub record JoinsByExample : Type 0 where
  -- data cut in front of an h, and in front of each w, is one span again
  pub who : joined (data_span (codes "who") 0 1 ++ data_span (codes "who") 1 3) ≡ data_span (codes "who") 0 3
  pub awww : joined (data_span (codes "awww") 0 1 ++ data_span (codes "awww") 1 2 ++ data_span (codes "awww") 2 3 ++ data_span (codes "awww") 3 4) ≡ data_span (codes "awww") 0 4
  -- a line ending parts data, and so does an address; neighbours of other names are not joined
  pub lines :
      joined (data_span (97 ∷ 10 ∷ 98 ∷ []) 0 1 ++ span (97 ∷ 10 ∷ 98 ∷ []) name.LineEnding 1 2 ++ data_span (97 ∷ 10 ∷ 98 ∷ []) 2 3)
      ≡ data_span (97 ∷ 10 ∷ 98 ∷ []) 0 1 ++ span (97 ∷ 10 ∷ 98 ∷ []) name.LineEnding 1 2 ++ data_span (97 ∷ 10 ∷ 98 ∷ []) 2 3
  pub address :
      joined (data_span (codes "a www.b c") 0 2 ++ span (codes "a www.b c") (name.Address Www) 2 7 ++ data_span (codes "a www.b c") 7 9)
      ≡ data_span (codes "a www.b c") 0 2 ++ span (codes "a www.b c") (name.Address Www) 2 7 ++ data_span (codes "a www.b c") 7 9
  pub empty_lines : joined (span (10 ∷ 10 ∷ []) name.LineEnding 0 1 ++ span (10 ∷ 10 ∷ []) name.LineEnding 1 2) ≡ span (10 ∷ 10 ∷ []) name.LineEnding 0 1 ++ span (10 ∷ 10 ∷ []) name.LineEnding 1 2
  -- no event, and the enter of a span that is still open
  pub nothing : joined [] ≡ []
  pub opened : joined (event_at (codes "who") Enter name.Data 0 ∷ []) ≡ event_at (codes "who") Enter name.Data 0 ∷ []
