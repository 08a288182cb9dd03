-- Numbers with their bytes, and notes with their saved lists, their marked copies and their listings, as resolved with the house set.
-- Assumes nothing.
use Rattle.std.specs.Prelude.{◌≡◌, ℕ, List, [], ◌∷◌, ◌++◌, replicate, codes}
use Rattle.std.specs.List.{AllByRecursion}
use Rattle.punctuation.specs.RangeLists.{house}
use Rattle.machine.specs.declared.events.Event.{Event}
use Rattle.marked.specs.Marked.{marked_copy}
use Rattle.calls.specs.declared.links.MarkedRun.{MarkedRun}
use Rattle.calls.specs.Links.{resolved_events}
use Rattle.calls.specs.Steps.{run_of}
use Rattle.written.specs.Listing.{event_lines}
use Rattle.written.specs.Numbers.{number}
use Rattle.written.specs.SavedLists.{saved_list}
use Rattle.written.specs.Spans.{written_spans}

-- ---- numbers

abbrev pub NumberComesOut : ℕ × List ℕ → Type 0
NumberComesOut x = number x.0 ≡ x.1

abbrev pub numbers : List (ℕ × List ℕ)
numbers =
    (0, 0x00 ∷ []) ∷
    (5, 0x05 ∷ []) ∷
    (127, 0x7F ∷ []) ∷
    (128, 0x80 ∷ 0x01 ∷ []) ∷
    (134, 0x86 ∷ 0x01 ∷ []) ∷
    (201, 0xC9 ∷ 0x01 ∷ []) ∷
    (300, 0xAC ∷ 0x02 ∷ []) ∷
    (1024, 0x80 ∷ 0x08 ∷ []) ∷
    []

-- ---- saved lists and marked copies

pub record Example : Type 0 where
  pub note : List ℕ
  pub links : List MarkedRun
  pub saved : List ℕ
  pub copy : List ℕ

abbrev pub events_of : List ℕ → List MarkedRun → List Event
events_of note links = resolved_events house note links

abbrev pub ComesOut : Example → Type 0
ComesOut x =
    (saved_list (written_spans (events_of x.note x.links)) ≡ x.saved)
    × (marked_copy x.note (written_spans (events_of x.note x.links)) ≡ x.copy)

abbrev pub example : List ℕ → List MarkedRun → List ℕ → List ℕ → Example
example note links saved copy = record { note = note; links = links; saved = saved; copy = copy }

abbrev pub examples : List Example
examples =
    example [] [] [] [] ∷
    example (codes "hello") [] [] (codes "hello") ∷
    example (codes "a www.b") [] (0x00 ∷ 0x02 ∷ 0x05 ∷ []) (codes "a {wwww.b}") ∷
    -- no span is shorter
    example (codes "www. a") [] (0x00 ∷ 0x00 ∷ 0x03 ∷ []) (codes "{wwww}. a") ∷
    example (codes "hello@world.com") [] (0x02 ∷ 0x00 ∷ 0x0F ∷ []) (codes "{ehello@world.com}") ∷
    example (codes "see mailto:x@y.z now") [] (0x03 ∷ 0x04 ∷ 0x0C ∷ []) (codes "see {mmailto:x@y.z} now") ∷
    example (97 ∷ 13 ∷ 10 ∷ codes "b@c.d") [] (0x02 ∷ 0x03 ∷ 0x05 ∷ []) (97 ∷ 13 ∷ 10 ∷ codes "{eb@c.d}") ∷
    example (codes "www." ++ replicate 130 97) [] (0x00 ∷ 0x00 ∷ 0x86 ∷ 0x01 ∷ []) (codes "{wwww." ++ replicate 130 97 ++ codes "}") ∷
    example (replicate 200 120 ++ codes " www.b") [] (0x00 ∷ 0xC9 ∷ 0x01 ∷ 0x05 ∷ []) (replicate 200 120 ++ codes " {wwww.b}") ∷
    example (codes "a@b.c, www.d") [] (0x02 ∷ 0x00 ∷ 0x05 ∷ 0x00 ∷ 0x02 ∷ 0x05 ∷ []) (codes "{ea@b.c}, {wwww.d}") ∷
    -- two spans that touch
    example (codes "a@b.c+d@e.f") [] (0x02 ∷ 0x00 ∷ 0x05 ∷ 0x02 ∷ 0x00 ∷ 0x06 ∷ []) (codes "{ea@b.c}{e+d@e.f}") ∷
    example (codes "xmpp:a@b.c/1http://d") [] (0x04 ∷ 0x00 ∷ 0x0C ∷ 0x01 ∷ 0x00 ∷ 0x08 ∷ []) (codes "{xxmpp:a@b.c/1}{phttp://d}") ∷
    -- braces of the note stay as they are
    example (codes "{a@b.c}") [] (0x02 ∷ 0x01 ∷ 0x05 ∷ []) (codes "{{ea@b.c}}") ∷
    -- in a marked link the web span is written, and the mail address stays data
    example (codes "a@b.c www.d e@f.g") [] (0x02 ∷ 0x00 ∷ 0x05 ∷ 0x00 ∷ 0x01 ∷ 0x05 ∷ 0x02 ∷ 0x01 ∷ 0x05 ∷ []) (codes "{ea@b.c} {wwww.d} {ee@f.g}") ∷
    example (codes "a@b.c www.d e@f.g") (run_of 0 3 ∷ []) (0x00 ∷ 0x06 ∷ 0x05 ∷ 0x02 ∷ 0x01 ∷ 0x05 ∷ []) (codes "a@b.c {wwww.d} {ee@f.g}") ∷
    []

-- ---- listings

pub record ListingExample : Type 0 where
  pub note : List ℕ
  pub links : List MarkedRun
  pub listing : List ℕ

abbrev pub ListingComesOut : ListingExample → Type 0
ListingComesOut x = event_lines (events_of x.note x.links) ≡ x.listing

abbrev pub listings : List ListingExample
listings =
    record { note = []; links = []; listing = [] } ∷
    record { note = codes "a www.b"; links = []; listing = codes "enter data 1:1 0\nexit data 1:3 2\nenter www 1:3 2\nexit www 1:8 7\n" } ∷
    record { note = 9 ∷ codes "c@d.e"; links = []; listing = codes "enter data 1:1 0\nexit data 1:5 1\nenter email 1:5 1\nexit email 1:10 6\n" } ∷
    record {
      note = 97 ∷ 13 ∷ 10 ∷ codes "b@c.d";
      links = [];
      listing = codes "enter data 1:1 0\nexit data 1:2 1\nenter line-ending 1:2 1\nexit line-ending 2:1 3\nenter email 2:1 3\nexit email 2:6 8\n";
    } ∷
    record {
      note = codes "a@b.c www.d e@f.g";
      links = run_of 0 1 ∷ run_of 2 3 ∷ [];
      listing =
          codes "enter link 1:1 0\nenter data 1:1 0\nexit data 1:7 6\nexit link 1:7 6\nenter link 1:7 6\nenter www 1:7 6\nexit www 1:12 11\n"
          ++ codes "exit link 1:12 11\nenter data 1:12 11\nexit data 1:13 12\nenter email 1:13 12\nexit email 1:18 17\n";
    } ∷
    []

abbrev pub EveryExampleComesOut : Type 0
EveryExampleComesOut = AllByRecursion NumberComesOut numbers × AllByRecursion ComesOut examples × AllByRecursion ListingComesOut listings
