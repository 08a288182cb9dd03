-- Notes that the machine has worked through: steps, and the events when the end is done.
-- Assumes nothing.
use Rattle.std.specs.Prelude.{◌≡◌, ℕ, Bool, true, false, List, [], ◌∷◌, ◌++◌, map, length, codes}
use Rattle.punctuation.specs.RangeLists.{house}
use Rattle.text.specs.declared.spans.SpanKind.TheVariants.{Www, Protocol}
use Rattle.machine.specs.declared.cursors.Until.TheVariants.{Mark, End}
use Rattle.machine.specs.declared.events.Event.{Event}
use Rattle.machine.specs.declared.events.EventKind.TheVariants.{Enter, Exit}
use Rattle.machine.specs.declared.events.Name.{Name}
use Rattle.machine.specs.declared.events.Name.TheVariants as name
use Rattle.machine.specs.Moves.{Machine}
use Rattle.machine.specs.Runs.{beginning, run}
use Rattle.machine.specs.Laws.{Part}

-- ---- one push of the whole note and one end

pub record WorkedNote : Type 0 where
  pub member : ℕ → Bool
  pub note : List ℕ
  -- the state calls of the push, and of the end
  pub pushed : ℕ
  pub ended : ℕ
  pub events : List Event

-- an enter and an exit, each with line, column and index, and then more
abbrev span : Name → ℕ × ℕ × ℕ → ℕ × ℕ × ℕ → List Event → List Event
span name a b more =
    record { kind = Enter; name = name; point = record { line = a.0; column = a.1; index = a.2; vs = 0 } }
    ∷ record { kind = Exit; name = name; point = record { line = b.0; column = b.1; index = b.2; vs = 0 } }
    ∷ more

abbrev text : ℕ × ℕ × ℕ → ℕ × ℕ × ℕ → List Event → List Event
text a b more = span name.Data a b more

abbrev line : ℕ × ℕ × ℕ → ℕ × ℕ × ℕ → List Event → List Event
line a b more = span name.LineEnding a b more

abbrev www : ℕ × ℕ × ℕ → ℕ × ℕ × ℕ → List Event → List Event
www a b more = span (name.Address Www) a b more

abbrev protocol : ℕ × ℕ × ℕ → ℕ × ℕ × ℕ → List Event → List Event
protocol a b more = span (name.Address Protocol) a b more

-- with the house set: the note, the steps of the push and of the end, and the events
abbrev by_house : List ℕ → ℕ → ℕ → List Event → WorkedNote
by_house s pushed ended events = record { member = house; note = s; pushed = pushed; ended = ended; events = events }

-- the same with the empty set
abbrev by_none : List ℕ → ℕ → ℕ → List Event → WorkedNote
by_none s pushed ended events = record { member = λ c. false; note = s; pushed = pushed; ended = ended; events = events }

-- data is cut in front of each h and w; neighbouring data is joined only after the end
abbrev pub worked_notes : List WorkedNote
worked_notes =
    -- the empty note, and a try that fails
    by_house [] 0 1 [] ∷
    by_house (codes "h ") 6 2 (text (1, 1, 0) (1, 3, 2) []) ∷
    -- what follows `www.`
    by_house (codes "www.") 6 13 (text (1, 1, 0) (1, 2, 1) (text (1, 2, 1) (1, 3, 2) (text (1, 3, 2) (1, 5, 4) []))) ∷
    by_house (codes "www. ") 22 2 (www (1, 1, 0) (1, 4, 3) (text (1, 4, 3) (1, 6, 5) [])) ∷
    by_house (codes "a www.b") 19 6 (text (1, 1, 0) (1, 3, 2) (www (1, 3, 2) (1, 8, 7) [])) ∷
    -- parentheses
    by_house (codes "www.a(b)") 22 4 (www (1, 1, 0) (1, 9, 8) []) ∷
    by_house (codes "www.a/(b)") 23 4 (www (1, 1, 0) (1, 10, 9) []) ∷
    by_house (codes "www.a/(b))") 25 7 (www (1, 1, 0) (1, 10, 9) (text (1, 10, 9) (1, 11, 10) [])) ∷
    by_house (codes "www.a(b.)") 26 4 (www (1, 1, 0) (1, 10, 9) []) ∷
    by_house (codes "www.a)(b)) c" ++ (160 ∷ codes "d")) 36 2 (www (1, 1, 0) (1, 9, 8) (text (1, 9, 8) (1, 15, 14) [])) ∷
    -- a bracket in a trail
    by_house (codes "www.a](b)") 27 2 (www (1, 1, 0) (1, 6, 5) (text (1, 6, 5) (1, 10, 9) [])) ∷
    by_house (codes "www.a]x www.b][") 54 2
    (www (1, 1, 0) (1, 8, 7) (text (1, 8, 7) (1, 9, 8) (www (1, 9, 8) (1, 14, 13) (text (1, 14, 13) (1, 16, 15) [])))) ∷
    -- `_` in a domain
    by_house (codes "www.a_b.c") 25 19 (text (1, 1, 0) (1, 2, 1) (text (1, 2, 1) (1, 3, 2) (text (1, 3, 2) (1, 10, 9) []))) ∷
    by_house (codes "www.a_b.c.d") 30 6 (www (1, 1, 0) (1, 12, 11) []) ∷
    -- a character reference in a trail
    by_house (codes "www.a&amp;") 24 11 (www (1, 1, 0) (1, 6, 5) (text (1, 6, 5) (1, 11, 10) [])) ∷
    by_house (codes "www.a&amp;b") 34 4 (www (1, 1, 0) (1, 12, 11) []) ∷
    -- protocols, in any case
    by_house (codes "ahttp://b") 13 2 (text (1, 1, 0) (1, 2, 1) (text (1, 2, 1) (1, 10, 9) [])) ∷
    by_house (codes "HTTPS://q?!") 16 8 (protocol (1, 1, 0) (1, 10, 9) (text (1, 10, 9) (1, 12, 11) [])) ∷
    by_house (codes "httpss://q") 18 2 (text (1, 1, 0) (1, 11, 10) []) ∷
    by_house (codes "http:/x http://y<z") 37 2 (text (1, 1, 0) (1, 9, 8) (protocol (1, 9, 8) (1, 17, 16) (text (1, 17, 16) (1, 19, 18) []))) ∷
    by_house (codes "wwww.a hhttp://z") 43 2
    (text (1, 1, 0) (1, 2, 1) (text (1, 2, 1) (1, 3, 2) (text (1, 3, 2) (1, 4, 3) (text (1, 4, 3) (1, 8, 7) (text (1, 8, 7) (1, 9, 8) (text (1, 9, 8) (1, 17, 16) [])))))) ∷
    -- tabs and line endings
    by_house (9 ∷ (codes "https://a.b" ++ (13 ∷ 10 ∷ codes "Www.x_ y"))) 57 2
    (text (1, 1, 0) (1, 5, 1) (protocol (1, 5, 1) (1, 16, 12) (line (1, 16, 12) (2, 1, 14) (www (2, 1, 14) (2, 6, 19) (text (2, 6, 19) (2, 9, 22) []))))) ∷
    by_house (codes "h w" ++ (13 ∷ (codes "www.c" ++ (13 ∷ [])))) 36 2
    (text (1, 1, 0) (1, 3, 2) (text (1, 3, 2) (1, 4, 3) (line (1, 4, 3) (2, 1, 4) (www (2, 1, 4) (2, 6, 9) (line (2, 6, 9) (3, 1, 10) []))))) ∷
    by_house (codes "a" ++ (9 ∷ (codes "b" ++ (10 ∷ 9 ∷ codes "www.q]")))) 34 7
    (text (1, 1, 0) (1, 6, 3) (line (1, 6, 3) (2, 1, 4) (text (2, 1, 4) (2, 5, 5) (www (2, 5, 5) (2, 10, 10) (text (2, 10, 10) (2, 11, 11) []))))) ∷
    -- characters of more than one byte: a letter, a no-break space, a dash of the house set
    by_house (codes "www." ++ (195 ∷ (169 ∷ (codes "." ++ (194 ∷ 160 ∷ codes "http://_."))))) 42 13
    (www (1, 1, 0) (1, 7, 6) (text (1, 7, 6) (1, 10, 9) (text (1, 10, 9) (1, 19, 18) []))) ∷
    by_house (codes "http://" ++ (226 ∷ 128 ∷ 148 ∷ [])) 21 2 (text (1, 1, 0) (1, 11, 10) []) ∷
    -- the same with the empty set
    by_none (codes "http://" ++ (226 ∷ 128 ∷ 148 ∷ [])) 12 6 (protocol (1, 1, 0) (1, 11, 10) []) ∷
    []

-- what the machine makes of a note, with an allowance that is enough for all of these
abbrev pub works_out : WorkedNote → WorkedNote
works_out w =
    let push = run w.member (Mark (length w.note)) 400 (beginning w.note) in
    let ending = run w.member End 400 push.after in
    record { member = w.member; note = w.note; pushed = push.steps; ended = ending.steps; events = ending.after.events }

abbrev pub EveryNoteWorksOut : Type 0
EveryNoteWorksOut = map works_out worked_notes ≡ worked_notes

-- ---- pushes and ends in parts: the steps of each, and whether it is done

pub record WorkedParts : Type 0 where
  pub note : List ℕ
  pub parts : List Part
  pub answers : List (ℕ × Bool)

abbrev to : ℕ → ℕ → Part
to mark allowance = record { until = Mark mark; allowance = allowance }

abbrev end_in : ℕ → Part
end_in allowance = record { until = End; allowance = allowance }

abbrev answers : List Part → Machine → List (ℕ × Bool)
answers [] m = []
answers (p ∷ ps) m = let o = run house p.until p.allowance m in (o.steps, o.done) ∷ answers ps o.after

-- a CR LF, a link, a tab and a data byte that may begin a link
abbrev long : List ℕ
long = codes "a" ++ (13 ∷ 10 ∷ (codes "www.x" ++ (13 ∷ 10 ∷ 9 ∷ codes "b h")))

abbrev pub worked_parts : List WorkedParts
worked_parts =
    -- settling comes before a pause
    record { note = codes "h "; parts = to 2 4 ∷ to 2 4 ∷ end_in 1 ∷ end_in 5 ∷ []; answers = (4, false) ∷ (2, true) ∷ (1, false) ∷ (1, true) ∷ [] } ∷
    -- a mark between CR and LF, and behind the LF, with the allowance just made
    record { note = codes "a" ++ (13 ∷ 10 ∷ []); parts = to 2 2 ∷ []; answers = (2, true) ∷ [] } ∷
    record { note = codes "a" ++ (13 ∷ 10 ∷ []); parts = to 3 2 ∷ []; answers = (2, false) ∷ [] } ∷
    -- a push to the mark again, a push to 0, a larger mark after a pause, and an end after one
    record { note = codes "ab"; parts = to 2 3 ∷ to 2 1 ∷ []; answers = (3, true) ∷ (0, true) ∷ [] } ∷
    record { note = codes "ab"; parts = to 0 1 ∷ []; answers = (0, true) ∷ [] } ∷
    record { note = codes "ab"; parts = to 1 1 ∷ to 2 9 ∷ []; answers = (1, false) ∷ (2, true) ∷ [] } ∷
    record { note = codes "ab"; parts = to 2 2 ∷ to 2 1 ∷ end_in 9 ∷ []; answers = (2, false) ∷ (1, true) ∷ (2, true) ∷ [] } ∷
    record { note = []; parts = end_in 1 ∷ []; answers = (1, true) ∷ [] } ∷
    -- one note cut at several places: the steps of all parts together are the same
    record { note = long; parts = to 0 99 ∷ to 14 99 ∷ end_in 99 ∷ []; answers = (0, true) ∷ (38, true) ∷ (4, true) ∷ [] } ∷
    record { note = long; parts = to 1 99 ∷ to 14 99 ∷ end_in 99 ∷ []; answers = (2, true) ∷ (36, true) ∷ (4, true) ∷ [] } ∷
    record { note = long; parts = to 2 99 ∷ to 14 99 ∷ end_in 99 ∷ []; answers = (2, true) ∷ (36, true) ∷ (4, true) ∷ [] } ∷
    record { note = long; parts = to 7 99 ∷ to 14 99 ∷ end_in 99 ∷ []; answers = (11, true) ∷ (27, true) ∷ (4, true) ∷ [] } ∷
    record { note = long; parts = to 9 99 ∷ to 14 99 ∷ end_in 99 ∷ []; answers = (20, true) ∷ (18, true) ∷ (4, true) ∷ [] } ∷
    []

abbrev pub EveryPartWorksOut : Type 0
EveryPartWorksOut = map (λ w. answers w.parts (beginning w.note)) worked_parts ≡ map (λ w. w.answers) worked_parts
