-- Lists of calls with the house set, each with its answers, what they tell, and the events held at the end; and event lists that
-- look right and are not what is claimed.
-- Assumes nothing.
use Rattle.std.specs.Prelude.{◌≡◌, ℕ, zero, suc, ◌+◌, true, false, List, [], ◌∷◌, ◌++◌, replicate, Some, None, Ok, Err, codes}
use Rattle.std.specs.List.{AllByRecursion}
use Rattle.text.specs.declared.refusals.Fault.{Fault}
use Rattle.text.specs.declared.refusals.Fault.TheVariants as fault
use Rattle.text.specs.declared.spans.SpanKind.TheVariants.{Www, Email}
use Rattle.punctuation.specs.RangeLists.{house}
use Rattle.machine.specs.declared.events.Event.{Event}
use Rattle.machine.specs.declared.events.EventKind.{EventKind}
use Rattle.machine.specs.declared.events.EventKind.TheVariants.{Enter, Exit}
use Rattle.machine.specs.declared.events.Name.{Name}
use Rattle.machine.specs.declared.events.Name.TheVariants.{Data, LineEnding, Link, Address}
use Rattle.calls.specs.declared.links.MarkedRun.{MarkedRun}
use Rattle.calls.specs.declared.scripts.Call.{Call}
use Rattle.calls.specs.declared.scripts.Call.TheVariants as call
use Rattle.calls.specs.Calls.{new}
use Rattle.calls.specs.Claims.{FullyRead, FullyResolved}
use Rattle.calls.specs.EventLists.{LawfulEvents}
use Rattle.calls.specs.Moments.{after, answers, Told, nothing, told}
use Rattle.calls.specs.Steps.{held, run_of, Answer}

-- ---- words

-- an event with its line, column and byte
abbrev pub event : EventKind → Name → ℕ → ℕ → ℕ → Event
event kind name line column index = record { kind = kind; name = name; point = record { line = line; column = column; index = index; vs = 0 } }

-- a loan of these bytes
abbrev load : List ℕ → Call
load note = call.Load (record { ref_ptr = (0, 0); now = note })

abbrev push : ℕ → ℕ → Call
push to allowance = call.Push to allowance

abbrev end : ℕ → Call
end allowance = call.End allowance

abbrev link : ℕ → ℕ → Call
link first last = call.Link first last

abbrev resolve : Call
resolve = call.Resolve

abbrev clear : Call
clear = call.Clear

abbrev ok : Answer
ok = Ok None

abbrev no : Fault → Answer
no refusal = Err refusal

abbrev done : ℕ → Answer
done steps = Ok (Some (record { steps = steps; done = true }))

abbrev paused : ℕ → Answer
paused steps = Ok (Some (record { steps = steps; done = false }))

-- ---- lists of calls

pub record Script : Type 0 where
  pub calls : List Call
  pub answers : List Answer
  pub tells : Told
  pub events : List Event

abbrev pub ComesOut : Script → Type 0
ComesOut x =
    (answers house new x.calls ≡ x.answers)
    × ((told nothing x.calls x.answers ≡ x.tells)
    × (held (after house new x.calls) ≡ x.events))

-- a call and its answer
abbrev pub Row : Type 0
Row = Call × Answer

abbrev calls_of : List Row → List Call
calls_of [] = []
calls_of (r ∷ rs) = r.0 ∷ calls_of rs

abbrev answers_of : List Row → List Answer
answers_of [] = []
answers_of (r ∷ rs) = r.1 ∷ answers_of rs

abbrev script : List Row → Told → List Event → Script
script rs tells events = record { calls = calls_of rs; answers = answers_of rs; tells = tells; events = events }

-- lines of one byte each, marked one by one from number n on
abbrev marks : ℕ → ℕ → List Row
marks zero n = []
marks (suc k) n = (link n (n + 1), ok) ∷ marks k (n + 2)

abbrev runs : ℕ → ℕ → List MarkedRun
runs zero n = []
runs (suc k) n = run_of n (n + 1) ∷ runs k (n + 2)

abbrev mixed : List ℕ
mixed = codes "a www.b c@d.e"

abbrev pub scripts : List Script
scripts =
    -- nothing was called for
    script [] nothing [] ∷
    -- each refusal that a reader knows, in the order of a session
    script
    ((load (replicate 1025 97), no fault.NoteTooLong) ∷
    (push 0 1, no fault.NothingLoaded) ∷
    (end 1, no fault.NothingLoaded) ∷
    (link 0 1, no fault.NothingLoaded) ∷
    (resolve, no fault.NothingLoaded) ∷
    (load mixed, ok) ∷
    (load [], no fault.AlreadyLoaded) ∷
    (push 0 0, no fault.NoAllowance) ∷
    (push 14 1, no fault.TargetOutOfRange) ∷
    (push 5 99, done 9) ∷
    (push 4 9, no fault.TargetOutOfRange) ∷
    (end 0, no fault.NoAllowance) ∷
    (end 9, no fault.EndTooEarly) ∷
    (link 0 1, no fault.NotEnded) ∷
    (resolve, no fault.NotEnded) ∷
    (push 13 1, paused 1) ∷
    (end 9, no fault.EndTooEarly) ∷
    (push 13 99, done 21) ∷
    (end 1, paused 1) ∷
    (push 13 9, no fault.OutOfTurn) ∷
    (link 0 1, no fault.NotEnded) ∷
    (end 99, done 1) ∷
    (end 9, no fault.OutOfTurn) ∷
    (push 13 9, no fault.OutOfTurn) ∷
    (link 1 2, no fault.RunNotMarkable) ∷
    (link 0 4, no fault.RunNotMarkable) ∷
    (link 0 3, ok) ∷
    (link 3 5, no fault.RunNotMarkable) ∷
    (link 4 7, no fault.RunNotMarkable) ∷
    (resolve, ok) ∷
    (resolve, no fault.NotEnded) ∷
    (link 4 5, no fault.NotEnded) ∷
    (end 1, no fault.OutOfTurn) ∷
    (load [], no fault.AlreadyLoaded) ∷
    [])
    (record { note = mixed; ended = true; resolved = true; links = run_of 0 3 ∷ [] })
    (event Enter Link 1 1 0 ∷ event Enter Data 1 1 0 ∷ event Exit Data 1 3 2 ∷ event Enter (Address Www) 1 3 2 ∷ event Exit (Address Www) 1 8 7 ∷ event Exit Link 1 8 7 ∷
    event Enter Data 1 8 7 ∷ event Exit Data 1 9 8 ∷ event Enter (Address Email) 1 9 8 ∷ event Exit (Address Email) 1 14 13 ∷ []) ∷
    -- a clear in the middle of the reading: nothing is told of the first note any more
    script
    ((load mixed, ok) ∷ (push 6 9, paused 9) ∷ (clear, ok) ∷ (resolve, no fault.NothingLoaded) ∷ (load [], ok) ∷ (end 1, done 1) ∷ (resolve, ok) ∷ [])
    (record { note = []; ended = true; resolved = true; links = [] })
    [] ∷
    -- before the end: an enter that is still open, and data cut in front of an h
    script
    ((load (codes "ah b"), ok) ∷ (push 4 99, done 8) ∷ [])
    (record { note = codes "ah b"; ended = false; resolved = false; links = [] })
    (event Enter Data 1 1 0 ∷ event Exit Data 1 2 1 ∷ event Enter Data 1 2 1 ∷ []) ∷
    -- an address inside a link is left in its data, also where h and w cut it at first
    script
    ((load (codes "hello@world.com"), ok) ∷ (push 15 99, done 26) ∷ (end 9, done 2) ∷ (link 0 1, ok) ∷ (resolve, ok) ∷ [])
    (record { note = codes "hello@world.com"; ended = true; resolved = true; links = run_of 0 1 ∷ [] })
    (event Enter Link 1 1 0 ∷ event Enter Data 1 1 0 ∷ event Exit Data 1 16 15 ∷ event Exit Link 1 16 15 ∷ []) ∷
    -- a mark between CR and LF, a tab, and an address behind it
    script
    ((load (97 ∷ 13 ∷ 10 ∷ 9 ∷ codes "c@d.e"), ok) ∷ (push 2 99, done 2) ∷ (push 9 99, done 13) ∷ (end 9, done 2) ∷ (resolve, ok) ∷ [])
    (record { note = 97 ∷ 13 ∷ 10 ∷ 9 ∷ codes "c@d.e"; ended = true; resolved = true; links = [] })
    (event Enter Data 1 1 0 ∷ event Exit Data 1 2 1 ∷ event Enter LineEnding 1 2 1 ∷ event Exit LineEnding 2 1 3 ∷
    event Enter Data 2 1 3 ∷ event Exit Data 2 5 4 ∷ event Enter (Address Email) 2 5 4 ∷ event Exit (Address Email) 2 10 9 ∷ []) ∷
    -- two links that touch
    script
    ((load (10 ∷ 10 ∷ []), ok) ∷ (push 2 99, done 3) ∷ (end 9, done 2) ∷ (link 0 1, ok) ∷ (link 2 3, ok) ∷ (resolve, ok) ∷ [])
    (record { note = 10 ∷ 10 ∷ []; ended = true; resolved = true; links = run_of 0 1 ∷ run_of 2 3 ∷ [] })
    (event Enter Link 1 1 0 ∷ event Enter LineEnding 1 1 0 ∷ event Exit LineEnding 2 1 1 ∷ event Exit Link 2 1 1 ∷
    event Enter Link 2 1 1 ∷ event Enter LineEnding 2 1 1 ∷ event Exit LineEnding 3 1 2 ∷ event Exit Link 3 1 2 ∷ []) ∷
    []

-- a 65th link: a run that may not be marked is refused for that first
abbrev pub many_links : List Row
many_links =
    (load (replicate 66 10), ok) ∷ (push 66 999, done 131) ∷ (end 9, done 2) ∷
    marks 64 0 ++ ((link 128 129, no fault.TooManyLinks) ∷ (link 127 129, no fault.RunNotMarkable) ∷ [])

abbrev pub LinksAreLimited : Type 0
LinksAreLimited =
    (answers house new (calls_of many_links) ≡ answers_of many_links)
    × (told nothing (calls_of many_links) (answers_of many_links) ≡ record { note = replicate 66 10; ended = true; resolved = false; links = runs 64 0 })

abbrev pub EveryScriptComesOut : Type 0
EveryScriptComesOut = AllByRecursion ComesOut scripts × LinksAreLimited

-- ---- event lists that look right

-- what is wrong: where the events stand, what the note was read as, or what it was resolved to with these links
pub data Wrong : Type 0 where
  unlawful : List ℕ → List Event → Wrong
  misread : List ℕ → List Event → Wrong
  misresolved : List ℕ → List MarkedRun → List Event → Wrong

abbrev pub Refuted : Wrong → Type 0
Refuted (unlawful note es) = LawfulEvents note es → ⊥
Refuted (misread note es) = FullyRead house note es → ⊥
Refuted (misresolved note ls es) = FullyResolved house note ls es → ⊥

abbrev pub inner_link : List Event
inner_link = event Enter Data 1 1 0 ∷ event Enter Link 1 1 0 ∷ event Exit Link 1 2 1 ∷ event Exit Data 1 2 1 ∷ []

abbrev pub early_link : List Event
early_link =
    event Enter Link 1 3 2 ∷ event Enter Data 1 1 0 ∷ event Exit Data 1 3 2 ∷ event Enter (Address Www) 1 3 2 ∷ event Exit (Address Www) 1 8 7 ∷ event Exit Link 1 8 7 ∷ []

abbrev pub wrong_lists : List Wrong
wrong_lists =
    -- an exit of another name; an exit too many; an empty span; a wrong column; a point beyond the end
    unlawful (codes "ab") (event Enter Data 1 1 0 ∷ event Exit LineEnding 1 3 2 ∷ []) ∷
    unlawful (codes "ab") (event Enter Data 1 1 0 ∷ event Exit Data 1 3 2 ∷ event Exit Data 1 3 2 ∷ []) ∷
    unlawful (codes "ab") (event Enter Data 1 1 0 ∷ event Exit Data 1 1 0 ∷ []) ∷
    unlawful (codes "ab") (event Enter Data 1 1 0 ∷ event Exit Data 1 2 2 ∷ []) ∷
    unlawful (codes "ab") (event Enter Data 1 1 0 ∷ event Exit Data 1 4 3 ∷ []) ∷
    -- an exit between CR and LF, at the line and column of both
    unlawful (97 ∷ 13 ∷ 10 ∷ []) (event Enter Data 1 1 0 ∷ event Exit Data 1 2 2 ∷ []) ∷
    -- all text called Data; a link of the wrong kind; a line ending missed; a line ending cut in two
    misread (codes "www.a") (event Enter Data 1 1 0 ∷ event Exit Data 1 6 5 ∷ []) ∷
    misread (codes "www.a") (event Enter (Address Email) 1 1 0 ∷ event Exit (Address Email) 1 6 5 ∷ []) ∷
    misread (10 ∷ []) (event Enter Data 1 1 0 ∷ event Exit Data 2 1 1 ∷ []) ∷
    misread (13 ∷ 10 ∷ []) (event Enter LineEnding 1 1 0 ∷ event Exit LineEnding 1 1 1 ∷ event Enter LineEnding 1 1 1 ∷ event Exit LineEnding 2 1 2 ∷ []) ∷
    -- data cut where an h stands; a byte left out; a byte twice; a span that is still open
    misread (codes "ah") (event Enter Data 1 1 0 ∷ event Exit Data 1 2 1 ∷ event Enter Data 1 2 1 ∷ event Exit Data 1 3 2 ∷ []) ∷
    misread (codes "ab") (event Enter Data 1 1 0 ∷ event Exit Data 1 2 1 ∷ []) ∷
    misread (codes "a") (event Enter Data 1 1 0 ∷ event Exit Data 1 2 1 ∷ event Enter (Address Email) 1 1 0 ∷ event Exit (Address Email) 1 2 1 ∷ []) ∷
    misread (codes "a") (event Enter Data 1 1 0 ∷ event Exit Data 1 2 1 ∷ event Enter Link 1 2 1 ∷ []) ∷
    -- right but for `flat`: a Link inside the span that it should stand around; right but for `forward`: a Link entered too early
    misread (codes "a") inner_link ∷
    misread (codes "a www.b") early_link ∷
    -- an address left in the data; one cut out of data inside a link; a Link around one event pair too many; a Link forgotten
    misresolved (codes "c@d.e") [] (event Enter Data 1 1 0 ∷ event Exit Data 1 6 5 ∷ []) ∷
    misresolved (codes "c@d.e") (run_of 0 1 ∷ []) (event Enter Link 1 1 0 ∷ event Enter (Address Email) 1 1 0 ∷ event Exit (Address Email) 1 6 5 ∷ event Exit Link 1 6 5 ∷ []) ∷
    misresolved (97 ∷ 10 ∷ []) (run_of 0 1 ∷ []) (event Enter Link 1 1 0 ∷ event Enter Data 1 1 0 ∷ event Exit Data 1 2 1 ∷ event Enter LineEnding 1 2 1 ∷ event Exit LineEnding 2 1 2 ∷ event Exit Link 2 1 2 ∷ []) ∷
    misresolved (codes "a") (run_of 0 1 ∷ []) (event Enter Data 1 1 0 ∷ event Exit Data 1 2 1 ∷ []) ∷
    []

abbrev pub EveryWrongListIsRefuted : Type 0
EveryWrongListIsRefuted = AllByRecursion Refuted wrong_lists
