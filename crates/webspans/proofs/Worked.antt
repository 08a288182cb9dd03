-- The definitions of what is printed, computed on two notes of docs/ENGINE.md.
-- Assumes nothing.
use Rattle.std.proofs.Common.{◌≡◌, ℕ, Bool, true, false, List, [], ◌∷◌, ◌++◌, Some, codes, refl}
use Rattle.std.specs.Fmt.{digits}
use Rattle.punctuation.specs.RangeLists.{house}
use Rattle.rules.specs.Segments.{segments}
use Rattle.machine.specs.declared.cursors.Until.{Until}
use Rattle.machine.specs.declared.cursors.Until.TheVariants.{Mark, End}
use Rattle.findings.specs.Pieces.{segment_events}
use Rattle.calls.specs.Calls.{loaded}
use Rattle.readings.specs.declared.lines.Answered.{Answered}
use Rattle.readings.specs.Readings.{calls_from}
use Rattle.webspans.specs.Report.{call_lines, steps_line}
use Rattle.written.specs.Listing.{event_lines}

abbrev answered : Until → ℕ → Bool → Answered
answered u steps done = record { until = u; ran = record { steps = steps; done = done } }

-- `h` and a space, with 4 state calls at most: three calls, and no more
abbrev h_space : List Answered
h_space = answered (Mark 2) 4 false ∷ answered (Mark 2) 2 true ∷ answered End 2 true ∷ []

pauses : calls_from 2 2 4 9 (Some (Mark 2)) (loaded (codes "h ")) ≡ h_space
pauses = refl

pauses-printed : call_lines h_space ++ steps_line h_space ≡ codes "push 2: 4 steps, paused\npush 2: 2 steps, done\nend: 2 steps, done\n8 steps\n"
unfolding digits
pauses-printed = refl

web-printed : event_lines (segment_events (codes "a www.b") (segments house (codes "a www.b"))) ≡ codes "enter data 1:1 0\nexit data 1:3 2\nenter www 1:3 2\nexit www 1:8 7\n"
unfolding digits
web-printed = refl
