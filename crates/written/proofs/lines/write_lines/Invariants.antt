use Rattle.std.proofs.Common.{◌≡◌, ◌++◌, drop, string_bytes}
use Rattle.written.specs.Listing.{event_lines}
use Rattle.written.proofs.lines.write_lines.Given as goal

-- what is written, and the lines of what is left
abbrev pub invariant-loop-event : goal.invariant-loop-event
invariant-loop-event l = string_bytes l.text ++ event_lines (drop l.event-index l.events) ≡ string_bytes l.fn.text ++ event_lines l.events
