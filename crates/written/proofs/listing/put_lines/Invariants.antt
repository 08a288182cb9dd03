use Rattle.std.proofs.Common.{◌≡◌, ℕ, List, ◌++◌, length, drop}
use Rattle.written.specs.Listing.{event_lines}
use Rattle.written.proofs.Placed.{front}
use Rattle.written.proofs.listing.put_lines.Given as goal

abbrev pub invariant-loop-event : goal.invariant-loop-event
invariant-loop-event l = record {
  done : List ℕ;
  all : done ++ event_lines (drop l.event-index l.events) ≡ event_lines l.events;
  at : l.at ≡ length done;
  written : l.out ≡ front done l.initial.out;
}
