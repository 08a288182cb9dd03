use Rattle.std.proofs.Common.{◌≡◌, ◌+◌, ◌*◌, ◌≤◌, length, drop}
use Rattle.written.specs.Listing.{event_lines}
use Rattle.written.proofs.listing.listing_size.Given as goal

abbrev pub invariant-loop-event : goal.invariant-loop-event
invariant-loop-event l = record {
  counted : l.size + length (event_lines (drop l.event-index l.events)) ≡ length (event_lines l.events);
  small : l.size ≤ 81 * l.event-index;
}
