use Rattle.std.proofs.Common.{◌≡◌, List, ◌++◌, length, drop}
use Rattle.text.specs.declared.spans.Span.{Span}
use Rattle.written.specs.Spans.{written_spans}
use Rattle.written.proofs.Scans.{scanned}
use Rattle.written.proofs.spans.find_spans.Given as goal

abbrev pub invariant-loop-event : goal.invariant-loop-event
invariant-loop-event l = record {
  done : List Span;
  all : done ++ scanned l.from (drop l.event-index l.events) ≡ written_spans l.events;
  count : l.count ≡ length done;
  found : l.out ≡ done ++ drop (length done) l.initial.out;
}
