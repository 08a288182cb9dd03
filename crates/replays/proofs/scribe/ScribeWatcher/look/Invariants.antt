use Rattle.std.proofs.Common.{◌≡◌, ◌++◌, length}
use Rattle.calls.specs.Steps.{held}
use Rattle.written.specs.Listing.{event_lines}
use Rattle.reader.specs.View.{view}
use Rattle.replays.specs.Scribes.{asked_now, behind_call, lines_left, texts_of}
use Rattle.replays.proofs.scribe.ScribeWatcher.look.Given as goal

-- what is left is asked for like all
abbrev pub invariant-loop-self : goal.invariant-loop-self
invariant-loop-self g l = record {
  behind : behind_call (lines_left l.self) ≡ behind_call (lines_left l.fn.self);
  texts :
      texts_of l.self ++ asked_now (event_lines (held (view l.reader))) (lines_left l.self)
      ≡ texts_of l.fn.self ++ asked_now (event_lines (held (view l.fn.reader))) (lines_left l.fn.self);
}

abbrev pub decreases-loop-self : goal.decreases-loop-self
decreases-loop-self g l = length l.self.rest.now
