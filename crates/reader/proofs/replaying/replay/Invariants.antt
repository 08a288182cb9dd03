use Rattle.std.proofs.Common.{◌≡◌, ◌≤◌, length, vec_items, vec_len, vec_capacity}
use Rattle.calls.proofs.Replays.{Made}
use Rattle.reader.specs.View.{meaning_of, view}
use Rattle.reader.proofs.replaying.replay.Given as goal

-- so many calls are made
abbrev pub invariant-loop-call : goal.invariant-loop-call
invariant-loop-call g l = record {
  made :
      Made (g.S.PunctuationSet.member l.fn.set) g.W.Watcher.saw l.fn.calls l.call-index (vec_items l.answers) l.fn.watcher l.watcher (view l.reader);
  means : meaning_of l.reader ≡ g.S.PunctuationSet.member l.fn.set;
  each : vec_len l.answers ≡ l.call-index;
  room : length l.fn.calls ≤ vec_capacity l.answers;
}
