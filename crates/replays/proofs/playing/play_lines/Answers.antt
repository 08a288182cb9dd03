use Rattle.std.proofs.Common.{◌≡◌, ◌++◌, List, refl, ap, ◌∙◌, subst, map, length, string_bytes, vec_items}
use Rattle.calls.specs.declared.scripts.Call.{Call}
use Rattle.calls.specs.Moments.{Watched}
use Rattle.punctuation.specs.RangeLists.{numbers_of, range_member}
use Rattle.reader.specs.View.{view}
use Rattle.scripts.specs.Commands.{meant_line}
use Rattle.scripts.specs.Report.{told_lines}
use Rattle.scripts.specs.Sums.{sum_of, sum_shown}
use Rattle.written.specs.Listing.{newline}
use Rattle.replays.specs.Plays.{played}
use Rattle.replays.specs.Scribes.{Wrote}
use Rattle.replays.specs.declared.scribe.Scribe.{Scribe}
use Rattle.replays.proofs.Played.{played_is}
use Rattle.replays.proofs.playing.play_lines.Goals as goal

pub returns : goal.returns
returns c =
    let ls = map meant_line c.args.script.now in
    let got = vec_items c.in_ok-reader.answers in
    let member = range_member (numbers_of c.house_set.result.ranges.now) in
    let w : Scribe = record { heap = c.args.heap; rest = c.args.script; listings = c.new.result } in
    let watched : Watched Wrote member c.in_ok-calls.calls.items got w c.replay.new.watcher (view c.in_ok-reader.reader) =
    subst (λ (cs : List Call). Watched Wrote member cs got w c.replay.new.watcher (view c.in_ok-reader.reader)) c.deref.ensures.value c.in_ok-reader.ensures in
    played_is member ls c.in_ok-calls.calls.items got w c.replay.new.watcher (view c.in_ok-reader.reader) c.in_ok-calls.ensures watched
    (string_bytes c.writeln.new.self) refl (ap (map string_bytes) c.new.ensures.items)
    (c.in_ok-writeln.ensures.bytes
    ∙ (λ i. (c.in_ok-write_lines.ensures i) ++ (sum_shown (c.new-sum.ensures i) ++ newline))
    ∙ (λ i. ((c.new-report.ensures.bytes i) ++ told_lines ls (c.deref-2.ensures.value i) (map string_bytes (c.deref-3.ensures.value i))) ++ (sum_shown (sum_of (c.deref-4.ensures.value i) (c.deref-5.ensures.value i) (c.event_count.ensures i)) ++ newline)))
    ∙ ap (λ m. played m ls) c.house_set.ensures.meaning
