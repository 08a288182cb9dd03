use Rattle.std.proofs.Common.{◌≡◌, drop}
use Rattle.reader.specs.View.{meaning_of, view}
use Rattle.recorded_answers.specs.Replays.{pushes_made}
use Rattle.recorded_answers.proofs.Pushes.{behind}
use Rattle.recorded_answers.proofs.replays.push_all.Given as goal

abbrev pub invariant-loop-push : goal.invariant-loop-push
invariant-loop-push g l =
    record {
      made : behind l.runs.items (pushes_made (meaning_of l.reader) (view l.reader) (drop l.push-index l.pushes)) ≡ pushes_made (meaning_of l.fn.reader) (view l.fn.reader) l.fn.pushes;
      meaning : meaning_of l.reader ≡ meaning_of l.fn.reader;
    }
