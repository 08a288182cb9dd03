use Rattle.std.proofs.Common.{◌≡◌, drop}
use Rattle.reader.specs.View.{view}
use Rattle.recorded_answers.specs.Replays.{links_marked}
use Rattle.recorded_answers.proofs.replays.mark_all.Given as goal

abbrev pub invariant-loop-link : goal.invariant-loop-link
invariant-loop-link g l = links_marked (view l.reader) (drop l.link-index l.links) ≡ links_marked (view l.fn.reader) l.fn.links
