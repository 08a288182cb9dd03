use Rattle.std.proofs.Common.{drop}
use Rattle.edit_map.specs.View.{kept_count, edits_of}
use Rattle.resolving.proofs.Marking.{Marking}
use Rattle.resolving.proofs.links.put_links.Given as goal

abbrev pub invariant-loop-link : goal.invariant-loop-link
invariant-loop-link l = Marking l.events l.links (drop l.link-index l.links) (edits_of l.map l.store) (kept_count l.map)
