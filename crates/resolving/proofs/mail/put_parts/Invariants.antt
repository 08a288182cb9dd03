use Rattle.std.proofs.Common.{drop}
use Rattle.edit_map.specs.View.{kept_count, edits_of}
use Rattle.resolving.proofs.Splitting.{Splitting}
use Rattle.resolving.proofs.mail.put_parts.Given as goal

abbrev pub invariant-loop-address : goal.invariant-loop-address
invariant-loop-address l =
    Splitting l.note l.place l.from.index l.to l.mail (drop l.address-index l.mail) l.point (edits_of l.fn.map l.fn.store) (edits_of l.map l.store) (kept_count l.fn.map) (kept_count l.map)
