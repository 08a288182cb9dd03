use Rattle.std.proofs.Common.{◌-◌, length}
use Rattle.edit_map.specs.View.{kept_count, edits_of}
use Rattle.resolving.proofs.Cutting.{Cutting}
use Rattle.resolving.proofs.mail.cut_mail.Given as goal

abbrev pub invariant-loop-place : goal.invariant-loop-place
invariant-loop-place l = Cutting l.note l.events l.place l.in_link (edits_of l.map l.store) (kept_count l.map)

abbrev pub decreases-loop-place : goal.decreases-loop-place
decreases-loop-place l = length l.events - l.place
