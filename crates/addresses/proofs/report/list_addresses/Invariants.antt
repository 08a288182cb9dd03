use Rattle.std.proofs.Common.{◌≡◌, take, vec_items}
use Rattle.addresses.specs.Report.{address_lines}
use Rattle.addresses.proofs.report.list_addresses.Given as goal

abbrev pub invariant-loop-span : goal.invariant-loop-span
invariant-loop-span l = vec_items l.report ≡ address_lines l.note (take l.span-index l.spans)
