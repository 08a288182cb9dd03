use Rattle.std.proofs.Common.{◌∙◌}
use Rattle.std.proofs.ByRecursion.{All-get_or}
use Rattle.addresses.specs.Report.{Within}
use Rattle.addresses.proofs.Lines.{line_after, last_line}
use Rattle.addresses.proofs.report.list_addresses.Goals as goal

pub append_address-requires : goal.append_address-requires
append_address-requires c = All-get_or (Within c.args.note.now) c.args.spans.now c.loop-span.span-index _ c.loop-span-test.true c.requires

pub loop-span-preserved : goal.loop-span-preserved
loop-span-preserved c = line_after c.args.note.now c.args.spans.now c.loop-span.span-index _ _ _ c.loop-span-test.true c.loop-span.invariant c.in_ok-append_address.ensures

pub returns : goal.returns
returns c =
    last_line c.args.note.now c.args.spans.now c.loop-span.span-index _ _ _
    c.loop-span-test.false c.loop-span.invariant (c.as_bytes.ensures.value ∙ c.in_ok-last.ensures) c.in_ok-extend_from_slice.ensures.items
