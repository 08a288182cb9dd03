use Rattle.std.proofs.Common.{◌∙◌}
use Rattle.addresses.proofs.Lines.{three_pieces}
use Rattle.addresses.proofs.report.append_address.Goals as goal

pub returns : goal.returns
returns c =
    three_pieces _ _ _ _ _ _ _ _
    c.in_ok-extend_from_slice.ensures.items
    (c.as_bytes.ensures.value ∙ c.in_ok-head.ensures)
    c.in_ok-extend_from_slice-2.ensures.items
    c.in_ok-extend_from_slice-3.ensures.items
