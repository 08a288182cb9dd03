-- The machine finds the segments of every note: the pieces that it leaves, with neighbouring data joined, are these.
-- Assumes nothing.
use Rattle.std.proofs.Common.{ap, ◌∙◌}
use Rattle.machine.specs.Joins.{joined}
use Rattle.findings.specs.Findings.{FindsTheLinks}
use Rattle.findings.proofs.EverySplit.{enough, finds_pieces, settles, ends}
use Rattle.findings.proofs.Joining.{pieces-joined}

pub finds_links : FindsTheLinks
finds_links member s =
    record {
      found = λ parts allowance done. ap joined (finds_pieces member s parts allowance done) ∙ pieces-joined member s;
      settled = settles member s;
      enough = enough member s;
      ends = ends member s;
    }
