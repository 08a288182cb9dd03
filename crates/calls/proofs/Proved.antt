-- The theorems, from their parts.
-- Assumes nothing.
use Rattle.std.proofs.Common.{arith}
use Rattle.calls.specs.Theorems.{SegmentsAreRead, ResolvingResolves, NothingElseIsClaimed, ListsFit, TwoAByteAndALink}
use Rattle.calls.proofs.Ended.{ended-lawful, ended-read}
use Rattle.calls.proofs.NothingElse.{exactly_segments, exactly_resolved}
use Rattle.calls.proofs.Resolves.{resolved-lawful, resolved_read, resolved-resolved}
use Rattle.calls.proofs.Lengths.{ended-room, resolved-room}

pub segments_are_read : SegmentsAreRead
segments_are_read member note = (ended-lawful member note, ended-read member note)

pub resolving_resolves : ResolvingResolves
resolving_resolves member note ls ok = (resolved-lawful member note ls ok, resolved_read member note ls ok, resolved-resolved member note ls ok)

pub nothing_else_is_claimed : NothingElseIsClaimed
nothing_else_is_claimed = record { read = exactly_segments; resolved = exactly_resolved }

pub lists_fit : ListsFit 2176
lists_fit =
    record {
      ended = λ member note le. omega (arith, ended-room member note);
      resolved = λ member note ls ok le few. omega (arith, resolved-room member note ls ok);
    }

pub two_a_byte_and_a_link : TwoAByteAndALink
two_a_byte_and_a_link = resolved-room
