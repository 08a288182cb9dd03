use Rattle.std.proofs.Common.{◌+◌, drop, ap, arith}
use Rattle.edit_map.specs.Edits.{inside_removal}
use Rattle.edit_map.specs.Entries.{entry, bare}
use Rattle.edit_map.proofs.Checks.{inside_here, inside-more, inside-all}
use Rattle.edit_map.proofs.map.consume.inside_removal.Goals as goal

pub returns-then-entry-end : goal.returns-then-entry-end
returns-then-entry-end c =
    let e = inside_here c.args.entries.now c.loop-rank.rank c.loop-rank-test.true c.loop-rank.end c.if-entry-end.true in
    (omega (arith, c.loop-rank.invariant), c.loop-rank-test.true)

pub end-end-requires : goal.end-end-requires
end-end-requires c = c.requires c.loop-rank.rank (entry 0 0 0) c.loop-rank-test.true

pub loop-rank-preserved : goal.loop-rank-preserved
loop-rank-preserved c =
    let e = inside-more c.args.entries.now c.loop-rank.rank c.loop-rank-test.true c.loop-rank.end c.if-entry-end.false in
    let same = ap (λ k. inside_removal k (bare (drop (c.loop-rank.rank + 1) c.args.entries.now))) c.end-end.ensures in
    omega (arith, c.loop-rank.invariant)

pub returns : goal.returns
returns c =
    let e = inside-all c.args.entries.now c.loop-rank.end c.loop-rank.rank (omega arith) in
    omega (arith, c.loop-rank.invariant)
