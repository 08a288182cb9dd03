use Rattle.std.proofs.Common.{arith}
use Rattle.edit_map.proofs.Applies.{start, turn, more, last_room, finish}
use Rattle.edit_map.proofs.map.consume.apply.Goals as goal

pub loop-entry-init : goal.loop-entry-init
loop-entry-init g c = start c.args.entries.now c.args.store.now c.args.list.now c.args.out.now c.requires.order c.requires.stored

pub copy_part-end-requires : goal.copy_part-end-requires
copy_part-end-requires g c =
    let t = turn c.args.entries.now c.args.store.now c.args.list.now c.args.out.now c.loop-entry.entry-index c.loop-entry.from c.loop-entry.used c.loop-entry.end c.loop-entry.out c.loop-entry-test.true c.requires.room c.loop-entry.invariant in
    t.first

pub overflow_add-used : goal.overflow_add-used
overflow_add-used g c =
    let t = turn c.args.entries.now c.args.store.now c.args.list.now c.args.out.now c.loop-entry.entry-index c.loop-entry.from c.loop-entry.used c.loop-entry.end c.loop-entry.out c.loop-entry-test.true c.requires.room c.loop-entry.invariant in
    omega (arith, t.taken)

pub copy_part-end-requires-in-loop-entry : goal.copy_part-end-requires-in-loop-entry
copy_part-end-requires-in-loop-entry g c =
    let t = turn c.args.entries.now c.args.store.now c.args.list.now c.args.out.now c.loop-entry.entry-index c.loop-entry.from c.loop-entry.used c.loop-entry.end c.loop-entry.out c.loop-entry-test.true c.requires.room c.loop-entry.invariant in
    omega (arith, t.both, c.copy_part-end.ensures.end, c.copy_part-end.auto.out)

pub end-from-requires : goal.end-from-requires
end-from-requires g c =
    let t = turn c.args.entries.now c.args.store.now c.args.list.now c.args.out.now c.loop-entry.entry-index c.loop-entry.from c.loop-entry.used c.loop-entry.end c.loop-entry.out c.loop-entry-test.true c.requires.room c.loop-entry.invariant in
    omega (arith, t.run)

pub overflow_add-used-in-loop-entry : goal.overflow_add-used-in-loop-entry
overflow_add-used-in-loop-entry g c =
    let t = turn c.args.entries.now c.args.store.now c.args.list.now c.args.out.now c.loop-entry.entry-index c.loop-entry.from c.loop-entry.used c.loop-entry.end c.loop-entry.out c.loop-entry-test.true c.requires.room c.loop-entry.invariant in
    omega (arith, t.taken)

pub loop-entry-preserved : goal.loop-entry-preserved
loop-entry-preserved g c =
    let first = c.copy_part-end.ensures in
    let second = c.copy_part-end-in-loop-entry.ensures in
    more c.args.entries.now c.args.store.now c.args.list.now c.args.out.now c.loop-entry.entry-index c.loop-entry.from c.loop-entry.used c.loop-entry.end c.loop-entry.out c.loop-entry-test.true c.requires.room c.loop-entry.invariant
    _ _ _ _ _ c.end-from.ensures first.end first.written first.rest c.copy_part-end.auto.out second.end second.written second.rest c.copy_part-end-in-loop-entry.auto.out

pub copy_part-requires : goal.copy_part-requires
copy_part-requires g c = last_room c.args.entries.now c.args.store.now c.args.list.now c.args.out.now c.loop-entry.entry-index c.loop-entry.from c.loop-entry.used c.loop-entry.end c.loop-entry.out (omega arith) c.loop-entry.invariant c.requires.room

pub returns : goal.returns
returns g c =
    let done = finish c.args.entries.now c.args.store.now c.args.list.now c.args.out.now c.loop-entry.entry-index c.loop-entry.from c.loop-entry.used c.loop-entry.end c.loop-entry.out (omega arith) c.loop-entry.invariant _ _ c.copy_part.ensures.end c.copy_part.ensures.written c.copy_part.ensures.rest in
    record { end = done.size; written = done.written }
