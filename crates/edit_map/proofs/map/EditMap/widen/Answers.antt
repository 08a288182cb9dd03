use Rattle.std.proofs.Common.{◌+◌, vec_items, sym, arith}
use Rattle.edit_map.proofs.Ranks.{here_read, here_within, sizes_before}
use Rattle.edit_map.proofs.Adds.{offset-within, count_old, grown_here}
use Rattle.edit_map.proofs.Outcomes.{put_in}
use Rattle.edit_map.proofs.map.EditMap.widen.Goals as goal

pub total_size-requires : goal.total_size-requires
total_size-requires g c =
    let m = c.args.self.now in
    let first = sizes_before (vec_items m.entries) c.args.rank in
    rw c.deref.ensures.value (omega (arith, m.tally, first.0, first.1))

pub overflow_add-start : goal.overflow_add-start
overflow_add-start g c =
    let m = c.args.self.now in
    let within = here_within (here_read (vec_items m.entries) c.args.rank c.index-old.result.now c.requires.at c.index-old.ensures) in
    let part = offset-within c.args.addition.now.side c.index-old.result.now.size in
    let start = rw c.deref.ensures.value at c.total_size.ensures in
    omega (arith, m.tally, (sizes_before (vec_items m.entries) c.args.rank).0)

pub splice-requires-clause-within : goal.splice-requires-clause-within
splice-requires-clause-within g c =
    let m = c.args.self.now in
    let within = here_within (here_read (vec_items m.entries) c.args.rank c.index-old.result.now c.requires.at c.index-old.ensures) in
    let part = offset-within c.args.addition.now.side c.index-old.result.now.size in
    let start = rw c.deref.ensures.value at c.total_size.ensures in
    omega (arith, m.tally, (sizes_before (vec_items m.entries) c.args.rank).0)

pub overflow_add-old : goal.overflow_add-old
overflow_add-old g c =
    let count = count_old c.args.addition.now.place (vec_items c.args.self.now.entries) c.args.rank c.args.store.now c.requires.at c.args.self.now.ordered c.index-old.result.now c.index-old.ensures in
    omega (arith, c.requires.small)

pub overflow_add-old-2 : goal.overflow_add-old-2
overflow_add-old-2 g c =
    let m = c.args.self.now in
    let within = here_within (here_read (vec_items m.entries) c.args.rank c.index-old.result.now c.requires.at c.index-old.ensures) in
    omega (arith, m.tally)

pub invariant_of-self : goal.invariant_of-self
invariant_of-self g c =
    let m = c.args.self.now in
    let a = c.args.addition.now in
    let here = here_read (vec_items m.entries) c.args.rank c.index-old.result.now c.requires.at c.index-old.ensures in
    let start = rw c.deref.ensures.value at c.total_size.ensures in
    let grown = grown_here a.side a.count a.elements.now (vec_items m.entries) c.args.rank c.args.store.now c.splice.new.store m.kept (c.total_size.result + c.offset.result) m.ordered m.tally (omega (arith, m.tally)) here c.requires.small (omega (arith, c.offset.ensures)) c.splice.ensures in
    record { reserved = m.reserved; few = m.few; ordered = grown.ordered; tally = sym grown.tally }

pub returns : goal.returns
returns g c =
    let m = c.args.self.now in
    let a = c.args.addition.now in
    let here = here_read (vec_items m.entries) c.args.rank c.index-old.result.now c.requires.at c.index-old.ensures in
    let start = rw c.deref.ensures.value at c.total_size.ensures in
    put_in a m c.args.store.now _ c.splice.new.store
    (grown_here a.side a.count a.elements.now (vec_items m.entries) c.args.rank c.args.store.now c.splice.new.store m.kept (c.total_size.result + c.offset.result) m.ordered m.tally (omega (arith, m.tally)) here c.requires.small (omega (arith, c.offset.ensures)) c.splice.ensures)
