use Rattle.std.proofs.Common.{vec_items, sym, ap, ◌∙◌, arith}
use Rattle.std.proofs.ResultArms.{chosen}
use Rattle.std.proofs.lemmas.List.{length-take-le}
use Rattle.edit_map.specs.Entries.{total, edits, well_formed}
use Rattle.edit_map.proofs.Ranks.{none_within, sizes_before}
use Rattle.edit_map.proofs.Adds.{grown_new}
use Rattle.edit_map.proofs.Outcomes.{put_in}
use Rattle.edit_map.proofs.map.EditMap.enter.Goals as goal

pub slice_bounds-total_size-end : goal.slice_bounds-total_size-end
slice_bounds-total_size-end g c =
    let within = none_within c.args.addition.now.place (vec_items c.args.self.now.entries) c.args.rank c.requires.none in
    sym (length-take-le c.args.rank c.deref.result.now (omega (arith, c.deref.ensures.len, c.args.self.now.entries.ok.0)))

pub total_size-start-requires : goal.total_size-start-requires
total_size-start-requires g c =
    let m = c.args.self.now in
    let first = sizes_before (vec_items m.entries) c.args.rank in
    rw c.deref.ensures.value (omega (arith, m.tally))

pub splice-requires-clause-within : goal.splice-requires-clause-within
splice-requires-clause-within g c =
    let m = c.args.self.now in
    let first = sizes_before (vec_items m.entries) c.args.rank in
    let start = rw c.deref.ensures.value at c.total_size-start.ensures in
    omega (arith, m.tally)

pub insert-requires : goal.insert-requires
insert-requires g c =
    let within = none_within c.args.addition.now.place (vec_items c.args.self.now.entries) c.args.rank c.requires.none in
    omega (arith, c.args.self.now.entries.ok.0)

pub invariant_of-self : goal.invariant_of-self
invariant_of-self g c =
    let m = c.args.self.now in
    let a = c.args.addition.now in
    let start = rw c.deref.ensures.value at c.total_size-start.ensures in
    let grown = grown_new a.side a.count a.elements.now (vec_items m.entries) c.args.rank c.args.store.now c.splice.new.store m.kept c.total_size-start.result m.ordered m.tally (omega (arith, m.tally)) a.place c.requires.none c.requires.small.0 c.requires.small.1 start c.splice.ensures in
    let ok = c.insert.ensures.succeeds (omega (arith, m.reserved)) in
    let in_place = chosen _ _ _ _ c.insert.ensures.items ok in
    let one = chosen _ _ _ _ c.insert.ensures.len ok in
    record {
      reserved = omega (arith, m.reserved, c.insert.ensures.capacity);
      few = omega arith;
      ordered = ap (well_formed 0) in_place ∙ grown.ordered;
      tally = sym (ap total in_place ∙ grown.tally);
    }

pub returns : goal.returns
returns g c =
    let m = c.args.self.now in
    let a = c.args.addition.now in
    let start = rw c.deref.ensures.value at c.total_size-start.ensures in
    let grown = grown_new a.side a.count a.elements.now (vec_items m.entries) c.args.rank c.args.store.now c.splice.new.store m.kept c.total_size-start.result m.ordered m.tally (omega (arith, m.tally)) a.place c.requires.none c.requires.small.0 c.requires.small.1 start c.splice.ensures in
    let in_place = chosen _ _ _ _ c.insert.ensures.items (c.insert.ensures.succeeds (omega (arith, m.reserved))) in
    put_in a m c.args.store.now _ c.splice.new.store
    (record { edits = ap (λ l. edits l c.splice.new.store) in_place ∙ grown.edits; rest = grown.rest; ordered = ap (well_formed 0) in_place ∙ grown.ordered; tally = ap total in_place ∙ grown.tally })
