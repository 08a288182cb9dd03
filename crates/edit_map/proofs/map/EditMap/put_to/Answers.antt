use Rattle.std.proofs.Common.{◌+◌, length, vec_items, sym, inr, arith}
use Rattle.std.proofs.lemmas.Bool.{leb-true, leb-false}
use Rattle.edit_map.specs.View.{kept_count}
use Rattle.edit_map.proofs.Adds.{count_old, places_old}
use Rattle.edit_map.proofs.Outcomes.{far, nothing, no_room, done}
use Rattle.edit_map.proofs.map.EditMap.put_to.Goals as goal

pub overflow_sub-index : goal.overflow_sub-index
overflow_sub-index g c =
    let m = c.args.self.now in
    (count_old c.args.addition.now.place (vec_items m.entries) c.args.rank c.args.store.now c.requires.at m.ordered c.index.result.now c.index.ensures).1

pub returns-then-addition-index : goal.returns-then-addition-index
returns-then-addition-index g c =
    let m = c.args.self.now in
    let a = c.args.addition.now in
    let count = count_old a.place (vec_items m.entries) c.args.rank c.args.store.now c.requires.at m.ordered c.index.result.now c.index.ensures in
    far a m c.args.store.now (inr (omega (arith, c.if-addition-index.true)))

pub returns-then-is_idle : goal.returns-then-is_idle
returns-then-is_idle g c =
    let m = c.args.self.now in
    let a = c.args.addition.now in
    let count = count_old a.place (vec_items m.entries) c.args.rank c.args.store.now c.requires.at m.ordered c.index.result.now c.index.ensures in
    nothing a m c.args.store.now c.requires.low (omega (arith, c.if-addition-index.false)) (sym c.if-is_idle.ensures)

pub returns-then-not-has_room : goal.returns-then-not-has_room
returns-then-not-has_room g c =
    let m = c.args.self.now in
    let a = c.args.addition.now in
    let count = count_old a.place (vec_items m.entries) c.args.rank c.args.store.now c.requires.at m.ordered c.index.result.now c.index.ensures in
    no_room a m c.args.store.now c.requires.low (omega (arith, c.if-addition-index.false)) (sym c.if-is_idle.ensures)
    (inr (leb-false (kept_count m + length a.elements.now) (length c.args.store.now) (sym c.if-not-has_room.ensures)))

pub widen-requires : goal.widen-requires
widen-requires g c =
    let m = c.args.self.now in
    let a = c.args.addition.now in
    let count = count_old a.place (vec_items m.entries) c.args.rank c.args.store.now c.requires.at m.ordered c.index.result.now c.index.ensures in
    record {
      at = c.requires.at;
      room = leb-true (kept_count m + length a.elements.now) (length c.args.store.now) (sym c.if-not-has_room.ensures);
      small = omega (arith, c.if-addition-index.false);
    }

pub returns : goal.returns
returns g c =
    let m = c.args.self.now in
    let a = c.args.addition.now in
    let count = count_old a.place (vec_items m.entries) c.args.rank c.args.store.now c.requires.at m.ordered c.index.result.now c.index.ensures in
    let same = places_old a.place (vec_items m.entries) c.args.rank c.args.store.now c.requires.at a.side a.count a.elements.now in
    let room = leb-true (kept_count m + length a.elements.now) (length c.args.store.now) (sym c.if-not-has_room.ensures) in
    done a m c.args.store.now c.requires.low (omega (arith, c.if-addition-index.false)) _ _ (sym c.if-is_idle.ensures) (omega (arith, m.few, m.entries.ok.0)) room c.widen.ensures
