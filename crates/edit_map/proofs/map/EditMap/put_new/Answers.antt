use Rattle.std.proofs.Common.{◌+◌, length, vec_items, sym, inl, inr, arith}
use Rattle.std.proofs.lemmas.Bool.{leb-true, leb-false}
use Rattle.edit_map.specs.View.{kept_count}
use Rattle.edit_map.proofs.Adds.{count-new, places_new}
use Rattle.edit_map.proofs.Outcomes.{far, nothing, no_room, done}
use Rattle.edit_map.proofs.map.EditMap.put_new.Goals.{then-len-ge-MOST_PLACES-via-then-len-ge-MOST_PLACES, then-len-ge-MOST_PLACES-via-else-len-ge-MOST_PLACES+then-not-has_room}
use Rattle.edit_map.proofs.map.EditMap.put_new.Goals as goal

pub returns-then-addition-gt-HIGHEST : goal.returns-then-addition-gt-HIGHEST
returns-then-addition-gt-HIGHEST g c =
    let m = c.args.self.now in
    let a = c.args.addition.now in
    let none = count-new a.place (vec_items m.entries) c.args.rank c.args.store.now c.requires.none in
    far a m c.args.store.now (inr (omega arith))

pub returns-then-is_idle : goal.returns-then-is_idle
returns-then-is_idle g c =
    let m = c.args.self.now in
    let a = c.args.addition.now in
    let none = count-new a.place (vec_items m.entries) c.args.rank c.args.store.now c.requires.none in
    nothing a m c.args.store.now c.requires.low (omega arith) (sym c.if-is_idle.ensures)

pub returns-then-len-ge-MOST_PLACES : goal.returns-then-len-ge-MOST_PLACES
returns-then-len-ge-MOST_PLACES g c =
    let m = c.args.self.now in
    let a = c.args.addition.now in
    let none = count-new a.place (vec_items m.entries) c.args.rank c.args.store.now c.requires.none in
    let more = places_new a.place (vec_items m.entries) c.args.rank c.args.store.now c.requires.none a.side a.count a.elements.now in
    no_room a m c.args.store.now c.requires.low (omega arith) (sym c.if-is_idle.ensures)
    (elim c.then-len-ge-MOST_PLACES.branch [
      | then-len-ge-MOST_PLACES-via-then-len-ge-MOST_PLACES w ↦ inl (omega (arith, m.entries.ok.0))
      | then-len-ge-MOST_PLACES-via-else-len-ge-MOST_PLACES+then-not-has_room w ↦ inr (leb-false (kept_count m + length a.elements.now) (length c.args.store.now) (sym w.if-not-has_room.ensures))
    ])

pub returns : goal.returns
returns g c =
    let m = c.args.self.now in
    let a = c.args.addition.now in
    let none = count-new a.place (vec_items m.entries) c.args.rank c.args.store.now c.requires.none in
    let more = places_new a.place (vec_items m.entries) c.args.rank c.args.store.now c.requires.none a.side a.count a.elements.now in
    let room = leb-true (kept_count m + length a.elements.now) (length c.args.store.now) (sym c.if-not-has_room.ensures) in
    done a m c.args.store.now c.requires.low (omega arith) _ _ (sym c.if-is_idle.ensures) (omega (arith, m.entries.ok.0)) room c.enter.ensures
