use Rattle.std.proofs.Common.{◌+◌, ◌-◌, ◌≤◌, length, vec_items, refl, ⊎_elim, arith}
use Rattle.std.specs.List.{sum_by}
use Rattle.std.proofs.lemmas.Bool.{cases_lt}
use Rattle.std.proofs.lemmas.Result.{err_from_is_err_and}
use Rattle.text.proofs.Rooms.{enough_room, lacking_room}
use Rattle.edit_map.specs.declared.entries.Entry.{Entry}
use Rattle.edit_map.specs.Edits.{applied}
use Rattle.edit_map.specs.Entries.{edits, total}
use Rattle.edit_map.proofs.Consumes.{removed_fits, new-length, short, too_many, long-enough, over}
use Rattle.edit_map.proofs.map.EditMap.write.Goals as goal

pub removed_count-requires : goal.removed_count-requires
removed_count-requires g c =
    let fits = removed_fits (vec_items c.args.self.now.entries) c.args.store.now c.args.list.now c.requires.order in
    rw c.deref.ensures.value (omega arith)

pub overflow_sub-stays : goal.overflow_sub-stays
overflow_sub-stays g c =
    let fits = removed_fits (vec_items c.args.self.now.entries) c.args.store.now c.args.list.now c.requires.order in
    let gone = rw c.deref.ensures.value at c.removed_count.ensures in
    omega arith

pub returns-in_err-check_room : goal.returns-in_err-check_room
returns-in_err-check_room g c =
    let m = c.args.self.now in
    let es = vec_items m.entries in
    let all = new-length es c.args.store.now c.args.list.now c.requires.order c.requires.stored in
    let gone = rw c.deref.ensures.value at c.removed_count.ensures in
    let sum = c.in-Some.ensures in
    let lacks = lacking_room c.in-Some.needed (length c.args.out.now) c.in_err-check_room.field-0.0 c.in_err-check_room.ensures in
    let p = err_from_is_err_and c.from_residual.result c.from_residual.ensures.1 in
    rw (p.1, p.2, lacks.0) (record {
      answer = short (applied (edits es c.args.store.now) c.args.list.now) c.args.out.now c.in-Some.needed (omega (arith, m.tally, sum.1)) (omega (arith, sum.0, sum.1)) lacks.1;
      written = refl;
    })

pub apply-requires : goal.apply-requires
apply-requires g c =
    let m = c.args.self.now in
    let all = new-length (vec_items m.entries) c.args.store.now c.args.list.now c.requires.order c.requires.stored in
    let gone = rw c.deref.ensures.value at c.removed_count.ensures in
    let sum = c.in-Some.ensures in
    let enough = enough_room c.in-Some.needed (length c.args.out.now) _ c.in_ok-check_room.ensures in
    rw c.deref-2.ensures.value (record { order = c.requires.order; stored = c.requires.stored; room = omega (arith, m.tally, sum.1, enough.0) })

pub returns : goal.returns
returns g c =
    let m = c.args.self.now in
    let es = vec_items m.entries in
    let all = new-length es c.args.store.now c.args.list.now c.requires.order c.requires.stored in
    let gone = rw c.deref.ensures.value at c.removed_count.ensures in
    let sum = c.in-Some.ensures in
    let enough = enough_room c.in-Some.needed (length c.args.out.now) _ c.in_ok-check_room.ensures in
    let room : length (applied (edits es c.args.store.now) c.args.list.now) ≤ length c.args.out.now = omega (arith, m.tally, sum.1, enough.0) in
    let done = rw c.deref-2.ensures.value at c.apply.ensures in
    record {
      answer = long-enough (applied (edits es c.args.store.now) c.args.list.now) c.args.out.now c.apply.result done.end room;
      written = over (applied (edits es c.args.store.now) c.args.list.now) c.args.out.now c.apply.new.out done.written room;
    }

pub returns-in_default-clause-answer : goal.returns-in_default-clause-answer
returns-in_default-clause-answer g c =
    let m = c.args.self.now in
    let es = vec_items m.entries in
    let all = new-length es c.args.store.now c.args.list.now c.requires.order c.requires.stored in
    let gone = rw c.deref.ensures.value at c.removed_count.ensures in
    let over : 18446744073709551616 ≤ length c.args.list.now - sum_by (λ (e : Entry). e.count) es + total es = ⊎_elim (λ lt. absurd (c.in_default.ensures (omega (arith, m.tally)))) (λ le. le) (cases_lt (length c.args.list.now - sum_by (λ (e : Entry). e.count) es + total es) 18446744073709551616) in
    too_many (applied (edits es c.args.store.now) c.args.list.now) c.args.out.now (omega arith) (omega arith)
