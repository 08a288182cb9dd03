use Rattle.std.proofs.Common.{vec_items, Some, None, arith}
use Rattle.edit_map.specs.View.{kept_count}
use Rattle.edit_map.proofs.Ranks.{ends_fit}
use Rattle.edit_map.proofs.Checks.{past_found, fails_13, fails_14, fails_15, passes}
use Rattle.edit_map.proofs.map.EditMap.check.Goals as goal

pub past_end-requires : goal.past_end-requires
past_end-requires c = rw c.deref.ensures.value (ends_fit (vec_items c.args.self.now.entries) c.args.self.now.ordered)

pub returns-in-Some : goal.returns-in-Some
returns-in-Some c =
    let m = c.args.self.now in
    let past = past_found c.args.len (vec_items m.entries) (Some c.in-Some.rank) (rw c.deref.ensures.value at c.in-Some.ensures) in
    fails_13 c.args.room (kept_count m) c.args.len (vec_items m.entries) c.in-Some.rank past.0 past.1

pub inside_removal-requires : goal.inside_removal-requires
inside_removal-requires c = rw c.deref-2.ensures.value (ends_fit (vec_items c.args.self.now.entries) c.args.self.now.ordered)

pub returns-in-Some-inside_removal : goal.returns-in-Some-inside_removal
returns-in-Some-inside_removal c =
    let m = c.args.self.now in
    let past = past_found c.args.len (vec_items m.entries) None (rw c.deref.ensures.value at c.in_default.ensures) in
    let inside = rw c.deref-2.ensures.value at c.in-Some-inside_removal.ensures in
    fails_14 c.args.room (kept_count m) c.args.len (vec_items m.entries) past c.in-Some-inside_removal.rank inside.0 inside.1

pub returns-then-room-self : goal.returns-then-room-self
returns-then-room-self c =
    let m = c.args.self.now in
    let past = past_found c.args.len (vec_items m.entries) None (rw c.deref.ensures.value at c.in_default.ensures) in
    let inside = rw c.deref-2.ensures.value at c.in_default-inside_removal.ensures in
    fails_15 c.args.room (kept_count m) c.args.len (vec_items m.entries) past inside (omega (arith, m.tally))

pub returns : goal.returns
returns c =
    let m = c.args.self.now in
    let past = past_found c.args.len (vec_items m.entries) None (rw c.deref.ensures.value at c.in_default.ensures) in
    let inside = rw c.deref-2.ensures.value at c.in_default-inside_removal.ensures in
    passes c.args.room (kept_count m) c.args.len (vec_items m.entries) past inside (omega (arith, m.tally))
