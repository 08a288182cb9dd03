use Rattle.std.proofs.Common.{◌≡◌, ◌+◌, ◌-◌, ◌<◌, true, false, length, set, vec_items, sym, ◌∙◌, subst, arith, rules}
use Rattle.std.proofs.lemmas.List.{get_or_read}
use Rattle.machine.specs.declared.events.Event.{Event}
use Rattle.machine.specs.Joins.{seam}
use Rattle.tokenizer.specs.Joining.{joined_from}
use Rattle.tokenizer.proofs.Seams.{ended_by, pair_fits, pairs_beyond, pairs_beyond_set, lengthened, first-kept, pair_kept}
use Rattle.tokenizer.proofs.event_table.EventTable.take_up.Goals as goal
use Rattle.tokenizer.proofs.event_table.EventTable.take_up.Goals.{else-kept-gt0-via-then-kept-gt0+else-is_seam, else-kept-gt0-via-else-kept-gt0}

pub index-exit-requires : goal.index-exit-requires
index-exit-requires c =
    let items = c.args.self.now.items in
    omega (arith, items.ok.0, pair_fits (vec_items items) c.args.next (omega (arith, items.ok.0, c.requires.more)) c.requires.pairs)

pub index_mut-requires-else-kept-gt0 : goal.index_mut-requires-else-kept-gt0
index_mut-requires-else-kept-gt0 c =
    let items = c.args.self.now.items in
    omega (arith, items.ok.0, c.requires.behind, pair_fits (vec_items items) c.args.next (omega (arith, items.ok.0, c.requires.more)) c.requires.pairs)

-- the event that is lent is the one that was looked at
pub returns-then-is_seam : goal.returns-then-is_seam
returns-then-is_seam c =
    let items = c.args.self.now.items in
    let es = vec_items items in
    let kept = c.args.kept in
    let next = c.args.next in
    let a = c.index-enter.result.now in
    let b = c.index-exit.result.now in
    let last = c.event_mut-last.result.now in
    let some : 0 < kept = search rules in
    let more : next + 1 < length es = pair_fits es next (omega (arith, items.ok.0, c.requires.more)) c.requires.pairs in
    let low : kept - 1 < length es = omega (arith, c.requires.behind) in
    let same : c.index.result.now ≡ last = get_or_read es (kept - 1) c.index.result.now low c.index.ensures last ∙ sym c.event_mut-last.ensures.value in
    let meets : seam last a ≡ true = subst (λ (e : Event). seam e a ≡ true) same (sym c.if-is_seam.ensures.answer) in
    record {
      behind = omega (arith, c.requires.behind);
      joins = lengthened es kept next a b c.requires.behind more c.requires.pairs c.index-enter.ensures c.index-exit.ensures last some c.event_mut-last.ensures.value meets;
      pairs = pairs_beyond_set es next (kept - 1) (ended_by last b) (omega (arith, c.requires.behind)) (pairs_beyond es next c.requires.pairs);
      length = search rules;
      fits = omega (arith, items.ok.0, more);
    }

pub returns-else-kept-gt0 : goal.returns-else-kept-gt0
returns-else-kept-gt0 c =
    let items = c.args.self.now.items in
    let es = vec_items items in
    let kept = c.args.kept in
    let next = c.args.next in
    let a = c.index-enter.result.now in
    let b = c.index-exit.result.now in
    let more : next + 1 < length es = pair_fits es next (omega (arith, items.ok.0, c.requires.more)) c.requires.pairs in
    let joins : joined_from (kept + 2) (next + 2) (set (set es kept a) (kept + 1) b) ≡ joined_from kept next es =
    elim c.else-kept-gt0.branch [
      | else-kept-gt0-via-then-kept-gt0+else-is_seam w ↦
          (let some : 0 < kept = search rules in
          let apart : seam w.index.result.now a ≡ false = search rules in
          pair_kept es kept next a b c.requires.behind more c.requires.pairs c.index-enter.ensures c.index-exit.ensures w.index.result.now some w.index.ensures apart)
      | else-kept-gt0-via-else-kept-gt0 w ↦
          (let none : kept ≡ 0 = search rules in
          first-kept es kept next a b c.requires.behind more c.requires.pairs c.index-enter.ensures c.index-exit.ensures none)
    ] in
    record {
      behind = omega (arith, c.requires.behind);
      joins = joins;
      pairs = pairs_beyond_set (set es kept a) next (kept + 1) b (omega (arith, c.requires.behind)) (pairs_beyond_set es next kept a (omega (arith, c.requires.behind)) (pairs_beyond es next c.requires.pairs));
      length = search rules;
      fits = omega (arith, items.ok.0, more);
    }
