use Rattle.std.proofs.Common.{◌+◌, vec_items, ◌∙◌, arith}
use Rattle.tokenizer.proofs.Seams.{all-joined}
use Rattle.tokenizer.proofs.event_table.EventTable.join.Goals as goal
use Rattle.tokenizer.proofs.event_table.EventTable.join.Goals.{else-loop-next-test, then-loop-next-test+else-next-end-next-gt2}

-- nothing is left: of an empty table from the start, or else behind the last pair
pub returns : goal.returns
returns c =
    let before = vec_items c.args.self.now.items in
    let over = c.loop-next-test in
    elim over.branch [
      | else-loop-next-test w ↦
          all-joined before (vec_items over.self.items) _ over.kept c.loop-next.next
          (rw (w.self-is, w.kept-is) c.loop-next.invariant.joins) (rw w.self-is (omega (arith, c.loop-next.self.items.ok.0))) c.truncate.ensures
      | then-loop-next-test+else-next-end-next-gt2 w ↦
          all-joined before (vec_items over.self.items) _ over.kept (c.loop-next.next + 2)
          (rw (w.self-is, w.kept-is) (w.take_up-kept.ensures.joins ∙ c.loop-next.invariant.joins)) (rw w.self-is (omega (arith, w.take_up-kept.new.self.items.ok.0))) c.truncate.ensures
    ]
