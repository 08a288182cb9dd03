use Rattle.std.proofs.Common.{arith}
use Rattle.edit_map.specs.View.{edits_of}
use Rattle.marked.proofs.Turns.{second}
use Rattle.marked.proofs.copies.mark_span.Goals as goal

pub put_mark-requires-2 : goal.put_mark-requires-2
put_mark-requires-2 c =
    let span = c.args.span in
    let s = second span.from span.to (edits_of c.args.map.now c.args.store.now) (edits_of c.put_mark.new.map c.put_mark.new.store) c.requires.forward.0 c.requires.forward.1 c.requires.order c.requires.few c.put_mark.ensures.edits in
    record {
      low = omega (arith, c.requires.forward.0, c.requires.forward.1);
      some = omega arith;
      order = s.0;
      few = s.1;
      room = omega (arith, c.requires.room, c.put_mark.ensures.kept, c.put_mark.auto.store);
    }
