use Rattle.std.proofs.Common.{◌+◌, length, ap, ◌∙◌}
use Rattle.edit_map.specs.Edits.{added_before, after}
use Rattle.edit_map.specs.View.{kept_count, edits_of}
use Rattle.marked.proofs.Turns.{mark-accepted, mark-put}
use Rattle.marked.proofs.copies.put_mark.Goals as goal

pub returns : goal.returns
returns c =
    let m = c.args.map.now in
    let store = c.args.store.now in
    let mark = c.args.mark.now in
    let es = edits_of m store in
    let ok = c.add_before.ensures.answer ∙ mark-accepted (length store) (kept_count m) c.args.place mark es c.requires.low c.requires.some c.requires.order c.requires.few c.requires.room in
    record {
      answer = ok;
      edits = c.add_before.ensures.edits ∙ ap (λ r. after r (added_before c.args.place 0 mark es) es) ok ∙ mark-put c.args.place mark es c.requires.some;
      kept = c.add_before.ensures.kept ∙ ap (λ r. after r (kept_count m + length mark) (kept_count m)) ok;
    }
