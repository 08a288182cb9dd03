use Rattle.std.proofs.Common.{◌+◌, length, ap, ◌∙◌}
use Rattle.edit_map.specs.Edits.{added, after}
use Rattle.edit_map.specs.View.{kept_count, edits_of}
use Rattle.resolving.proofs.Behind.{accepted}
use Rattle.resolving.proofs.batches.add.Goals as goal

pub returns : goal.returns
returns c =
    let m = c.args.map.now in
    let store = c.args.store.now in
    let xs = c.args.elements.now in
    let es = edits_of m store in
    let ok = c.add.ensures.answer ∙ accepted (length store) (kept_count m) c.args.place c.args.count xs es c.requires.low c.requires.order c.requires.few c.requires.room in
    record {
      answer = ok;
      edits = c.add.ensures.edits ∙ ap (λ r. after r (added c.args.place c.args.count xs es) es) ok;
      kept = c.add.ensures.kept ∙ ap (λ r. after r (kept_count m + length xs) (kept_count m)) ok;
    }
