use Rattle.std.proofs.Common.{ℕ, length, IfOk, Result, ap, ◌∙◌, subst, arith}
use Rattle.text.specs.declared.refusals.Fault.{Fault}
use Rattle.text.specs.Lent.{overwritten}
use Rattle.edit_map.specs.Edits.{applied, after}
use Rattle.edit_map.specs.View.{kept_count, edits_of, AsNew}
use Rattle.marked.proofs.Copied.{wider, copied, copy-accepted}
use Rattle.marked.proofs.copies.write_copy.Goals as goal

pub put_marks-requires : goal.put_marks-requires
put_marks-requires c = record {
  as_new = c.clear.ensures;
  few = c.requires.few;
  in_turn = wider 0 (length c.args.note.now) 1024 c.args.spans.now c.requires.short c.requires.in_turn;
  room = omega arith;
}

pub returns : goal.returns
returns c =
    let s = c.args.note.now in
    let xs = c.args.spans.now in
    let out = c.args.out.now in
    let m = c.put_marks.new.map in
    let store = c.put_marks.new.store in
    let es = edits_of m store in
    let is = c.put_marks.ensures.edits in
    let ok = c.consume.ensures.answer ∙ copy-accepted s xs es is c.requires.in_turn (length store) (kept_count m) out (omega (arith, c.requires.few, c.put_marks.ensures.kept, c.put_marks.auto.store)) c.requires.room in
    record {
      answer = ok;
      written = c.consume.ensures.written ∙ ap (λ r. after r (overwritten (applied es s) out) out) ok ∙ ap (λ l. overwritten l out) (copied s xs es is c.requires.in_turn);
      as_new = subst (λ (r : Result ℕ Fault). IfOk r (λ _. AsNew c.consume.new.self)) ok c.consume.ensures.as_new;
    }
