use Rattle.std.proofs.Common.{Err, ap, ◌∙◌}
use Rattle.std.proofs.lemmas.Result.{err_from_is_err_and}
use Rattle.marked.proofs.Copied.{only_marks}
use Rattle.marked.proofs.Outcomes.{short, enough, copied}
use Rattle.marked.proofs.copies.mark_spans.Goals as goal

pub returns-in_err-check_room : goal.returns-in_err-check_room
returns-in_err-check_room c =
    let s = c.args.note.now in
    let xs = c.args.spans.now in
    let t = c.requires.in_turn in
    let p = err_from_is_err_and c.from_residual.result c.from_residual.ensures.1 in
    let done = short c.args.map.now s xs c.args.out.now t c.in_err-check_room.field-0.0 c.from_residual.result (p.1 ∙ ap Err p.2) c.in_err-check_room.ensures in
    record { answer = done.answer; written = done.written; as_new = done.as_new; refused = done.refused; only_marks = only_marks s xs t }

pub write_copy-requires : goal.write_copy-requires
write_copy-requires c =
    record {
      short = c.requires.short;
      few = c.requires.few;
      in_turn = c.requires.in_turn;
      room = enough c.args.map.now c.args.note.now c.args.spans.now c.args.out.now c.requires.in_turn _ c.in_ok-check_room.ensures;
    }

pub returns : goal.returns
returns c =
    let s = c.args.note.now in
    let xs = c.args.spans.now in
    let t = c.requires.in_turn in
    let room = enough c.args.map.now s xs c.args.out.now t _ c.in_ok-check_room.ensures in
    let done = copied c.args.map.now s xs c.args.out.now t c.write_copy.new.map c.write_copy.new.out c.write_copy.result room c.write_copy.ensures.answer c.write_copy.ensures.written c.write_copy.ensures.as_new in
    record { answer = done.answer; written = done.written; as_new = done.as_new; refused = done.refused; only_marks = only_marks s xs t }
