use Rattle.std.proofs.Common.{Err, sym, ap, ◌∙◌}
use Rattle.std.proofs.lemmas.Result.{err_from_is_err_and}
use Rattle.edit_map.proofs.Consumes.{turned_away, too_short, ready, made_all}
use Rattle.edit_map.proofs.map.EditMap.consume.Goals as goal

pub returns-in_err-check : goal.returns-in_err-check
returns-in_err-check g c =
    let p = err_from_is_err_and c.from_residual.result c.from_residual.ensures.1 in
    let done = turned_away c.args.self.now c.args.store.now c.args.list.now c.args.out.now c.in_err-check.field-0.0 c.from_residual.result (p.1 ∙ ap Err p.2) (sym c.check.ensures ∙ c.in_err-check.was) in
    record { answer = done.answer; written = done.written; as_new = done.as_new; refused = done.refused; length = done.length; one_at_a_time = done.one_at_a_time; values_kept = done.values_kept; order_kept = done.order_kept }

pub write-requires : goal.write-requires
write-requires g c =
    let r = ready c.args.self.now c.args.store.now c.args.list.now c.args.out.now (sym c.check.ensures ∙ c.in_ok-check.was) in
    record { order = r.0; stored = r.1 }

pub returns-in_err-written : goal.returns-in_err-written
returns-in_err-written g c =
    let p = err_from_is_err_and c.from_residual-in_err-written.result c.from_residual-in_err-written.ensures.1 in
    let done = too_short c.args.self.now c.args.store.now c.args.list.now c.args.out.now c.in_err-written.field-0.0 c.from_residual-in_err-written.result c.write.new.out (p.1 ∙ ap Err p.2) (sym c.check.ensures ∙ c.in_ok-check.was) c.in_err-written.ensures.answer c.in_err-written.ensures.written in
    record { answer = done.answer; written = done.written; as_new = done.as_new; refused = done.refused; length = done.length; one_at_a_time = done.one_at_a_time; values_kept = done.values_kept; order_kept = done.order_kept }

pub returns : goal.returns
returns g c =
    let done = made_all c.args.self.now c.args.store.now c.args.list.now c.args.out.now c.in_ok-written.written c.clear.new.self c.write.new.out (sym c.check.ensures ∙ c.in_ok-check.was) c.in_ok-written.ensures.answer c.in_ok-written.ensures.written c.clear.ensures in
    record { answer = done.answer; written = done.written; as_new = done.as_new; refused = done.refused; length = done.length; one_at_a_time = done.one_at_a_time; values_kept = done.values_kept; order_kept = done.order_kept }
