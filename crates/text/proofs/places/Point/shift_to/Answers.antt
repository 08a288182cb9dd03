use Rattle.std.proofs.Common.{Err, ap, ◌∙◌}
use Rattle.std.proofs.lemmas.Result.{err_from_is_err_and}
use Rattle.text.proofs.Walks.{line_counts, tabs_fill, too_long_refused, target_refused}
use Rattle.text.proofs.places.Point.shift_to.Goals as goal

pub returns-in_err-length : goal.returns-in_err-length
returns-in_err-length c =
    let s = c.args.note.now in
    let p = err_from_is_err_and c.from_residual.result c.from_residual.ensures.1 in
    let r = too_long_refused s c.args.self.now c.args.index _ c.in_err-length.ensures in
    record {
      answer = p.1 ∙ ap Err p.2 ∙ r.answer;
      leads_to_places = λ short. absurd (r.never short);
      line_counts_line_endings = line_counts s;
      tabs_fill_up = tabs_fill s;
    }

pub returns-in_err-check_target : goal.returns-in_err-check_target
returns-in_err-check_target c =
    let s = c.args.note.now in
    let p = err_from_is_err_and c.from_residual-in_err-check_target.result c.from_residual-in_err-check_target.ensures.1 in
    let r = target_refused s c.args.self.now c.args.index _ _ c.in_ok-length.ensures c.in_err-check_target.ensures in
    record {
      answer = p.1 ∙ ap Err p.2 ∙ r.answer;
      leads_to_places = λ short here low high. absurd (r.never here low high);
      line_counts_line_endings = line_counts s;
      tabs_fill_up = tabs_fill s;
    }
