use Rattle.std.proofs.Common.{◌+◌, Ok, Err, map, sym, ap, ◌∙◌, subst}
use Rattle.std.proofs.lemmas.Result.{err_from_is_err_and}
use Rattle.scripts.specs.Commands.{meant_option}
use Rattle.scripts.specs.Lines.{line_of}
use Rattle.scripts.specs.Scripts.{lines, SaysLine}
use Rattle.scripts.proofs.Scripting.{is_line, says_more, says_nothing, says_err}
use Rattle.scripts.proofs.parsing.parse_script.Goals as goal
use Rattle.scripts.proofs.parsing.parse_script.Goals.{in-Some+in_ok-push, in_default}

pub returns-in_err-line : goal.returns-in_err-line
returns-in_err-line c =
    let p = err_from_is_err_and c.from_residual-in_err-line.result c.from_residual-in_err-line.ensures.1 in
    let at = is_line c.deref-line-items.result.now (lines c.args.text.now) c.loop-index.index _ (ap (map (λ l. l.now)) c.deref-line-items.ensures.value ∙ c.in_ok-lines.ensures) c.loop-index-test.true in
    rw (p.1, p.2)
    (says_err (lines c.args.text.now) c.loop-index.index _ _ _ at.0
    (subst (λ l. SaysLine (c.loop-index.index + 1) (Err c.in_err-line.field-0.0) (line_of l)) (sym at.1) c.in_err-line.ensures)
    c.loop-index.invariant)

pub loop-index-preserved : goal.loop-index-preserved
loop-index-preserved c =
    let at = is_line c.deref-line-items.result.now (lines c.args.text.now) c.loop-index.index _ (ap (map (λ l. l.now)) c.deref-line-items.ensures.value ∙ c.in_ok-lines.ensures) c.loop-index-test.true in
    let says = ap line_of at.1 ∙ c.in_ok-line.ensures in
    elim c.match-branch-3.branch [
      | in-Some+in_ok-push w ↦
          rw (w.script-is, w.in_ok-push.ensures.items)
          (says_more (lines c.args.text.now) c.loop-index.index c.loop-index.script.items w.in-Some.line _ at.0 (says ∙ ap (λ l. Ok (meant_option l)) w.in-Some.is) c.loop-index.invariant)
      | in_default w ↦
          rw w.script-is
          (says_nothing (lines c.args.text.now) c.loop-index.index _ _ at.0 (says ∙ ap (λ l. Ok (meant_option l)) w.in_default.is) c.loop-index.invariant)
    ]
