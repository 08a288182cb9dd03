use Rattle.std.proofs.Common.{◌≡◌, ◌++◌, string_bytes, [], cond, sym, ap, ◌∙◌}
use Rattle.std.proofs.lemmas.Bool.{cond-true, cond-false}
use Rattle.webspans.specs.Report.{call_lines, steps_line}
use Rattle.written.specs.Listing.{event_lines}
use Rattle.webspans.proofs.Reports.{not_long, reports}
use Rattle.webspans.proofs.report.make_report.Goals as goal
use Rattle.webspans.proofs.report.make_report.Goals.{then-plan+in_ok-list_calls, else-plan}

pub returns : goal.returns
returns c =
    let calls : string_bytes c.if-plan.report ≡ cond c.args.plan.shows_calls (call_lines c.in_ok-calls.calls.items) [] =
    elim c.if-plan.branch [
      | then-plan+in_ok-list_calls w ↦
          ap string_bytes w.report-is ∙ w.in_ok-list_calls.ensures
          ∙ (λ i. c.new-report.ensures.bytes i ++ call_lines (w.deref.ensures.value i))
          ∙ sym (cond-true c.args.plan.shows_calls _ [] w.if-plan.true)
      | else-plan w ↦ ap string_bytes w.report-is ∙ c.new-report.ensures.bytes ∙ sym (cond-false c.args.plan.shows_calls _ [] w.if-plan.false)
    ] in
    reports c.args.plan c.args.note.now c.in_ok-calls.calls.items _ _ _ _ (not_long c.args.note.now _ c.in_default.ensures) c.in_ok-calls.ensures.read
    calls
    (c.in_ok-write_lines.ensures ∙ ap (λ es. string_bytes c.if-plan.report ++ event_lines es) c.events.ensures.events)
    (c.in_ok-list_steps.ensures ∙ ap (λ es. string_bytes c.write_lines.new.text ++ steps_line es) c.deref-2.ensures.value)
