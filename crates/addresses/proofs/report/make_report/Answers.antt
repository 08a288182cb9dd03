use Rattle.std.proofs.Common.{◌≡◌, List, ◌++◌, length, take, vec_items, sym, refl, ◌∙◌, subst}
use Rattle.std.specs.List.{AllByRecursion}
use Rattle.std.proofs.lemmas.Result.{IfOk-weaker}
use Rattle.text.specs.declared.spans.Span.{Span}
use Rattle.addresses.specs.Report.{Within, refusal_line, address_lines, summary, report}
use Rattle.addresses.proofs.Outcomes.{refused, accepted, each_within, reports, reports_refusal}
use Rattle.addresses.proofs.report.make_report.Goals as goal

pub list_addresses-requires : goal.list_addresses-requires
list_addresses-requires c =
    let s = c.args.note.now in
    let a = accepted s _ c.find_note_addresses.new.out c.in-Ok.count c.in-Ok.ensures.answer c.find_note_addresses.ensures.written in
    subst (AllByRecursion (Within s)) (sym a.1) (each_within s _ c.find_note_addresses.ensures.each_is_an_address)

pub returns-in-Ok : goal.returns-in-Ok
returns-in-Ok c =
    let s = c.args.note.now in
    let xs : List Span = take c.in-Ok.count c.find_note_addresses.new.out in
    let a = accepted s _ c.find_note_addresses.new.out c.in-Ok.count c.in-Ok.ensures.answer c.find_note_addresses.ensures.written in
    IfOk-weaker c.list_addresses.result
    (λ v. vec_items v ≡ address_lines s xs ++ summary (length xs) (length s))
    (λ v. vec_items v ≡ report s)
    (λ v e. e ∙ reports s xs a.0 a.1)
    c.list_addresses.ensures

pub returns-in-Err : goal.returns-in-Err
returns-in-Err c =
    let s = c.args.note.now in
    let r = refused s _ c.find_note_addresses.new.out c.in-Err.fault c.in-Err.ensures.answer c.find_note_addresses.ensures.written refl in
    IfOk-weaker c.report_refusal.result
    (λ v. vec_items v ≡ refusal_line c.in-Err.fault)
    (λ v. vec_items v ≡ report s)
    (λ v e. e ∙ reports_refusal s c.in-Err.fault r)
    c.report_refusal.ensures
