use Rattle.std.proofs.Common.{◌≡◌, take, vec_items, ◌∙◌}
use Rattle.std.proofs.lemmas.Result.{IfOk-weaker}
use Rattle.addresses.specs.Report.{copy}
use Rattle.addresses.proofs.Copies.{copy_made}
use Rattle.addresses.proofs.marking.make_copy.Goals as goal

pub returns-in-Ok : goal.returns-in-Ok
returns-in-Ok c =
    let s = c.args.note.now in
    IfOk-weaker c.from_slice.result
    (λ v. vec_items v ≡ take c.in-Ok.count c.mark_addresses.new.out)
    (λ v. vec_items v ≡ copy s)
    (λ v e. e ∙ copy_made s _ c.mark_addresses.new.out c.in-Ok.count c.in-Ok.ensures.answer c.mark_addresses.ensures.written)
    c.from_slice.ensures.items
