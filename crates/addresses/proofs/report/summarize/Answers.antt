use Rattle.std.proofs.Common.{◌≡◌, ℕ, List, ◌++◌, string_bytes, codes, decimal, ◌∙◌}
use Rattle.std.proofs.lemmas.Result.{IfOk-weaker}
use Rattle.addresses.specs.Report.{summary, newline}
use Rattle.addresses.proofs.report.summarize.Goals as goal

-- the summary with the nouns as they were picked
abbrev said : ℕ → List ℕ → ℕ → List ℕ → List ℕ
said n addresses length bytes = decimal n ++ (codes " " ++ (addresses ++ (codes " in " ++ (decimal length ++ (codes " " ++ (bytes ++ newline))))))

pub returns : goal.returns
returns c =
    let a = c.pick_noun-addresses.ensures in
    let b = c.pick_noun-bytes.ensures in
    IfOk-weaker c.format.result
    (λ s. string_bytes s ≡ said c.args.count c.pick_noun-addresses.result.now c.args.length c.pick_noun-bytes.result.now)
    (λ s. string_bytes s ≡ summary c.args.count c.args.length)
    (λ s e. e ∙ (λ i. said c.args.count (a i) c.args.length (b i)))
    c.format.ensures.ok
