use Rattle.std.proofs.Common.{◌≡◌, ℕ, Bool, true, false, not, ◌∙◌, rules, length, ap}
use borrow.Author.Tests.{tests}
use Rattle.std.proofs.lemmas.Iterator.{first_from_Range}
use Rattle.text.specs.Bytes.{part}
use Rattle.rules.specs.Mail.{in_resource}
use Rattle.rules.proofs.Searches.{first_found, first_by, resource_at}
use Rattle.rules.proofs.mail.peek_resource.Goals as goal

pub returns : goal.returns
returns c =
    let s = c.args.bytes.now in
    let p : ℕ → Bool = λ z. not (in_resource (part z (length s) s) 0) in
    let found = first_from_Range _ _ _ c.find.result (λ x. p x ≡ true) (λ x. p x ≡ false) c.find.ensures.ran (λ x q k. search (rules, tests)) (λ x q k. search (rules, tests)) in
    c.unwrap_or.ensures ∙ first_found p s c.args.start c.find.result c.requires found ∙ first_by p (λ z. not (in_resource s z)) s c.args.start (λ z. ap not (resource_at s z))
