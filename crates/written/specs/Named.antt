-- Which spans are written of a resolved note, in the words of the rules.
-- Assumes nothing.
use Rattle.std.specs.Prelude.{◌≡◌, ℕ, Bool, not, List, map, length, filter}
use Rattle.text.specs.declared.spans.Span.{Span}
use Rattle.rules.specs.Web.{is_web, links}
use Rattle.marked.specs.Marks.{IsInTurn}
use Rattle.calls.specs.declared.links.MarkedRun.{MarkedRun}
use Rattle.calls.specs.Claims.{marked_spans, data_of, mail_outside}
use Rattle.calls.specs.Links.{as_named}

-- they lie one after another in the note; the web spans are those that the link rules name, inside links and outside, and the others
-- are the addresses that the mail rules name in data outside links
pub record NamedByTheRules (member : ℕ → Bool) (note : List ℕ) (ls : List MarkedRun) (xs : List Span) : Type 0 where
  pub in_turn : IsInTurn 0 (length note) xs
  pub web : filter (λ x. is_web x.kind) xs ≡ links member note
  pub mail : map as_named (filter (λ x. not (is_web x.kind)) xs) ≡ mail_outside note (marked_spans member note ls) (data_of member note)
