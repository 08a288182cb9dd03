use Rattle.std.proofs.Common.{◌≡◌, ℕ, List, length, Option, ap, arith}
use Rattle.std.proofs.lemmas.Iterator.Consumers.{YieldsList-from_first}
use Rattle.std.specs.Iterator.{AlwaysYields, YieldsFirst}
use Rattle.text.specs.declared.spans.Span.{Span}
use Rattle.rules.specs.declared.addresses.Addresses.{Addresses}
use Rattle.rules.specs.Mail.{address_at, addresses, addresses_left}
use Rattle.rules.proofs.AddressParts.{mail-forward, addresses-in_order, addresses-in_turn, addresses_are}
use Rattle.rules.proofs.Turns.{at_most}
use Rattle.rules.proofs.Writes.{yields_by}
use Rattle.rules.proofs.addresses.find_addresses.Goals as goal

abbrev left : Addresses → List Span
left it = addresses_left it.bytes.now it.end

abbrev steps : Addresses → Option Span → Addresses → Type 0
steps s r t = YieldsFirst left s r t × (t.bytes ≡ s.bytes)

gives : (it : Addresses) (s : List ℕ) → left it ≡ addresses s → AlwaysYields steps (λ x. x) it (addresses s)
gives it s all = yields_by steps (YieldsFirst left) (λ s r t e. e.0) it (addresses s) (YieldsList-from_first (λ (x : Span). x) left {s = it} (addresses s) all).runs

pub write_front-requires-clause-few : goal.write_front-requires-clause-few
write_front-requires-clause-few c = omega (arith, at_most (address_at c.args.bytes.now) c.args.bytes.now (mail-forward c.args.bytes.now), ap (λ a. length (left a)) c.new.ensures)

pub write_front-requires-clause-yields : goal.write_front-requires-clause-yields
write_front-requires-clause-yields c = (_, gives c.new.result c.args.bytes.now (ap left c.new.ensures))

pub returns-clause-answer : goal.returns-clause-answer
returns-clause-answer c = c.write_front.ensures.answer _ (gives c.new.result c.args.bytes.now (ap left c.new.ensures))

pub returns-clause-written : goal.returns-clause-written
returns-clause-written c = c.write_front.ensures.written _ (gives c.new.result c.args.bytes.now (ap left c.new.ensures))

pub returns-clause-in_text_order : goal.returns-clause-in_text_order
returns-clause-in_text_order c = addresses-in_order c.args.bytes.now

pub returns-clause-each_is_an_address : goal.returns-clause-each_is_an_address
returns-clause-each_is_an_address c = addresses_are c.args.bytes.now

pub returns-clause-none_missed_none_added : goal.returns-clause-none_missed_none_added
returns-clause-none_missed_none_added c = addresses-in_turn c.args.bytes.now
