use Rattle.std.proofs.Common.{◌≡◌, length, None, Some, sym, ◌∙◌, arith, length-take-le}
use Rattle.std.proofs.lemmas.Bool.Decides.{nat_tests}
use Rattle.text.specs.Bytes.{part}
use Rattle.rules.specs.Mail.{address_at}
use Rattle.rules.proofs.Turns.{found-or_else}
use Rattle.rules.proofs.AddressParts.{local_start-within}
use Rattle.rules.proofs.Shifts.{address-none, address-some, starts_within}
use Rattle.rules.proofs.mail.address_at.Goals as goal

-- what is answered is the first from `at` on
pub returns-then-bytes-at-ne64-clause-first : goal.returns-then-bytes-at-ne64-clause-first
returns-then-bytes-at-ne64-clause-first c =
    let none : None ≡ address_at c.args.bytes.now c.args.min c.args.at = grind (arith, nat_tests) in
    found-or_else (address_at c.args.bytes.now c.args.min) c.args.bytes.now c.args.at None c.requires.1 none

pub returns-in_err-local : goal.returns-in_err-local
returns-in_err-local c =
    let s = c.args.bytes.now in
    let none = address-none s c.args.min c.args.at c.requires.0 (omega (arith, c.requires.1)) c.if-bytes-at-ne64.false c.in_err-local.ensures in
    let is = c.from_residual.ensures ∙ none in
    record { answer = is; first = found-or_else (address_at s c.args.min) s c.args.at _ c.requires.1 is }

pub returns-in_err-to : goal.returns-in_err-to
returns-in_err-to c =
    let s = c.args.bytes.now in
    let none = address-some s c.args.min c.args.at c.in_ok-local.local c.peek_protocol-start.result None c.requires.0 (omega (arith, c.requires.1)) c.if-bytes-at-ne64.false
    c.in_ok-local.ensures c.peek_protocol-start.ensures c.in_err-to.ensures in
    let is = c.from_residual-in_err-to.ensures ∙ none in
    record { answer = is; first = found-or_else (address_at s c.args.min) s c.args.at _ c.requires.1 is }

pub slice_bounds-peek_protocol-end : goal.slice_bounds-peek_protocol-end
slice_bounds-peek_protocol-end c =
    let before = part c.args.min c.args.at c.args.bytes.now in
    sym (length-take-le c.in_ok-local.local before (omega (arith, (local_start-within before 0 (length before) c.in_ok-local.local (omega arith) c.in_ok-local.ensures).high)))

pub overflow_add-result : goal.overflow_add-result
overflow_add-result c =
    omega (arith, starts_within c.args.bytes.now c.args.min c.args.at c.in_ok-local.local c.peek_protocol-start.result c.requires.0 (omega (arith, c.requires.1)) c.in_ok-local.ensures c.peek_protocol-start.ensures)

pub returns : goal.returns
returns c =
    let s = c.args.bytes.now in
    let is = address-some s c.args.min c.args.at c.in_ok-local.local c.peek_protocol-start.result (Some c.in_ok-to.to) c.requires.0 (omega (arith, c.requires.1)) c.if-bytes-at-ne64.false
    c.in_ok-local.ensures c.peek_protocol-start.ensures c.in_ok-to.ensures in
    record { answer = is; first = found-or_else (address_at s c.args.min) s c.args.at _ c.requires.1 is }
