use Rattle.std.proofs.Common.{◌≡◌, ℕ, List, length, Err, ap, ◌∙◌, arith}
use Rattle.std.proofs.lemmas.Iterator.Consumers.{YieldsList-from_first}
use Rattle.std.proofs.lemmas.Result.{err_from_is_err_and}
use Rattle.std.specs.Iterator.{AlwaysYields, YieldsFirst}
use Rattle.text.specs.declared.spans.Span.{Span}
use Rattle.rules.specs.declared.notes.NoteAddresses.{NoteAddresses}
use Rattle.rules.specs.Notes.{note_addresses, note_addresses_left}
use Rattle.rules.proofs.LineLaws.{note-in_order, note_are}
use Rattle.rules.proofs.Lines.{note-few}
use Rattle.rules.proofs.Writes.{not_long, note-answered, note-filled}
use Rattle.rules.proofs.notes.find_note_addresses.Goals as goal

abbrev left : NoteAddresses → List Span
left it = note_addresses_left it.note.now it.start it.line.bytes.now it.line.end

gives : (it : NoteAddresses) → (s : List ℕ) → left it ≡ note_addresses s → AlwaysYields (YieldsFirst left) (λ x. x) it (note_addresses s)
gives it s all = (YieldsList-from_first (λ (x : Span). x) left {s = it} (note_addresses s) all).runs

pub write_front-requires-clause-few : goal.write_front-requires-clause-few
write_front-requires-clause-few c = omega (arith, note-few c.args.note.now, ap length c.starting_at.ensures.left)

pub write_front-requires-clause-yields : goal.write_front-requires-clause-yields
write_front-requires-clause-yields c = (_, gives c.starting_at.result c.args.note.now c.starting_at.ensures.left)

pub returns-in_err-count-clause-answer : goal.returns-in_err-count-clause-answer
returns-in_err-count-clause-answer c =
    let p = err_from_is_err_and c.from_residual-in_err-count.result c.from_residual-in_err-count.ensures.1 in
    note-answered c.args.note.now c.args.out.now _ (not_long c.args.note.now _ c.in_ok-check_length.ensures)
    (p.1 ∙ ap Err p.2 ∙ c.in_err-count.ensures.answer _ (gives c.starting_at.result c.args.note.now c.starting_at.ensures.left))

pub returns-in_err-count-clause-written : goal.returns-in_err-count-clause-written
returns-in_err-count-clause-written c =
    note-filled c.args.note.now c.args.out.now _ (not_long c.args.note.now _ c.in_ok-check_length.ensures)
    (c.in_err-count.ensures.written _ (gives c.starting_at.result c.args.note.now c.starting_at.ensures.left))

pub returns-clause-answer : goal.returns-clause-answer
returns-clause-answer c =
    note-answered c.args.note.now c.args.out.now _ (not_long c.args.note.now _ c.in_ok-check_length.ensures) (c.in_ok-count.ensures.answer _ (gives c.starting_at.result c.args.note.now c.starting_at.ensures.left))

pub returns-clause-written : goal.returns-clause-written
returns-clause-written c =
    note-filled c.args.note.now c.args.out.now _ (not_long c.args.note.now _ c.in_ok-check_length.ensures) (c.in_ok-count.ensures.written _ (gives c.starting_at.result c.args.note.now c.starting_at.ensures.left))

pub returns-in_err-check_length-clause-in_text_order : goal.returns-in_err-check_length-clause-in_text_order
returns-in_err-check_length-clause-in_text_order c = note-in_order c.args.note.now

pub returns-in_err-check_length-clause-each_is_an_address : goal.returns-in_err-check_length-clause-each_is_an_address
returns-in_err-check_length-clause-each_is_an_address c = note_are c.args.note.now

pub returns-in_err-count-clause-in_text_order : goal.returns-in_err-count-clause-in_text_order
returns-in_err-count-clause-in_text_order c = note-in_order c.args.note.now

pub returns-in_err-count-clause-each_is_an_address : goal.returns-in_err-count-clause-each_is_an_address
returns-in_err-count-clause-each_is_an_address c = note_are c.args.note.now

pub returns-clause-in_text_order : goal.returns-clause-in_text_order
returns-clause-in_text_order c = note-in_order c.args.note.now

pub returns-clause-each_is_an_address : goal.returns-clause-each_is_an_address
returns-clause-each_is_an_address c = note_are c.args.note.now
