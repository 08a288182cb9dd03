use Rattle.std.proofs.Common.{◌≡◌, ◌+◌, sym, ap, ◌∙◌}
use Rattle.rules.specs.declared.addresses.Addresses.{Addresses}
use Rattle.rules.specs.Notes.{line_ending_byte, line_stop}
use Rattle.rules.proofs.Lines.{line_left}
use Rattle.rules.proofs.Searches.{first_run}
use Rattle.rules.proofs.notes.NoteAddresses.starting_at.Goals as goal

pub returns-clause-left : goal.returns-clause-left
returns-clause-left c =
    let s = c.args.note.now in
    let i = c.args.start in
    let stop : i + c.line_length.result ≡ line_stop s i = ap (λ n. i + n) c.line_length.ensures.first ∙ sym (first_run line_ending_byte s i c.requires) in
    line_left s i _ _ _ c.requires stop (ap (λ (a : Addresses). a.bytes.now) c.new.ensures) (ap (λ (a : Addresses). a.end) c.new.ensures)
