use Rattle.std.proofs.Common.{◌≡◌, ◌-◌, length}
use Rattle.rules.specs.Notes.{note_addresses_left}
use Rattle.rules.proofs.notes.NoteAddressesIterator.next.Given as goal

abbrev pub invariant-loop-span : goal.invariant-loop-span
invariant-loop-span l =
    note_addresses_left l.self.note.now l.self.start l.self.line.bytes.now l.self.line.end
    ≡ note_addresses_left l.initial.self.note.now l.initial.self.start l.initial.self.line.bytes.now l.initial.self.line.end

abbrev pub decreases-loop-span : goal.decreases-loop-span
decreases-loop-span l = length l.self.note.now - l.self.start
