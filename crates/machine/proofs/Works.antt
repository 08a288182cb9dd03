-- The table of worked notes, computed.
-- Assumes nothing.
use Rattle.std.proofs.Common.{refl}
use Rattle.machine.specs.WorkedNotes.{EveryNoteWorksOut, EveryPartWorksOut}

pub every_note_works_out : EveryNoteWorksOut
every_note_works_out = refl

pub every_part_works_out : EveryPartWorksOut
every_part_works_out = refl
