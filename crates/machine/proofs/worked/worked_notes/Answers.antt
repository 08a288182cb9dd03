use Rattle.machine.proofs.Splits.{splits_alike, pauses_exactly}
use Rattle.machine.proofs.Works.{every_note_works_out, every_part_works_out}
use Rattle.machine.proofs.worked.worked_notes.Goals as goal

pub returns-clause-every_note_works_out : goal.returns-clause-every_note_works_out
returns-clause-every_note_works_out c = every_note_works_out

pub returns-clause-every_part_works_out : goal.returns-clause-every_part_works_out
returns-clause-every_part_works_out c = every_part_works_out

pub returns-clause-splits_alike : goal.returns-clause-splits_alike
returns-clause-splits_alike c = splits_alike

pub returns-clause-pauses_exactly : goal.returns-clause-pauses_exactly
returns-clause-pauses_exactly c = pauses_exactly
