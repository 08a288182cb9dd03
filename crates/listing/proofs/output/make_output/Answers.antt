use Rattle.listing.proofs.Laws.{laws}
use Rattle.listing.proofs.output.make_output.Goals as goal

pub returns-in-Ok-clause-laws : goal.returns-in-Ok-clause-laws
returns-in-Ok-clause-laws c = laws c.args.form c.args.note.now

pub returns-in-Err-Refused-clause-laws : goal.returns-in-Err-Refused-clause-laws
returns-in-Err-Refused-clause-laws c = laws c.args.form c.args.note.now

pub returns-in-Err-OutOfMemory-clause-laws : goal.returns-in-Err-OutOfMemory-clause-laws
returns-in-Err-OutOfMemory-clause-laws c = laws c.args.form c.args.note.now
