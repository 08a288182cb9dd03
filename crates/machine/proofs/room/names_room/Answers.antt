use Rattle.machine.proofs.Rooms.{names_fit, names_reach}
use Rattle.machine.proofs.room.names_room.Goals as goal

pub returns-clause-fit : goal.returns-clause-fit
returns-clause-fit c = names_fit

pub returns-clause-reach : goal.returns-clause-reach
returns-clause-reach c = names_reach
