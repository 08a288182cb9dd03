use Rattle.machine.proofs.Rooms.{events_fit, events_reach}
use Rattle.machine.proofs.Turns.{lawful_at_every_moment}
use Rattle.machine.proofs.room.events_per_byte.Goals as goal

pub returns-clause-fit : goal.returns-clause-fit
returns-clause-fit c = events_fit

pub returns-clause-reach : goal.returns-clause-reach
returns-clause-reach c = events_reach

pub returns-clause-lawful_at_every_moment : goal.returns-clause-lawful_at_every_moment
returns-clause-lawful_at_every_moment c = lawful_at_every_moment
