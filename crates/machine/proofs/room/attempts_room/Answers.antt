use Rattle.machine.proofs.Rooms.{attempts_fit, attempts_reach}
use Rattle.machine.proofs.Turns.{every_step_keeps}
use Rattle.machine.proofs.room.attempts_room.Goals as goal

pub returns-clause-fit : goal.returns-clause-fit
returns-clause-fit c = attempts_fit

pub returns-clause-reach : goal.returns-clause-reach
returns-clause-reach c = attempts_reach

pub returns-clause-every_step_keeps : goal.returns-clause-every_step_keeps
returns-clause-every_step_keeps c = every_step_keeps
