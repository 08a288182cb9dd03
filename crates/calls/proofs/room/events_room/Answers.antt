use Rattle.calls.proofs.Fullest.{room_is_reached}
use Rattle.calls.proofs.Passes.{two_passes_resolve}
use Rattle.calls.proofs.Proved.{segments_are_read, resolving_resolves, nothing_else_is_claimed, lists_fit, two_a_byte_and_a_link}
use Rattle.calls.proofs.room.events_room.Goals as goal

pub returns-clause-lists_fit : goal.returns-clause-lists_fit
returns-clause-lists_fit c = lists_fit

pub returns-clause-room_is_reached : goal.returns-clause-room_is_reached
returns-clause-room_is_reached c = room_is_reached

pub returns-clause-two_a_byte_and_a_link : goal.returns-clause-two_a_byte_and_a_link
returns-clause-two_a_byte_and_a_link c = two_a_byte_and_a_link

pub returns-clause-segments_are_read : goal.returns-clause-segments_are_read
returns-clause-segments_are_read c = segments_are_read

pub returns-clause-resolving_resolves : goal.returns-clause-resolving_resolves
returns-clause-resolving_resolves c = resolving_resolves

pub returns-clause-two_passes_resolve : goal.returns-clause-two_passes_resolve
returns-clause-two_passes_resolve c = two_passes_resolve

pub returns-clause-nothing_else_is_claimed : goal.returns-clause-nothing_else_is_claimed
returns-clause-nothing_else_is_claimed c = nothing_else_is_claimed
