-- How many events of a resolver's memory are written, so that they can be lent.
-- Assumes nothing.
use Rattle.std.specs.Prelude.{ℕ, vec_len}
use Rattle.resolving.specs.declared.resolver.Resolver.{Resolver}

abbrev pub events_ready : Resolver → ℕ
events_ready r = vec_len r.memory.buffer.events
