use Rattle.std.proofs.Common.{◌≡◌, ◌-◌, ◌≤◌, ◌++◌, replicate, vec_len}
use Rattle.resolving.specs.declared.buffer.TheConstants.{BLANK}
use Rattle.resolving.proofs.buffer.ReservedBuffer.fill.Given as goal

abbrev pub invariant-loop : goal.invariant-loop
invariant-loop g l =
    record {
      length : vec_len l.self.events ≡ l.counter;
      from : vec_len l.fn.self.events ≤ l.counter;
      blank : l.self.events.items ≡ l.fn.self.events.items ++ replicate (l.counter - vec_len l.fn.self.events) BLANK;
    }
