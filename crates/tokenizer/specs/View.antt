-- Which machine a tokenizer is.
-- Assumes nothing.
use Rattle.std.specs.Prelude.{vec_items}
use Rattle.machine.specs.Moves.{Machine, made_of}
use Rattle.tokenizer.specs.Stack.{stack}
use Rattle.tokenizer.specs.declared.tokenizer.Tokenizer.{Tokenizer}

abbrev pub machine : Tokenizer → Machine
machine t = made_of (vec_items t.note) t.state t.cursor t.registers (stack t.attempts) (vec_items t.events.items) (vec_items t.names.items)
