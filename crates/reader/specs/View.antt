-- Which model a reader is, and what it says of its events.
-- Assumes nothing.
use Rattle.std.specs.Prelude.{ℕ, Bool, cond, List, length, Ok, Err, vec_items, Result, nat_lt, slice_index_or}
use Rattle.text.specs.declared.refusals.Fault.{Fault}
use Rattle.text.specs.declared.refusals.Fault.TheVariants.{NoSuchEvent}
use Rattle.punctuation.specs.declared.sets.PunctuationSet.{Ghosts}
use Rattle.machine.specs.declared.events.Event.{Event}
use Rattle.calls.specs.Calls.{Model, model}
use Rattle.tokenizer.specs.View.{machine}
use Rattle.reader.specs.declared.reader.Reader.{Reader}

abbrev pub view : {S : Type 0} {g : Ghosts S} → Reader S g → Model
view r = model r.phase r.mark r.paused (machine r.engine.tokenizer) (vec_items r.links.items)

-- its punctuation set, and what that means
abbrev pub set_of : {S : Type 0} {g : Ghosts S} → Reader S g → S
set_of r = r.engine.set

abbrev pub meaning_of : {S : Type 0} {g : Ghosts S} → Reader S g → ℕ → Bool
meaning_of {g = g} r = g.member (set_of r)

abbrev pub events_held : {S : Type 0} {g : Ghosts S} → Reader S g → List Event
events_held r = (view r).machine.events

-- the event with this number
abbrev pub event_answer : List Event → ℕ → Event → Result Event Fault
event_answer es i e = cond (nat_lt i (length es)) (Ok (slice_index_or es i e)) (Err NoSuchEvent)
