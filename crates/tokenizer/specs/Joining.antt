-- What joining in place takes up, and how far it has come.
-- Assumes nothing.
use Rattle.std.specs.Prelude.{ℕ, ◌-◌, Bool, true, false, not, ◌&&◌, List, [], ◌∷◌, ◌++◌, take, drop}
use Rattle.std.specs.Vec.{with_item}
use Rattle.machine.specs.declared.events.Event.{Event}
use Rattle.machine.specs.Laws.{enters, same_name}
use Rattle.machine.specs.Joins.{joined}
use Rattle.tokenizer.specs.declared.table.Table.{Table}

-- each enter is followed by an exit of its name
abbrev pub paired : List Event → Bool
paired [] = true
paired (a ∷ []) = false
paired (a ∷ b ∷ es) = (enters a.kind && not (enters b.kind)) && (same_name a.name b.name && paired es)

-- what is found in all once the events from `next` on are joined to the first `kept`, of which only the last can still change
abbrev pub joined_from : ℕ → ℕ → List Event → List Event
joined_from kept next es = take (kept - 1) es ++ joined (drop (kept - 1) (take kept es) ++ drop next es)

abbrev pub with_event : {N : ℕ} → Table Event N → ℕ → Event → Table Event N
with_event t i e = record { items = with_item t.items i e; reserved = t.reserved }
