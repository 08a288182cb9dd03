-- Batches of edits of a list: how one more joins a batch, what the list becomes, and who is turned away.
-- Assumes nothing.
use Rattle.std.specs.Prelude.{ℕ, suc, ◌≡◌, ◌+◌, ◌-◌, ◌<◌, ◌≤◌, min, Bool, cond, ◌&&◌, ◌||◌, List, [], ◌∷◌, ◌++◌, length, take, drop, Ok, Err, Result, Option, MatchOption, ◌==◌, nat_lt}
use Rattle.text.specs.declared.refusals.Fault.{Fault}
use Rattle.text.specs.declared.refusals.Fault.TheVariants.{EditOutOfRange, EditInsideRemoval, NoRoomForEdit, BufferTooShort}
use Rattle.text.specs.Lent.{fits}
use Rattle.edit_map.specs.declared.entries.Side.{Side}
use Rattle.edit_map.specs.declared.entries.Side.TheVariants.{Front, Back}

-- from a place on, so many elements of the list are removed, and these are put in their stead
pub record Edit (A : Type 0) : Type 0 where
  pub place : ℕ
  pub count : ℕ
  pub elements : List A

abbrev pub edit : {A : Type 0} → ℕ → ℕ → List A → Edit A
edit place count xs = record { place = place; count = count; elements = xs }

-- ---- one more edit

-- new elements stand behind those kept at their place, or in front of them
abbrev pub joined : {A : Type 0} → Side → List A → List A → List A
joined Back old new = old ++ new
joined Front old new = new ++ old

-- a batch is in order of place, with one edit at a place: counts at one place are summed, and elements joined
abbrev pub put : {A : Type 0} → Side → ℕ → ℕ → List A → List (Edit A) → List (Edit A)
put side place count xs [] = edit place count xs ∷ []
put side place count xs (e ∷ es) =
    cond (nat_lt e.place place) (e ∷ put side place count xs es)
    (cond (e.place == place) (edit place (e.count + count) (joined side e.elements xs) ∷ es)
    (edit place count xs ∷ e ∷ es))

-- it removes nothing and adds nothing
abbrev pub idle : {A : Type 0} → ℕ → List A → Bool
idle count xs = count == 0 && length xs == 0

-- an idle edit has no effect
abbrev pub added_at : {A : Type 0} → Side → ℕ → ℕ → List A → List (Edit A) → List (Edit A)
added_at side place count xs es = cond (idle count xs) es (put side place count xs es)

abbrev pub added : {A : Type 0} → ℕ → ℕ → List A → List (Edit A) → List (Edit A)
added place count xs es = added_at Back place count xs es

abbrev pub added_before : {A : Type 0} → ℕ → ℕ → List A → List (Edit A) → List (Edit A)
added_before place count xs es = added_at Front place count xs es

-- how many elements are removed from a place on
abbrev pub count_at : {A : Type 0} → ℕ → List (Edit A) → ℕ
count_at place [] = 0
count_at place (e ∷ es) = cond (nat_lt e.place place) (count_at place es) (cond (e.place == place) e.count 0)

-- the answer to one more edit: 13, then 15; an idle edit is tested for 13 alone.
-- `room` is how many elements the store has, and `kept` how many of them the batch has used so far
abbrev pub add_answer : {A : Type 0} → Side → ℕ → ℕ → List (Edit A) → ℕ → ℕ → List A → Result (Unit {0}) Fault
add_answer side room kept es place count xs =
    cond (nat_lt 4096 place || nat_lt 4096 (count_at place es + count)) (Err (EditOutOfRange 0))
    (cond (idle count xs) (Ok tt)
    (cond (nat_lt 1024 (length (put side place count xs es)) || nat_lt room (kept + length xs)) (Err NoRoomForEdit)
    (Ok tt)))

-- ---- all edits made at once

-- xs is what is left of the list, and its first element has the number `from`
abbrev pub applied_from : {A : Type 0} → ℕ → List (Edit A) → List A → List A
applied_from from [] xs = xs
applied_from from (e ∷ es) xs =
    take (e.place - from) xs ++ (e.elements ++ applied_from (e.place + e.count) es (drop (e.place - from + e.count) xs))

-- the list with each removed run replaced by what was added there
abbrev pub applied : {A : Type 0} → List (Edit A) → List A → List A
applied es list = applied_from 0 es list

-- the rank of the first edit that reaches past the end of a list of so many elements; how many edits there are where none does
abbrev pub past_end : {A : Type 0} → ℕ → List (Edit A) → ℕ
past_end len [] = 0
past_end len (e ∷ es) = cond (nat_lt len (e.place + e.count)) 0 (suc (past_end len es))

-- the rank of the first edit that begins before the end of the run removed before it, which is at `from`; how many edits there are where none does
abbrev pub inside_removal : {A : Type 0} → ℕ → List (Edit A) → ℕ
inside_removal from [] = 0
inside_removal from (e ∷ es) = cond (nat_lt e.place from) 0 (suc (inside_removal (e.place + e.count) es))

-- the rank, as an edit's: `None` where it is that behind the last of n edits
abbrev pub IsRank : Option ℕ → ℕ → ℕ → Type 0
IsRank found rank n = MatchOption found (n ≤ rank) (λ k. (k ≡ rank) × (k < n))

-- how many elements a buffer must have, as 64 bits can tell it (more are needed only where elements take no memory)
abbrev pub needed : {A : Type 0} → List A → ℕ
needed xs = min (length xs) 18446744073709551615

-- what stands in the way of making the edits in a list of so many elements: 13, then 14, then 15.
-- `room` is how many elements the store has, and `kept` how many the batch needs of it
abbrev pub consume_check : {A : Type 0} → ℕ → ℕ → ℕ → List (Edit A) → Result (Unit {0}) Fault
consume_check room kept len es =
    cond (nat_lt (past_end len es) (length es)) (Err (EditOutOfRange (past_end len es)))
    (cond (nat_lt (inside_removal 0 es) (length es)) (Err (EditInsideRemoval (inside_removal 0 es)))
    (cond (nat_lt room kept) (Err NoRoomForEdit)
    (Ok tt)))

-- how many elements were written, or 16
abbrev pub size_answer : {A : Type 0} → List A → List A → Result ℕ Fault
size_answer xs out = cond (fits xs out) (Ok (length xs)) (Err (BufferTooShort (needed xs)))

abbrev pub unless_refused : {X Y : Type 0} → Result Y Fault → Result X Fault → Result X Fault
unless_refused (Ok _) r = r
unless_refused (Err fault) r = Err fault

-- the answer to the call that makes all edits
abbrev pub consume_answer : {A : Type 0} → ℕ → ℕ → List (Edit A) → List A → List A → Result ℕ Fault
consume_answer room kept es list out = unless_refused (consume_check room kept (length list) es) (size_answer (applied es list) out)

-- ---- accepted or refused

-- what holds after a call: the new where it was accepted, the old where it was refused
abbrev pub after : {X Y : Type 0} → Result Y Fault → X → X → X
after (Ok _) new old = new
after (Err _) new old = old
