-- Laws of batches of edits.
-- Assumes nothing.
use Rattle.std.specs.Prelude.{◌≡◌, ℕ, suc, ◌+◌, ◌-◌, ◌<◌, ◌≤◌, cond, ◌⊎◌, List, [], ◌∷◌, ◌++◌, length, take, drop, ◌≢◌, nat_lt, slice_index_or}
use Rattle.edit_map.specs.declared.entries.Side.{Side}
use Rattle.edit_map.specs.Edits.{Edit, added_at, applied}

-- what a batch means does not depend on the order in which edits at different places came to it
abbrev pub IsOrderFree : {A : Type 0} → Side → ℕ → ℕ → List A → List (Edit A) → Type 0
IsOrderFree {A} side place count xs es =
    (other : Side) (q d : ℕ) (ys : List A) → (q ≢ place) →
    added_at other q d ys (added_at side place count xs es) ≡ added_at side place count xs (added_at other q d ys es)

-- a batch is in order of place, and no place has two edits; the first is at `low` or above
abbrev pub Rising : {A : Type 0} → ℕ → List (Edit A) → Type 0
Rising low [] = Unit {0}
Rising low (e ∷ es) = (low ≤ e.place) × Rising (suc e.place) es

-- one edit made
abbrev pub replaced : {A : Type 0} → Edit A → List A → List A
replaced e xs = take e.place xs ++ (e.elements ++ drop (e.place + e.count) xs)

-- the edits made one at a time, from the last place to the first, so that none moves the place of another
abbrev pub one_at_a_time : {A : Type 0} → List (Edit A) → List A → List A
one_at_a_time [] xs = xs
one_at_a_time (e ∷ es) xs = replaced e (one_at_a_time es xs)

-- how many elements are removed in all, and how many added
abbrev pub removed : {A : Type 0} → List (Edit A) → ℕ
removed [] = 0
removed (e ∷ es) = e.count + removed es

abbrev pub stored : {A : Type 0} → List (Edit A) → ℕ
stored [] = 0
stored (e ∷ es) = length e.elements + stored es

-- the element of the number i is in no removed run
abbrev pub Outside : {A : Type 0} → List (Edit A) → ℕ → Type 0
Outside [] i = Unit {0}
Outside (e ∷ es) i = ((i < e.place) ⊎ (e.place + e.count ≤ i)) × Outside es i

-- how many elements of the new list stand before the one that had the number i; `from` as at `applied_from`
abbrev pub moved_from : {A : Type 0} → ℕ → List (Edit A) → ℕ → ℕ
moved_from from [] i = i - from
moved_from from (e ∷ es) i =
    cond (nat_lt i e.place) (i - from)
    (e.place - from + length e.elements + moved_from (e.place + e.count) es i)

abbrev pub moved : {A : Type 0} → List (Edit A) → ℕ → ℕ
moved es i = moved_from 0 es i

-- elements outside every removed run keep their value and their order
abbrev pub ValuesKept : {A : Type 0} → List (Edit A) → List A → Type 0
ValuesKept {A} es list = (i : ℕ) (d : A) → i < length list → Outside es i → slice_index_or (applied es list) (moved es i) d ≡ slice_index_or list i d

abbrev pub OrderKept : {A : Type 0} → List (Edit A) → Type 0
OrderKept es = (i j : ℕ) → i < j → Outside es i → Outside es j → moved es i < moved es j

-- the edits lie in a list of so many elements, and each begins at or after the end of the run before, the first at or after `from`
abbrev pub InOrder : {A : Type 0} → ℕ → ℕ → List (Edit A) → Type 0
InOrder from len [] = Unit {0}
InOrder from len (e ∷ es) = (from ≤ e.place) × (e.place + e.count ≤ len) × InOrder (e.place + e.count) len es
