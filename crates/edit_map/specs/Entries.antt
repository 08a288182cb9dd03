-- The entries of a map, which hold all of its edits but the added elements.
-- Assumes nothing.
use Rattle.std.specs.Prelude.{◌≡◌, ℕ, suc, ◌+◌, ◌<◌, Bool, true, cond, ◌&&◌, List, [], ◌∷◌, ◌++◌, length, take, drop, ◌≢◌, nat_le, nat_lt, slice_index_or}
use Rattle.edit_map.specs.declared.entries.Entry.{Entry}
use Rattle.edit_map.specs.declared.entries.Side.{Side}
use Rattle.edit_map.specs.declared.entries.Side.TheVariants.{Front, Back}
use Rattle.edit_map.specs.Edits.{Edit, edit}

abbrev pub entry : ℕ → ℕ → ℕ → Entry
entry place count size = record { place = place; count = count; size = size }

-- how many elements they add
abbrev pub total : List Entry → ℕ
total [] = 0
total (e ∷ es) = e.size + total es

-- the places rise, from `low` on, and no place and no count is over 4,096
abbrev pub well_formed : ℕ → List Entry → Bool
well_formed low [] = true
well_formed low (e ∷ es) = nat_le low e.place && (nat_le e.place 4096 && (nat_le e.count 4096 && well_formed (suc e.place) es))

-- how many entries stand before a place
abbrev pub rank_of : ℕ → List Entry → ℕ
rank_of place [] = 0
rank_of place (e ∷ es) = cond (nat_lt e.place place) (suc (rank_of place es)) 0

-- the edits that entries mean with a store, in which the added elements lie in the order of the entries
abbrev pub edits : {A : Type 0} → List Entry → List A → List (Edit A)
edits [] store = []
edits (e ∷ es) store = edit e.place e.count (take e.size store) ∷ edits es (drop e.size store)

-- the edits without the elements that they add
abbrev pub bare : List Entry → List (Edit ℕ)
bare [] = []
bare (e ∷ es) = edit e.place e.count [] ∷ bare es

-- where new elements go among those that are kept at their place
abbrev pub offset : Side → ℕ → ℕ
offset Front size = 0
offset Back size = size

-- elements put in before the one of the number `at`
abbrev pub spliced : {A : Type 0} → List A → ℕ → List A → List A
spliced xs at ys = take at xs ++ (ys ++ drop at xs)

-- the entry of rank i, the number of entries before the place, stands at the place; and none stands there
abbrev pub At : ℕ → List Entry → ℕ → Type 0
At place es i = (i ≡ rank_of place es) × (i < length es) × ((slice_index_or es i (entry 0 0 0)).place ≡ place)

abbrev pub NoneAt : ℕ → List Entry → ℕ → Type 0
NoneAt place es i = (i ≡ rank_of place es) × (i < length es → (slice_index_or es i (entry 0 0 0)).place ≢ place)
