-- What a map means.
-- Assumes nothing.
use Rattle.std.specs.Prelude.{◌≡◌, ℕ, ◌+◌, true, List, [], length, drop, IfErr, vec_items, Result}
use Rattle.text.specs.declared.refusals.Fault.{Fault}
use Rattle.edit_map.specs.declared.entries.Addition.{Addition}
use Rattle.edit_map.specs.declared.entries.Entry.{Entry}
use Rattle.edit_map.specs.declared.entries.Side.{Side}
use Rattle.edit_map.specs.declared.map.EditMap.{EditMap}
use Rattle.edit_map.specs.Edits.{Edit, put, idle, added_at, add_answer, after}
use Rattle.edit_map.specs.Entries.{total, edits}
use Rattle.edit_map.specs.Laws.{IsOrderFree, Rising}

abbrev pub entries_of : EditMap → List Entry
entries_of m = vec_items m.entries

-- how many elements of its store a map uses: the first so many
abbrev pub kept_count : EditMap → ℕ
kept_count m = total (entries_of m)

-- the batch that a map means with the store that is handed in with it
abbrev pub edits_of : {A : Type 0} → EditMap → List A → List (Edit A)
edits_of m store = edits (entries_of m) store

-- no edit is kept
abbrev pub AsNew : EditMap → Type 0
AsNew m = entries_of m ≡ []

-- what a call that adds an edit does: m and store are the map and its store before it, m' and store' after it, and r is the answer
pub record Added {A : Type 0} (side : Side) (place count : ℕ) (xs : List A) (m m' : EditMap) (store store' : List A) (r : Result (Unit {0}) Fault) : Type 0 where
  pub answer : r ≡ add_answer side (length store) (kept_count m) (edits_of m store) place count xs
  pub edits : edits_of m' store' ≡ after r (added_at side place count xs (edits_of m store)) (edits_of m store)
  pub kept : kept_count m' ≡ after r (kept_count m + length xs) (kept_count m)
  pub rising : Rising 0 (edits_of m' store')
  pub rest : drop (kept_count m') store' ≡ drop (kept_count m') store
  pub refused : IfErr r (λ _. (m' ≡ m) × (store' ≡ store))
  pub no_effect : idle count xs ≡ true → (m' ≡ m) × (store' ≡ store)
  pub order_free : IsOrderFree side place count xs (edits_of m store)

-- the same, of an addition
abbrev pub Adds : {A : Type 0} → Addition A → EditMap → EditMap → List A → List A → Result (Unit {0}) Fault → Type 0
Adds a m m' store store' r = Added a.side a.place a.count a.elements.now m m' store store' r

-- what an addition does where nothing stands in its way
pub record PutIn {A : Type 0} (a : Addition A) (m m' : EditMap) (store store' : List A) : Type 0 where
  pub edits : edits_of m' store' ≡ put a.side a.place a.count a.elements.now (edits_of m store)
  pub kept : kept_count m' ≡ kept_count m + length a.elements.now
  pub rest : drop (kept_count m + length a.elements.now) store' ≡ drop (kept_count m + length a.elements.now) store
