-- Which way an addition ends.
-- Assumes nothing.
use Rattle.std.proofs.Common.{◌≡◌, ℕ, suc, ◌+◌, ◌<◌, ◌≤◌, true, false, ◌||◌, eqb, ltb, ◌⊎◌, List, [], ◌∷◌, length, drop, Ok, Err, sym, refl, ap, ◌∙◌, subst, ⊎_elim, arith}
use Rattle.std.proofs.lemmas.Bool.{lt-ltb, le-ltb, or_from, or_left, or_right, both_ways, cond-true, cond-false, and_parts, eqb-true}
use Rattle.text.specs.declared.refusals.Fault.{Fault}
use Rattle.text.specs.declared.refusals.Fault.TheVariants.{EditOutOfRange, NoRoomForEdit}
use Rattle.edit_map.specs.declared.entries.Addition.{Addition}
use Rattle.edit_map.specs.declared.entries.Entry.{Entry}
use Rattle.edit_map.specs.declared.entries.Side.{Side}
use Rattle.edit_map.specs.declared.map.EditMap.{EditMap}
use Rattle.edit_map.specs.Edits.{Edit, put, idle, count_at, add_answer}
use Rattle.edit_map.specs.Entries.{edits, well_formed}
use Rattle.edit_map.specs.Laws.{Rising}
use Rattle.edit_map.specs.View.{entries_of, kept_count, edits_of, Adds, PutIn}
use Rattle.edit_map.proofs.Ranks.{wf_parts}
use Rattle.edit_map.proofs.Adds.{Grown}
use Rattle.edit_map.proofs.OrderFree.{order_free}

module _ {A : Type 0} (side : Side) (room kept : ℕ) (es : List (Edit A)) (p n : ℕ) (xs : List A) where
  refused_13 : (4096 < p) ⊎ (4096 < count_at p es + n) → add_answer side room kept es p n xs ≡ Err (EditOutOfRange 0)
  refused_13 why = cond-true (ltb 4096 p || ltb 4096 (count_at p es + n)) _ _
      (⊎_elim (λ h. or_left (ltb 4096 p) _ (lt-ltb 4096 p h)) (λ h. or_right (ltb 4096 p) _ (lt-ltb 4096 (count_at p es + n) h)) why)

  module _ (low : p ≤ 4096) (small : count_at p es + n ≤ 4096) where
    passed_13 : (ltb 4096 p || ltb 4096 (count_at p es + n)) ≡ false
    passed_13 = or_from (ltb 4096 p) (ltb 4096 (count_at p es + n)) (le-ltb 4096 p low) (le-ltb 4096 (count_at p es + n) small)

    idle-answer : idle n xs ≡ true → add_answer side room kept es p n xs ≡ Ok tt
    idle-answer t = cond-false (ltb 4096 p || ltb 4096 (count_at p es + n)) _ _ passed_13 ∙ cond-true (idle n xs) _ _ t

    refused_15 : idle n xs ≡ false → (1024 < length (put side p n xs es)) ⊎ (room < kept + length xs) → add_answer side room kept es p n xs ≡ Err NoRoomForEdit
    refused_15 f why =
        cond-false (ltb 4096 p || ltb 4096 (count_at p es + n)) _ _ passed_13
        ∙ cond-false (idle n xs) _ _ f
        ∙ cond-true (ltb 1024 (length (put side p n xs es)) || ltb room (kept + length xs)) _ _
        (⊎_elim (λ h. or_left (ltb 1024 (length (put side p n xs es))) _ (lt-ltb 1024 (length (put side p n xs es)) h)) (λ h. or_right (ltb 1024 (length (put side p n xs es))) _ (lt-ltb room (kept + length xs) h)) why)

    accepted : idle n xs ≡ false → length (put side p n xs es) ≤ 1024 → kept + length xs ≤ room → add_answer side room kept es p n xs ≡ Ok tt
    accepted f few fits =
        cond-false (ltb 4096 p || ltb 4096 (count_at p es + n)) _ _ passed_13
        ∙ cond-false (idle n xs) _ _ f
        ∙ cond-false (ltb 1024 (length (put side p n xs es)) || ltb room (kept + length xs)) _ _
        (or_from (ltb 1024 (length (put side p n xs es))) (ltb room (kept + length xs)) (le-ltb 1024 (length (put side p n xs es)) few) (le-ltb room (kept + length xs) fits))

-- what a map means is in order
rising-from : {A : Type 0} (low : ℕ) (es : List Entry) (s : List A) → well_formed low es ≡ true → Rising low (edits es s)
rising-from low [] s h = tt
rising-from low (e ∷ es) s h = let w = wf_parts low e es h in (w.0, rising-from (suc e.place) es (drop e.size s) w.3)

rising : {A : Type 0} (m : EditMap) (s : List A) → Rising 0 (edits_of m s)
rising m s = rising-from 0 (entries_of m) s m.ordered

module _ {A : Type 0} (a : Addition A) (m : EditMap) (s : List A) where
  -- a refusal leaves all as it was
  turned_away : (f : Fault) → add_answer a.side (length s) (kept_count m) (edits_of m s) a.place a.count a.elements.now ≡ Err f → Adds a m m s s (Err f)
  turned_away f e = record { answer = sym e; edits = refl; kept = refl; rising = rising m s; rest = refl; refused = (refl, refl); no_effect = λ _. (refl, refl); order_free = order_free a.side a.place a.count a.elements.now (edits_of m s) }

  pub far : (4096 < a.place) ⊎ (4096 < count_at a.place (edits_of m s) + a.count) → Adds a m m s s (Err (EditOutOfRange 0))
  far why = turned_away (EditOutOfRange 0) (refused_13 a.side (length s) (kept_count m) (edits_of m s) a.place a.count a.elements.now why)

  module _ (low : a.place ≤ 4096) (small : count_at a.place (edits_of m s) + a.count ≤ 4096) where
    pub nothing : idle a.count a.elements.now ≡ true → Adds a m m s s (Ok tt)
    nothing t =
        let none = eqb-true (length a.elements.now) 0 (and_parts (eqb a.count 0) (eqb (length a.elements.now) 0) t).1 in
        record {
          answer = sym (idle-answer a.side (length s) (kept_count m) (edits_of m s) a.place a.count a.elements.now low small t);
          edits = sym (cond-true (idle a.count a.elements.now) _ _ t);
          kept = omega arith;
          rising = rising m s;
          rest = refl;
          refused = tt;
          no_effect = λ _. (refl, refl);
          order_free = order_free a.side a.place a.count a.elements.now (edits_of m s);
        }

    pub no_room : idle a.count a.elements.now ≡ false → (1024 < length (put a.side a.place a.count a.elements.now (edits_of m s))) ⊎ (length s < kept_count m + length a.elements.now) → Adds a m m s s (Err NoRoomForEdit)
    no_room f why = turned_away NoRoomForEdit (refused_15 a.side (length s) (kept_count m) (edits_of m s) a.place a.count a.elements.now low small f why)

    pub done : (m' : EditMap) (s' : List A) → idle a.count a.elements.now ≡ false → length (put a.side a.place a.count a.elements.now (edits_of m s)) ≤ 1024 → kept_count m + length a.elements.now ≤ length s → PutIn a m m' s s' → Adds a m m' s s' (Ok tt)
    done m' s' f few fits w = record {
      answer = sym (accepted a.side (length s) (kept_count m) (edits_of m s) a.place a.count a.elements.now low small f few fits);
      edits = w.edits ∙ sym (cond-false (idle a.count a.elements.now) _ _ f);
      kept = w.kept;
      rising = rising m' s';
      rest = subst (λ (k : ℕ). drop k s' ≡ drop k s) (sym w.kept) w.rest;
      refused = tt;
      no_effect = λ t. absurd (both_ways (idle a.count a.elements.now) f t);
      order_free = order_free a.side a.place a.count a.elements.now (edits_of m s);
    }

  pub put_in : (m' : EditMap) (s' : List A) → Grown a.side a.place a.count a.elements.now (entries_of m) (entries_of m') s s' m.kept → PutIn a m m' s s'
  put_in m' s' g = record {
    edits = g.edits;
    kept = g.tally ∙ ap (λ k. k + length a.elements.now) m.tally;
    rest = subst (λ (k : ℕ). drop (k + length a.elements.now) s' ≡ drop (k + length a.elements.now) s) m.tally g.rest;
  }
