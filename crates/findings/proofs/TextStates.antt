-- The text states go over data to the place where it is cut, and over a line ending.
-- Assumes nothing.
use Rattle.std.proofs.Common.{◌≡◌, ℕ, zero, suc, ◌+◌, ◌-◌, ◌<◌, ◌≤◌, Bool, true, false, ◌||◌, eqb, List, [], ◌∷◌, ◌++◌, length, get_or, Some, None, codes, Option, sym, refl, ap, ◌∙◌, subst, ⊎_elim, arith}
use Rattle.std.proofs.lemmas.Bool.{cases_Bool, cases_lt, cond-true, cond-false, or_parts, eqb-true}
use Rattle.text.specs.Bytes.{among}
use Rattle.text.specs.Places.{after_tab, place_at}
use Rattle.text.proofs.Firsts.{first_more, first_here, first-end}
use Rattle.rules.specs.Notes.{line_ending_byte}
use Rattle.rules.specs.Segments.{line_ending_at, line_ending_end}
use Rattle.machine.specs.declared.cursors.Cursor.{Cursor}
use Rattle.machine.specs.declared.events.Event.{Event}
use Rattle.machine.specs.declared.events.EventKind.TheVariants.{Enter, Exit}
use Rattle.machine.specs.declared.events.Name.{Name}
use Rattle.machine.specs.declared.events.Name.TheVariants as name
use Rattle.machine.specs.declared.states.State.TheVariants.{Next}
use Rattle.machine.specs.declared.states.StateName.TheVariants.{Before, Line, Data, Inside}
use Rattle.machine.specs.Cursors.{crlf_at, event, line_end, consumed_at}
use Rattle.machine.specs.Moves.{Machine, made_of}
use Rattle.machine.specs.Runs.{cleared}
use Rattle.machine.specs.States.{on, at_end, ends_data}
use Rattle.machine.specs.Laws.{event_at}
use Rattle.machine.specs.Invariant.{Plain, index_shown, byte_shown, cursor_at, ready}
use Rattle.machine.proofs.Keeps.{after, shown-inside}
use Rattle.machine.proofs.Walk.{shows-at, ready-before, in_tab, tab_last, tab-more, ready-tab, at-tab, place_low, past-line_end}
use Rattle.findings.specs.Pieces.{cuts_data, data_end}
use Rattle.findings.proofs.Reaching.{Reach, go_retry, go_next, go_on, by_bool}
use Rattle.findings.proofs.Standing.{Stands, past_plain, past-tab, past_line_ending}
use Rattle.findings.proofs.TrailBytes.{among_none}
use Rattle.findings.proofs.LinkStates.{enter_exit}

-- the machine and the rules mean the same by the byte of a line ending
pub line_end-same : (b : ℕ) → line_end b ≡ line_ending_byte b
line_end-same b = swap (eqb b 10) (eqb b 13)
  where
    swap : (x y : Bool) → (x || (y || false)) ≡ (y || (x || false))
    swap true true = refl
    swap true false = refl
    swap false true = refl
    swap false false = refl

-- ---- over a byte of data

module _ (mem : ℕ → Bool) (s : List ℕ) (Goal : Machine → Type 0) (i : ℕ) (lt : i < length s) (es : List Event) (ns : List Name) (on-next : (w : Option ℕ) → Stands s (i + 1) w → Reach mem (after mem s Inside (cursor_at s (i + 1) w) cleared [] es ns) Goal) where
  abbrev Over : Cursor → Type 0
  Over c = Reach mem (made_of s (Next Inside) (consumed_at s c) cleared [] es ns) Goal

  -- with n columns of the tab left behind column c
  over_columns : (tab : eqb (get_or s i 0) 9 ≡ true) (n c k : ℕ) (u : Option ℕ) (b : ℕ) → among (9 ∷ 32 ∷ []) b ≡ true → (place_at s i).column ≤ c → c + n + 1 ≡ after_tab (place_at s i).column → Over (in_tab s i lt tab c k u (Some b))
  over_columns tab zero c k u b h lo at =
      go_next (consumed_at s (in_tab s i lt tab c k u (Some b))) (cursor_at s (i + 1) (Some b))
      (ap (ready s) (tab_last s i lt tab c k u b (omega arith)) ∙ ready-before s (i + 1) (Some b) None)
      (on-next (Some b) (past-tab s i lt tab b h))
  over_columns tab (suc n) c k u b h lo at =
      go_next (consumed_at s (in_tab s i lt tab c k u (Some b))) (in_tab s i lt tab (c + 1) (k + 1) (Some b) (Some 32))
      (ap (ready s) (tab-more s i lt tab c k u b lo (omega arith)) ∙ ready-tab s i lt tab (c + 1) k (Some b) None)
      (over_columns tab n (c + 1) (k + 1) (Some b) 32 refl (omega arith) (omega arith))

  -- all columns of a tab
  over-tab : eqb (get_or s i 0) 9 ≡ true → (v : Option ℕ) → Over (cursor_at s i v)
  over-tab tab v =
      let column = (place_at s i).column in
      let one : 1 ≤ (place_at s i).column = (place_low s i).1 in
      subst Over (sym (at-tab s i lt tab v)) (over_columns tab (after_tab column - column - 1) column 0 v 9 refl (omega arith) (omega arith))

  over_byte : line_ending_at s i ≡ false → (v : Option ℕ) → Over (cursor_at s i v)
  over_byte h v =
      ⊎_elim
      (λ tab. over-tab tab v)
      (λ tab.
      let p = or_parts (eqb (get_or s i 0) 13) (eqb (get_or s i 0) 10 || false) h in
      let q = or_parts (eqb (get_or s i 0) 10) false p.1 in
      let f : Plain s i = record { inside = lt; tab = tab; lf = q.0; cr = p.0 } in
      go_on i v f (on-next (byte_shown s i) (past_plain s i f)))
      (cases_Bool (eqb (get_or s i 0) 9))

module _ (mem : ℕ → Bool) (s : List ℕ) (Goal : Machine → Type 0) where
  -- ---- data

  abbrev cuts : ℕ → Bool
  cuts j = cuts_data (get_or s j 0)

  -- what cuts data, as it is shown
  cut-shown : (i : ℕ) → i < length s → (at_end (byte_shown s i) || on ends_data (byte_shown s i)) ≡ cuts i
  cut-shown i lt =
      let b = get_or s i 0 in
      ap (λ o. at_end o || on ends_data o) (shows-at s i lt)
      ∙ ⊎_elim
      (λ c. ap ends_data (cond-true (eqb b 13) 10 b c) ∙ sym (ap cuts_data (eqb-true b 13 c)))
      (λ c. ap ends_data (cond-false (eqb b 13) 10 b c) ∙ ap (λ x. eqb b 10 || (x || among (codes "HhWw") b)) (sym c))
      (cases_Bool (eqb b 13))

  -- data from i on, with es the events before it, up to where it is cut
  module _ (i : ℕ) (v : Option ℕ) (st : Stands s i v) (es : List Event) (end : ℕ) (done : (w : Option ℕ) → Stands s end w → Reach mem (after mem s Before (cursor_at s end w) cleared [] (es ++ event_at s Enter name.Data i ∷ event_at s Exit name.Data end ∷ []) []) Goal) where
    abbrev evs : List Event
    evs = es ++ event s Enter name.Data (cursor_at s i v).point ∷ []

    abbrev At : ℕ → Option ℕ → Type 0
    At j w = Reach mem (after mem s Inside (cursor_at s j w) cleared [] evs (name.Data ∷ [])) Goal

    finish : (j : ℕ) (w : Option ℕ) → Stands s j w → j ≡ end → Reach mem (after mem s Before (cursor_at s j w) cleared [] (evs ++ event s Exit name.Data (cursor_at s j w).point ∷ []) []) Goal
    finish j w sw q =
        subst (λ x. Reach mem (after mem s Before (cursor_at s j w) cleared [] x []) Goal) (sym (enter_exit s es name.Data i j v w st sw))
        (subst (λ k. Stands s k w → Reach mem (after mem s Before (cursor_at s k w) cleared [] (es ++ event_at s Enter name.Data i ∷ event_at s Exit name.Data k ∷ []) []) Goal) (sym q) (done w) sw)

    -- one call of the state inside data
    inside_turn : (j : ℕ) (w : Option ℕ) → Stands s j w → data_end s j ≡ end → (j < length s → (u : Option ℕ) → Stands s (j + 1) u → data_end s (j + 1) ≡ end → At (j + 1) u) → At j w
    inside_turn j w sw q on-next =
        by_bool (at_end (byte_shown s j) || on ends_data (byte_shown s j)) _ _
        (λ h.
        go_retry (finish j w sw
        (⊎_elim
        (λ lt. sym (first_here cuts s j lt (sym (cut-shown j lt) ∙ h)) ∙ q)
        (λ le. sym (first-end cuts s j le) ∙ q)
        (cases_lt j (length s)))))
        (λ h.
        let lt = shown-inside s j (or_parts (at_end (byte_shown s j)) (on ends_data (byte_shown s j)) h).0 in
        let c = sym (cut-shown j lt) ∙ h in
        over_byte mem s Goal j lt evs (name.Data ∷ []) (λ u su. on-next lt u su (sym (first_more cuts s j lt c) ∙ q))
        (among_none cuts_data (13 ∷ 10 ∷ []) (refl, (refl, tt)) (get_or s j 0) c) w)

    inside-run : (k j : ℕ) (w : Option ℕ) → length s ≤ j + k → Stands s j w → data_end s j ≡ end → At j w
    inside-run zero j w fuel sw q = inside_turn j w sw q (λ lt. absurd (omega arith))
    inside-run (suc k) j w fuel sw q = inside_turn j w sw q (λ lt u su q'. inside-run k (j + 1) u (omega arith) su q')

  -- data that begins at i goes on to where it is cut
  pub data_from : (i : ℕ) (v : Option ℕ) (es : List Event) → Stands s i v → i < length s → line_ending_at s i ≡ false →
      ((w : Option ℕ) → Stands s (data_end s (i + 1)) w → Reach mem (after mem s Before (cursor_at s (data_end s (i + 1)) w) cleared [] (es ++ event_at s Enter name.Data i ∷ event_at s Exit name.Data (data_end s (i + 1)) ∷ []) []) Goal) →
      Reach mem (after mem s Data (cursor_at s i v) cleared [] es []) Goal
  data_from i v es st lt h done =
      over_byte mem s Goal i lt (es ++ event s Enter name.Data (cursor_at s i v).point ∷ []) (name.Data ∷ [])
      (λ w sw. inside-run i v st es (data_end s (i + 1)) done (length s) (i + 1) w (omega arith) sw refl) h v

  -- ---- line endings

  line_end-is : (i : ℕ) → index_shown s i + 1 ≡ line_ending_end s i
  line_end-is i =
      ⊎_elim
      (λ c. let q : i + 1 + 1 ≡ i + 2 = omega arith in ap (λ x. x + 1) (cond-true (crlf_at s i) (i + 1) i c) ∙ q ∙ sym (cond-true (crlf_at s i) (i + 2) (i + 1) c))
      (λ c. ap (λ x. x + 1) (cond-false (crlf_at s i) (i + 1) i c) ∙ sym (cond-false (crlf_at s i) (i + 2) (i + 1) c))
      (cases_Bool (crlf_at s i))

  -- a line ending at i, whole
  pub line-from : (i : ℕ) (v : Option ℕ) (es : List Event) → Stands s i v → i < length s → line_ending_at s i ≡ true →
      ((w : Option ℕ) → Stands s (line_ending_end s i) w → Reach mem (after mem s Before (cursor_at s (line_ending_end s i) w) cleared [] (es ++ event_at s Enter name.LineEnding i ∷ event_at s Exit name.LineEnding (line_ending_end s i) ∷ []) []) Goal) →
      Reach mem (made_of s (Next Line) (consumed_at s (cursor_at s i v)) cleared [] (es ++ event s Enter name.LineEnding (cursor_at s i v).point ∷ []) (name.LineEnding ∷ [])) Goal
  line-from i v es st lt h done =
      let j = index_shown s i + 1 in
      let l = line_end-same (get_or s i 0) ∙ h in
      let sw = past_line_ending s i lt l in
      go_next (consumed_at s (cursor_at s i v)) (cursor_at s j (Some 10))
      (ap (ready s) (past-line_end s i lt l v) ∙ ready-before s j (Some 10) None)
      (go_retry
      (subst (λ x. Reach mem (after mem s Before (cursor_at s j (Some 10)) cleared [] x []) Goal) (sym (enter_exit s es name.LineEnding i j v (Some 10) st sw))
      (subst (λ k. Stands s k (Some 10) → Reach mem (after mem s Before (cursor_at s k (Some 10)) cleared [] (es ++ event_at s Enter name.LineEnding i ∷ event_at s Exit name.LineEnding k ∷ []) []) Goal) (sym (line_end-is i)) (done (Some 10)) sw)))
