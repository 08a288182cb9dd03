-- Every step keeps the invariant, whatever the set means.
-- Assumes nothing.
use Rattle.std.proofs.Common.{◌≡◌, ℕ, ◌+◌, ◌-◌, ◌<◌, ◌≤◌, Bool, true, false, cond, not, ◌&&◌, ◌||◌, eqb, ltb, List, [], ◌∷◌, ◌++◌, length, get_or, take, Some, None, codes, Option, sym, refl, ap, ◌∙◌, subst, ⊎_elim, arith}
use lib.Seq.{take-length, take-append_seam}
use Rattle.std.proofs.lemmas.Bool.{cases_Bool, cases_lt, cond-false, cond_both, and_parts, or_parts, true≢false, ltb-true, eqb-true}
use Rattle.text.specs.Ascii.{letter, reads}
use Rattle.text.specs.Bytes.{among, part}
use Rattle.punctuation.specs.Kinds.{kind_at}
use Rattle.text.specs.Places.{after_tab, place_at}
use Rattle.machine.specs.declared.attempts.Attempt.{Attempt}
use Rattle.machine.specs.declared.cursors.Cursor.{Cursor}
use Rattle.machine.specs.declared.cursors.Registers.{Registers}
use Rattle.machine.specs.declared.events.Event.{Event}
use Rattle.machine.specs.declared.events.EventKind.{EventKind}
use Rattle.machine.specs.declared.events.EventKind.TheVariants.{Enter, Exit}
use Rattle.machine.specs.declared.events.Name.{Name}
use Rattle.machine.specs.declared.events.Name.TheVariants as name
use Rattle.machine.specs.declared.states.State.{State}
use Rattle.machine.specs.declared.states.State.TheVariants.{Next, Retry, Ok, Nok}
use Rattle.machine.specs.declared.states.StateName.{StateName}
use Rattle.machine.specs.declared.states.StateName.TheVariants.{Before, Line, Data, Inside, ProtocolStart, ProtocolPrefixInside, ProtocolSlashesInside, ProtocolAfter, WwwStart, WwwPrefixInside, WwwPrefixAfter, WwwAfter, DomainInside, DomainAtPunctuation, DomainAfter, PathInside, PathAtPunctuation, PathAfter, Trail, TrailBracketAfter, TrailCharRefStart, TrailCharRefInside}
use Rattle.machine.specs.Cursors.{event, line_end, consumed_at}
use Rattle.machine.specs.Moves.{Machine, made_of, settled}
use Rattle.machine.specs.States.{on, at_end, is, begins_protocol, begins_www, ends_data, may_precede_www, continuation, hyphen_or_continuation, may_end_path, trail_mark, after_bracket, is_white_space, is_other, call}
use Rattle.machine.specs.Runs.{cleared, beginning}
use Rattle.machine.specs.Laws.{event_at}
use Rattle.machine.specs.Invariant.{Plain, Edge, index_shown, byte_shown, cursor_at, Shows, shows, space, Past, beyond, amid_tab, ready, Closed, none, more, Web, www, protocol, name_of, leaves, link_attempt, part_attempt, check_attempt, Tried, starting, counting, noting, InTrail, in_trail, in_bracket, in_start, in_ref, Stage, p_prefix, p_slashes, w_prefix, w_after, domain, domain_at, domain_after, path, path_at, path_after, trail, left, Fit, before, line, text, inside, p_start, w_start, linked, Sound, next, retry, over}
use Rattle.machine.proofs.Walk.{shown_test, shows-at, shows-end, plain_test, plain_kind, plain_other, plain_no_crlf, eaten, ready_at, ready-before, before_edge, edge_after, index_plain, index_low, index-inside, kind-index, tab_no_crlf, tab_last, tab-more, ready-tab, at-tab, past-line_end, edge_line_end}

-- a state looks at what it is shown, and what it answers is settled
abbrev pub after : (ℕ → Bool) → List ℕ → StateName → Cursor → Registers → List Attempt → List Event → List Name → Machine
after mem s n c r us es ns = settled (call mem n (made_of s (Retry n) c r us es ns))

-- one step of a settled machine: the state that it names is shown a byte, or looks at the same byte again, and is called
abbrev pub stepped : (ℕ → Bool) → State → Machine → Machine
stepped mem (Next n) m = after mem m.note n (ready m.note m.cursor) m.registers m.attempts m.events m.names
stepped mem (Retry n) m = after mem m.note n m.cursor m.registers m.attempts m.events m.names
stepped mem Ok m = m
stepped mem Nok m = m

abbrev pub step : (ℕ → Bool) → Machine → Machine
step mem m = stepped mem m.state m

-- ---- cursors

-- an event at the cursor stands at its place
pub mark-at : (s : List ℕ) (i : ℕ) (v : Option ℕ) (b : EventKind) (n : Name) → Edge s i → event s b n (cursor_at s i v).point ≡ event_at s b n i
mark-at s i v b n ed = ap (λ k. record { kind = b; name = n; point = record { line = (place_at s i).line; column = (place_at s i).column; index = k; vs = 0 } }) (before_edge s i ed)

-- shown once more
pub again : {s : List ℕ} {i : ℕ} {c : Cursor} → Shows s i c → Shows s i (ready s c)
again {s} (shows {i} {v} le ed) = subst (λ (c : Cursor). Shows s i c) (sym (ready_at s i v)) (shows le ed)

-- past a plain byte
over_plain : {s : List ℕ} {i : ℕ} {c : Cursor} → Shows s i c → Plain s i → Shows s (i + 1) (ready s (consumed_at s c))
over_plain {s} (shows {i} {v} le ed) f = subst (λ (c : Cursor). Shows s (i + 1) c) (sym (eaten s i f v)) (shows (omega (arith, f.inside)) (edge_after s i (plain_no_crlf s i f)))

module _ (s : List ℕ) where
  -- a column of a tab that is not its last, or its last
  tab-on : (i c k : ℕ) (u : Option ℕ) (b : ℕ) → i < length s → eqb (get_or s i 0) 9 ≡ true → c ≡ (place_at s i).column + k → c < after_tab (place_at s i).column →
      Past s i (ready s (consumed_at s (record { point = record { line = (place_at s i).line; column = c; index = i; vs = k }; previous = u; current = Some b })))
  tab-on i c k u b lt tb e le =
      ⊎_elim
      (λ h.
      subst (λ (x : Cursor). Past s i x) (sym (ap (ready s) (tab-more s i lt tb c k u b (omega arith) h) ∙ ready-tab s i lt tb (c + 1) k (Some b) None))
      (amid_tab {j = i} (omega arith) (space k lt tb (omega arith) h)))
      (λ h.
      subst (λ (x : Cursor). Past s i x) (sym (ap (ready s) (tab_last s i lt tb c k u b (omega arith)) ∙ ready-before s (i + 1) (Some b) None))
      (beyond {j = i + 1} (omega arith) (shows (omega arith) (edge_after s i (tab_no_crlf s i lt tb)))))
      (cases_lt (c + 1) (after_tab (place_at s i).column))

  -- past any byte
  over_byte : (i : ℕ) (v : Option ℕ) → Edge s i → i < length s → Past s i (ready s (consumed_at s (cursor_at s i v)))
  over_byte i v ed lt =
      ⊎_elim
      (λ tb. subst (λ (c : Cursor). Past s i (ready s (consumed_at s c))) (sym (at-tab s i lt tb v)) (tab-on i (place_at s i).column 0 v 9 lt tb (omega arith) (omega arith)))
      (λ tb.
      ⊎_elim
      (λ h.
      subst (λ (x : Cursor). Past s i x) (sym (ap (ready s) (past-line_end s i lt h v) ∙ ready-before s (index_shown s i + 1) (Some 10) None))
      (beyond {j = index_shown s i + 1} (omega (arith, index_low s i)) (shows (omega (arith, index-inside s i lt)) (edge_line_end s i lt h))))
      (λ h.
      let p = or_parts (eqb (get_or s i 0) 10) (eqb (get_or s i 0) 13 || false) h in
      let q = or_parts (eqb (get_or s i 0) 13) false p.1 in
      beyond {j = i + 1} (omega arith) (over_plain (shows {v = v} (omega arith) ed) (record { inside = lt; tab = tb; lf = p.0; cr = q.0 })))
      (cases_Bool (line_end (get_or s i 0))))
      (cases_Bool (eqb (get_or s i 0) 9))

  -- past any byte, once past
  onward : {i : ℕ} {c : Cursor} (j : ℕ) → i ≤ j → Past s j c → Past s i c
  onward j le (beyond lt p) = beyond (omega arith) p
  onward j le (amid_tab lt t) = amid_tab (omega arith) t

  -- past a line ending
  over-line : (i : ℕ) (v : Option ℕ) → i < length s → on (is 10) (byte_shown s i) ≡ true → (j : ℕ) × (i < j) × Shows s j (ready s (consumed_at s (cursor_at s i v)))
  over-line i v lt h =
      let l : line_end (get_or s i 0) ≡ true = lines-shown (get_or s i 0) (sym (ap (on (is 10)) (shows-at s i lt)) ∙ h) in (
        index_shown s i + 1,
        omega (arith, index_low s i),
        subst (λ (x : Cursor). Shows s (index_shown s i + 1) x) (sym (ap (ready s) (past-line_end s i lt l v) ∙ ready-before s (index_shown s i + 1) (Some 10) None))
            (shows (omega (arith, index-inside s i lt)) (edge_line_end s i lt l)),
      )
    where
      lines-shown : (b : ℕ) → is 10 (cond (eqb b 13) 10 b) ≡ true → line_end b ≡ true
      lines-shown b h =
          ⊎_elim
          (λ c. ap line_end (eqb-true b 13 c))
          (λ c. ap line_end (eqb-true b 10 (sym (ap (is 10) (cond-false (eqb b 13) 10 b c)) ∙ h)))
          (cases_Bool (eqb b 13))

  pub shown-inside : (i : ℕ) → at_end (byte_shown s i) ≡ false → i < length s
  shown-inside i h = ⊎_elim (λ lt. lt) (λ le. absurd (true≢false (sym (ap at_end (shows-end s i le)) ∙ h))) (cases_lt i (length s))

  -- ---- where attempts lead

  module _ {i : ℕ} {d : Cursor} {es : List Event} (t : Tried s i d es) where
    back : Fit s Data (ready s d) cleared [] es []
    back = text (record { at = again t.at; inside = t.inside; closed = t.closed })

    fails_now : Fit s Data (ready s d) cleared [] (take (length es) es) []
    fails_now = subst (λ (x : List Event). Fit s Data (ready s d) cleared [] x []) (sym (take-length es)) back

    fails : (a : Event) → Fit s Data (ready s d) cleared [] (take (length es) (es ++ a ∷ [])) []
    fails a = subst (λ (x : List Event). Fit s Data (ready s d) cleared [] x []) (sym (take-append_seam es (a ∷ []))) back

    fails_check : (a : Event) → Fit s Data (ready s d) cleared [] (take (length es) (take (length (es ++ a ∷ [])) (es ++ a ∷ []))) []
    fails_check a = subst (λ (x : List Event). Fit s Data (ready s d) cleared [] (take (length es) x) []) (sym (take-length (es ++ a ∷ []))) (fails a)

  lands : {p : StateName} {e : Cursor} {r : Registers} {us : List Attempt} {es : List Event} {ns : List Name} → Fit s p (ready s e) r us es ns → Sound s (made_of s (Next p) e r us (take (length es) es) ns)
  lands {p} {e} {r} {us} {es} {ns} f = next (subst (λ (x : List Event). Fit s p (ready s e) r us x ns) (sym (take-length es)) f)

  by_bool : (b : Bool) (x y : Machine) → (b ≡ true → Sound s (settled x)) → (b ≡ false → Sound s (settled y)) → Sound s (settled (cond b x y))
  by_bool b x y p q = cond_both b x y (λ m. Sound s (settled m)) p q

  by_test : (p : ℕ → Bool) → p 0 ≡ false → p 10 ≡ false → p 13 ≡ false → (i : ℕ) (x y : Machine) → (p (get_or s i 0) ≡ true → Sound s (settled x)) → (p (get_or s i 0) ≡ false → Sound s (settled y)) → Sound s (settled (cond (on p (byte_shown s i)) x y))
  by_test p z l c i x y f g = by_bool (on p (byte_shown s i)) x y (λ h. f (sym (shown_test s i p z l c) ∙ h)) (λ h. g (sym (shown_test s i p z l c) ∙ h))

  -- ---- the text states

  module _ (mem : ℕ → Bool) where
    keeps_before : {i : ℕ} {c : Cursor} {es : List Event} → Shows s i c → Closed s i es → Sound s (after mem s Before c cleared [] es [])
    keeps_before {es = es} (shows {i} {v} le ed) cl =
        by_bool (at_end (byte_shown s i)) _ _
        (λ _. over (shows le ed) cl)
        (λ h.
        let lt = shown-inside i h in
        let t : Tried s i (cursor_at s i v) es = record { at = shows le ed; inside = lt; closed = cl } in
        by_bool (on begins_protocol (byte_shown s i)) _ _
        (λ _. retry (p_start t))
        (λ _.
        by_bool (on begins_www (byte_shown s i)) _ _
        (λ _. retry (w_start t))
        (λ _.
        by_bool (on (is 10) (byte_shown s i)) _ _
        (λ q. let o = over-line i v lt q in next (line o.2 cl (mark-at s i v Enter name.LineEnding ed) o.1))
        (λ _. retry (text t)))))

    keeps_line : {i j : ℕ} {c : Cursor} {es : List Event} {a : Event} → Shows s j c → Closed s i es → a ≡ event_at s Enter name.LineEnding i → i < j → Sound s (after mem s Line c cleared [] (es ++ a ∷ []) (name.LineEnding ∷ []))
    keeps_line (shows {i = j} {v} le ed) cl ea lt = retry (before (shows le ed) (more name.LineEnding cl ea (mark-at s j v Exit name.LineEnding ed) lt))

    keeps_data : {i : ℕ} {c : Cursor} {es : List Event} → Shows s i c → i < length s → Closed s i es → Sound s (after mem s Data c cleared [] es [])
    keeps_data (shows {i} {v} le ed) lt cl = next (inside (over_byte i v ed lt) cl (mark-at s i v Enter name.Data ed))

    keeps_inside : {i : ℕ} {c : Cursor} {es : List Event} {a : Event} → Past s i c → Closed s i es → a ≡ event_at s Enter name.Data i → Sound s (after mem s Inside c cleared [] (es ++ a ∷ []) (name.Data ∷ []))
    keeps_inside (beyond lt (shows {i = j} {v} le ed)) cl ea =
        by_bool (at_end (byte_shown s j) || on ends_data (byte_shown s j)) _ _
        (λ _. retry (before (shows le ed) (more name.Data cl ea (mark-at s j v Exit name.Data ed) lt)))
        (λ h. next (inside (onward j (omega arith) (over_byte j v ed (shown-inside j (or_parts (at_end (byte_shown s j)) _ h).0))) cl ea))
    keeps_inside (amid_tab le (space {i = j} {c} {v} k lt tb e stop)) cl ea = next (inside (onward j le (tab-on j c (k + 1) v 32 lt tb (omega arith) stop)) cl ea)

    -- ---- protocols

    keeps_p_start : {i : ℕ} {c : Cursor} {es : List Event} → Shows s i c → Tried s i c es → Sound s (after mem s ProtocolStart c cleared (link_attempt c es ∷ []) es [])
    keeps_p_start (shows {i} {v} le ed) t =
        by_bool (on begins_protocol (byte_shown s i) && not (on letter v)) _ _
        (λ h.
        let f = plain_test s i begins_protocol refl refl refl refl (sym (shown_test s i begins_protocol refl refl refl) ∙ (and_parts (on begins_protocol (byte_shown s i)) _ h).0) in
        retry (linked {l = protocol} t (mark-at s i v Enter (name_of protocol) ed) (shows le ed) (p_prefix (omega arith) (omega (arith, index_plain s i f)))))
        (λ _. next (fails_now t))

    module _ {i : ℕ} {d : Cursor} {es : List Event} {a : Event} (t : Tried s i d es) (ea : a ≡ event_at s Enter (name_of protocol) i) where
      keeps_p_prefix : {j : ℕ} {c : Cursor} (k : ℕ) → Shows s j c → i ≤ j → k ≤ j → Sound s (after mem s ProtocolPrefixInside c (starting k) (part_attempt DomainInside ∷ part_attempt ProtocolAfter ∷ link_attempt d es ∷ []) (es ++ a ∷ []) (name_of protocol ∷ []))
      keeps_p_prefix k (shows {i = j} {v} le ed) lo st =
          by_bool (on letter (byte_shown s j) && ltb (index_shown s j - k) 5) _ _
          (λ h. next (linked {l = protocol} t ea (over_plain (shows {v = v} le ed) (plain_test s j letter refl refl refl refl (sym (shown_test s j letter refl refl refl) ∙ (and_parts (on letter (byte_shown s j)) _ h).0))) (p_prefix (omega arith) (omega arith))))
          (λ _.
          by_bool (on (is 58) (byte_shown s j) && (reads (codes "http") (part k (index_shown s j) s) || reads (codes "https") (part k (index_shown s j) s))) _ _
          (λ h. next (linked {l = protocol} t ea (over_plain (shows {v = v} le ed) (plain_test s j (is 58) refl refl refl refl (sym (shown_test s j (is 58) refl refl refl) ∙ (and_parts (on (is 58) (byte_shown s j)) _ h).0))) (p_slashes (omega arith) (omega arith))))
          (λ _. next (fails t a)))

      keeps_p_slashes : {j : ℕ} {c : Cursor} (k : ℕ) → Shows s j c → i < j → Sound s (after mem s ProtocolSlashesInside c (counting k 0) (part_attempt DomainInside ∷ part_attempt ProtocolAfter ∷ link_attempt d es ∷ []) (es ++ a ∷ []) (name_of protocol ∷ []))
      keeps_p_slashes k (shows {i = j} {v} le ed) lo =
          by_test (is 47) refl refl refl j _ _
          (λ h.
          let p = over_plain (shows {v = v} le ed) (plain_test s j (is 47) refl refl refl refl h) in
          by_bool (eqb k 0) _ _
          (λ _. next (linked {l = protocol} t ea p (p_slashes (omega arith) (omega arith))))
          (λ _. next (linked {l = protocol} t ea p (domain (omega arith) (λ _. omega arith)))))
          (λ _. next (fails t a))

    -- ---- www

    keeps_w_start : {i : ℕ} {c : Cursor} {es : List Event} → Shows s i c → Tried s i c es → Sound s (after mem s WwwStart c cleared (link_attempt c es ∷ []) es [])
    keeps_w_start (shows {i} {v} le ed) t =
        by_bool (on begins_www (byte_shown s i) && may_precede_www v) _ _
        (λ _. retry (linked {l = www} t (mark-at s i v Enter (name_of www) ed) (shows le ed) (w_prefix (omega arith))))
        (λ _. next (fails_now t))

    module _ {i : ℕ} {d : Cursor} {es : List Event} {a : Event} (t : Tried s i d es) (ea : a ≡ event_at s Enter (name_of www) i) where
      keeps_w_prefix : {j : ℕ} {c : Cursor} (k : ℕ) → Shows s j c → Sound s (after mem s WwwPrefixInside c (counting k 0) (check_attempt (Next DomainInside) Nok d (es ++ a ∷ []) ∷ part_attempt WwwAfter ∷ link_attempt d es ∷ []) (es ++ a ∷ []) (name_of www ∷ []))
      keeps_w_prefix k (shows {i = j} {v} le ed) =
          by_bool (on (is 46) (byte_shown s j) && eqb k 3) _ _
          (λ h. next (linked {l = www} t ea (over_plain (shows {v = v} le ed) (plain_test s j (is 46) refl refl refl refl (sym (shown_test s j (is 46) refl refl refl) ∙ (and_parts (on (is 46) (byte_shown s j)) _ h).0))) w_after))
          (λ _.
          by_bool (on begins_www (byte_shown s j) && ltb k 3) _ _
          (λ h.
          let p = and_parts (on begins_www (byte_shown s j)) (ltb k 3) h in
          next (linked {l = www} t ea (over_plain (shows {v = v} le ed) (plain_test s j begins_www refl refl refl refl (sym (shown_test s j begins_www refl refl refl) ∙ p.0))) (w_prefix (omega (arith, ltb-true k 3 p.1)))))
          (λ _. next (fails_check t a)))

      keeps_w_after : {j : ℕ} {c : Cursor} → Shows s j c → Sound s (after mem s WwwPrefixAfter c cleared (check_attempt (Next DomainInside) Nok d (es ++ a ∷ []) ∷ part_attempt WwwAfter ∷ link_attempt d es ∷ []) (es ++ a ∷ []) (name_of www ∷ []))
      keeps_w_after (shows {i = j} {v} le ed) =
          by_bool (at_end (byte_shown s j)) _ _
          (λ _. next (fails_check t a))
          (λ _. lands (linked {l = www} t ea (again t.at) (domain (omega arith) (λ h. absurd (true≢false (sym h))))))

    -- ---- domains, paths, and what leaves a link

    module _ {i : ℕ} {d : Cursor} {es : List Event} {a : Event} (l : Web) (t : Tried s i d es) (ea : a ≡ event_at s Enter (name_of l) i) where
      abbrev us : List Attempt
      us = part_attempt (leaves l) ∷ link_attempt d es ∷ []

      keeps_domain : {j : ℕ} {c : Cursor} (b x y : Bool) → Shows s j c → i ≤ j → (b ≡ true → i < j) → Sound s (after mem s DomainInside c (noting b x y) us (es ++ a ∷ []) (name_of l ∷ []))
      keeps_domain b x y (shows {i = j} {v} le ed) lo seen =
          by_test (among (codes "._")) refl refl refl j _ _
          (λ h. retry (linked t ea (shows le ed) (trail in_trail refl (shows {v = v} le ed) (domain_after lo seen) (domain_at (plain_test s j (among (codes "._")) refl refl refl refl h) lo seen))))
          (λ _.
          by_test hyphen_or_continuation refl refl refl j _ _
          (λ h. next (linked t ea (over_plain (shows {v = v} le ed) (plain_test s j hyphen_or_continuation refl refl refl refl h)) (domain (omega arith) (λ q. omega (arith, seen q)))))
          (λ _.
          by_bool (is_other (kind_at mem s (index_shown s j))) _ _
          (λ h. next (linked t ea (over_plain (shows {v = v} le ed) (plain_other mem s j (sym (ap is_other (kind-index mem s j)) ∙ h))) (domain (omega arith) (λ _. omega arith))))
          (λ _. retry (linked t ea (shows le ed) (domain_after lo seen)))))

      keeps_domain_at : {j : ℕ} {c : Cursor} (b x y : Bool) → Shows s j c → Plain s j → i ≤ j → (b ≡ true → i < j) → Sound s (after mem s DomainAtPunctuation c (noting b x y) us (es ++ a ∷ []) (name_of l ∷ []))
      keeps_domain_at b x y (shows {i = j} {v} le ed) f lo seen =
          by_bool (on (is 95) (byte_shown s j)) _ _
          (λ _. next (linked t ea (over_plain (shows {v = v} le ed) f) (domain (omega arith) (λ q. omega (arith, seen q)))))
          (λ _. next (linked t ea (over_plain (shows {v = v} le ed) f) (domain (omega arith) (λ q. omega (arith, seen q)))))

      was_seen : (x y : Bool) (b : Bool) → (x || y || not b) ≡ false → b ≡ true
      was_seen x y true h = refl
      was_seen false false false h = absurd (true≢false h)
      was_seen true y false h = absurd (true≢false h)
      was_seen false true false h = absurd (true≢false h)

      keeps_domain_after : {j : ℕ} {c : Cursor} (b x y : Bool) → Shows s j c → (b ≡ true → i < j) → Sound s (after mem s DomainAfter c (noting b x y) us (es ++ a ∷ []) (name_of l ∷ []))
      keeps_domain_after b x y (shows {i = j} {v} le ed) seen =
          by_bool (y || x || not b) _ _
          (λ _. next (fails t a))
          (λ h. retry (linked t ea (shows le ed) (path (seen (was_seen y x b h)) (omega arith) (omega arith))))

      keeps_path : {j : ℕ} {c : Cursor} (x y : ℕ) → Shows s j c → i < j → x ≤ j → y ≤ j → Sound s (after mem s PathInside c (counting x y) us (es ++ a ∷ []) (name_of l ∷ []))
      keeps_path x y (shows {i = j} {v} le ed) lo lx ly =
          by_test continuation refl refl refl j _ _
          (λ h. next (linked t ea (over_plain (shows {v = v} le ed) (plain_test s j continuation refl refl refl refl h)) (path (omega arith) (omega arith) (omega arith))))
          (λ _.
          by_test (is 40) refl refl refl j _ _
          (λ h. next (linked t ea (over_plain (shows {v = v} le ed) (plain_test s j (is 40) refl refl refl refl h)) (path (omega arith) (omega arith) (omega arith))))
          (λ _.
          by_bool (on (is 41) (byte_shown s j) && ltb y x) _ _
          (λ h.
          let f = plain_test s j (is 41) refl refl refl refl (sym (shown_test s j (is 41) refl refl refl) ∙ (and_parts (on (is 41) (byte_shown s j)) _ h).0) in
          retry (linked t ea (shows le ed) (trail in_trail refl (shows {v = v} le ed) (path_at f lo lx ly) (path_at f lo lx ly))))
          (λ _.
          by_test may_end_path refl refl refl j _ _
          (λ h. retry (linked t ea (shows le ed) (trail in_trail refl (shows {v = v} le ed) (path_after lo lx ly) (path_at (plain_test s j may_end_path refl refl refl refl h) lo lx ly))))
          (λ _.
          by_bool (at_end (byte_shown s j) || is_white_space (kind_at mem s (index_shown s j))) _ _
          (λ _. retry (linked t ea (shows le ed) (path_after lo lx ly)))
          (λ h. next (linked t ea (over_plain (shows {v = v} le ed) (plain_kind mem s j (sym (ap is_white_space (kind-index mem s j)) ∙ (or_parts (at_end (byte_shown s j)) _ h).1))) (path (omega arith) (omega arith) (omega arith))))))))

      keeps_path_at : {j : ℕ} {c : Cursor} (x y : ℕ) → Shows s j c → Plain s j → i < j → x ≤ j → y ≤ j → Sound s (after mem s PathAtPunctuation c (counting x y) us (es ++ a ∷ []) (name_of l ∷ []))
      keeps_path_at x y (shows {i = j} {v} le ed) f lo lx ly =
          by_bool (on (is 41) (byte_shown s j)) _ _
          (λ _. next (linked t ea (over_plain (shows {v = v} le ed) f) (path (omega arith) (omega arith) (omega arith))))
          (λ _. next (linked t ea (over_plain (shows {v = v} le ed) f) (path (omega arith) (omega arith) (omega arith))))

      keeps_path_after : {j : ℕ} {c : Cursor} (x y : ℕ) → Shows s j c → i < j → Sound s (after mem s PathAfter c (counting x y) us (es ++ a ∷ []) (name_of l ∷ []))
      keeps_path_after x y p lo = next (linked t ea (again p) (left lo))

      -- ---- trails

      module _ {k : ℕ} {p q : StateName} {e : Cursor} (r : Registers) (z : r.start ≡ 0) (pe : Shows s k e) (f : Stage s i d (es ++ a ∷ []) l k p r (part_attempt (leaves l) ∷ [])) (g : Stage s i d (es ++ a ∷ []) l k q r (part_attempt (leaves l) ∷ [])) where
        abbrev Trailing : StateName → Cursor → Type 0
        Trailing n c = Sound s (after mem s n c r (check_attempt (Next p) (Next q) e (es ++ a ∷ []) ∷ us) (es ++ a ∷ []) (name_of l ∷ []))

        keeps_trail : {j : ℕ} {c : Cursor} → Shows s j c → Trailing Trail c
        keeps_trail (shows {i = j} {v} le ed) =
            by_bool (on (is 41) (byte_shown s j) && ltb r.size_b r.size) _ _
            (λ _. lands (linked t ea (again pe) g))
            (λ _.
            by_test (is 93) refl refl refl j _ _
            (λ h. next (linked t ea (over_plain (shows {v = v} le ed) (plain_test s j (is 93) refl refl refl refl h)) (trail in_bracket z pe f g)))
            (λ _.
            by_test trail_mark refl refl refl j _ _
            (λ h. next (linked t ea (over_plain (shows {v = v} le ed) (plain_test s j trail_mark refl refl refl refl h)) (trail in_trail z pe f g)))
            (λ _.
            by_test (is 38) refl refl refl j _ _
            (λ h. next (linked t ea (over_plain (shows {v = v} le ed) (plain_test s j (is 38) refl refl refl refl h)) (trail in_start z pe f g)))
            (λ _.
            by_bool (on (is 60) (byte_shown s j) || is_white_space (kind_at mem s (index_shown s j))) _ _
            (λ _. lands (linked t ea (again pe) f))
            (λ _. lands (linked t ea (again pe) g))))))

        keeps_bracket : {j : ℕ} {c : Cursor} → Shows s j c → Trailing TrailBracketAfter c
        keeps_bracket (shows {i = j} {v} le ed) =
            by_bool (at_end (byte_shown s j) || on after_bracket (byte_shown s j)) _ _
            (λ _. lands (linked t ea (again pe) f))
            (λ _. retry (linked t ea (shows le ed) (trail in_trail z pe f g)))

        keeps_ref_start : {j : ℕ} {c : Cursor} → Shows s j c → Trailing TrailCharRefStart c
        keeps_ref_start (shows {i = j} {v} le ed) =
            by_bool (on letter (byte_shown s j)) _ _
            (λ _. retry (linked t ea (shows le ed) (trail in_ref z pe f g)))
            (λ _. lands (linked t ea (again pe) g))

        keeps_ref : {j : ℕ} {c : Cursor} → Shows s j c → Trailing TrailCharRefInside c
        keeps_ref (shows {i = j} {v} le ed) =
            by_test letter refl refl refl j _ _
            (λ h. next (linked t ea (over_plain (shows {v = v} le ed) (plain_test s j letter refl refl refl refl h)) (trail in_ref z pe f g)))
            (λ _.
            by_test (is 59) refl refl refl j _ _
            (λ h. next (linked t ea (over_plain (shows {v = v} le ed) (plain_test s j (is 59) refl refl refl refl h)) (trail in_trail z pe f g)))
            (λ _. lands (linked t ea (again pe) g)))

        keeps_trails : {j : ℕ} {n : StateName} {c : Cursor} → InTrail n → Shows s j c → Trailing n c
        keeps_trails in_trail h = keeps_trail h
        keeps_trails in_bracket h = keeps_bracket h
        keeps_trails in_start h = keeps_ref_start h
        keeps_trails in_ref h = keeps_ref h

    keeps_left : {i j : ℕ} {c d : Cursor} {es : List Event} {a : Event} (l : Web) → Tried s i d es → a ≡ event_at s Enter (name_of l) i → Shows s j c → i < j → Sound s (after mem s (leaves l) c cleared (link_attempt d es ∷ []) (es ++ a ∷ []) (name_of l ∷ []))
    keeps_left www t ea (shows {i = j} {v} le ed) lo = next (before (again (shows {v = v} le ed)) (more (name_of www) t.closed ea (mark-at s j v Exit (name_of www) ed) lo))
    keeps_left protocol t ea (shows {i = j} {v} le ed) lo = next (before (again (shows {v = v} le ed)) (more (name_of protocol) t.closed ea (mark-at s j v Exit (name_of protocol) ed) lo))

    -- ---- any state

    stage_keeps : {i j : ℕ} {l : Web} {n : StateName} {c d : Cursor} {r : Registers} {us : List Attempt} {es : List Event} {a : Event} → Tried s i d es → a ≡ event_at s Enter (name_of l) i → Shows s j c →
        Stage s i d (es ++ a ∷ []) l j n r us → Sound s (after mem s n c r (us ++ link_attempt d es ∷ []) (es ++ a ∷ []) (name_of l ∷ []))
    stage_keeps t ea p (p_prefix {k} lo st) = keeps_p_prefix t ea k p lo st
    stage_keeps t ea p (p_slashes {k} lo _) = keeps_p_slashes t ea k p lo
    stage_keeps t ea p (w_prefix {k} _) = keeps_w_prefix t ea k p
    stage_keeps t ea p w_after = keeps_w_after t ea p
    stage_keeps t ea p (domain {l} {b} {x} {y} lo seen) = keeps_domain l t ea b x y p lo seen
    stage_keeps t ea p (domain_at {l} {b} {x} {y} f lo seen) = keeps_domain_at l t ea b x y p f lo seen
    stage_keeps t ea p (domain_after {l} {b} {x} {y} lo seen) = keeps_domain_after l t ea b x y p seen
    stage_keeps t ea p (path {l} {x} {y} lo lx ly) = keeps_path l t ea x y p lo lx ly
    stage_keeps t ea p (path_at {l} {x} {y} f lo lx ly) = keeps_path_at l t ea x y p f lo lx ly
    stage_keeps t ea p (path_after {l} {x} {y} lo lx ly) = keeps_path_after l t ea x y p lo
    stage_keeps t ea p (trail {l} {r} k z pe f g) = keeps_trails l t ea r z pe f g k p
    stage_keeps t ea p (left {l} lo) = keeps_left l t ea p lo

    pub call_keeps : {n : StateName} {c : Cursor} {r : Registers} {us : List Attempt} {es : List Event} {ns : List Name} → Fit s n c r us es ns → Sound s (after mem s n c r us es ns)
    call_keeps (before p cl) = keeps_before p cl
    call_keeps (line p cl ea lt) = keeps_line p cl ea lt
    call_keeps (text t) = keeps_data t.at t.inside t.closed
    call_keeps (inside p cl ea) = keeps_inside p cl ea
    call_keeps (p_start t) = keeps_p_start t.at t
    call_keeps (w_start t) = keeps_w_start t.at t
    call_keeps (linked t ea p st) = stage_keeps t ea p st

    pub keeps : {m : Machine} → Sound s m → Sound s (step mem m)
    keeps (next f) = call_keeps f
    keeps (retry f) = call_keeps f
    keeps (over p cl) = over p cl

  pub sound_beginning : Sound s (beginning s)
  sound_beginning = next (before (subst (λ (c : Cursor). Shows s 0 c) (sym (ready-before s 0 None None)) (shows (omega arith) refl)) none)
