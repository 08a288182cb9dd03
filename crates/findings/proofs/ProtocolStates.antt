-- The protocol states find a link exactly where `http://` or `https://` begins one.
-- Assumes nothing.
use Rattle.std.proofs.Common.{◌≡◌, ℕ, zero, suc, ◌+◌, ◌-◌, ◌<◌, ◌≤◌, Bool, true, false, cond, not, ◌&&◌, ◌||◌, eqb, ltb, ◌⊎◌, List, [], ◌∷◌, get_or, codes, Option, sym, refl, ap, ◌∙◌, subst, inl, inr, ⊎_elim, arith}
use Rattle.std.proofs.lemmas.Bool.{cases_Bool, cases_lt, cond-true, cond-false, and_parts, and_left, and_cases, both_ways, ltb-true, ltb-false}
use Rattle.text.specs.Ascii.{letter, reads}
use Rattle.text.specs.Bytes.{part}
use Rattle.rules.specs.Web.{domain_end, valid, path_end, protocol_length}
use Rattle.rules.specs.Web as web
use Rattle.machine.specs.declared.attempts.Attempt.{Attempt}
use Rattle.machine.specs.declared.events.Event.{Event}
use Rattle.machine.specs.declared.states.StateName.TheVariants.{DomainInside, ProtocolStart, ProtocolPrefixInside, ProtocolSlashesInside, ProtocolAfter}
use Rattle.machine.specs.Moves.{Machine}
use Rattle.machine.specs.Runs.{cleared}
use Rattle.machine.specs.States.{on, is, begins_protocol}
use Rattle.machine.specs.Invariant.{Plain, index_shown, byte_shown, cursor_at, protocol, name_of, starting, counting, part_attempt}
use Rattle.machine.proofs.Keeps.{after}
use Rattle.machine.proofs.Walk.{shown_test, plain_test, index_plain}
use Rattle.findings.proofs.Reaching.{Reach, go_retry, go_on, by_bool, by_byte}
use Rattle.findings.proofs.Standing.{Stands, past_plain}
use Rattle.findings.proofs.Prefixes.{slashes, name-found, name_missed}
use Rattle.findings.proofs.LinkStates.{tried, entered, Missed, Found, missed_at_once, missed, link-from}

module _ (mem : ℕ → Bool) (s : List ℕ) (Goal : Machine → Type 0) (es : List Event) (i : ℕ) (v : Option ℕ) where
  abbrev evs : List Event
  evs = entered mem s Goal es i v protocol

  abbrev below : List Attempt
  below = part_attempt ProtocolAfter ∷ tried mem s Goal es i v ∷ []

  abbrev Never : Type 0
  Never = Missed mem s Goal es i v

  -- the slashes are read: the domain begins at d
  abbrev Won : ℕ → Type 0
  Won d = (w : Option ℕ) → Stands s d w → Reach mem (after mem s DomainInside (cursor_at s d w) cleared below evs (name_of protocol ∷ [])) Goal

  -- ---- slashes

  abbrev Slashes : ℕ → ℕ → Option ℕ → Type 0
  Slashes n j w = Reach mem (after mem s ProtocolSlashesInside (cursor_at s j w) (counting n 0) (part_attempt DomainInside ∷ below) evs (name_of protocol ∷ [])) Goal

  second_slash : (j : ℕ) (w : Option ℕ) → (is 47 (get_or s j 0) ≡ true → Won (j + 1)) → (is 47 (get_or s j 0) ≡ false → Never) → Slashes 1 j w
  second_slash j w found none =
      by_byte s (is 47) refl refl refl j _ _
      (λ h. let f = plain_test s j (is 47) refl refl refl refl h in go_on j w f (found h (byte_shown s j) (past_plain s j f)))
      (λ h. missed mem s Goal es i v protocol (none h))

  both_slashes : (j : ℕ) (w : Option ℕ) → (slashes s j ≡ true → Won (j + 1 + 1)) → (slashes s j ≡ false → Never) → Slashes 0 j w
  both_slashes j w found none =
      by_byte s (is 47) refl refl refl j _ _
      (λ h.
      go_on j w (plain_test s j (is 47) refl refl refl refl h)
      (second_slash (j + 1) (byte_shown s j) (λ h'. found (λ k. h k && h' k)) (λ h'. none (λ k. h k && h' k))))
      (λ h. missed mem s Goal es i v protocol (none (λ k. h k && is 47 (get_or s (j + 1) 0))))

  -- ---- the name

  module _ (at_i : Plain s i) (free : web.after (λ b. not (letter b)) s i ≡ true) (found : (n : ℕ) → protocol_length s i ≡ n → eqb n 0 ≡ false → Won (i + n)) (none : protocol_length s i ≡ 0 → Never) where
    abbrev Name : ℕ → Option ℕ → Type 0
    Name j w = Reach mem (after mem s ProtocolPrefixInside (cursor_at s j w) (starting (index_shown s i)) (part_attempt DomainInside ∷ below) evs (name_of protocol ∷ [])) Goal

    abbrev name-from : ℕ → ℕ → Bool
    name-from a b = reads (codes "http") (part a b s) || reads (codes "https") (part a b s)

    -- the name and the colon are read
    behind_colon : (j : ℕ) (w : Option ℕ) → (t : (n : ℕ) × (j + 3 ≡ i + n) × (eqb n 0 ≡ false) × (protocol_length s i ≡ cond (slashes s (j + 1)) n 0)) → Slashes 0 (j + 1) w
    behind_colon j w t =
        both_slashes (j + 1) w
        (λ h.
        let q : j + 1 + 1 + 1 ≡ i + t.0 = omega (arith, t.1) in
        subst Won (sym q) (found t.0 (t.3 ∙ cond-true (slashes s (j + 1)) t.0 0 h) t.2))
        (λ h. none (t.3 ∙ cond-false (slashes s (j + 1)) t.0 0 h))

    -- one call of the state that reads the name
    name_turn : (j : ℕ) (w : Option ℕ) → j ≤ i + 5 → i ≤ j → ((m : ℕ) → i ≤ m → m < j → letter (get_or s m 0) ≡ true) → (j < i + 5 → letter (get_or s j 0) ≡ true → Name (j + 1) (byte_shown s j)) → Name j w
    name_turn j w hi lo letters more =
        by_bool (on letter (byte_shown s j) && ltb (index_shown s j - index_shown s i) 5) _ _
        (λ h.
        let p = and_parts (on letter (byte_shown s j)) (ltb (index_shown s j - index_shown s i) 5) h in
        let l = sym (shown_test s j letter refl refl refl) ∙ p.0 in
        let f = plain_test s j letter refl refl refl refl l in
        let near = ltb-true (j - i) 5 (sym (so_far f) ∙ p.1) in
        go_on j w f (more (omega arith) l))
        (λ h.
        by_bool (on (is 58) (byte_shown s j) && name-from (index_shown s i) (index_shown s j)) _ _
        (λ q.
        let p = and_parts (on (is 58) (byte_shown s j)) (name-from (index_shown s i) (index_shown s j)) q in
        let c = sym (shown_test s j (is 58) refl refl refl) ∙ p.0 in
        let f = plain_test s j (is 58) refl refl refl refl c in
        go_on j w f (behind_colon j (byte_shown s j) (name-found s i j lo (omega arith) letters free c (sym (λ k. name-from (index_plain s i at_i k) (index_plain s j f k)) ∙ p.1))))
        (λ q. missed mem s Goal es i v protocol (none (name_missed s i j lo (omega arith) letters (stops h) (misses q)))))
      where
        so_far : Plain s j → ltb (index_shown s j - index_shown s i) 5 ≡ ltb (j - i) 5
        so_far f = λ k. ltb (index_plain s j f k - index_plain s i at_i k) 5

        stops : (on letter (byte_shown s j) && ltb (index_shown s j - index_shown s i) 5) ≡ false → (letter (get_or s j 0) ≡ false) ⊎ (i + 5 ≤ j)
        stops h =
            ⊎_elim
            (λ l.
            let f = plain_test s j letter refl refl refl refl l in
            let far : ltb (j - i) 5 ≡ false = sym (so_far f) ∙ (sym (ap (λ x. x && ltb (index_shown s j - index_shown s i) 5) (shown_test s j letter refl refl refl ∙ l)) ∙ h) in
            let le = ltb-false (j - i) 5 far in
            inr (omega arith))
            (λ l. inl l)
            (cases_Bool (letter (get_or s j 0)))

        misses : (on (is 58) (byte_shown s j) && name-from (index_shown s i) (index_shown s j)) ≡ false → (is 58 (get_or s j 0) && name-from i j) ≡ false
        misses q =
            ⊎_elim
            (λ c.
            let f = plain_test s j (is 58) refl refl refl refl c in
            sym (λ k. shown_test s j (is 58) refl refl refl k && name-from (index_plain s i at_i k) (index_plain s j f k)) ∙ q)
            (λ c. and_left _ _ c)
            (cases_Bool (is 58 (get_or s j 0)))

    -- with k letters left at most
    name-run : (k j : ℕ) (w : Option ℕ) → j + k ≡ i + 5 → i ≤ j → ((m : ℕ) → i ≤ m → m < j → letter (get_or s m 0) ≡ true) → Name j w
    name-run zero j w at lo letters = name_turn j w (omega arith) lo letters (λ lt. absurd (omega arith))
    name-run (suc k) j w at lo letters =
        name_turn j w (omega arith) lo letters
        (λ lt l.
        name-run k (j + 1) (byte_shown s j) (omega arith) (omega arith)
        (λ m a b. ⊎_elim (λ lt'. letters m a lt') (λ le. let q : m ≡ j = omega arith in ap (λ x. letter (get_or s x 0)) q ∙ l) (cases_lt m j)))

  -- at an `h`: a link is found where a protocol begins and the domain is valid, and nowhere else
  pub protocol-from : Stands s i v → begins_protocol (get_or s i 0) ≡ true →
      ((n : ℕ) → protocol_length s i ≡ n → eqb n 0 ≡ false → valid (part (i + n) (domain_end mem s (i + n)) s) ≡ true → Found mem s Goal es i v protocol (path_end mem s (domain_end mem s (i + n)))) →
      ((n : ℕ) → protocol_length s i ≡ n → eqb n 0 ≡ false → valid (part (i + n) (domain_end mem s (i + n)) s) ≡ false → Never) →
      (protocol_length s i ≡ 0 → Never) →
      Reach mem (after mem s ProtocolStart (cursor_at s i v) cleared (tried mem s Goal es i v ∷ []) es []) Goal
  protocol-from st h found bad none =
      by_bool (on begins_protocol (byte_shown s i) && not (on letter v)) _ _
      (λ q.
      let free = sym st.protocol ∙ (and_parts (on begins_protocol (byte_shown s i)) (not (on letter v)) q).1 in
      go_retry (name-run (plain_test s i begins_protocol refl refl refl refl h) free
      (λ n p z w sw. link-from mem s Goal es i v st protocol (i + n) w sw (found n p z) (bad n p z))
      none 5 i v refl (omega arith) (λ m a b. absurd (omega arith))))
      (λ q.
      missed_at_once mem s Goal es i v (none
      (⊎_elim
      (λ t. absurd (both_ways (on begins_protocol (byte_shown s i)) t (shown_test s i begins_protocol refl refl refl ∙ h)))
      (λ t. cond-false (web.after (λ b. not (letter b)) s i) _ 0 (sym st.protocol ∙ t))
      (and_cases (on begins_protocol (byte_shown s i)) (not (on letter v)) q))))
