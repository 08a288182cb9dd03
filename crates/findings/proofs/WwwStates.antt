-- The www states find a link exactly where `www.` begins one.
-- Assumes nothing.
use Rattle.std.proofs.Common.{◌≡◌, ℕ, ◌+◌, ◌<◌, ◌≤◌, Bool, true, false, ◌&&◌, eqb, ltb, List, [], ◌∷◌, length, get_or, codes, Option, sym, refl, ap, ◌∙◌, subst, ⊎_elim, arith}
use lib.Seq.{take-length}
use Rattle.std.proofs.lemmas.Bool.{cases_lt, and_parts, and_left, and_right, and_cases, both_ways, true≢false, lt-ltb, le-ltb}
use Rattle.text.specs.Ascii.{reads}
use Rattle.text.specs.Bytes.{part}
use Rattle.rules.specs.Web.{domain_end, valid, path_end, www_at}
use Rattle.machine.specs.declared.attempts.Attempt.{Attempt}
use Rattle.machine.specs.declared.events.Event.{Event}
use Rattle.machine.specs.declared.states.State.TheVariants.{Next, Nok}
use Rattle.machine.specs.declared.states.StateName.{StateName}
use Rattle.machine.specs.declared.states.StateName.TheVariants.{DomainInside, WwwStart, WwwPrefixInside, WwwPrefixAfter, WwwAfter}
use Rattle.machine.specs.Moves.{Machine, made_of}
use Rattle.machine.specs.Runs.{cleared}
use Rattle.machine.specs.States.{on, at_end, is, begins_www, may_precede_www}
use Rattle.machine.specs.Invariant.{byte_shown, cursor_at, www, name_of, counting, part_attempt, check_attempt}
use Rattle.machine.proofs.Keeps.{after, shown-inside}
use Rattle.machine.proofs.Walk.{shown_test, shows-at, plain_test}
use Rattle.findings.proofs.Reaching.{Reach, go_retry, go_on, go_back, by_bool}
use Rattle.findings.proofs.Standing.{Stands}
use Rattle.findings.proofs.Prefixes.{www-bytes}
use Rattle.findings.proofs.LinkStates.{tried, entered, Missed, Found, missed_at_once, missed_in_check, link-from}

module _ (mem : ℕ → Bool) (s : List ℕ) (Goal : Machine → Type 0) (es : List Event) (i : ℕ) (v : Option ℕ) where
  abbrev evs : List Event
  evs = entered mem s Goal es i v www

  abbrev below : List Attempt
  below = part_attempt WwwAfter ∷ tried mem s Goal es i v ∷ []

  -- with n `w` read, at j
  abbrev Prefix : StateName → ℕ → ℕ → Option ℕ → Type 0
  Prefix q n j w = Reach mem (after mem s q (cursor_at s j w) (counting n 0) (check_attempt (Next DomainInside) Nok (cursor_at s i v) evs ∷ below) evs (name_of www ∷ [])) Goal

  abbrev Never : Type 0
  Never = Missed mem s Goal es i v

  -- a `w`, where fewer than three have been read
  one_w : (n j : ℕ) (w : Option ℕ) → eqb n 3 ≡ false → ltb n 3 ≡ true → (begins_www (get_or s j 0) ≡ true → Prefix WwwPrefixInside (n + 1) (j + 1) (byte_shown s j)) → (begins_www (get_or s j 0) ≡ false → Never) → Prefix WwwPrefixInside n j w
  one_w n j w few more found none =
      by_bool (on (is 46) (byte_shown s j) && eqb n 3) _ _
      (λ h. absurd (both_ways (on (is 46) (byte_shown s j) && eqb n 3) (and_right (on (is 46) (byte_shown s j)) (eqb n 3) few) h))
      (λ _.
      by_bool (on begins_www (byte_shown s j) && ltb n 3) _ _
      (λ h.
      let q = sym (shown_test s j begins_www refl refl refl) ∙ (and_parts (on begins_www (byte_shown s j)) (ltb n 3) h).0 in
      go_on j w (plain_test s j begins_www refl refl refl refl q) (found q))
      (λ h. missed_in_check mem s Goal es i v www (none (⊎_elim (λ q. sym (shown_test s j begins_www refl refl refl) ∙ q) (λ q. absurd (both_ways (ltb n 3) q more)) (and_cases (on begins_www (byte_shown s j)) (ltb n 3) h)))))

  -- the `.` behind three
  the_dot : (j : ℕ) (w : Option ℕ) → (is 46 (get_or s j 0) ≡ true → Prefix WwwPrefixAfter 0 (j + 1) (byte_shown s j)) → (is 46 (get_or s j 0) ≡ false → Never) → Prefix WwwPrefixInside 3 j w
  the_dot j w found none =
      by_bool (on (is 46) (byte_shown s j) && eqb 3 3) _ _
      (λ h.
      let q = sym (shown_test s j (is 46) refl refl refl) ∙ (and_parts (on (is 46) (byte_shown s j)) true h).0 in
      go_on j w (plain_test s j (is 46) refl refl refl refl q) (found q))
      (λ h.
      by_bool (on begins_www (byte_shown s j) && ltb 3 3) _ _
      (λ h'. absurd (true≢false (sym (and_parts (on begins_www (byte_shown s j)) false h').1)))
      (λ _. missed_in_check mem s Goal es i v www (none (⊎_elim (λ q. sym (shown_test s j (is 46) refl refl refl) ∙ q) (λ q. absurd (true≢false q)) (and_cases (on (is 46) (byte_shown s j)) true h)))))

  -- the check is done: the domain begins with the `www.`
  abbrev Won : Type 0
  Won = Reach mem (after mem s DomainInside (cursor_at s i v) cleared below evs (name_of www ∷ [])) Goal

  -- something must follow it
  behind_dot : (j : ℕ) (w : Option ℕ) → (j < length s → Won) → (length s ≤ j → Never) → Prefix WwwPrefixAfter 0 j w
  behind_dot j w found none =
      by_bool (at_end (byte_shown s j)) _ _
      (λ h. missed_in_check mem s Goal es i v www (⊎_elim (λ lt. absurd (true≢false (sym (ap at_end (sym (shows-at s j lt)) ∙ h)))) none (cases_lt j (length s))))
      (λ h.
      subst (λ x. Reach mem (made_of s (Next DomainInside) (cursor_at s i v) cleared below x (name_of www ∷ [])) Goal) (sym (take-length evs))
      (go_back i v (found (shown-inside s j h))))

  -- `www.` byte by byte, and whether more follows
  abbrev w0 : Bool
  w0 = begins_www (get_or s i 0)

  abbrev w1 : Bool
  w1 = begins_www (get_or s (i + 1) 0)

  abbrev w2 : Bool
  w2 = begins_www (get_or s (i + 1 + 1) 0)

  abbrev dot : Bool
  dot = is 46 (get_or s (i + 1 + 1 + 1) 0)

  abbrev follows : Bool
  follows = ltb (i + 4) (length s)

  -- all of it
  prefix : ((w0 && (w1 && (w2 && (dot && true))) && follows) ≡ true → Won) → ((w0 && (w1 && (w2 && (dot && true))) && follows) ≡ false → Never) → Prefix WwwPrefixInside 0 i v
  prefix found none =
      one_w 0 i v refl refl
      (λ h0.
      one_w 1 (i + 1) (byte_shown s i) refl refl
      (λ h1.
      one_w 2 (i + 1 + 1) (byte_shown s (i + 1)) refl refl
      (λ h2.
      the_dot (i + 1 + 1 + 1) (byte_shown s (i + 1 + 1))
      (λ h3.
      let all : (w0 && (w1 && (w2 && (dot && true))) && follows) ≡ follows = λ k. h0 k && (h1 k && (h2 k && (h3 k && true))) && follows in
      behind_dot (i + 1 + 1 + 1 + 1) (byte_shown s (i + 1 + 1 + 1))
      (λ lt. found (all ∙ lt-ltb (i + 4) (length s) (omega arith)))
      (λ le. none (all ∙ le-ltb (i + 4) (length s) (omega arith))))
      (λ h3. none (λ k. h0 k && (h1 k && (h2 k && (h3 k && true))) && follows)))
      (λ h2. none (λ k. h0 k && (h1 k && (h2 k && (dot && true))) && follows)))
      (λ h1. none (λ k. h0 k && (h1 k && (w2 && (dot && true))) && follows)))
      (λ h0. none (λ k. h0 k && (w1 && (w2 && (dot && true))) && follows))

  -- at a `w`: a link is found where `www.` begins and the domain is valid, and nowhere else
  pub www-from : Stands s i v → begins_www (get_or s i 0) ≡ true →
      (www_at s i ≡ true → valid (part i (domain_end mem s i) s) ≡ true → Found mem s Goal es i v www (path_end mem s (domain_end mem s i))) →
      (www_at s i ≡ true → valid (part i (domain_end mem s i) s) ≡ false → Never) →
      (www_at s i ≡ false → Never) →
      Reach mem (after mem s WwwStart (cursor_at s i v) cleared (tried mem s Goal es i v ∷ []) es []) Goal
  www-from st h found bad none =
      by_bool (on begins_www (byte_shown s i) && may_precede_www v) _ _
      (λ q.
      let p = sym st.www ∙ (and_parts (on begins_www (byte_shown s i)) (may_precede_www v) q).1 in
      let same : www_at s i ≡ (w0 && (w1 && (w2 && (dot && true))) && follows) = (λ k. p k && reads (codes "www.") (part i (i + 4) s) && follows) ∙ ap (λ x. x && follows) (www-bytes s i) in
      go_retry (prefix
      (λ t. link-from mem s Goal es i v st www i v st (found (same ∙ t)) (bad (same ∙ t)))
      (λ t. none (same ∙ t))))
      (λ q.
      missed_at_once mem s Goal es i v (none
      (⊎_elim
      (λ t. absurd (both_ways (on begins_www (byte_shown s i)) t (shown_test s i begins_www refl refl refl ∙ h)))
      (λ t. and_left _ follows (and_left _ (reads (codes "www.") (part i (i + 4) s)) (sym st.www ∙ t)))
      (and_cases (on begins_www (byte_shown s i)) (may_precede_www v) q))))
