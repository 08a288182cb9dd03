-- The path states stop exactly at the end of the path.
-- Assumes nothing.
use Rattle.std.proofs.Common.{◌≡◌, ℕ, zero, suc, ◌+◌, ◌-◌, ◌<◌, ◌≤◌, Bool, true, false, cond, not, ◌&&◌, ◌||◌, eqb, ltb, List, ◌∷◌, length, get_or, take, drop, codes, count_by, Option, sym, refl, ap, ◌∙◌, subst, ⊎_elim, add-zero, arith}
use Rattle.std.proofs.lemmas.Bool.{cases_Bool, cases_lt, and_parts, and_left, or_parts, or_left, or_right, or_from, both_ways, eqb-true}
use Rattle.text.specs.Bytes.{part, first}
use Rattle.text.proofs.Firsts.{first_more, first_here, first-end}
use Rattle.punctuation.specs.Kinds.{kind_at, kind_of}
use Rattle.characters.specs.Utf8.{character}
use Rattle.rules.specs.Web.{is_white, white_at, trail, unclosed, trail_starter, path_stops, path_end}
use Rattle.rules.proofs.KindsAtPlaces.{byte_kind, joint_not_white}
use Rattle.rules.proofs.Trails.{trail_goes}
use Rattle.rules.proofs.WebParts.{count-more}
use Rattle.machine.specs.declared.attempts.Attempt.{Attempt}
use Rattle.machine.specs.declared.events.Event.{Event}
use Rattle.machine.specs.declared.events.Name.{Name}
use Rattle.machine.specs.declared.states.State.TheVariants.{Ok}
use Rattle.machine.specs.declared.states.StateName.{StateName}
use Rattle.machine.specs.declared.states.StateName.TheVariants.{PathInside, PathAtPunctuation, PathAfter}
use Rattle.machine.specs.Moves.{Machine, made_of, settled}
use Rattle.machine.specs.Runs.{cleared}
use Rattle.machine.specs.States.{on, at_end, is, continuation, is_white_space}
use Rattle.machine.specs.Invariant.{Plain, index_shown, byte_shown, cursor_at, counting}
use Rattle.machine.proofs.Keeps.{after}
use Rattle.machine.proofs.Walk.{apart, among-all, shown_test, shows-at, stands, plain_test, plain_kind, kind-known}
use Rattle.findings.proofs.Reaching.{Reach, go_retry, go_on, by_bool, by_byte}
use Rattle.findings.proofs.Standing.{Stands, past_plain}
use Rattle.findings.proofs.TrailBytes.{goes_closing}
use Rattle.findings.proofs.TrailStates.{white_same, white_shown, check_trail}

-- ---- what the registers hold at i, in a path from e on

record Counted (s : List ℕ) (e i n k : ℕ) : Type 0 where
  opened : count_by (λ b. eqb b 40) (part e i s) ≡ n
  closed : count_by (λ b. eqb b 41) (part e i s) ≡ k

counted-first : (s : List ℕ) (e : ℕ) → Counted s e e 0 0
counted-first s e = record { opened = none (λ b. eqb b 40); closed = none (λ b. eqb b 41) }
  where
    none : (p : ℕ → Bool) → count_by p (part e e s) ≡ 0
    none p = let z : e - e ≡ 0 = omega arith in ap (λ n. count_by p (take n (drop e s))) z

module _ (s : List ℕ) (e i : ℕ) (le : e ≤ i) (lt : i < length s) (n k : ℕ) (f : Counted s e i n k) where
  abbrev b : ℕ
  b = get_or s i 0

  counted-more : (n' k' : ℕ) → n + cond (eqb b 40) 1 0 ≡ n' → k + cond (eqb b 41) 1 0 ≡ k' → Counted s e (i + 1) n' k'
  counted-more n' k' p q =
      record {
        opened = count-more (λ b. eqb b 40) s e i le lt ∙ ap (λ t. t + cond (eqb b 40) 1 0) f.opened ∙ p;
        closed = count-more (λ b. eqb b 41) s e i le lt ∙ ap (λ t. t + cond (eqb b 41) 1 0) f.closed ∙ q;
      }

  stay : (x c : ℕ) → eqb b c ≡ false → x + cond (eqb b c) 1 0 ≡ x
  stay x c h = ap (λ t. x + cond t 1 0) h ∙ add-zero x

  counted_same : eqb b 40 ≡ false → eqb b 41 ≡ false → Counted s e (i + 1) n k
  counted_same h h' = counted-more n k (stay n 40 h) (stay k 41 h')

  counted-opening : eqb b 40 ≡ true → Counted s e (i + 1) (n + 1) k
  counted-opening h = counted-more (n + 1) k (ap (λ t. n + cond t 1 0) h) (stay k 41 (ap (is 41) (eqb-true b 40 h)))

  counted-closing : eqb b 41 ≡ true → Counted s e (i + 1) n (k + 1)
  counted-closing h = counted-more n (k + 1) (stay n 40 (ap (is 40) (eqb-true b 41 h))) (ap (λ t. k + cond t 1 0) h)

-- ---- where a path stops, by its bytes

module _ (mem : ℕ → Bool) (s : List ℕ) (i : ℕ) where
  dark_plain : white_at mem s i ≡ false → Plain s i
  dark_plain w = plain_kind mem s i (white_same (kind_at mem s i) ∙ w)

  starter_dark : trail_starter (get_or s i 0) ≡ true → white_at mem s i ≡ false
  starter_dark h =
      ap is_white (kind-known mem s i (get_or s i 0) (stands s i trail_starter refl h) refl)
      ∙ among-all (λ x. is_white (kind_of mem (character (x ∷ drop (i + 1) s))) ≡ false) (codes "!\"&')*,.:;<?]_~")
      (refl, (refl, (refl, (refl, (refl, (refl, (refl, (refl, (refl, (refl, (refl, (refl, (refl, (refl, (refl, tt))))))))))))))) (get_or s i 0) h

  continuation_dark : continuation (get_or s i 0) ≡ true → white_at mem s i ≡ false
  continuation_dark h = joint_not_white mem s i (stands s i continuation refl h) (or_right _ _ h)

  continuation_no_starter : continuation (get_or s i 0) ≡ true → trail_starter (get_or s i 0) ≡ false
  continuation_no_starter h =
      ⊎_elim
      (λ q.
      absurd (both_ways (continuation (get_or s i 0))
      (among-all (λ x. continuation x ≡ false) (codes "!\"&')*,.:;<?]_~") (refl, (refl, (refl, (refl, (refl, (refl, (refl, (refl, (refl, (refl, (refl, (refl, (refl, (refl, (refl, tt))))))))))))))) (get_or s i 0) q) h))
      (λ q. q)
      (cases_Bool (trail_starter (get_or s i 0)))

  module _ (e n k : ℕ) (f : Counted s e i n k) where
    no_stop : white_at mem s i ≡ false → trail_starter (get_or s i 0) ≡ false → path_stops mem s e i ≡ false
    no_stop w h = or_from _ _ w (and_left _ _ h)

    stop_starter : trail_starter (get_or s i 0) ≡ true → path_stops mem s e i ≡ trail mem (not (ltb k n)) s i
    stop_starter h =
        let closing : not (unclosed (part e i s)) ≡ not (ltb k n) = ap not (ap (λ x. ltb x (count_by (λ b. eqb b 40) (part e i s))) f.closed ∙ ap (ltb k) f.opened) in
        ap (λ t. t || (trail_starter (get_or s i 0) && trail mem (not (unclosed (part e i s))) s i)) (starter_dark h)
        ∙ ap (λ t. t && trail mem (not (unclosed (part e i s))) s i) h
        ∙ ap (λ t. trail mem t s i) closing

    -- a `)` that closes a parenthesis of the path begins no trail
    closing-no-trail : (on (is 41) (byte_shown s i) && ltb k n) ≡ true → (eqb (get_or s i 0) 41 ≡ true) × (trail mem (not (ltb k n)) s i ≡ false)
    closing-no-trail q =
        let both = and_parts (on (is 41) (byte_shown s i)) (ltb k n) q in
        let b = sym (shown_test s i (is 41) refl refl refl) ∙ both.0 in
        (b, trail_goes mem (not (ltb k n)) s i ∙ goes_closing mem (not (ltb k n)) s i (ap not both.1) (stands s i (is 41) refl b) b)

-- ---- the states, from e to where the path ends

module _ (mem : ℕ → Bool) (s : List ℕ) (us : List Attempt) (es : List Event) (ns : List Name) (Goal : Machine → Type 0) (e end : ℕ) where
  abbrev At : StateName → ℕ → Option ℕ → ℕ → ℕ → Type 0
  At q i v n k = Reach mem (after mem s q (cursor_at s i v) (counting n k) us es ns) Goal

  abbrev Ends : Type 0
  Ends = (v : Option ℕ) → Stands s end v → Reach mem (settled (made_of s Ok (cursor_at s end v) cleared us es ns)) Goal

  -- from the next place on
  abbrev On : ℕ → Type 0
  On i = (v : Option ℕ) → Stands s (i + 1) v → (n k : ℕ) → Counted s e (i + 1) n k → first (path_stops mem s e) s (i + 1) ≡ end → At PathInside (i + 1) v n k

  module _ (i : ℕ) (v : Option ℕ) (n k : ℕ) (le : e ≤ i) (st : Stands s i v) (f : Counted s e i n k) (is-end : first (path_stops mem s e) s i ≡ end) (done : Ends) (on-next : i < length s → On i) where
    finish : i ≡ end → At PathAfter i v n k
    finish q = subst (λ j. Stands s j v → Reach mem (settled (made_of s Ok (cursor_at s j v) cleared us es ns)) Goal) (sym q) (done v) st

    -- a byte of the path
    go_past : Plain s i → path_stops mem s e i ≡ false → (n' k' : ℕ) → Counted s e (i + 1) n' k' → At PathInside (i + 1) (byte_shown s i) n' k'
    go_past f' h n' k' c = on-next f'.inside (byte_shown s i) (past_plain s i f') n' k' c (sym (first_more (path_stops mem s e) s i f'.inside h) ∙ is-end)

    -- a byte that may start a trail, where none begins
    at-punctuation : trail_starter (get_or s i 0) ≡ true → path_stops mem s e i ≡ false → At PathAtPunctuation i v n k
    at-punctuation h h' =
        let f' = plain_test s i trail_starter refl refl refl refl h in
        by_byte s (is 41) refl refl refl i _ _
        (λ q. go_on i v f' (go_past f' h' n (k + 1) (counted-closing s e i le f'.inside n k f q)))
        (λ q. go_on i v f' (go_past f' h' n k (counted_same s e i le f'.inside n k f (apart trail_starter (get_or s i 0) 40 refl h) q)))

    -- one call of the path state
    path_turn : At PathInside i v n k
    path_turn =
        by_byte s continuation refl refl refl i _ _
        (λ h.
        let w = continuation_dark mem s i h in
        let f' = dark_plain mem s i w in
        go_on i v f' (go_past f' (no_stop mem s i e n k f w (continuation_no_starter mem s i h)) n k (counted_same s e i le f'.inside n k f (apart continuation (get_or s i 0) 40 refl h) (apart continuation (get_or s i 0) 41 refl h))))
        (λ h1.
        by_byte s (is 40) refl refl refl i _ _
        (λ h.
        let w : white_at mem s i ≡ false = ap is_white (byte_kind mem s i 40 (omega arith) (stands s i (is 40) refl h) (eqb-true (get_or s i 0) 40 h)) in
        let f' = dark_plain mem s i w in
        go_on i v f' (go_past f' (no_stop mem s i e n k f w (ap trail_starter (eqb-true (get_or s i 0) 40 h))) (n + 1) k (counted-opening s e i le f'.inside n k f h)))
        (λ h2.
        by_bool (on (is 41) (byte_shown s i) && ltb k n) _ _
        (λ h.
        let c = closing-no-trail mem s i e n k f h in
        let starts = ap trail_starter (eqb-true (get_or s i 0) 41 c.0) in
        check_trail mem s (counting n k) us es ns PathAtPunctuation PathAtPunctuation Goal i v
        (subst (λ g. At (cond g PathAtPunctuation PathAtPunctuation) i v n k) (sym c.1) (at-punctuation starts (stop_starter mem s i e n k f starts ∙ c.1))))
        (λ _.
        by_byte s trail_starter refl refl refl i _ _
        (λ h.
        check_trail mem s (counting n k) us es ns PathAfter PathAtPunctuation Goal i v
        (⊎_elim
        (λ t. subst (λ g. At (cond g PathAfter PathAtPunctuation) i v n k) (sym t) (finish (sym (first_here (path_stops mem s e) s i (stands s i trail_starter refl h) (stop_starter mem s i e n k f h ∙ t)) ∙ is-end)))
        (λ t. subst (λ g. At (cond g PathAfter PathAtPunctuation) i v n k) (sym t) (at-punctuation h (stop_starter mem s i e n k f h ∙ t)))
        (cases_Bool (trail mem (not (ltb k n)) s i))))
        (λ h3.
        by_bool (at_end (byte_shown s i) || is_white_space (kind_at mem s (index_shown s i))) _ _
        (λ h. go_retry (finish (at-stop h)))
        (λ h.
        let w = sym (white_shown mem s i) ∙ (or_parts (at_end (byte_shown s i)) (is_white_space (kind_at mem s (index_shown s i))) h).1 in
        let f' = dark_plain mem s i w in
        go_on i v f' (go_past f' (no_stop mem s i e n k f w h3) n k (counted_same s e i le f'.inside n k f h2 (no-closing h3))))))))
      where
        no-closing : trail_starter (get_or s i 0) ≡ false → eqb (get_or s i 0) 41 ≡ false
        no-closing h = ⊎_elim (λ q. absurd (both_ways (trail_starter (get_or s i 0)) h (ap trail_starter (eqb-true (get_or s i 0) 41 q)))) (λ q. q) (cases_Bool (eqb (get_or s i 0) 41))

        at-stop : (at_end (byte_shown s i) || is_white_space (kind_at mem s (index_shown s i))) ≡ true → i ≡ end
        at-stop h =
            ⊎_elim
            (λ lt.
            let w = sym (white_shown mem s i) ∙ (ap (λ o. at_end o || is_white_space (kind_at mem s (index_shown s i))) (sym (shows-at s i lt)) ∙ h) in
            sym (first_here (path_stops mem s e) s i lt (or_left _ _ w)) ∙ is-end)
            (λ le'. sym (first-end (path_stops mem s e) s i le') ∙ is-end)
            (cases_lt i (length s))

  path-run : (fuel i : ℕ) (v : Option ℕ) (n k : ℕ) → length s ≤ i + fuel → e ≤ i → Stands s i v → Counted s e i n k → first (path_stops mem s e) s i ≡ end → Ends → At PathInside i v n k
  path-run zero i v n k enough le st f q done = path_turn i v n k le st f q done (λ lt. absurd (omega arith))
  path-run (suc fuel) i v n k enough le st f q done = path_turn i v n k le st f q done (λ lt w st' n' k' f' q'. path-run fuel (i + 1) w n' k' (omega arith) (omega arith) st' f' q' done)

-- from the start of a path to its end, and there to Ok; with the registers cleared
pub path : (mem : ℕ → Bool) (s : List ℕ) (us : List Attempt) (es : List Event) (ns : List Name) (Goal : Machine → Type 0) (e : ℕ) (v : Option ℕ) → Stands s e v →
    ((w : Option ℕ) → Stands s (path_end mem s e) w → Reach mem (settled (made_of s Ok (cursor_at s (path_end mem s e) w) cleared us es ns)) Goal) →
    Reach mem (after mem s PathInside (cursor_at s e v) cleared us es ns) Goal
path mem s us es ns Goal e v st done = path-run mem s us es ns Goal e (path_end mem s e) (length s) e v 0 0 (omega arith) (omega arith) st (counted-first s e) refl done
