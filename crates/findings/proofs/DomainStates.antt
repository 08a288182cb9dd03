-- The domain states stop exactly at the end of the domain, and go on to the path exactly where the domain is valid.
-- Assumes nothing.
use Rattle.std.proofs.Common.{◌≡◌, ℕ, zero, suc, ◌+◌, ◌-◌, ◌<◌, ◌≤◌, Bool, true, false, cond, not, ◌&&◌, ◌||◌, eqb, List, length, get_or, take, drop, codes, Option, sym, refl, ap, ◌∙◌, subst, ⊎_elim, arith}
use Rattle.std.proofs.lemmas.List.Edits.{between_more}
use Rattle.std.proofs.lemmas.Bool.{cases_Bool, cases_lt, cond-true, cond-false, or_parts, or_left, or_right, or_from, both_ways, eqb-true}
use Rattle.text.specs.Bytes.{among, some, part, first}
use Rattle.text.proofs.Firsts.{first_more, first_here, first-end}
use Rattle.text.proofs.Runs.{some_more, some-none}
use Rattle.punctuation.specs.Kinds.{kind_at}
use Rattle.punctuation.specs.declared.kinds.CharacterKind.{CharacterKind}
use Rattle.punctuation.specs.declared.kinds.CharacterKind.TheVariants.{Whitespace, Punctuation, Other}
use Rattle.rules.specs.Web.{other_at, trail, joint, domain_stops, domain_end, parts, last_two, without_underscore, valid}
use Rattle.rules.specs.Web as web
use Rattle.rules.proofs.DomainMarks.{marked, marks, none, underscore_marks, marks-push}
use Rattle.machine.specs.declared.attempts.Attempt.{Attempt}
use Rattle.machine.specs.declared.events.Event.{Event}
use Rattle.machine.specs.declared.events.Name.{Name}
use Rattle.machine.specs.declared.states.State.TheVariants.{Nok}
use Rattle.machine.specs.declared.states.StateName.{StateName}
use Rattle.machine.specs.declared.states.StateName.TheVariants.{DomainInside, DomainAtPunctuation, DomainAfter, PathInside}
use Rattle.machine.specs.Moves.{Machine, made_of, settled}
use Rattle.machine.specs.Runs.{cleared}
use Rattle.machine.specs.States.{is, is_other, hyphen_or_continuation}
use Rattle.machine.specs.Invariant.{index_shown, byte_shown, cursor_at, noting}
use Rattle.machine.proofs.Keeps.{after}
use Rattle.machine.proofs.Walk.{plain_test, plain_other, stands, kind-index}
use Rattle.findings.proofs.Reaching.{Reach, go_retry, go_on, by_bool, by_byte}
use Rattle.findings.proofs.Standing.{Stands, past_plain}
use Rattle.findings.proofs.TrailStates.{check_trail}

other_same : (k : CharacterKind) → is_other k ≡ web.is_other k
other_same Whitespace = refl
other_same Punctuation = refl
other_same Other = refl

-- ---- the bytes that join

abbrev dots : ℕ → Bool
dots b = among (codes "._") b

joint-is : (b : ℕ) → joint b ≡ (dots b || hyphen_or_continuation b)
joint-is b = regroup (eqb b 46) (eqb b 95) (eqb b 45) _
  where
    regroup : (x y z w : Bool) → ((x || (y || (z || false))) || w) ≡ ((x || (y || false)) || (z || w))
    regroup true y z w = refl
    regroup false true z w = refl
    regroup false false true w = refl
    regroup false false false w = refl

-- ---- what the registers hold at i, in a domain from d on

record Noted (s : List ℕ) (d i : ℕ) (seen x y : Bool) : Type 0 where
  -- whether some byte is no joint
  saw : some (λ b. not (joint b)) (part d i s) ≡ seen
  -- whether the last part has a `_`, and the part before it
  told : marks (false, false) (part d i s) ≡ (x, y)

noted_first : (s : List ℕ) (d : ℕ) → Noted s d d false false false
noted_first s d = record { saw = some-none (λ b. not (joint b)) s d; told = let e : d - d ≡ 0 = omega arith in ap (λ n. marks (false, false) (take n (drop d s))) e }

module _ (s : List ℕ) (d i : ℕ) (le : d ≤ i) (lt : i < length s) (seen x y : Bool) (f : Noted s d i seen x y) where
  abbrev b : ℕ
  b = get_or s i 0

  noted_more : (seen' x' y' : Bool) → (seen || not (joint b)) ≡ seen' → marked (x, y) b ≡ (x', y') → Noted s d (i + 1) seen' x' y'
  noted_more seen' x' y' p q =
      record {
        saw = some_more (λ b. not (joint b)) s d i le lt ∙ ap (λ t. t || not (joint b)) f.saw ∙ p;
        told = ap (marks (false, false)) (between_more s d i 0 le lt) ∙ marks-push (false, false) (part d i s) b ∙ ap (λ m. marked m b) f.told ∙ q;
      }

  same-marks : dots b ≡ false → marked (x, y) b ≡ (x, y)
  same-marks h =
      let p = or_parts (eqb b 46) (eqb b 95 || false) h in
      let q = or_parts (eqb b 95) false p.1 in
      cond-false (eqb b 46) _ _ p.0 ∙ cond-false (eqb b 95) _ _ q.0

  or_true : (t : Bool) → (t || true) ≡ true
  or_true true = refl
  or_true false = refl

  same_seen : joint b ≡ true → (seen || not (joint b)) ≡ seen
  same_seen h = ap (λ t. seen || not t) h ∙ or_false seen
    where
      or_false : (t : Bool) → (t || false) ≡ t
      or_false true = refl
      or_false false = refl

  noted_hyphen : dots b ≡ false → hyphen_or_continuation b ≡ true → Noted s d (i + 1) seen x y
  noted_hyphen h k = noted_more seen x y (same_seen (joint-is b ∙ or_right _ _ k)) (same-marks h)

  noted_other : dots b ≡ false → hyphen_or_continuation b ≡ false → Noted s d (i + 1) true x y
  noted_other h k = noted_more true x y (ap (λ t. seen || not t) (joint-is b ∙ or_from _ _ h k) ∙ or_true seen) (same-marks h)

  noted_underscore : eqb b 95 ≡ true → Noted s d (i + 1) seen true y
  noted_underscore h = noted_more seen true y (same_seen (ap joint (eqb-true b 95 h))) (ap (marked (x, y)) (eqb-true b 95 h))

  noted_dot : dots b ≡ true → eqb b 95 ≡ false → Noted s d (i + 1) seen false x
  noted_dot h k =
      let dot : eqb b 46 ≡ true = ⊎_elim (λ t. t) (λ t. absurd (both_ways (dots b) (or_from (eqb b 46) _ t (or_from (eqb b 95) false k refl)) h)) (cases_Bool (eqb b 46)) in
      noted_more seen false x (same_seen (joint-is b ∙ or_left _ _ h)) (cond-true (eqb b 46) _ _ dot)

-- ---- where a domain stops, by its bytes

module _ (mem : ℕ → Bool) (s : List ℕ) (i : ℕ) where
  abbrev stops_as : Bool → Bool → Bool
  stops_as dot joins = (dot && trail mem true s i) || (not joins && not (other_at mem s i))

  stop-dot : dots (get_or s i 0) ≡ true → domain_stops mem s i ≡ trail mem true s i
  stop-dot h = ap (λ t. stops_as t (joint (get_or s i 0))) h ∙ ap (stops_as true) (joint-is (get_or s i 0) ∙ or_left _ _ h) ∙ or_no (trail mem true s i)
    where
      or_no : (t : Bool) → (t || false) ≡ t
      or_no true = refl
      or_no false = refl

  stop_hyphen : dots (get_or s i 0) ≡ false → hyphen_or_continuation (get_or s i 0) ≡ true → domain_stops mem s i ≡ false
  stop_hyphen h k = ap (λ t. stops_as t (joint (get_or s i 0))) h ∙ ap (stops_as false) (joint-is (get_or s i 0) ∙ or_right _ _ k)

  stop_other : dots (get_or s i 0) ≡ false → hyphen_or_continuation (get_or s i 0) ≡ false → domain_stops mem s i ≡ not (other_at mem s i)
  stop_other h k = ap (λ t. stops_as t (joint (get_or s i 0))) h ∙ ap (stops_as false) (joint-is (get_or s i 0) ∙ or_from _ _ h k)

  other_shown : is_other (kind_at mem s (index_shown s i)) ≡ other_at mem s i
  other_shown = ap is_other (kind-index mem s i) ∙ other_same (kind_at mem s i)

-- ---- the states, from d to where the domain ends

module _ (mem : ℕ → Bool) (s : List ℕ) (us : List Attempt) (es : List Event) (ns : List Name) (Goal : Machine → Type 0) (d end : ℕ) where
  abbrev At : StateName → ℕ → Option ℕ → Bool → Bool → Bool → Type 0
  At n i v seen x y = Reach mem (after mem s n (cursor_at s i v) (noting seen x y) us es ns) Goal

  abbrev Ends : Type 0
  Ends = (v : Option ℕ) (seen x y : Bool) → Stands s end v → Noted s d end seen x y → At DomainAfter end v seen x y

  -- from the next place on
  abbrev On : ℕ → Type 0
  On i = (v : Option ℕ) → Stands s (i + 1) v → (seen x y : Bool) → Noted s d (i + 1) seen x y → first (domain_stops mem s) s (i + 1) ≡ end → At DomainInside (i + 1) v seen x y

  module _ (i : ℕ) (v : Option ℕ) (seen x y : Bool) (le : d ≤ i) (st : Stands s i v) (f : Noted s d i seen x y) (is-end : first (domain_stops mem s) s i ≡ end) (done : Ends) (on-next : i < length s → On i) where
    finish : i ≡ end → At DomainAfter i v seen x y
    finish q = subst (λ k. Stands s k v → Noted s d k seen x y → At DomainAfter k v seen x y) (sym q) (done v seen x y) st f

    end_after : i < length s → domain_stops mem s i ≡ false → first (domain_stops mem s) s (i + 1) ≡ end
    end_after lt h = sym (first_more (domain_stops mem s) s i lt h) ∙ is-end

    -- `.` or `_` where no trail begins
    at-punctuation : dots (get_or s i 0) ≡ true → domain_stops mem s i ≡ false → At DomainAtPunctuation i v seen x y
    at-punctuation h h' =
        let lt = stands s i dots refl h in
        let f' = plain_test s i dots refl refl refl refl h in
        by_byte s (is 95) refl refl refl i _ _
        (λ q. go_on i v f' (on-next lt (byte_shown s i) (past_plain s i f') seen true y (noted_underscore s d i le lt seen x y f q) (end_after lt h')))
        (λ q. go_on i v f' (on-next lt (byte_shown s i) (past_plain s i f') seen false x (noted_dot s d i le lt seen x y f h q) (end_after lt h')))

    -- one call of the domain state
    domain_turn : At DomainInside i v seen x y
    domain_turn =
        by_byte s dots refl refl refl i _ _
        (λ h.
        check_trail mem s (noting seen x y) us es ns DomainAfter DomainAtPunctuation Goal i v
        (⊎_elim
        (λ t. subst (λ g. At (cond g DomainAfter DomainAtPunctuation) i v seen x y) (sym t) (finish (sym (first_here (domain_stops mem s) s i (stands s i dots refl h) (stop-dot mem s i h ∙ t)) ∙ is-end)))
        (λ t. subst (λ g. At (cond g DomainAfter DomainAtPunctuation) i v seen x y) (sym t) (at-punctuation h (stop-dot mem s i h ∙ t)))
        (cases_Bool (trail mem true s i))))
        (λ h.
        by_byte s hyphen_or_continuation refl refl refl i _ _
        (λ k.
        let lt = stands s i hyphen_or_continuation refl k in
        let f' = plain_test s i hyphen_or_continuation refl refl refl refl k in
        go_on i v f' (on-next lt (byte_shown s i) (past_plain s i f') seen x y (noted_hyphen s d i le lt seen x y f h k) (end_after lt (stop_hyphen mem s i h k))))
        (λ k.
        by_bool (is_other (kind_at mem s (index_shown s i))) _ _
        (λ o.
        let f' = plain_other mem s i (ap is_other (sym (kind-index mem s i)) ∙ o) in
        go_on i v f' (on-next f'.inside (byte_shown s i) (past_plain s i f') true x y (noted_other s d i le f'.inside seen x y f h k) (end_after f'.inside (stop_other mem s i h k ∙ ap not (sym (other_shown mem s i) ∙ o)))))
        (λ o.
        go_retry (finish
        (⊎_elim
        (λ lt. sym (first_here (domain_stops mem s) s i lt (stop_other mem s i h k ∙ ap not (sym (other_shown mem s i) ∙ o))) ∙ is-end)
        (λ le'. sym (first-end (domain_stops mem s) s i le') ∙ is-end)
        (cases_lt i (length s)))))))

  domain-run : (k i : ℕ) (v : Option ℕ) (seen x y : Bool) → length s ≤ i + k → d ≤ i → Stands s i v → Noted s d i seen x y → first (domain_stops mem s) s i ≡ end → Ends → At DomainInside i v seen x y
  domain-run zero i v seen x y fuel le st f q done = domain_turn i v seen x y le st f q done (λ lt. absurd (omega arith))
  domain-run (suc k) i v seen x y fuel le st f q done = domain_turn i v seen x y le st f q done (λ lt w st' seen' x' y' f' q'. domain-run k (i + 1) w seen' x' y' (omega arith) (omega arith) st' f' q' done)

module _ (mem : ℕ → Bool) (s : List ℕ) (us : List Attempt) (es : List Event) (ns : List Name) (Goal : Machine → Type 0) (d : ℕ) where
  valid-is : (seen x y : Bool) → (seen && not (x || y)) ≡ not (y || x || not seen)
  valid-is true true true = refl
  valid-is true true false = refl
  valid-is true false true = refl
  valid-is true false false = refl
  valid-is false true true = refl
  valid-is false true false = refl
  valid-is false false true = refl
  valid-is false false false = refl

  -- the test of the registers is the test of the domain
  domain_after : (end : ℕ) (v : Option ℕ) (seen x y : Bool) → Noted s d end seen x y →
      (valid (part d end s) ≡ true → Reach mem (after mem s PathInside (cursor_at s end v) cleared us es ns) Goal) →
      (valid (part d end s) ≡ false → Reach mem (settled (made_of s Nok (cursor_at s end v) cleared us es ns)) Goal) →
      Reach mem (after mem s DomainAfter (cursor_at s end v) (noting seen x y) us es ns) Goal
  domain_after end v seen x y f good bad =
      let same : valid (part d end s) ≡ not (y || x || not seen) =
      ap (λ t. t && without_underscore (last_two (parts (part d end s)))) f.saw ∙ ap (λ t. seen && t) (underscore_marks (part d end s) ∙ ap none f.told) ∙ valid-is seen x y in
      by_bool (y || x || not seen) _ _
      (λ h. bad (same ∙ ap not h))
      (λ h. go_retry (good (same ∙ ap not h)))

  -- from the start of a domain to its end: there to the path if the domain is valid, else to Nok; with the registers cleared
  pub domain : (v : Option ℕ) → Stands s d v →
      ((w : Option ℕ) → Stands s (domain_end mem s d) w → valid (part d (domain_end mem s d) s) ≡ true → Reach mem (after mem s PathInside (cursor_at s (domain_end mem s d) w) cleared us es ns) Goal) →
      ((w : Option ℕ) → valid (part d (domain_end mem s d) s) ≡ false → Reach mem (settled (made_of s Nok (cursor_at s (domain_end mem s d) w) cleared us es ns)) Goal) →
      Reach mem (after mem s DomainInside (cursor_at s d v) cleared us es ns) Goal
  domain v st good bad =
      domain-run mem s us es ns Goal d (domain_end mem s d) (length s) d v false false false (omega arith) (omega arith) st (noted_first s d) refl
      (λ w seen x y st' f. domain_after (domain_end mem s d) w seen x y f (good w st') (bad w))
