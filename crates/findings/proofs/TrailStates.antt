-- The trail states answer Ok exactly where a trail begins, and the check they run under puts everything back.
-- Assumes nothing.
use Rattle.std.proofs.Common.{◌≡◌, ℕ, zero, suc, ◌+◌, ◌<◌, ◌≤◌, Bool, true, false, cond, not, ◌&&◌, ◌||◌, eqb, ltb, List, ◌∷◌, length, get_or, take, Some, Option, sym, refl, ap, ◌∙◌, subst, ⊎_elim, arith}
use lib.Seq.{take-length}
use Rattle.std.proofs.lemmas.Bool.{cases_lt, and_parts}
use Rattle.text.specs.Ascii.{letter}
use Rattle.punctuation.specs.Kinds.{kind_at}
use Rattle.punctuation.specs.declared.kinds.CharacterKind.{CharacterKind}
use Rattle.punctuation.specs.declared.kinds.CharacterKind.TheVariants.{Whitespace, Punctuation, Other}
use Rattle.rules.specs.Web.{is_white, white_at, trail}
use Rattle.rules.proofs.Trails.{goes, trail_goes, reference_goes, reference_letter, reference_other, reference_end}
use Rattle.machine.specs.declared.attempts.Attempt.{Attempt}
use Rattle.machine.specs.declared.attempts.AttemptKind.TheVariants as attempt_kind
use Rattle.machine.specs.declared.attempts.Progress.{Progress}
use Rattle.machine.specs.declared.cursors.Registers.{Registers}
use Rattle.machine.specs.declared.events.Event.{Event}
use Rattle.machine.specs.declared.events.Name.{Name}
use Rattle.machine.specs.declared.states.State.TheVariants.{Next, Retry}
use Rattle.machine.specs.declared.states.StateName.{StateName}
use Rattle.machine.specs.declared.states.StateName.TheVariants.{Trail, TrailBracketAfter, TrailCharRefStart, TrailCharRefInside}
use Rattle.machine.specs.Moves.{Machine, made_of}
use Rattle.machine.specs.States.{on, at_end, is, is_white_space, trail_mark, after_bracket}
use Rattle.machine.specs.Invariant.{index_shown, byte_shown, cursor_at}
use Rattle.machine.proofs.Keeps.{after}
use Rattle.machine.proofs.Walk.{shown_test, plain_test, stands, kind-index}
use Rattle.findings.proofs.Reaching.{Reach, go_retry, go_on, go_back, by_bool, by_byte}
use Rattle.findings.proofs.TrailBytes.{goes_closing, goes_bracket, goes_mark, goes_no_item, goes_no_opening, goes_ended, no-opening, goes_ampersand}

-- the machine and the rules mean the same by white space
pub white_same : (k : CharacterKind) → is_white_space k ≡ is_white k
white_same Whitespace = refl
white_same Punctuation = refl
white_same Other = refl

pub white_shown : (mem : ℕ → Bool) (s : List ℕ) (i : ℕ) → is_white_space (kind_at mem s (index_shown s i)) ≡ white_at mem s i
white_shown mem s i = ap is_white_space (kind-index mem s i) ∙ white_same (kind_at mem s i)

or_false : (x : Bool) → (x || false) ≡ x
or_false true = refl
or_false false = refl

or_swap : (x y : Bool) → (x || y) ≡ (y || x)
or_swap true true = refl
or_swap true false = refl
or_swap false true = refl
or_swap false false = refl

twice : (x : Bool) → not (not x) ≡ x
twice true = refl
twice false = refl

-- a check that goes on with `ok` or `nok` from what p has captured
module _ (mem : ℕ → Bool) (s : List ℕ) (r : Registers) (us : List Attempt) (es : List Event) (ns : List Name) (ok nok : StateName) (p : Progress) (Goal : Machine → Type 0) where
  -- whether `)` is an item
  abbrev c : Bool
  c = not (ltb r.size_b r.size)

  abbrev checking : List Attempt
  checking = record { ok = Next ok; nok = Next nok; kind = attempt_kind.Check; progress = Some p } ∷ us

  -- what the check goes on with, when it has its answer
  abbrev Lands : Bool → Type 0
  Lands answer = Reach mem (made_of s (Next (cond answer ok nok)) p.cursor r us (take p.events es) (take p.names ns)) Goal

  abbrev At : StateName → ℕ → Option ℕ → Type 0
  At n i v = Reach mem (after mem s n (cursor_at s i v) r checking es ns) Goal

  -- from all places beyond t, the trail state gives the right answer
  abbrev Beyond : ℕ → Type 0
  Beyond t = (i : ℕ) (v : Option ℕ) → t < i → Lands (goes mem c false s i) → At Trail i v

  behind_bracket : (i : ℕ) (v : Option ℕ) → (Lands (goes mem c false s i) → At Trail i v) → Lands (goes mem c true s i) → At TrailBracketAfter i v
  behind_bracket i v go l =
      by_bool (at_end (byte_shown s i) || on after_bracket (byte_shown s i)) _ _
      (λ h. subst Lands (goes_ended mem c s i h) l)
      (λ h. go_retry (go (subst Lands (goes_no_opening mem c s i (no-opening mem c s i h)) l)))

  -- letters, and a `;` behind them
  reference_turn : (i : ℕ) (v : Option ℕ) → (i < length s → Lands (reference_goes mem c s (i + 1)) → At TrailCharRefInside (i + 1) (byte_shown s i)) → Beyond i → Lands (reference_goes mem c s i) → At TrailCharRefInside i v
  reference_turn i v more go l =
      by_byte s letter refl refl refl i _ _
      (λ h.
      let lt = stands s i letter refl h in
      go_on i v (plain_test s i letter refl refl refl refl h) (more lt (subst Lands (reference_letter mem c s i lt h) l)))
      (λ h.
      by_byte s (is 59) refl refl refl i _ _
      (λ q.
      let lt = stands s i (is 59) refl q in
      go_on i v (plain_test s i (is 59) refl refl refl refl q)
      (go (i + 1) (byte_shown s i) (omega arith) (subst Lands (reference_other mem c s i lt h ∙ ap (λ x. x && goes mem c false s (i + 1)) q) l)))
      (λ q.
      subst Lands
      (⊎_elim (λ lt. reference_other mem c s i lt h ∙ ap (λ x. x && goes mem c false s (i + 1)) q) (λ le. reference_end mem c s i le) (cases_lt i (length s)))
      l))

  reference_run : (k i : ℕ) (v : Option ℕ) → length s ≤ i + k → Beyond i → Lands (reference_goes mem c s i) → At TrailCharRefInside i v
  reference_run zero i v fuel go l = reference_turn i v (λ lt. absurd (omega arith)) go l
  reference_run (suc k) i v fuel go l = reference_turn i v (λ lt. reference_run k (i + 1) (byte_shown s i) (omega arith) (λ j w le. go j w (omega arith))) go l

  behind_ampersand : (i : ℕ) (v : Option ℕ) → Beyond i → Lands (letter (get_or s i 0) && reference_goes mem c s i) → At TrailCharRefStart i v
  behind_ampersand i v go l =
      by_byte s letter refl refl refl i _ _
      (λ h. go_retry (reference_run (length s) i v (omega arith) go (subst (λ x. Lands (x && reference_goes mem c s i)) h l)))
      (λ h. subst (λ x. Lands (x && reference_goes mem c s i)) h l)

  -- one call of the trail state
  trail_turn : (t : ℕ) (v : Option ℕ) → (t < length s → Beyond t) → Lands (goes mem c false s t) → At Trail t v
  trail_turn t v go l =
      by_bool (on (is 41) (byte_shown s t) && ltb r.size_b r.size) _ _
      (λ h.
      let both = and_parts (on (is 41) (byte_shown s t)) (ltb r.size_b r.size) h in
      let q = sym (shown_test s t (is 41) refl refl refl) ∙ both.0 in
      subst Lands (goes_closing mem c s t (ap not both.1) (stands s t (is 41) refl q) q) l)
      (λ free.
      by_byte s (is 93) refl refl refl t _ _
      (λ h.
      let lt = stands s t (is 93) refl h in
      go_on t v (plain_test s t (is 93) refl refl refl refl h)
      (behind_bracket (t + 1) (byte_shown s t) (go lt (t + 1) (byte_shown s t) (omega arith)) (subst Lands (goes_bracket mem c s t lt h) l)))
      (λ h1.
      by_byte s trail_mark refl refl refl t _ _
      (λ h.
      let lt = stands s t trail_mark refl h in
      go_on t v (plain_test s t trail_mark refl refl refl refl h)
      (go lt (t + 1) (byte_shown s t) (omega arith) (subst Lands (goes_mark mem c s t lt (an_item free) h) l)))
      (λ h2.
      by_byte s (is 38) refl refl refl t _ _
      (λ h.
      let lt = stands s t (is 38) refl h in
      go_on t v (plain_test s t (is 38) refl refl refl refl h)
      (behind_ampersand (t + 1) (byte_shown s t) (λ j w le. go lt j w (omega arith)) (subst Lands (goes_ampersand mem c s t lt h) l)))
      (λ h3.
      let same = goes_no_item mem c s t false h1 h2 h3 ∙ or_false _ ∙ sym stops in
      by_bool (on (is 60) (byte_shown s t) || is_white_space (kind_at mem s (index_shown s t))) _ _
      (λ h. subst Lands (same ∙ h) l)
      (λ h. subst Lands (same ∙ h) l)))))
    where
      stops : (on (is 60) (byte_shown s t) || is_white_space (kind_at mem s (index_shown s t))) ≡ (white_at mem s t || eqb (get_or s t 0) 60)
      stops = ap (λ x. x || is_white_space (kind_at mem s (index_shown s t))) (shown_test s t (is 60) refl refl refl) ∙ ap (λ x. eqb (get_or s t 0) 60 || x) (white_shown mem s t) ∙ or_swap (eqb (get_or s t 0) 60) (white_at mem s t)

      an_item : (on (is 41) (byte_shown s t) && ltb r.size_b r.size) ≡ false → (eqb (get_or s t 0) 41 && not c) ≡ false
      an_item f = ap (λ x. eqb (get_or s t 0) 41 && x) (twice (ltb r.size_b r.size)) ∙ ap (λ x. x && ltb r.size_b r.size) (sym (shown_test s t (is 41) refl refl refl)) ∙ f

  trail-run : (k t : ℕ) (v : Option ℕ) → length s ≤ t + k → Lands (goes mem c false s t) → At Trail t v
  trail-run zero t v fuel l = trail_turn t v (λ lt. absurd (omega arith)) l
  trail-run (suc k) t v fuel l = trail_turn t v (λ lt i w le. trail-run k i w (omega arith)) l

-- a check begun at t: it goes on with `ok` where a trail begins and with `nok` elsewhere, and everything else is as it was at t.
-- While a parenthesis is open in the registers, `)` is no item of the trail
pub check_trail : (mem : ℕ → Bool) (s : List ℕ) (r : Registers) (us : List Attempt) (es : List Event) (ns : List Name) (ok nok : StateName) (Goal : Machine → Type 0) (t : ℕ) (v : Option ℕ) →
    Reach mem (after mem s (cond (trail mem (not (ltb r.size_b r.size)) s t) ok nok) (cursor_at s t v) r us es ns) Goal →
    Reach mem (made_of s (Retry Trail) (cursor_at s t v) r (record { ok = Next ok; nok = Next nok; kind = attempt_kind.Check; progress = Some (record { cursor = cursor_at s t v; events = length es; names = length ns }) } ∷ us) es ns) Goal
check_trail mem s r us es ns ok nok Goal t v l =
    let p : Progress = record { cursor = cursor_at s t v; events = length es; names = length ns } in
    let c = not (ltb r.size_b r.size) in
    let go : StateName → List Event → List Name → Type 0 = λ n es' ns'. Reach mem (made_of s (Next n) (cursor_at s t v) r us es' ns') Goal in
    let next : go (cond (trail mem c s t) ok nok) es ns = go_back t v l in
    let with-events = subst (λ x. go (cond (trail mem c s t) ok nok) x ns) (sym (take-length es)) next in
    let with-names = subst (λ x. go (cond (trail mem c s t) ok nok) (take (length es) es) x) (sym (take-length ns)) with-events in
    go_retry (trail-run mem s r us es ns ok nok p Goal (length s) t v (omega arith)
    (subst (λ answer. go (cond answer ok nok) (take (length es) es) (take (length ns) ns)) (trail_goes mem c s t) with-names))
