-- A link that is tried: from its domain to its exit, or back to where it was tried with nothing left behind.
-- Assumes nothing.
use Rattle.std.proofs.Common.{◌≡◌, ℕ, Bool, true, false, List, [], ◌∷◌, ◌++◌, length, take, Option, sym, refl, ap, ◌∙◌, subst}
use lib.Seq.{take-length, take-append_seam}
use Rattle.text.specs.Bytes.{part}
use Rattle.rules.specs.Web.{domain_end, valid, path_end}
use Rattle.machine.specs.declared.attempts.Attempt.{Attempt}
use Rattle.machine.specs.declared.events.Event.{Event}
use Rattle.machine.specs.declared.events.EventKind.TheVariants.{Enter, Exit}
use Rattle.machine.specs.declared.events.Name.{Name}
use Rattle.machine.specs.declared.states.State.TheVariants.{Next}
use Rattle.machine.specs.declared.states.StateName.TheVariants.{Before, Data, DomainInside}
use Rattle.machine.specs.Cursors.{event}
use Rattle.machine.specs.Moves.{Machine, made_of}
use Rattle.machine.specs.Runs.{cleared}
use Rattle.machine.specs.Laws.{event_at}
use Rattle.machine.specs.Invariant.{cursor_at, Web, www, protocol, name_of, leaves, link_attempt, part_attempt}
use Rattle.machine.proofs.Keeps.{after, mark-at}
use Rattle.findings.proofs.Reaching.{Reach, go_back}
use Rattle.findings.proofs.Standing.{Stands}
use Rattle.findings.proofs.DomainStates.{domain}
use Rattle.findings.proofs.PathStates.{path}

pub append_two : {A : Type 0} (xs : List A) (a b : A) → (xs ++ a ∷ []) ++ b ∷ [] ≡ xs ++ a ∷ b ∷ []
append_two [] a b = refl
append_two (x ∷ xs) a b = ap (λ t. x ∷ t) (append_two xs a b)

-- the enter and the exit of a span, as the machine makes them and as they stand at their places
pub enter_exit : (s : List ℕ) (es : List Event) (n : Name) (i j : ℕ) (v w : Option ℕ) → Stands s i v → Stands s j w →
    (es ++ event s Enter n (cursor_at s i v).point ∷ []) ++ event s Exit n (cursor_at s j w).point ∷ [] ≡ es ++ event_at s Enter n i ∷ event_at s Exit n j ∷ []
enter_exit s es n i j v w st sw =
    ap (λ a. (es ++ a ∷ []) ++ event s Exit n (cursor_at s j w).point ∷ []) (mark-at s i v Enter n st.edge)
    ∙ ap (λ b. (es ++ event_at s Enter n i ∷ []) ++ b ∷ []) (mark-at s j w Exit n sw.edge)
    ∙ append_two es (event_at s Enter n i) (event_at s Exit n j)

-- a link is tried at i, where es are the events
module _ (mem : ℕ → Bool) (s : List ℕ) (Goal : Machine → Type 0) (es : List Event) (i : ℕ) (v : Option ℕ) where
  abbrev pub tried : Attempt
  tried = link_attempt (cursor_at s i v) es

  abbrev pub entered : Web → List Event
  entered l = es ++ event s Enter (name_of l) (cursor_at s i v).point ∷ []

  -- no link is found: data begins at i, and everything is as it was
  abbrev pub Missed : Type 0
  Missed = Reach mem (made_of s (Next Data) (cursor_at s i v) cleared [] es []) Goal

  -- a link up to p is found
  abbrev pub Found : Web → ℕ → Type 0
  Found l p = (w : Option ℕ) → Stands s p w → Reach mem (made_of s (Next Before) (cursor_at s p w) cleared [] (es ++ event_at s Enter (name_of l) i ∷ event_at s Exit (name_of l) p ∷ []) []) Goal

  abbrev Back : List Event → Type 0
  Back x = Reach mem (made_of s (Next Data) (cursor_at s i v) cleared [] x []) Goal

  -- Nok puts the events back: before the link was entered, after, and under a check within it
  pub missed_at_once : Missed → Back (take (length es) es)
  missed_at_once h = subst Back (sym (take-length es)) h

  pub missed : (l : Web) → Missed → Back (take (length es) (entered l))
  missed l h = subst Back (sym (take-append_seam es (event s Enter (name_of l) (cursor_at s i v).point ∷ []))) h

  pub missed_in_check : (l : Web) → Missed → Back (take (length es) (take (length (entered l)) (entered l)))
  missed_in_check l h = subst (λ x. Back (take (length es) x)) (sym (take-length (entered l))) (missed l h)

  module _ (st : Stands s i v) where
    -- the link is left: its exit stands where the path ends
    exits : (l : Web) (p : ℕ) (w : Option ℕ) → Stands s p w → Found l p → Reach mem (made_of s (Next (leaves l)) (cursor_at s p w) cleared (tried ∷ []) (entered l) (name_of l ∷ [])) Goal
    exits www p w sw found = go_back p w (subst (λ x. Reach mem (made_of s (Next Before) (cursor_at s p w) cleared [] x []) Goal) (sym (enter_exit s es (name_of www) i p v w st sw)) (found w sw))
    exits protocol p w sw found = go_back p w (subst (λ x. Reach mem (made_of s (Next Before) (cursor_at s p w) cleared [] x []) Goal) (sym (enter_exit s es (name_of protocol) i p v w st sw)) (found w sw))

    -- from a domain at d: a link is found if the domain is valid, and it ends where the path ends
    pub link-from : (l : Web) (d : ℕ) (u : Option ℕ) → Stands s d u →
        (valid (part d (domain_end mem s d) s) ≡ true → Found l (path_end mem s (domain_end mem s d))) →
        (valid (part d (domain_end mem s d) s) ≡ false → Missed) →
        Reach mem (after mem s DomainInside (cursor_at s d u) cleared (part_attempt (leaves l) ∷ tried ∷ []) (entered l) (name_of l ∷ [])) Goal
    link-from l d u su found none =
        domain mem s (part_attempt (leaves l) ∷ tried ∷ []) (entered l) (name_of l ∷ []) Goal d u su
        (λ w sw h. path mem s (part_attempt (leaves l) ∷ tried ∷ []) (entered l) (name_of l ∷ []) Goal (domain_end mem s d) w sw (λ x sx. exits l (path_end mem s (domain_end mem s d)) x sx (found h)))
        (λ w h. missed l (none h))
