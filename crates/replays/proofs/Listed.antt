-- A watcher who writes down the events that are asked for has, after all calls, the listings of the script.
-- Assumes nothing.
use Rattle.std.proofs.Common.{◌≡◌, ℕ, zero, suc, ◌≤◌, Bool, List, [], ◌∷◌, ◌++◌, length, get_or, take, sym, refl, ap, ◌∙◌, subst, append_assoc, append-nil, arith}
use Rattle.calls.specs.declared.scripts.Call.{Call}
use Rattle.calls.specs.Calls.{Model, new}
use Rattle.calls.specs.Moments.{after, Looks}
use Rattle.calls.specs.Steps.{held, step}
use Rattle.scripts.specs.declared.commands.Line.{Line}
use Rattle.scripts.specs.declared.commands.Line.TheVariants as line
use Rattle.scripts.specs.Commands.{calls_in}
use Rattle.written.specs.Listing.{event_lines}
use Rattle.replays.specs.Plays.{listings}
use Rattle.replays.specs.Scribes.{behind_call, asked_now, lines_left, texts_of, Wrote}
use Rattle.replays.specs.declared.scribe.Scribe.{Scribe}

tail_of : List Call → List Call
tail_of [] = []
tail_of (x ∷ xs) = xs

-- the calls behind the next one
calls_behind : (ls : List (Line Call)) (c : Call) (cs : List Call) → calls_in ls ≡ c ∷ cs → calls_in (behind_call ls) ≡ cs
unfolding tail_of
calls_behind [] c cs e = absurd (omega (arith, ap length e))
calls_behind (line.Events ∷ ls) c cs e = calls_behind ls c cs e
calls_behind (line.Call d ∷ ls) c cs e = ap tail_of e

module _ (member : ℕ → Bool) where
  -- with no call left, all that is asked for is asked now
  listings_last : (ls : List (Line Call)) (m : Model) → calls_in ls ≡ [] → listings member m ls ≡ asked_now (event_lines (held m)) ls
  listings_last [] m e = refl
  listings_last (line.Events ∷ ls) m e = ap (λ l. event_lines (held m) ∷ l) (listings_last ls m e)
  listings_last (line.Call c ∷ ls) m e = absurd (omega (arith, ap length e))

  -- else what is asked now comes first, and then what stands behind the next call
  listings_next : (ls : List (Line Call)) (m : Model) (c : Call) (cs : List Call) → calls_in ls ≡ c ∷ cs → listings member m ls ≡ asked_now (event_lines (held m)) ls ++ listings member (step member m c).0 (behind_call ls)
  listings_next [] m c cs e = absurd (omega (arith, ap length e))
  listings_next (line.Events ∷ ls) m c cs e = ap (λ l. event_lines (held m) ∷ l) (listings_next ls m c cs e)
  listings_next (line.Call d ∷ ls) m c cs e = ap (λ x. listings member (step member m x).0 ls) (first_of_two e)
    where
      head_or : Call → List Call → Call
      head_or d [] = d
      head_or d (x ∷ xs) = x

      first_of_two : d ∷ calls_in ls ≡ c ∷ cs → d ≡ c
      first_of_two e = ap (head_or d) e

  -- moments are the readers to which the calls lead, one after another
  abbrev pub Led : Model → List Call → List Model → Type 0
  Led m cs ms = (length ms ≡ suc (length cs)) × ((k : ℕ) → k ≤ length cs → get_or ms k new ≡ after member m (take k cs))

  step_over : (m : Model) (c : Call) (cs : List Call) (x : Model) (ms : List Model) → Led m (c ∷ cs) (x ∷ ms) → Led (step member m c).0 cs ms
  step_over m c cs x ms l = (omega (arith, l.0), λ k le. l.1 (suc k) (omega (arith, le)))

  pub listed : (cs : List Call) (ls : List (Line Call)) (m : Model) (ms : List Model) (w w' : Scribe) → calls_in ls ≡ cs → lines_left w ≡ ls → Led m cs ms → Looks Wrote w ms w' → texts_of w' ≡ texts_of w ++ listings member m ls
  listed cs ls m [] w w' e left l h = absurd (omega (arith, l.0))
  listed [] ls m (x ∷ y ∷ ms) w w' e left l h = absurd (omega (arith, l.0))
  listed (c ∷ cs) ls m (x ∷ []) w w' e left l h = absurd (omega (arith, l.0))
  listed [] ls m (x ∷ []) w w' e left l h =
      ap texts_of (sym h.2) ∙ h.1.1
      ∙ (λ i. texts_of w ++ asked_now (event_lines (held (l.1 0 (omega arith) i))) (left i))
      ∙ ap (λ t. texts_of w ++ t) (sym (listings_last ls m e))
  listed (c ∷ cs) ls m (x ∷ y ∷ ms) w w' e left l h =
      listed cs (behind_call ls) (step member m c).0 (y ∷ ms) h.0 w' (calls_behind ls c cs e) (h.1.0 ∙ ap behind_call left) (step_over m c cs x (y ∷ ms) l) h.2
      ∙ ap (λ t. t ++ listings member (step member m c).0 (behind_call ls))
      (h.1.1 ∙ (λ i. texts_of w ++ asked_now (event_lines (held (l.1 0 (omega arith) i))) (left i)))
      ∙ append_assoc (texts_of w) (asked_now (event_lines (held m)) ls) (listings member (step member m c).0 (behind_call ls))
      ∙ ap (λ t. texts_of w ++ t) (sym (listings_next ls m c cs e))
