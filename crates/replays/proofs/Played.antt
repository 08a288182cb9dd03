-- What a watched replay of a script's calls makes of the script.
-- Assumes nothing.
use Rattle.std.proofs.Common.{◌≡◌, ℕ, Bool, List, [], ◌∷◌, ◌++◌, map, length, take, sym, refl, ap, ◌∙◌, subst, arith}
use Rattle.std.proofs.Math.Seq.{take-length}
use Rattle.calls.specs.declared.scripts.Call.{Call}
use Rattle.calls.specs.Calls.{Model, new}
use Rattle.calls.specs.Moments.{after, answers, nothing, Watched}
use Rattle.calls.specs.Steps.{held, Answer}
use Rattle.scripts.specs.declared.commands.Line.{Line}
use Rattle.scripts.specs.Commands.{bare, calls_in}
use Rattle.scripts.specs.Report.{told_lines}
use Rattle.scripts.specs.Sums.{standing, sum_of, sum_shown}
use Rattle.written.specs.Listing.{newline}
use Rattle.replays.specs.Plays.{listings, last_line, played}
use Rattle.replays.specs.Scribes.{lines_left, texts_of, Wrote}
use Rattle.replays.specs.declared.scribe.Scribe.{Scribe}
use Rattle.replays.proofs.Bare.{after_bare, answers_bare, told_bare, length_bare, take_bare}
use Rattle.replays.proofs.Listed.{Led, listed}

-- the same is told of calls whose notes lie elsewhere
sum_bare : (cs : List Call) (got : List Answer) (n : ℕ) → sum_of (map bare cs) got n ≡ sum_of cs got n
sum_bare cs got n = λ i. record {
  calls = length_bare cs i;
  accepted = (sum_of cs got n).accepted;
  refused = (sum_of cs got n).refused;
  standing = standing (told_bare nothing cs got i);
  events = n;
}

module _ (member : ℕ → Bool) (ls : List (Line Call)) (cs : List Call) (got : List Answer) (w w' : Scribe) (m : Model) (same : map bare cs ≡ calls_in ls) (watched : Watched Wrote member cs got w w' m) where
  answers_are : got ≡ answers member new (calls_in ls)
  answers_are =
      let all : take (length cs) got ≡ got = ap (λ n. take n got) (sym watched.each_answered) ∙ take-length got in
      let last = watched.always (length cs) (omega arith) in
      sym all ∙ last.answered ∙ ap (answers member new) (take-length cs) ∙ sym (answers_bare member new cs) ∙ ap (answers member new) same

  last_is : m ≡ after member new (calls_in ls)
  last_is = sym watched.last_moment ∙ watched.each_led (length cs) (omega arith) ∙ ap (after member new) (take-length cs) ∙ sym (after_bare member new cs) ∙ ap (after member new) same

  led : Led member new (calls_in ls) watched.moments
  led =
      let few : length (calls_in ls) ≡ length cs = sym (ap length same) ∙ length_bare cs in (
        watched.each_shown ∙ omega (arith, few),
        λ k le. watched.each_led k (omega (arith, le, few)) ∙ sym (after_bare member new (take k cs)) ∙ ap (after member new) (take_bare k cs ∙ ap (take k) same),
      )

  pub played_is : (report : List ℕ) → lines_left w ≡ ls → texts_of w ≡ [] → report ≡ told_lines ls got (texts_of w') ++ (sum_shown (sum_of cs got (length (held m))) ++ newline) → report ≡ played member ls
  played_is report left none is =
      let texts : texts_of w' ≡ listings member new ls = listed member (calls_in ls) ls new watched.moments w w' refl left led watched.shown ∙ ap (λ t. t ++ listings member new ls) none in
      is
      ∙ (λ i. told_lines ls (answers_are i) (texts i) ++ last_line cs (answers_are i) (last_is i))
      ∙ ap (λ s. told_lines ls (answers member new (calls_in ls)) (listings member new ls) ++ (sum_shown s ++ newline))
      (sym (sum_bare cs (answers member new (calls_in ls)) (length (held (after member new (calls_in ls)))))
      ∙ ap (λ c. sum_of c (answers member new (calls_in ls)) (length (held (after member new (calls_in ls))))) same)
