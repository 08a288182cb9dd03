-- The report, put together.
-- Assumes nothing.
use Rattle.std.proofs.Common.{◌≡◌, ℕ, Bool, true, false, cond, List, [], ◌++◌, length, Ok, Err, sym, ap, ◌∙◌, subst, append_assoc}
use Rattle.text.specs.Notes.{too_long, checked_length}
use Rattle.text.specs.declared.refusals.Fault.{Fault}
use Rattle.text.specs.declared.refusals.Fault.TheVariants.{NoteTooLong}
use Rattle.text.specs.Shown.{refusal_shown}
use Rattle.calls.specs.Calls.{Model}
use Rattle.readings.specs.declared.lines.Answered.{Answered}
use Rattle.readings.specs.declared.plans.Plan.{Plan}
use Rattle.readings.specs.Readings.{ReadThrough}
use Rattle.webspans.specs.Report.{call_lines, steps_line, PrintedAs, Printed}
use Rattle.written.specs.Listing.{newline, event_lines}

-- what the check of a note's length tells
not_long_as : (n k : ℕ) (long : Bool) → Ok n ≡ cond long (Err NoteTooLong) (Ok k) → long ≡ false
not_long_as n k true e = cc
not_long_as n k false e = cc

pub not_long : (s : List ℕ) (n : ℕ) → Ok n ≡ checked_length s → too_long s ≡ false
not_long s n e = not_long_as n (length s) (too_long s) e

long_as : (f : Fault) (k : ℕ) (long : Bool) → Err f ≡ cond long (Err NoteTooLong) (Ok k) → (f ≡ NoteTooLong) × (long ≡ true)
long_as f k true e = (cc, cc)
long_as f k false e = cc

pub refused : (plan : Plan) (s : List ℕ) (f : Fault) (out : List ℕ) → Err f ≡ checked_length s → out ≡ refusal_shown f ++ newline → Printed plan s out
refused plan s f out e p =
    let is = long_as f (length s) (too_long s) e in
    subst (λ b. PrintedAs b plan s out) (sym is.1) (p ∙ ap (λ x. refusal_shown x ++ newline) is.0)

-- calls, events and steps, each behind what was written
pub reports : (plan : Plan) (s : List ℕ) (calls : List Answered) (m : Model) (a b out : List ℕ) → too_long s ≡ false → ReadThrough plan s calls m →
    a ≡ cond plan.shows_calls (call_lines calls) [] → b ≡ a ++ event_lines m.machine.events → out ≡ b ++ steps_line calls → Printed plan s out
reports plan s calls m a b out short read p q r =
    subst (λ t. PrintedAs t plan s out) (sym short)
    (record {
      calls = calls;
      made = read.made;
      steps = read.steps;
      printed =
          r ∙ ap (λ l. l ++ steps_line calls) (q ∙ ap (λ l. l ++ event_lines m.machine.events) p)
          ∙ append_assoc (cond plan.shows_calls (call_lines calls) []) (event_lines m.machine.events) (steps_line calls)
          ∙ ap (λ es. cond plan.shows_calls (call_lines calls) [] ++ (event_lines es ++ steps_line calls)) read.events;
    })
