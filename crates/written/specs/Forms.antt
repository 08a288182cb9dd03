-- The written forms of what a reader holds; what a call that writes one answers, and what the lent slice holds then.
-- Assumes nothing.
use Rattle.std.specs.Prelude.{◌≡◌, ℕ, Bool, true, cond, List, Err, Result}
use Rattle.text.specs.declared.refusals.Fault.{Fault}
use Rattle.text.specs.declared.refusals.Fault.TheVariants.{NotResolved}
use Rattle.text.specs.declared.spans.Span.{Span}
use Rattle.text.specs.Lent.{written_count, overwritten}
use Rattle.marked.specs.Marked.{marked_copy}
use Rattle.calls.specs.Calls.{Model}
use Rattle.calls.specs.Steps.{held, is_resolved}
use Rattle.written.specs.Listing.{event_lines}
use Rattle.written.specs.Named.{NamedByTheRules}
use Rattle.written.specs.SavedLists.{saved_list}
use Rattle.written.specs.Spans.{written_spans}

abbrev pub spans_held : Model → List Span
spans_held m = written_spans (held m)

-- member is the meaning of the reader's punctuation set
abbrev pub HeldAreNamed : (ℕ → Bool) → Model → Type 0
HeldAreNamed member m = NamedByTheRules member m.machine.note m.links (spans_held m)

abbrev pub saved_form : Model → List ℕ
saved_form m = saved_list (spans_held m)

abbrev pub marked_form : Model → List ℕ
marked_form m = marked_copy m.machine.note (spans_held m)

abbrev pub listed_form : Model → List ℕ
listed_form m = event_lines (held m)

-- the number of bytes; refused unless the reader is resolved, and then where there is room for fewer bytes
abbrev pub form_answer : (Model → List ℕ) → Model → List ℕ → Result ℕ Fault
form_answer form m lent = cond (is_resolved m.phase) (written_count (form m) lent) (Err NotResolved)

abbrev pub form_written : (Model → List ℕ) → Model → List ℕ → List ℕ
form_written form m lent = cond (is_resolved m.phase) (overwritten (form m) lent) lent

-- a fact of each resolved reader
abbrev pub IfResolved : Model → Type 0 → Type 0
IfResolved m P = is_resolved m.phase ≡ true → P
