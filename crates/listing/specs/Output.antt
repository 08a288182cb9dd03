-- What the program prints of a note.
-- Assumes nothing.
use Rattle.std.specs.Prelude.{◌≡◌, ℕ, false, cond, List, [], ◌++◌, Some}
use Rattle.text.specs.declared.refusals.Fault.{Fault}
use Rattle.text.specs.declared.refusals.Fault.TheVariants.{NoteTooLong}
use Rattle.text.specs.Notes.{too_long}
use Rattle.text.specs.Shown.{refusal_shown}
use Rattle.text.specs.declared.spans.Span.{Span}
use Rattle.punctuation.specs.RangeLists.{house}
use Rattle.machine.specs.declared.events.Event.{Event}
use Rattle.marked.specs.Marked.{marked_copy, OnlyMarks}
use Rattle.written.specs.Listing.{newline, event_lines, ALineForEachEvent}
use Rattle.written.specs.Named.{NamedByTheRules}
use Rattle.written.specs.SavedLists.{saved_list, read_list}
use Rattle.written.specs.Spans.{written_spans}
use Rattle.listing.specs.declared.forms.Form.{Form}
use Rattle.listing.specs.declared.forms.Form.TheVariants.{Listing, SavedList, MarkedCopy}
use Rattle.listing.specs.Notes.{events_of, Claimed}

abbrev pub refusal_line : Fault → List ℕ
refusal_line fault = refusal_shown fault ++ newline

-- the addresses of a note
abbrev pub addresses : List ℕ → List Span
addresses s = written_spans (events_of s)

-- the form of a note, resolved with no links marked
abbrev pub form_of : Form → List ℕ → List ℕ
form_of Listing s = event_lines (events_of s)
form_of SavedList s = saved_list (addresses s)
form_of MarkedCopy s = marked_copy s (addresses s)

abbrev pub output : Form → List ℕ → List ℕ
output form s = cond (too_long s) (refusal_line NoteTooLong) (form_of form s)

-- ---- laws

-- a listing has a line for each event, a saved list reads back as the addresses, and without its marks the marked copy is the note
abbrev pub FormLaw : Form → List ℕ → Type 0
FormLaw Listing s = ALineForEachEvent (events_of s)
FormLaw SavedList s = too_long s ≡ false → read_list (form_of SavedList s) ≡ Some (addresses s)
FormLaw MarkedCopy s = OnlyMarks s (addresses s)

-- what is claimed holds of the events and of no others, and the addresses are those that the rules name
pub record Laws (form : Form) (s : List ℕ) : Type 0 where
  pub claimed : Claimed s (events_of s)
  pub only : (es : List Event) → Claimed s es → es ≡ events_of s
  pub named : NamedByTheRules house s [] (addresses s)
  pub form_law : FormLaw form s
