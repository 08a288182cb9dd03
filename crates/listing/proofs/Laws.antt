-- The laws of what is printed.
-- Assumes nothing.
use Rattle.std.proofs.Common.{ℕ, ◌≤◌, List, [], ◌∷◌, length, refl, arith}
use Rattle.std.proofs.lemmas.Bool.{ltb-false}
use Rattle.text.specs.declared.spans.Span.{Span}
use Rattle.punctuation.specs.RangeLists.{house}
use Rattle.marked.specs.Marks.{IsInTurn}
use Rattle.marked.proofs.Copied.{only_marks}
use Rattle.calls.proofs.NothingElse.{exactly_resolved}
use Rattle.calls.proofs.Resolves.{resolved-lawful, resolved_read, resolved-resolved}
use Rattle.written.specs.Named.{NamedByTheRules}
use Rattle.written.proofs.LineEnds.{a_line_for_each_event}
use Rattle.written.proofs.Resolved.{named}
use Rattle.written.proofs.SavedLists.{read_back}
use Rattle.listing.specs.declared.forms.Form.{Form}
use Rattle.listing.specs.declared.forms.Form.TheVariants.{Listing, SavedList, MarkedCopy}
use Rattle.listing.specs.Notes.{events_of, Claimed}
use Rattle.listing.specs.Output.{addresses, FormLaw, Laws}

claimed : (s : List ℕ) → Claimed s (events_of s)
claimed s = record { lawful = resolved-lawful house s [] refl; read = resolved_read house s [] refl; resolved = resolved-resolved house s [] refl }

addresses_named : (s : List ℕ) → NamedByTheRules house s [] (addresses s)
addresses_named s =
    let c = claimed s in
    named s (events_of s) (record { member = house; links = []; lawful = c.lawful; read = c.read; resolved = c.resolved })

-- so many bytes or more are enough for the spans
wider : (a m n : ℕ) (xs : List Span) → m ≤ n → IsInTurn a m xs → IsInTurn a n xs
wider a m n [] le t = tt
wider a m n (x ∷ xs) le t = (t.0, t.1, omega (arith, t.2), wider x.to m n xs le t.3)

in_turn : (s : List ℕ) → IsInTurn 0 (length s) (addresses s)
in_turn s = (addresses_named s).in_turn

form_law : (form : Form) (s : List ℕ) → FormLaw form s
form_law Listing s = a_line_for_each_event (events_of s)
form_law SavedList s = λ short. read_back (addresses s) (wider 0 (length s) 1024 (addresses s) (ltb-false 1024 (length s) short) (in_turn s))
form_law MarkedCopy s = only_marks s (addresses s) (in_turn s)

pub laws : (form : Form) (s : List ℕ) → Laws form s
laws form s = record {
  claimed = claimed s;
  only = λ es c. exactly_resolved house s [] es refl c.lawful c.read c.resolved;
  named = addresses_named s;
  form_law = form_law form s;
}
