-- The forms that can be asked for.
-- Assumes nothing.
use Rattle.std.specs.Prelude.{ℕ, cond, List, [], ◌∷◌, codes, Some, None, Option, Ok, Err, Result}
use Rattle.std.specs.Str.{bytes_eq}
use Rattle.text.specs.declared.refusals.Fault.{Fault}
use Rattle.text.specs.declared.refusals.Fault.TheVariants as fault
use Rattle.calls.specs.Calls.{Model}
use Rattle.written.specs.Forms.{saved_form, marked_form, listed_form}
use Rattle.listing.specs.declared.forms.Form.{Form}
use Rattle.listing.specs.declared.forms.Form.TheVariants.{Listing, SavedList, MarkedCopy}

abbrev pub named : List ℕ → Option Form
named word = cond (bytes_eq word (codes "--saved")) (Some SavedList) (cond (bytes_eq word (codes "--marked")) (Some MarkedCopy) None)

-- no words ask for the listing, one asks for the form that it names
abbrev pub asked_by : List (List ℕ) → Option Form
asked_by [] = Some Listing
asked_by (word ∷ []) = named word
asked_by (word ∷ next ∷ words) = None

-- what is written of a resolved reader
abbrev pub written_as : Form → Model → List ℕ
written_as Listing = listed_form
written_as SavedList = saved_form
written_as MarkedCopy = marked_form

-- how many bytes a form takes, told by what was answered where there was no room
abbrev pub bytes_needed : Result ℕ Fault → Result ℕ Fault
bytes_needed (Ok n) = Ok n
bytes_needed (Err (fault.BufferTooShort n)) = Ok n
bytes_needed (Err f) = Err f
