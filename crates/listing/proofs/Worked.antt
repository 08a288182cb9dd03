-- What is printed, computed on notes of docs/FORMATS.md.
-- Assumes nothing.
use Rattle.std.proofs.Common.{◌≡◌, [], ◌∷◌, replicate, Some, None, codes, refl}
use Rattle.std.specs.Fmt.{digits}
use Rattle.written.specs.Numbers.{number}
use Rattle.listing.specs.declared.forms.Form.TheVariants.{Listing, SavedList, MarkedCopy}
use Rattle.listing.specs.Forms.{asked_by}
use Rattle.listing.specs.Output.{output}

listing-printed : output Listing (codes "a www.b") ≡ codes "enter data 1:1 0\nexit data 1:3 2\nenter www 1:3 2\nexit www 1:8 7\n"
unfolding digits
listing-printed = refl

saved-printed : output SavedList (codes "see mailto:x@y.z now") ≡ 0x03 ∷ 0x04 ∷ 0x0C ∷ []
unfolding number
saved-printed = refl

copy-printed : output MarkedCopy (codes "a@b.c, www.d") ≡ codes "{ea@b.c}, {wwww.d}"
copy-printed = refl

refusal-printed : output SavedList (replicate 1025 97) ≡ codes "refused 1 0\n"
unfolding digits
refusal-printed = refl

none-asked : asked_by [] ≡ Some Listing
none-asked = refl

saved-asked : asked_by (codes "--saved" ∷ []) ≡ Some SavedList
saved-asked = refl

help-asked : asked_by (codes "--help" ∷ []) ≡ None
help-asked = refl
