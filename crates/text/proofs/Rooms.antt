-- What the test of a lent slice's room tells.
-- Assumes nothing.
use Rattle.std.proofs.Common.{◌≡◌, ℕ, ◌<◌, ◌≤◌, Bool, true, false, cond, leb, Ok, Err, Result, refl}
use Rattle.std.proofs.lemmas.Bool.{leb-true, leb-false}
use Rattle.text.specs.declared.refusals.Fault.{Fault}
use Rattle.text.specs.declared.refusals.Fault.TheVariants.{BufferTooShort}
use Rattle.text.specs.Lent.{room_for}

enough_as : (needed room n : ℕ) (b : Bool) → leb needed room ≡ b → ◌≡◌ {A = Result ℕ Fault} (Ok n) (cond b (Ok needed) (Err (BufferTooShort needed))) → (needed ≤ room) × (n ≡ needed)
enough_as needed room n true l e = (leb-true needed room l, cc)
enough_as needed room n false l e = cc

-- there is room, and the answer is what is needed
pub enough_room : (needed room n : ℕ) → Ok n ≡ room_for needed room → (needed ≤ room) × (n ≡ needed)
enough_room needed room n e = enough_as needed room n (leb needed room) refl e

lacking_as : (needed room : ℕ) (f : Fault) (b : Bool) → leb needed room ≡ b → ◌≡◌ {A = Result ℕ Fault} (Err f) (cond b (Ok needed) (Err (BufferTooShort needed))) → (f ≡ BufferTooShort needed) × (room < needed)
lacking_as needed room f true l e = cc
lacking_as needed room f false l e = (cc, leb-false needed room l)

-- there is not, and the refusal tells what is needed
pub lacking_room : (needed room : ℕ) (f : Fault) → Err f ≡ room_for needed room → (f ≡ BufferTooShort needed) × (room < needed)
lacking_room needed room f e = lacking_as needed room f (leb needed room) refl e
