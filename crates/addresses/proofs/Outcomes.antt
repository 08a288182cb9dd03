-- What the call that finds a note's addresses tells the report, accepted or refused.
-- Assumes nothing.
use Rattle.std.proofs.Common.{◌≡◌, ℕ, ◌≤◌, Bool, true, false, cond, leb, List, ◌++◌, length, take, drop, Ok, Err, sym, refl, ap, ◌∙◌, ⊎_elim, arith}
use Rattle.std.proofs.lemmas.List.{take_at}
use Rattle.std.proofs.lemmas.Bool.{cond-true, cond-false, leb-false, ltb-false}
use Rattle.std.proofs.ByRecursion.{All-weaker}
use Rattle.std.specs.List.{AllByRecursion}
use Rattle.text.specs.declared.refusals.Fault.{Fault}
use Rattle.text.specs.declared.refusals.Fault.TheVariants.{NoteTooLong, BufferTooShort}
use Rattle.text.specs.declared.spans.Span.{Span}
use Rattle.text.specs.Notes.{too_long}
use Rattle.rules.specs.Notes.{note_addresses, note_answer, note_written}
use Rattle.rules.specs.MailLaws.{Address, EachIsAnAddress}
use Rattle.rules.proofs.Lines.{note-few}
use Rattle.addresses.specs.Report.{Within, refusal_line, address_lines, summary, report}

-- a refused note is too long: the slice has room for every other
refused_as : (s : List ℕ) (lent : List Span) (f : Fault) (long short : Bool) → too_long s ≡ long → leb (length (note_addresses s)) (length lent) ≡ short → length lent ≡ 1024 → Err f ≡ cond long (Err NoteTooLong) (cond short (Ok (length (note_addresses s))) (Err (BufferTooShort (length (note_addresses s))))) → (f ≡ NoteTooLong) × (long ≡ true)
refused_as s lent f true short l h room e = (cc, refl)
refused_as s lent f false true l h room e = cc
refused_as s lent f false false l h room e =
    absurd (omega (arith, leb-false (length (note_addresses s)) (length lent) h, note-few s, ltb-false 1024 (length s) l))

pub refused : (s : List ℕ) (lent out : List Span) (f : Fault) → Err f ≡ note_answer s lent → out ≡ note_written s lent → length lent ≡ 1024 → (f ≡ NoteTooLong) × (too_long s ≡ true)
refused s lent out f e written room = refused_as s lent f (too_long s) (leb (length (note_addresses s)) (length lent)) refl refl room e

-- an accepted one is not, and its addresses stand at the front
accepted_as : (xs lent out : List Span) (n : ℕ) (long short : Bool) → Ok n ≡ cond long (Err NoteTooLong) (cond short (Ok (length xs)) (Err (BufferTooShort (length xs)))) → out ≡ cond long lent (cond short (xs ++ drop (length xs) lent) lent) → (long ≡ false) × (take n out ≡ xs)
accepted_as xs lent out n true short e w = cc
accepted_as xs lent out n false false e w = cc
accepted_as xs lent out n false true e w =
    let same : n ≡ length xs = cc in
    (refl, ap (take n) w ∙ take_at xs (drop (length xs) lent) n (sym same))

pub accepted : (s : List ℕ) (lent out : List Span) (n : ℕ) → Ok n ≡ note_answer s lent → out ≡ note_written s lent → (too_long s ≡ false) × (take n out ≡ note_addresses s)
accepted s lent out n e w = accepted_as (note_addresses s) lent out n (too_long s) (leb (length (note_addresses s)) (length lent)) e w

from-to : (s : List ℕ) (x : Span) → Address s x → x.from ≤ x.to
from-to s x a =
    let d = a.domain.dot_inside in
    ⊎_elim (λ e. omega (arith, a.local_part, e, d.0, d.1)) (λ r. omega (arith, a.local_part, r.1.1, d.0, d.1)) a.to_the_end

-- each address lies within the note
pub each_within : (s : List ℕ) (xs : List Span) → EachIsAnAddress s xs → AllByRecursion (Within s) xs
each_within s xs h = All-weaker (Address s) (Within s) (λ x a. (omega (arith, from-to s x a), a.within)) xs h

-- what is reported
pub reports : (s : List ℕ) (xs : List Span) → too_long s ≡ false → xs ≡ note_addresses s → address_lines s xs ++ summary (length xs) (length s) ≡ report s
reports s xs l e = ap (λ (ys : List Span). address_lines s ys ++ summary (length ys) (length s)) e ∙ sym (cond-false (too_long s) (refusal_line NoteTooLong) (address_lines s (note_addresses s) ++ summary (length (note_addresses s)) (length s)) l)

pub reports_refusal : (s : List ℕ) (f : Fault) → (f ≡ NoteTooLong) × (too_long s ≡ true) → refusal_line f ≡ report s
reports_refusal s f h = ap refusal_line h.0 ∙ sym (cond-true (too_long s) (refusal_line NoteTooLong) (address_lines s (note_addresses s) ++ summary (length (note_addresses s)) (length s)) h.1)
