-- Spans written one after another over those of a lent slice.
-- Assumes nothing.
use Rattle.std.proofs.Common.{◌≡◌, ℕ, ◌+◌, ◌<◌, ◌≤◌, Bool, true, false, cond, leb, List, [], ◌∷◌, ◌++◌, length, get_or, drop, set, Some, None, Option, Ok, Err, Result, sym, refl, ap, ◌∙◌, zero-add, arith}
use lib.Seq.{paste}
use Rattle.std.proofs.lemmas.List.Edits.{paste_more, paste_all}
use Rattle.std.proofs.lemmas.Bool.{leb-true, le-leb, le-ltb, ltb-false, cond-true, cond-false}
use Rattle.std.proofs.lemmas.Iterator.{YieldsList}
use Rattle.std.proofs.lemmas.Iterator.Consumers.{YieldsList-from_enumerate, YieldsList-turn, YieldsList-end}
use Rattle.std.proofs.lemmas.List.FromFn.{length-enumerate_from, get_or-enumerate_from}
use Rattle.std.specs.Iterator.{Yields, AlwaysYields}
use Rattle.std.specs.Iterator.Adapters.{enumerate_source, enumerate_count, enumerate_steps}
use Rattle.std.specs.declared.iter.Enumerate.{Enumerate}
use Rattle.text.specs.declared.refusals.Fault.{Fault}
use Rattle.text.specs.declared.refusals.Fault.TheVariants.{BufferTooShort, NoteTooLong}
use Rattle.text.specs.Notes.{too_long, checked_length}
use Rattle.text.specs.Lent.{room_for, written_count, overwritten}
use Rattle.text.specs.declared.spans.Span.{Span}
use Rattle.rules.specs.Notes.{note_addresses, note_answer, note_written}

-- one more span, the one of rank k
pub write_one : (lent out all : List Span) (k : ℕ) (x : Span) → length all ≤ length lent → k < length all → x ≡ get_or all k x → out ≡ paste lent 0 all k → set out k x ≡ paste lent 0 all (k + 1)
write_one lent out all k x fits lt is so_far =
    ap (λ (o : List Span). set o k x) so_far
    ∙ ap (λ (y : Span). set (paste lent 0 all k) k y) is
    ∙ ap (λ i. set (paste lent 0 all k) i (get_or all k x)) (sym (zero-add k))
    ∙ paste_more lent 0 all k x (omega arith) lt

-- one turn of a loop over the spans with their places
pub turn : {S : Type 0} {steps : S → Option Span → S → Type 0} {s : Enumerate S} {all : List Span} → YieldsList steps (λ x. x) (enumerate_source s) all → enumerate_count s ≡ 0 → (done : List (ℕ × Span)) (t : Enumerate S) → Yields (enumerate_steps steps) s done t → (r : Option (ℕ × Span)) (u : Enumerate S) (i : ℕ) (x : Span) → r ≡ Some (i, x) → enumerate_steps steps t r u → (length done < length all) × (i ≡ length done) × (x ≡ get_or all (length done) x)
turn {all = all} yields none done t y r u i x is step =
    let w = YieldsList-turn (YieldsList-from_enumerate yields none) done t y r u (i, x) is step in
    let lt : length done < length all = omega (arith, w.0, length-enumerate_from 0 all) in
    let both : (i, x) ≡ (0 + length done, get_or all (length done) x) = w.1 ∙ get_or-enumerate_from 0 all (length done) (i, x) lt in
    (lt, ap (λ p. p.0) both ∙ zero-add (length done), ap (λ p. p.1) both)

-- after the last turn, all of them
pub turns-end : {S : Type 0} {steps : S → Option Span → S → Type 0} {s : Enumerate S} {all : List Span} → YieldsList steps (λ x. x) (enumerate_source s) all → enumerate_count s ≡ 0 → (done : List (ℕ × Span)) (t : Enumerate S) → Yields (enumerate_steps steps) s done t → (r : Option (ℕ × Span)) (u : Enumerate S) → r ≡ None → enumerate_steps steps t r u → length done ≡ length all
turns-end {all = all} yields none done t y r u is step =
    let w = YieldsList-end (YieldsList-from_enumerate yields none) done t y r u is step in
    omega (arith, w.1, length-enumerate_from 0 all)

-- what an iterator gives, it gives where its steps are known to be more
pub yields_by : {S : Type 0} (steps less : S → Option Span → S → Type 0) → ((s : S) (r : Option Span) (t : S) → steps s r t → less s r t) → (s : S) (xs : List Span) → AlwaysYields less (λ x. x) s xs → AlwaysYields steps (λ x. x) s xs
yields_by steps less h s [] w = λ x t e. w x t (h s (Some x) t e)
yields_by steps less h s (y ∷ ys) w = (λ t e. w.0 t (h s None t e), λ x t e. let v = w.1 x t (h s (Some x) t e) in (v.0, yields_by steps less h t ys v.1))

-- ---- a slice that is long enough, and one that is not

pub written_front : (xs out : List Span) → length xs ≤ length out → paste out 0 xs (length xs) ≡ overwritten xs out
written_front xs out le =
    let n : 0 + length xs ≡ length xs = zero-add (length xs) in
    paste_all out 0 xs (length xs) refl
    ∙ ap (λ k. xs ++ drop k out) n
    ∙ sym (cond-true (leb (length xs) (length out)) (xs ++ drop (length xs) out) out (le-leb (length xs) (length out) le))

-- where the check of the room refuses, the slice stays
short_as : (xs out : List Span) (b : Bool) (f : Fault) → Err f ≡ cond b (Ok (length xs)) (Err (BufferTooShort (length xs))) → out ≡ cond b (xs ++ drop (length xs) out) out
short_as xs out true f h = let z : ◌≡◌ {A = ℕ} 0 1 = cc in absurd (omega arith)
short_as xs out false f h = refl

pub short_kept : (xs out : List Span) (f : Fault) → Err f ≡ written_count xs out → out ≡ overwritten xs out
short_kept xs out f h = short_as xs out (leb (length xs) (length out)) f h

-- ---- a note that is too long, and one that is not

length_as : (s : List ℕ) (b : Bool) (n : ℕ) → too_long s ≡ b → Ok n ≡ cond b (Err NoteTooLong) (Ok (length s)) → length s ≤ 1024
length_as s true n e h = let z : ◌≡◌ {A = ℕ} 0 1 = cc in absurd (omega arith)
length_as s false n e h = ltb-false 1024 (length s) e

pub not_long : (s : List ℕ) (n : ℕ) → Ok n ≡ checked_length s → length s ≤ 1024
not_long s n h = length_as s (too_long s) n refl h

pub note-answered : (s : List ℕ) (out : List Span) (r : Result ℕ Fault) → length s ≤ 1024 → r ≡ written_count (note_addresses s) out → r ≡ note_answer s out
note-answered s out r le e = e ∙ sym (cond-false (too_long s) (Err NoteTooLong) (written_count (note_addresses s) out) (le-ltb 1024 (length s) le))

pub note-filled : (s : List ℕ) (out new : List Span) → length s ≤ 1024 → new ≡ overwritten (note_addresses s) out → new ≡ note_written s out
note-filled s out new le e = e ∙ sym (cond-false (too_long s) out (overwritten (note_addresses s) out) (le-ltb 1024 (length s) le))
