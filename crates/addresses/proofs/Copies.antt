-- What the call that marks a note's addresses tells where it is accepted.
-- Assumes nothing.
use Rattle.std.proofs.Common.{◌≡◌, ℕ, Bool, true, false, cond, leb, List, ◌++◌, length, take, drop, Ok, Err, sym, ap, ◌∙◌}
use Rattle.std.proofs.lemmas.List.{take_at}
use Rattle.text.specs.declared.refusals.Fault.TheVariants.{NoteTooLong, BufferTooShort}
use Rattle.text.specs.Notes.{too_long}
use Rattle.marked.specs.Marked.{marked_note, marked_answer, marked_written}
use Rattle.addresses.specs.Report.{refusal_line, copy}

accepted_as : (xs line out out' : List ℕ) (n : ℕ) (long enough : Bool) → Ok n ≡ cond long (Err NoteTooLong) (cond enough (Ok (length xs)) (Err (BufferTooShort (length xs)))) → out' ≡ cond long out (cond enough (xs ++ drop (length xs) out) out) → take n out' ≡ cond long line xs
accepted_as xs line out out' n true enough e w = cc
accepted_as xs line out out' n false false e w = cc
accepted_as xs line out out' n false true e w =
    let same : n ≡ length xs = cc in
    ap (take n) w ∙ take_at xs (drop (length xs) out) n (sym same)

pub copy_made : (s out out' : List ℕ) (n : ℕ) → Ok n ≡ marked_answer s out → out' ≡ marked_written s out → take n out' ≡ copy s
copy_made s out out' n e w = accepted_as (marked_note s) (refusal_line NoteTooLong) out out' n (too_long s) (leb (length (marked_note s)) (length out)) e w
