-- The line of a call says this call.
-- Assumes nothing.
use Rattle.std.proofs.Common.{◌≡◌, ℕ, ◌^◌, ◌<◌, List, [], ◌∷◌, ◌++◌, Some, Ok, Result, decimal, refl, sym, ap, ◌∙◌, append-nil}
use Rattle.calls.specs.declared.scripts.Call.{Call}
use Rattle.calls.specs.declared.scripts.Call.TheVariants as call
use Rattle.scripts.specs.declared.commands.Line.{Line}
use Rattle.scripts.specs.declared.commands.Line.TheVariants as line
use Rattle.scripts.specs.declared.errors.Expected.{Expected}
use Rattle.scripts.specs.Commands.{loan}
use Rattle.scripts.specs.Lines.{and_then, map_ok, one_number, two_numbers}
use Rattle.scripts.specs.ReadingBack.{CallsReadBack}
use Rattle.scripts.specs.Words.{ended}
use Rattle.scripts.proofs.NumbersBack.{number_back}
use Rattle.scripts.proofs.QuotesBack.{note_back}

one_back : (n : ℕ) → n < 2 ^ 64 → one_number (32 ∷ decimal n) ≡ Ok n
one_back n small =
    ap (λ t. one_number (32 ∷ t)) (sym (append-nil (decimal n)))
    ∙ ap (λ r. and_then r (λ (k : ℕ × List ℕ). map_ok (λ _. k.0) (ended k.1))) (number_back n [] small tt)

two_back : (m n : ℕ) → m < 2 ^ 64 → n < 2 ^ 64 → two_numbers (32 ∷ (decimal m ++ (32 ∷ decimal n))) ≡ Ok (m, n)
two_back m n small also =
    ap (λ r. and_then r (λ (k : ℕ × List ℕ). map_ok (λ (l : ℕ). (k.0, l)) (one_number k.1))) (number_back m (32 ∷ decimal n) small refl)
    ∙ ap (map_ok (λ (l : ℕ). (m, l))) (one_back n also)

-- what a keyword asks for is what its line asks for
abbrev asked : {A : Type 0} → (A → Call) → Result A Expected → Result (Line Call) Expected
asked f = map_ok (λ a. line.Call (f a))

pub calls_read_back : CallsReadBack
calls_read_back (call.Load note) held = ap (λ r. map_ok Some (asked (λ (n : List ℕ). call.Load (loan n)) r)) (note_back note.now held)
calls_read_back (call.Push to allowance) held = ap (λ r. map_ok Some (asked (λ (n : ℕ × ℕ). call.Push n.0 n.1) r)) (two_back to allowance held.0 held.1)
calls_read_back (call.End allowance) held = ap (λ r. map_ok Some (asked call.End r)) (one_back allowance held)
calls_read_back (call.Link first last) held = ap (λ r. map_ok Some (asked (λ (n : ℕ × ℕ). call.Link n.0 n.1) r)) (two_back first last held.0 held.1)
calls_read_back call.Resolve held = refl
calls_read_back call.Clear held = refl
