-- Scripts, read from the middle on.
-- Assumes nothing.
use Rattle.std.proofs.Common.{◌≡◌, ℕ, ◌+◌, ◌<◌, List, [], ◌∷◌, ◌++◌, map, length, get_or, drop, Some, None, Ok, Err, Option, Result, refl, sym, ap, ◌∙◌, subst, append_assoc, add-one, drop-cons, arith}
use denote.Ref.{Bor}
use Rattle.std.proofs.lemmas.List.{get_or-map, length-map, map-append}
use Rattle.calls.specs.declared.scripts.Call.{Call}
use Rattle.scripts.specs.declared.commands.Line.{Line}
use Rattle.scripts.specs.declared.commands.OwnedCall.{OwnedCall}
use Rattle.scripts.specs.declared.errors.Expected.{Expected}
use Rattle.scripts.specs.Commands.{meant_line}
use Rattle.scripts.specs.Lines.{line_of}
use Rattle.scripts.specs.declared.errors.ScriptError.{ScriptError}
use Rattle.scripts.specs.declared.errors.ScriptError.TheVariants.{Unreadable, OutOfMemory}
use Rattle.scripts.specs.Scripts.{Script, in_front, then_script, script_from, SaysLine, SaysScript}

-- lines that are read already, before those that follow
abbrev pub behind : List (Line Call) → Script → Script
behind read (Ok ls) = Ok (read ++ ls)
behind read (Err refusal) = Err refusal

pub behind_none : (s : Script) → behind [] s ≡ s
behind_none (Ok ls) = refl
behind_none (Err refusal) = refl

pub behind_one : (read : List (Line Call)) (l : Line Call) (s : Script) → behind read (in_front l s) ≡ behind (read ++ l ∷ []) s
behind_one read l (Ok ls) = ap (λ x. Ok x) (sym (append_assoc read (l ∷ []) ls))
behind_one read l (Err refusal) = refl

-- the script from line i + 1 on begins with that line
pub script_step : (ls : List (List ℕ)) (i : ℕ) → i < length ls → script_from (i + 1) (drop i ls) ≡ then_script (i + 1) (line_of (get_or ls i [])) (script_from (i + 1 + 1) (drop (i + 1) ls))
script_step ls i lt = ap (script_from (i + 1)) (drop-cons ls i [] lt) ∙ ap (λ n. then_script (i + 1) (line_of (get_or ls i [])) (script_from (i + 1 + 1) (drop n ls))) (sym (add-one i))

-- ---- a loan of a line

pub is_line : (loans : List (Bor (List ℕ))) (ls : List (List ℕ)) (i : ℕ) (d : Bor (List ℕ)) → map (λ (l : Bor (List ℕ)). l.now) loans ≡ ls → i < length loans → (i < length ls) × (get_or ls i [] ≡ (get_or loans i d).now)
is_line loans ls i d are lt =
    let now : Bor (List ℕ) → List ℕ = λ l. l.now in (
      subst (λ (xs : List (List ℕ)). i < length xs) are (omega (arith, length-map loans now)),
      ap (λ (xs : List (List ℕ)). get_or xs i []) (sym are) ∙ get_or-map now loans i d [] lt,
    )

-- ---- one line more

more_as : (read : List (Line OwnedCall)) (x : Line OwnedCall) (rest : Script) → behind (map meant_line (read ++ x ∷ [])) rest ≡ behind (map meant_line read) (in_front (meant_line x) rest)
more_as read x rest = ap (λ ls. behind ls rest) (map-append meant_line read (x ∷ [])) ∙ sym (behind_one (map meant_line read) (meant_line x) rest)

step_is : (ls : List (List ℕ)) (i : ℕ) (r : Result (Option (Line Call)) Expected) → i < length ls → line_of (get_or ls i []) ≡ r → script_from (i + 1) (drop i ls) ≡ then_script (i + 1) r (script_from (i + 1 + 1) (drop (i + 1) ls))
step_is ls i r lt is = script_step ls i lt ∙ ap (λ x. then_script (i + 1) x (script_from (i + 1 + 1) (drop (i + 1) ls))) is

pub says_more : (ls : List (List ℕ)) (i : ℕ) (read : List (Line OwnedCall)) (x : Line OwnedCall) (whole : Script) → i < length ls → line_of (get_or ls i []) ≡ Ok (Some (meant_line x)) → behind (map meant_line read) (script_from (i + 1) (drop i ls)) ≡ whole → behind (map meant_line (read ++ x ∷ [])) (script_from (i + 1 + 1) (drop (i + 1) ls)) ≡ whole
says_more ls i read x whole lt is so = more_as read x _ ∙ ap (behind (map meant_line read)) (sym (step_is ls i _ lt is)) ∙ so

pub says_nothing : (ls : List (List ℕ)) (i : ℕ) (read : List (Line Call)) (whole : Script) → i < length ls → line_of (get_or ls i []) ≡ Ok None → behind read (script_from (i + 1) (drop i ls)) ≡ whole → behind read (script_from (i + 1 + 1) (drop (i + 1) ls)) ≡ whole
says_nothing ls i read whole lt is so = ap (behind read) (sym (step_is ls i _ lt is)) ∙ so

says_no : (ls : List (List ℕ)) (i : ℕ) (read : List (Line Call)) (e : Expected) (whole : Script) → i < length ls → line_of (get_or ls i []) ≡ Err e → behind read (script_from (i + 1) (drop i ls)) ≡ whole → whole ≡ Err (i + 1, e)
says_no ls i read e whole lt is so = sym so ∙ ap (behind read) (step_is ls i _ lt is)

pub says_err : (ls : List (List ℕ)) (i : ℕ) (read : List (Line Call)) (e : ScriptError) (whole : Script) → i < length ls → SaysLine (i + 1) (Err e) (line_of (get_or ls i [])) → behind read (script_from (i + 1) (drop i ls)) ≡ whole → SaysScript (Err e) whole
says_err ls i read (Unreadable k e) whole lt is so = says_no ls i read e whole lt is.1 so ∙ ap (λ n. Err (n, e)) (sym is.0)
says_err ls i read OutOfMemory whole lt is so = tt
