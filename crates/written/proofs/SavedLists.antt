-- A saved list reads back as the spans that it was made from.
-- Assumes nothing.
use Rattle.std.proofs.Common.{◌≡◌, ℕ, zero, suc, ◌+◌, ◌-◌, ◌<◌, ◌≤◌, List, [], ◌∷◌, ◌++◌, length, Some, Option, refl, ap, ◌∙◌, arith}
use Rattle.std.specs.Option.{option_map, option_and_then}
use Rattle.std.proofs.lemmas.List.{append_assoc, length-append}
use Rattle.text.specs.declared.spans.Span.{Span}
use Rattle.text.specs.declared.spans.SpanKind.{SpanKind}
use Rattle.text.specs.declared.spans.SpanKind.TheVariants.{Www, Protocol, Email, Mailto, Xmpp}
use Rattle.machine.specs.Laws.{kind_number}
use Rattle.marked.specs.Marks.{IsInTurn}
use Rattle.written.specs.Numbers.{number, read_number}
use Rattle.written.specs.SavedLists.{saved_span, saved_from, saved_list, read_kind, span_read, read_span, read_spans, read_list}
use Rattle.written.proofs.Groups.{number_some, read-small}

kinds : (kind : SpanKind) → read_kind (kind_number kind) ≡ Some kind
kinds Www = refl
kinds Protocol = refl
kinds Email = refl
kinds Mailto = refl
kinds Xmpp = refl

kind_small : (kind : SpanKind) → kind_number kind ≤ 1024
kind_small Www = omega arith
kind_small Protocol = omega arith
kind_small Email = omega arith
kind_small Mailto = omega arith
kind_small Xmpp = omega arith

read-saved : (end : ℕ) (x : Span) (more : List ℕ) → end ≤ x.from → x.from ≤ x.to → x.to ≤ 1024 → read_span end (saved_span end x ++ more) ≡ Some (x, more)
read-saved end x more low forward high =
    let A = number (kind_number x.kind) in
    let B = number (x.from - end) in
    let C = number (x.to - x.from) in
    let apart : (A ++ (B ++ C)) ++ more ≡ A ++ (B ++ (C ++ more)) = append_assoc A (B ++ C) more ∙ ap (λ l. A ++ l) (append_assoc B C more) in
    let from : end + (x.from - end) ≡ x.from = omega arith in
    let to : end + (x.from - end) + (x.to - x.from) ≡ x.to = omega arith in
    let third : ℕ × List ℕ → ℕ × List ℕ → Option (Span × List ℕ) = λ gap size. option_map (λ k. (span_read end k gap.0 size.0, size.1)) (Some x.kind) in
    ap (read_span end) apart
    ∙ ap (option_and_then (λ kind. option_and_then (λ gap. option_and_then (λ size. option_map (λ k. (span_read end k gap.0 size.0, size.1)) (read_kind kind.0)) (read_number gap.1)) (read_number kind.1))) (read-small (kind_number x.kind) (B ++ (C ++ more)) (kind_small x.kind))
    ∙ ap (option_and_then (λ gap. option_and_then (λ size. option_map (λ k. (span_read end k gap.0 size.0, size.1)) (read_kind (kind_number x.kind))) (read_number gap.1))) (read-small (x.from - end) (C ++ more) (omega arith))
    ∙ ap (option_and_then (λ size. option_map (λ k. (span_read end k (x.from - end) size.0, size.1)) (read_kind (kind_number x.kind)))) (read-small (x.to - x.from) more (omega arith))
    ∙ ap (option_map (λ k. (span_read end k (x.from - end) (x.to - x.from), more))) (kinds x.kind)
    ∙ (λ i. Some (record { kind = x.kind; from = from i; to = to i }, more))

-- where there are bytes, a span is read
read_more : (n end : ℕ) (bytes : List ℕ) → 0 < length bytes → read_spans (suc n) end bytes ≡ option_and_then (λ r. option_map (λ xs. r.0 ∷ xs) (read_spans n r.0.to r.1)) (read_span end bytes)
read_more n end [] some = absurd (omega arith)
read_more n end (b ∷ bs) some = refl

span_some : (end : ℕ) (x : Span) → 0 < length (saved_span end x)
span_some end x =
    omega (arith, length-append (number (kind_number x.kind)) (number (x.from - end) ++ number (x.to - x.from)), number_some (kind_number x.kind))

read_from : (n end : ℕ) (xs : List Span) → IsInTurn end 1024 xs → length (saved_from end xs) ≤ n → read_spans n end (saved_from end xs) ≡ Some xs
read_from zero end [] t le = refl
read_from (suc n) end [] t le = refl
read_from zero end (x ∷ xs) t le = absurd (omega (arith, length-append (saved_span end x) (saved_from x.to xs), span_some end x))
read_from (suc n) end (x ∷ xs) t le =
    let size = length-append (saved_span end x) (saved_from x.to xs) in
    let some = span_some end x in
    let rest : length (saved_from x.to xs) ≤ n = omega arith in
    let all : 0 < length (saved_span end x ++ saved_from x.to xs) = omega arith in
    read_more n end (saved_span end x ++ saved_from x.to xs) all
    ∙ ap (option_and_then (λ r. option_map (λ ys. r.0 ∷ ys) (read_spans n r.0.to r.1))) (read-saved end x (saved_from x.to xs) t.0 t.1 t.2)
    ∙ ap (option_map (λ ys. x ∷ ys)) (read_from n x.to xs t.3 rest)

pub read_back : (xs : List Span) → IsInTurn 0 1024 xs → read_list (saved_list xs) ≡ Some xs
read_back xs t = read_from (length (saved_list xs)) 0 xs t (omega arith)
