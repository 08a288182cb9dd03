-- The saved list of spans: for each its kind, the gap before it, and its length. And how a saved list is read.
-- Assumes nothing.
use Rattle.std.specs.Prelude.{ℕ, zero, suc, ◌+◌, ◌-◌, cond, List, [], ◌∷◌, ◌++◌, length, Some, None, Option, ◌==◌}
use Rattle.std.specs.Option.{option_map, option_and_then}
use Rattle.text.specs.declared.spans.Span.{Span}
use Rattle.text.specs.declared.spans.SpanKind.{SpanKind}
use Rattle.text.specs.declared.spans.SpanKind.TheVariants.{Www, Protocol, Email, Mailto, Xmpp}
use Rattle.machine.specs.Laws.{kind_number}
use Rattle.written.specs.Numbers.{number, read_number}

-- the three numbers of a span, where the span before it ends at `end`
abbrev pub saved_span : ℕ → Span → List ℕ
saved_span end x = number (kind_number x.kind) ++ (number (x.from - end) ++ number (x.to - x.from))

abbrev pub saved_from : ℕ → List Span → List ℕ
saved_from end [] = []
saved_from end (x ∷ xs) = saved_span end x ++ saved_from x.to xs

-- the gap of the first span counts from the start of the note
abbrev pub saved_list : List Span → List ℕ
saved_list xs = saved_from 0 xs

-- ---- reading

abbrev pub read_kind : ℕ → Option SpanKind
read_kind n =
    cond (n == 0) (Some Www) (cond (n == 1) (Some Protocol) (cond (n == 2) (Some Email) (cond (n == 3) (Some Mailto) (cond (n == 4) (Some Xmpp) None))))

abbrev pub span_read : ℕ → SpanKind → ℕ → ℕ → Span
span_read end kind gap size = record { kind = kind; from = end + gap; to = end + gap + size }

-- the span at the front, and what follows it
abbrev pub read_span : ℕ → List ℕ → Option (Span × List ℕ)
read_span end bytes =
    option_and_then
    (λ kind.
    option_and_then
    (λ gap. option_and_then (λ size. option_map (λ k. (span_read end k gap.0 size.0, size.1)) (read_kind kind.0)) (read_number gap.1))
    (read_number kind.1))
    (read_number bytes)

-- at most n spans; none where the bytes are no saved list
abbrev pub read_spans : ℕ → ℕ → List ℕ → Option (List Span)
read_spans zero end [] = Some []
read_spans zero end (b ∷ bs) = None
read_spans (suc n) end [] = Some []
read_spans (suc n) end (b ∷ bs) = option_and_then (λ r. option_map (λ xs. r.0 ∷ xs) (read_spans n r.0.to r.1)) (read_span end (b ∷ bs))

-- no saved list has more spans than bytes
abbrev pub read_list : List ℕ → Option (List Span)
read_list bytes = read_spans (length bytes) 0 bytes
