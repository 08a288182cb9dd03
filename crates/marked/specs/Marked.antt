-- The marked copy of a note: a mark before each span that tells its kind, and one after it.
-- Assumes nothing.
use Rattle.std.specs.Prelude.{◌≡◌, ℕ, ◌+◌, ◌-◌, ◌*◌, ◌≤◌, cond, List, [], ◌∷◌, ◌++◌, length, take, drop, Err, Result}
use Rattle.text.specs.declared.refusals.Fault.{Fault}
use Rattle.text.specs.declared.refusals.Fault.TheVariants.{NoteTooLong}
use Rattle.text.specs.declared.spans.Span.{Span}
use Rattle.text.specs.declared.spans.SpanKind.{SpanKind}
use Rattle.text.specs.declared.spans.SpanKind.TheVariants.{Www, Protocol, Email, Mailto, Xmpp}
use Rattle.text.specs.Bytes.{part}
use Rattle.text.specs.Lent.{written_count, overwritten}
use Rattle.text.specs.Notes.{too_long}
use Rattle.rules.specs.Notes.{note_addresses}

-- w, p, e, m, x
abbrev pub letter_of : SpanKind → ℕ
letter_of Www = 119
letter_of Protocol = 112
letter_of Email = 101
letter_of Mailto = 109
letter_of Xmpp = 120

-- `{` and the letter of the kind
abbrev pub opening : SpanKind → List ℕ
opening kind = 123 ∷ letter_of kind ∷ []

-- `}`
abbrev pub closing : List ℕ
closing = 125 ∷ []

-- the bytes from i on, with the spans marked that lie there
abbrev pub marked_from : List ℕ → ℕ → List Span → List ℕ
marked_from s i [] = drop i s
marked_from s i (x ∷ xs) = part i x.from s ++ (opening x.kind ++ (part x.from x.to s ++ (closing ++ marked_from s x.to xs)))

abbrev pub marked_copy : List ℕ → List Span → List ℕ
marked_copy s xs = marked_from s 0 xs

-- of a note and its mail addresses
abbrev pub marked_note : List ℕ → List ℕ
marked_note s = marked_copy s (note_addresses s)

-- what the call answers, and what the lent slice holds then
abbrev pub marked_answer : List ℕ → List ℕ → Result ℕ Fault
marked_answer s lent = cond (too_long s) (Err NoteTooLong) (written_count (marked_note s) lent)

abbrev pub marked_written : List ℕ → List ℕ → List ℕ
marked_written s lent = cond (too_long s) lent (overwritten (marked_note s) lent)

-- ---- laws

-- a copy without the marks of the spans: t is what is left of it, from the byte i of the note on
abbrev pub unmarked_from : ℕ → List Span → List ℕ → List ℕ
unmarked_from i [] t = t
unmarked_from i (x ∷ xs) t =
    take (x.from - i) t
    ++ (take (x.to - x.from) (drop (x.from - i + 2) t)
    ++ unmarked_from x.to xs (drop (x.to - x.from + 1) (drop (x.from - i + 2) t)))

abbrev pub unmarked : List Span → List ℕ → List ℕ
unmarked xs t = unmarked_from 0 xs t

-- the copy has three bytes more for each span, and without its marks it is the note
pub record OnlyMarks (s : List ℕ) (xs : List Span) : Type 0 where
  pub size : length (marked_copy s xs) ≡ length s + 3 * length xs
  pub only_marks : unmarked xs (marked_copy s xs) ≡ s

-- no address has fewer than five bytes; the copy has three bytes more for each address, and without its marks it is the note
pub record Faithful (s : List ℕ) : Type 0 where
  pub few : 5 * length (note_addresses s) ≤ length s
  pub size : length (marked_note s) ≡ length s + 3 * length (note_addresses s)
  pub only_marks : unmarked (note_addresses s) (marked_note s) ≡ s
