-- What holds of web spans, in words that do not retell the rules.
-- Assumes nothing.
use Rattle.std.specs.Prelude.{◌≡◌, ℕ, ◌+◌, ◌-◌, ◌<◌, ◌≤◌, Bool, true, false, not, ◌⊎◌, List, [], ◌∷◌, length, Some, codes, ◌≢◌, slice_index}
use Rattle.std.specs.List.{AllByRecursion}
use Rattle.text.specs.declared.spans.Span.{Span}
use Rattle.text.specs.declared.spans.SpanKind.{SpanKind}
use Rattle.text.specs.declared.spans.SpanKind.TheVariants.{Www, Protocol, Email, Mailto, Xmpp}
use Rattle.text.specs.Ascii.{reads}
use Rattle.text.specs.Bytes.{among, part}
use Rattle.characters.specs.Utf8.{character_at}
use Rattle.characters.specs.WhiteSpace.{white_space}
use Rattle.rules.specs.InTurn.{FoundInTurn, InTextOrder}
use Rattle.rules.specs.Web.{trail, unclosed, link_at, links}

-- what stands at the start of a span of this kind, in any case. No web span has a kind of mail
abbrev pub BeginsAs : SpanKind → List ℕ → ℕ → Type 0
BeginsAs Www s i = reads (codes "www.") (part i (i + 4) s) ≡ true
BeginsAs Protocol s i = (reads (codes "http://") (part i (i + 7) s) ≡ true) ⊎ (reads (codes "https://") (part i (i + 8) s) ≡ true)
BeginsAs Email s i = ⊥
BeginsAs Mailto s i = ⊥
BeginsAs Xmpp s i = ⊥

-- p holds at each place of x
abbrev pub Throughout : Span → (ℕ → Type 0) → Type 0
Throughout x p = (j : ℕ) → x.from ≤ j → j < x.to → p j

abbrev pub last_byte : List ℕ → Span → ℕ
last_byte s x = slice_index s (x.to - 1)

pub record WebSpan (member : ℕ → Bool) (s : List ℕ) (x : Span) : Type 0 where
  pub begins : BeginsAs x.kind s x.from
  pub within : x.to ≤ length s
  -- no character of it is white space, no byte of it is of a line ending, and none is `<`
  pub no_white_space : Throughout x (λ j. (c : ℕ) → character_at s j ≡ Some c → white_space c ≡ false)
  pub no_line_ending : Throughout x (λ j. among (13 ∷ 10 ∷ []) (slice_index s j) ≡ false)
  pub no_angle : Throughout x (λ j. slice_index s j ≢ 60)
  -- it does not end in a mark, and in `)` only where more `(` than `)` stand before that in the span
  pub no_mark_last : among (codes "!\"'*,.:;?_~]") (last_byte s x) ≡ false
  pub closing_last : last_byte s x ≡ 41 → unclosed (part x.from (x.to - 1) s) ≡ true
  -- what follows it is a trail, of which a `)` is no part while one could still close a `(` of the span
  pub then_a_trail : trail member (not (unclosed (part x.from x.to s))) s x.to ≡ true

-- of every note, with every punctuation set: its web spans are in text order, do not overlap and are not empty;
-- none is missed and none is added; and each of them is a web span as said above
pub record LawfulLinks (member : ℕ → Bool) (s : List ℕ) : Type 0 where
  pub in_text_order : InTextOrder 0 (links member s)
  pub in_turn : FoundInTurn (λ _. link_at member s) 0 (links member s)
  pub are_web_spans : AllByRecursion (WebSpan member s) (links member s)

abbrev pub WebSpansAreLawful : Type 0
WebSpansAreLawful = (member : ℕ → Bool) (s : List ℕ) → LawfulLinks member s
