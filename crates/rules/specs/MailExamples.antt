-- Data to try the mail rules on, with the addresses in it.
-- Assumes nothing.
use Rattle.std.specs.Prelude.{◌≡◌, ℕ, List, [], ◌∷◌, map, codes, slice_index_or}
use Rattle.text.specs.declared.spans.Span.{Span}
use Rattle.text.specs.declared.spans.SpanKind.{SpanKind}
use Rattle.text.specs.declared.spans.SpanKind.TheVariants.{Email, Mailto, Xmpp}
use Rattle.rules.specs.Mail.{addresses}

pub record Example : Type 0 where
  pub bytes : List ℕ
  pub spans : List Span

abbrev none : List ℕ → Example
none s = record { bytes = s; spans = [] }

abbrev one : List ℕ → SpanKind → ℕ → ℕ → Example
one s kind from to = record { bytes = s; spans = record { kind = kind; from = from; to = to } ∷ [] }

abbrev pub examples : List Example
examples =
    -- a letter last, and the dot that ends a sentence
    none (codes "a@b.c1") ∷
    one (codes "a@b.c.") Email 0 5 ∷
    -- a slash before, and a dot at the start of the domain
    none (codes "x/a@b.c") ∷
    none (codes "a@.b") ∷
    -- the resource of an Xmpp address
    one (codes "xmpp:a@b.c/") Xmpp 0 10 ∷
    one (codes "xmpp:a@b.c/d") Xmpp 0 12 ∷
    one (codes "xmpp:a@b.c/d/e") Xmpp 0 12 ∷
    one (codes "xmpp:a@b.c/d@e") Xmpp 0 14 ∷
    -- after an address the next one starts at its end, and has no local part here
    one (codes "a@b.c@d.e") Email 0 5 ∷
    -- letters that also begin a web address
    one (codes "hello@world.com") Email 0 15 ∷
    -- bytes before the address
    one (9 ∷ codes "c@d.e") Email 1 6 ∷
    -- the names of schemes in any case, and another name
    one (codes "(MailTo:a@b.c)") Mailto 1 13 ∷
    one (codes "see:a@b.c") Email 4 9 ∷
    none (codes "@") ∷
    none [] ∷
    []

abbrev pub example : ℕ → Example
example rank = slice_index_or examples rank (none [])

-- the addresses of each are those listed
abbrev pub EveryExampleComesOut : Type 0
EveryExampleComesOut = map (λ e. addresses e.bytes) examples ≡ map (λ e. e.spans) examples
