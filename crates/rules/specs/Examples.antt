-- Some notes, and the web spans and mail addresses in them; some cuts into segments, and some trails.
-- Assumes nothing.
use Rattle.std.specs.Prelude.{◌≡◌, ℕ, Bool, true, false, List, [], ◌∷◌, ◌++◌, codes}
use Rattle.std.specs.List.{AllByRecursion}
use Rattle.text.specs.declared.spans.Span.{Span}
use Rattle.text.specs.declared.spans.SpanKind.{SpanKind}
use Rattle.text.specs.declared.spans.SpanKind.TheVariants.{Www, Protocol, Email, Mailto, Xmpp}
use Rattle.punctuation.specs.RangeLists.{house}
use Rattle.punctuation.specs.Sets.{nothing}
use Rattle.rules.specs.Segments.{Data, LineEnding, Web, Segment, segment, segments, note_spans}
use Rattle.rules.specs.Web.{trail}

-- with each of these punctuation sets the note has these spans
pub record Example : Type 0 where
  pub sets : List (ℕ → Bool)
  pub note : List ℕ
  pub spans : List Span

abbrev pub ComesOut : Example → Type 0
ComesOut x = AllByRecursion (λ set. note_spans set x.note ≡ x.spans) x.sets

abbrev pub with_house_set : List ℕ → List Span → Example
with_house_set note spans = record { sets = house ∷ []; note = note; spans = spans }

abbrev pub with_empty_set : List ℕ → List Span → Example
with_empty_set note spans = record { sets = nothing ∷ []; note = note; spans = spans }

abbrev pub with_both_sets : List ℕ → List Span → Example
with_both_sets note spans = record { sets = house ∷ nothing ∷ []; note = note; spans = spans }

abbrev pub span : SpanKind → ℕ → ℕ → Span
span kind from to = record { kind = kind; from = from; to = to }

abbrev pub one : SpanKind → ℕ → ℕ → List Span
one kind from to = span kind from to ∷ []

abbrev pub none : List Span
none = []

-- what a new reader should try first
abbrev pub notes_to_try : List Example
notes_to_try =
    with_both_sets [] none ∷
    with_both_sets (codes "www.") none ∷
    with_both_sets (codes "www. ") (one Www 0 3) ∷
    with_both_sets (codes "www.a/(b)") (one Www 0 9) ∷
    with_both_sets (codes "www.a/(b))") (one Www 0 9) ∷
    with_both_sets (codes "www.a(b.)") (one Www 0 9) ∷
    with_both_sets (codes "www.a](b)") (one Www 0 5) ∷
    with_house_set (codes "http://" ++ 0xE2 ∷ 0x80 ∷ 0x94 ∷ []) none ∷
    with_empty_set (codes "http://" ++ 0xE2 ∷ 0x80 ∷ 0x94 ∷ []) (one Protocol 0 10) ∷
    with_both_sets (codes "www.a_b.c") none ∷
    with_both_sets (codes "www.a_b.c.d") (one Www 0 11) ∷
    with_both_sets (codes "www.a&amp;") (one Www 0 5) ∷
    with_both_sets (codes "ahttp://b") none ∷
    with_both_sets (codes "a www.b") (one Www 2 7) ∷
    with_both_sets (codes "a@b.c1") none ∷
    with_both_sets (codes "a@b.c.") (one Email 0 5) ∷
    with_both_sets (codes "x/a@b.c") none ∷
    with_both_sets (codes "a@.b") none ∷
    with_both_sets (codes "xmpp:a@b.c/") (one Xmpp 0 10) ∷
    with_both_sets (codes "xmpp:a@b.c/d") (one Xmpp 0 12) ∷
    with_both_sets (codes "xmpp:a@b.c/d/e") (one Xmpp 0 12) ∷
    with_both_sets (codes "xmpp:a@b.c/d@e") (one Xmpp 0 14) ∷
    with_both_sets (codes "a@b.c@d.e") (one Email 0 5) ∷
    with_both_sets (0x09 ∷ codes "c@d.e") (one Email 1 6) ∷
    with_both_sets (codes "hello@world.com") (one Email 0 15) ∷
    -- from two service notes: a parenthesis that belongs to the address, and a mailbox whose name makes no address
    with_both_sets (codes "see www.clock.example/(rev-b).") (one Www 4 29) ∷
    with_both_sets (codes "Write to rtc@stores.bay4.") none ∷
    []

-- where a Www begins
abbrev pub www_examples : List Example
www_examples =
    with_both_sets (codes "www.a") (one Www 0 5) ∷
    with_both_sets (codes "WwW.A") (one Www 0 5) ∷
    with_both_sets (codes "(www.a)") (one Www 1 6) ∷
    with_both_sets (codes "[www.a") (one Www 1 6) ∷
    with_both_sets (codes "]www.a") (one Www 1 6) ∷
    with_both_sets (codes "*www.a") (one Www 1 6) ∷
    with_both_sets (codes "_www.a") (one Www 1 6) ∷
    with_both_sets (codes "~www.a") (one Www 1 6) ∷
    with_both_sets (0x09 ∷ codes "www.a") (one Www 1 6) ∷
    with_both_sets (0x0A ∷ codes "www.a") (one Www 1 6) ∷
    with_both_sets (codes "a" ++ 0x0D ∷ 0x0A ∷ codes "www.b") (one Www 3 8) ∷
    with_both_sets (codes "a" ++ 0x0D ∷ codes "www.b") (one Www 2 7) ∷
    with_both_sets (codes "xwww.a") none ∷
    with_both_sets (codes "/www.a") none ∷
    with_both_sets (0x0C ∷ codes "www.a") none ∷
    []

-- where a Protocol begins
abbrev pub protocol_examples : List Example
protocol_examples =
    with_both_sets (codes "http://a") (one Protocol 0 8) ∷
    with_both_sets (codes "https://a") (one Protocol 0 9) ∷
    with_both_sets (codes "HTTP://a") (one Protocol 0 8) ∷
    with_both_sets (codes "1http://b") (one Protocol 1 9) ∷
    with_both_sets (codes "/http://a.b") (one Protocol 1 11) ∷
    with_both_sets (codes "http:/a") none ∷
    with_both_sets (codes "http:///a") none ∷
    []

-- the domain of a web span
abbrev pub domain_examples : List Example
domain_examples =
    with_both_sets (codes "http://a_b") none ∷
    with_both_sets (codes "http://a_") (one Protocol 0 8) ∷
    with_both_sets (codes "http://-.-") none ∷
    with_both_sets (codes "http://-a") (one Protocol 0 9) ∷
    with_both_sets (codes "http://a..b") (one Protocol 0 11) ∷
    with_both_sets (codes "http://" ++ 0x01 ∷ []) (one Protocol 0 8) ∷
    with_both_sets (codes "http://" ++ 0xC3 ∷ 0xA9 ∷ []) (one Protocol 0 9) ∷
    with_both_sets (codes "http://" ++ 0x80 ∷ []) none ∷
    []

-- the path of a web span
abbrev pub path_examples : List Example
path_examples =
    with_both_sets (codes "www.a(b.") (one Www 0 7) ∷
    with_both_sets (codes "www.a)") (one Www 0 5) ∷
    with_both_sets (codes "www.a]b") (one Www 0 7) ∷
    with_both_sets (codes "www.a&amp;b") (one Www 0 11) ∷
    with_both_sets (codes "www.a&b1;") (one Www 0 8) ∷
    with_both_sets (codes "www.a/b.c.") (one Www 0 9) ∷
    with_both_sets (codes "www.a/b\"?! c") (one Www 0 7) ∷
    with_both_sets (codes "www.a/<b") (one Www 0 6) ∷
    with_both_sets (codes "www.a/b!',*:;?_~]") (one Www 0 7) ∷
    with_both_sets (codes "www.a][b") (one Www 0 5) ∷
    with_both_sets (codes "www.a/b" ++ 0xC2 ∷ 0xA0 ∷ codes "c") (one Www 0 7) ∷
    with_both_sets (codes "www.a/b" ++ 0xE2 ∷ 0x80 ∷ 0x94 ∷ []) (one Www 0 10) ∷
    []

-- which web spans are taken
abbrev pub turn_examples : List Example
turn_examples =
    with_both_sets (codes "www.a www.b") (span Www 0 5 ∷ span Www 6 11 ∷ []) ∷
    with_both_sets (codes "http://a/www.b") (one Protocol 0 14) ∷
    with_both_sets (codes "www.a_b.http://c") (one Protocol 8 16) ∷
    with_both_sets (codes "http://a@b.c") (one Protocol 0 12) ∷
    []

-- where a mail address starts
abbrev pub local_examples : List Example
local_examples =
    with_both_sets (codes "a@b.c") (one Email 0 5) ∷
    with_both_sets (codes "a.b-c_d+1@e.f") (one Email 0 13) ∷
    with_both_sets (codes ".@b.c") (one Email 0 5) ∷
    with_both_sets (codes ",a@b.c") (one Email 1 6) ∷
    with_both_sets (codes "@b.c") none ∷
    with_both_sets (codes " @b.c") none ∷
    with_both_sets (codes "/ a@b.c") (one Email 2 7) ∷
    with_both_sets (codes "/" ++ 0x0A ∷ codes "a@b.c") (one Email 2 7) ∷
    with_both_sets (codes "www.a.b<c@d.e") (span Www 0 7 ∷ span Email 8 13 ∷ []) ∷
    []

-- which kind it has
abbrev pub scheme_examples : List Example
scheme_examples =
    with_both_sets (codes "mailto:a@b.c") (one Mailto 0 12) ∷
    with_both_sets (codes "MailTo:a@b.c") (one Mailto 0 12) ∷
    with_both_sets (codes "XMPP:a@b.c") (one Xmpp 0 10) ∷
    with_both_sets (codes "xmailto:a@b.c") (one Email 8 13) ∷
    with_both_sets (codes "1xmpp:a@b.c") (one Email 6 11) ∷
    with_both_sets (codes "+xmpp:a@b.c") (one Xmpp 1 11) ∷
    with_both_sets (codes "/mailto:a@b.c") (one Mailto 1 13) ∷
    with_both_sets (codes "http:a@b.c") (one Email 5 10) ∷
    with_both_sets (codes ":a@b.c") (one Email 1 6) ∷
    []

-- its domain
abbrev pub mail_domain_examples : List Example
mail_domain_examples =
    with_both_sets (codes "a@b.c. d") (one Email 0 5) ∷
    with_both_sets (codes "a@b.c..d") (one Email 0 5) ∷
    with_both_sets (codes "a@b") none ∷
    with_both_sets (codes "a@b.") none ∷
    with_both_sets (codes "a@b.1c") (one Email 0 6) ∷
    with_both_sets (codes "a@b.c-d") (one Email 0 7) ∷
    with_both_sets (codes "a@b_c.d") (one Email 0 7) ∷
    with_both_sets (codes "a@b.c-") none ∷
    with_both_sets (codes "a@b.c_") none ∷
    with_both_sets (codes "a@b.-c") none ∷
    with_both_sets (codes "a@b.c" ++ 0xC3 ∷ 0xA9 ∷ []) (one Email 0 5) ∷
    []

-- where it ends
abbrev pub resource_examples : List Example
resource_examples =
    with_both_sets (codes "xmpp:a@b.c/d@e.f") (one Xmpp 0 16) ∷
    with_both_sets (codes "xmpp:a@b.c/d.") (one Xmpp 0 12) ∷
    with_both_sets (codes "xmpp:a@b.c/1") (one Xmpp 0 12) ∷
    with_both_sets (codes "xmpp:a@b.c/@") (one Xmpp 0 12) ∷
    with_both_sets (codes "xmpp:a@b.c/d-e") (one Xmpp 0 12) ∷
    with_both_sets (codes "xmpp:a@b.c1/d") none ∷
    with_both_sets (codes "a@b.c/d") (one Email 0 5) ∷
    with_both_sets (codes "mailto:a@b.c/d") (one Mailto 0 12) ∷
    []

-- one mail address after another
abbrev pub mail_turn_examples : List Example
mail_turn_examples =
    with_both_sets (codes "a@b@c.d") (one Email 2 7) ∷
    with_both_sets (codes "a@b.c d@e.f") (span Email 0 5 ∷ span Email 6 11 ∷ []) ∷
    with_both_sets (codes "a@b.c+d@e.f") (span Email 0 5 ∷ span Email 5 11 ∷ []) ∷
    with_both_sets (codes "a@b.c/d@e.f") (one Email 0 5) ∷
    with_both_sets (codes "a@b.c:d@e.f") (span Email 0 5 ∷ span Email 6 11 ∷ []) ∷
    []

abbrev pub tables : List (List Example)
tables =
    notes_to_try ∷
    www_examples ∷
    protocol_examples ∷
    domain_examples ∷
    path_examples ∷
    turn_examples ∷
    local_examples ∷
    scheme_examples ∷
    mail_domain_examples ∷
    resource_examples ∷
    mail_turn_examples ∷
    []

abbrev pub EveryExampleComesOut : Type 0
EveryExampleComesOut = AllByRecursion (AllByRecursion ComesOut) tables

-- ---- segments

-- with the house set the note is cut so
pub record CutExample : Type 0 where
  pub note : List ℕ
  pub cut : List Segment

abbrev pub cuts_into : List ℕ → List Segment → CutExample
cuts_into note cut = record { note = note; cut = cut }

abbrev pub cut_examples : List CutExample
cut_examples =
    cuts_into [] [] ∷
    cuts_into (codes "a" ++ 0x0D ∷ 0x0A ∷ codes "b") (segment Data 0 1 ∷ segment LineEnding 1 3 ∷ segment Data 3 4 ∷ []) ∷
    cuts_into (0x0D ∷ 0x0D ∷ 0x0A ∷ []) (segment LineEnding 0 1 ∷ segment LineEnding 1 3 ∷ []) ∷
    cuts_into (0x0A ∷ 0x0D ∷ []) (segment LineEnding 0 1 ∷ segment LineEnding 1 2 ∷ []) ∷
    cuts_into (codes "a www.b") (segment Data 0 2 ∷ segment (Web Www) 2 7 ∷ []) ∷
    cuts_into (codes "how who") (segment Data 0 7 ∷ []) ∷
    []

abbrev pub EveryCutComesOut : Type 0
EveryCutComesOut = AllByRecursion (λ (x : CutExample). segments house x.note ≡ x.cut) cut_examples

-- ---- trails

-- whether the bytes begin with a trail, where `)` is an item
abbrev pub trail_examples : List (List ℕ × Bool)
trail_examples =
    ([], true) ∷
    (codes "<b", true) ∷
    (codes ".", true) ∷
    (codes ".)\" ", true) ∷
    (codes ".a", false) ∷
    (codes "&amp;", true) ∷
    (codes "&amp;&lt;.", true) ∷
    (codes "&;", false) ∷
    (codes "&b1;", false) ∷
    (codes "](b", true) ∷
    (codes "].(b", false) ∷
    (codes "(b", false) ∷
    (codes "]b", false) ∷
    (codes "." ++ 0xE2 ∷ 0x80 ∷ 0x94 ∷ [], false) ∷
    []

abbrev pub EveryTrailComesOut : Type 0
EveryTrailComesOut = AllByRecursion (λ (x : List ℕ × Bool). trail house true x.0 0 ≡ x.1) trail_examples
