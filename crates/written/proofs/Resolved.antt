-- The written spans of resolved events lie in turn in the note, and are few.
-- Assumes nothing.
use Rattle.std.proofs.Common.{◌≡◌, ℕ, ◌+◌, ◌*◌, ◌<◌, ◌≤◌, Bool, true, cond, not, ltb, leb, List, [], ◌∷◌, ◌++◌, map, filter, length, take, drop, replicate, sym, refl, ap, ◌∙◌, subst, ⊎_elim, arith}
use mathlib.Core.Bool.{Bool-set}
use mathlib.Core.Logic.{∥∥₁_elim, ∥∥₁_map}
use native.Mathlib.Bridge.{le_prop}
use Rattle.std.specs.List.{AllByRecursion}
use Rattle.std.proofs.lemmas.Bool.{cases_Bool, cond-true, and_parts, ltb-true, leb-true, le-leb, true≢false}
use Rattle.std.proofs.lemmas.List.{length-append, take_at}
use Rattle.text.specs.declared.spans.Span.{Span}
use Rattle.text.specs.declared.spans.SpanKind.TheVariants.{Www, Protocol, Email, Mailto, Xmpp}
use Rattle.text.specs.Lent.{fits, overwritten}
use Rattle.machine.specs.declared.events.Event.{Event}
use Rattle.machine.specs.declared.events.EventKind.{EventKind}
use Rattle.machine.specs.declared.events.EventKind.TheVariants.{Enter, Exit}
use Rattle.machine.specs.declared.events.Name.{Name}
use Rattle.machine.specs.declared.events.Name.TheVariants as name
use Rattle.machine.specs.Laws.{Segment, same_name}
use Rattle.marked.specs.Marks.{IsInTurn}
use Rattle.calls.specs.declared.phases.Phase.{Phase}
use Rattle.calls.specs.declared.phases.Phase.TheVariants.{Empty, Loaded, Ending, Ended, Resolved}
use Rattle.calls.specs.Calls.{Model, is_over}
use Rattle.calls.specs.Claims.{marked_spans, data_of}
use Rattle.calls.specs.Moments.{AlwaysTrue}
use Rattle.calls.specs.Steps.{held, is_resolved, most_events}
use Rattle.calls.specs.Links.{as_named}
use Rattle.calls.specs.EventLists.{span, is_link, is_web_address, is_mail_address, open_then, closes, nests, only_links_hold, closed_by, spans_from, spans, with_name, in_order, Placed}
use Rattle.rules.specs.Web.{is_web, links}
use Rattle.written.specs.Named.{NamedByTheRules}
use Rattle.written.specs.Spans.{address, addresses_of, written_spans, IsResolved}
use Rattle.written.proofs.Sizes.{Long, links-long, mail-long}

-- ---- where the spans of an event list lie

-- not empty, and within so many bytes
abbrev Inside : ℕ → Segment → Type 0
Inside len x = (x.from < x.to) × (x.to ≤ len)

closed-inside : (note : List ℕ) (kind : EventKind) (still : List Event) (e : Event) (xs : List Segment) → closes kind still e ≡ true → Placed note e → AllByRecursion (Inside (length note)) xs → AllByRecursion (Inside (length note)) (closed_by kind still e ++ xs)
closed-inside note Enter still e xs c p h = h
closed-inside note Exit [] e xs c p h = h
closed-inside note Exit (o ∷ still) e xs c p h =
    ((ltb-true o.point.index e.point.index (and_parts (same_name o.name e.name) (ltb o.point.index e.point.index) c).1, p.inside), h)

spans-inside : (note : List ℕ) (still es : List Event) → nests still es ≡ true → AllByRecursion (Placed note) es → AllByRecursion (Inside (length note)) (spans_from still es)
spans-inside note still [] n p = tt
spans-inside note still (e ∷ es) n p =
    let q = and_parts (closes e.kind still e) (nests (open_then e.kind still e) es) n in
    closed-inside note e.kind still e (spans_from (open_then e.kind still e) es) q.0 p.0 (spans-inside note (open_then e.kind still e) es q.1 p.1)

-- ---- in turn

earlier : (a b len : ℕ) (xs : List Span) → a ≤ b → IsInTurn b len xs → IsInTurn a len xs
earlier a b len [] le t = tt
earlier a b len (x ∷ xs) le t = (omega (arith, t.0), t.1, t.2, t.3)

-- a span that is no link, before others
one-in_turn : (n : Name) (a from to len : ℕ) (xs : List Span) → a ≤ from → from < to → to ≤ len → IsInTurn to len xs → IsInTurn a len (address n from to ++ xs)
one-in_turn name.Data a from to len xs low some high t = earlier a to len xs (omega arith) t
one-in_turn name.LineEnding a from to len xs low some high t = earlier a to len xs (omega arith) t
one-in_turn name.Link a from to len xs low some high t = earlier a to len xs (omega arith) t
one-in_turn (name.Address kind) a from to len xs low some high t = (low, omega arith, high, t)

link-no_address : (n : Name) (from to : ℕ) → is_link n ≡ true → address n from to ≡ []
link-no_address name.Data from to e = refl
link-no_address name.LineEnding from to e = refl
link-no_address name.Link from to e = refl
link-no_address (name.Address kind) from to e = absurd (true≢false (sym e))

-- the leaves of a list, as it is filtered
abbrev leaves_in : List Segment → List Segment
leaves_in xs = with_name (λ n. not (is_link n)) xs

written-in_turn : (a len : ℕ) (xs : List Segment) → AllByRecursion (Inside len) xs → in_order a (leaves_in xs) ≡ true → IsInTurn a len (addresses_of xs)
written-in_turn a len [] h o = tt
written-in_turn a len (x ∷ xs) h o =
    ⊎_elim
    (λ l.
    let skipped : leaves_in (x ∷ xs) ≡ leaves_in xs = ap (λ v. cond (not v) (x ∷ leaves_in xs) (leaves_in xs)) l in
    subst (λ ys. IsInTurn a len (ys ++ addresses_of xs)) (sym (link-no_address x.name x.from x.to l)) (written-in_turn a len xs h.1 (ap (in_order a) (sym skipped) ∙ o)))
    (λ l.
    let kept : leaves_in (x ∷ xs) ≡ x ∷ leaves_in xs = ap (λ v. cond (not v) (x ∷ leaves_in xs) (leaves_in xs)) l in
    let p = and_parts (leb a x.from) (in_order x.to (leaves_in xs)) (ap (in_order a) (sym kept) ∙ o) in
    one-in_turn x.name a x.from x.to len (addresses_of xs) (leb-true a x.from p.0) h.0.0 h.0.1 (written-in_turn x.to len xs h.1 p.1))
    (cases_Bool (is_link x.name))

-- ---- how many

abbrev LongSpan : Span → Type 0
LongSpan x = x.from + 3 ≤ x.to

long_one : (n : Name) (from to : ℕ) (web mail : List Segment) (rest : List Span) → AllByRecursion Long (cond (is_web_address n) (record { name = n; from = from; to = to } ∷ web) web) → AllByRecursion Long (cond (is_mail_address n) (record { name = n; from = from; to = to } ∷ mail) mail) → (AllByRecursion Long web → AllByRecursion Long mail → AllByRecursion LongSpan rest) → AllByRecursion LongSpan (address n from to ++ rest)
long_one name.Data from to web mail rest w m h = h w m
long_one name.LineEnding from to web mail rest w m h = h w m
long_one name.Link from to web mail rest w m h = h w m
long_one (name.Address Www) from to web mail rest w m h = (w.0, h w.1 m)
long_one (name.Address Protocol) from to web mail rest w m h = (w.0, h w.1 m)
long_one (name.Address Email) from to web mail rest w m h = (m.0, h w m.1)
long_one (name.Address Mailto) from to web mail rest w m h = (m.0, h w m.1)
long_one (name.Address Xmpp) from to web mail rest w m h = (m.0, h w m.1)

all_long : (xs : List Segment) → AllByRecursion Long (with_name is_web_address xs) → AllByRecursion Long (with_name is_mail_address xs) → AllByRecursion LongSpan (addresses_of xs)
all_long [] w m = tt
all_long (x ∷ xs) w m = long_one x.name x.from x.to (with_name is_web_address xs) (with_name is_mail_address xs) (addresses_of xs) w m (all_long xs)

three_each : (c len : ℕ) (xs : List Span) → c ≤ len → IsInTurn c len xs → AllByRecursion LongSpan xs → c + 3 * length xs ≤ len
three_each c len [] le t h = omega arith
three_each c len (x ∷ xs) le t h =
    let later = three_each x.to len xs t.2 t.3 h.1 in
    omega (arith, t.0, h.0)

-- ---- of resolved events

in_turn_prop : (c len : ℕ) (xs : List Span) → IsProp (IsInTurn c len xs)
in_turn_prop c len [] = hlevel
in_turn_prop c len (x ∷ xs) = hlevel (le_prop, in_turn_prop x.to len xs)

pub record Writable (note : List ℕ) (es : List Event) : Type 0 where
  pub nested : nests [] es ≡ true
  pub flat : only_links_hold [] es ≡ true
  pub in_turn : IsInTurn 0 (length note) (written_spans es)
  pub few : 3 * length (written_spans es) ≤ length note

module _ (note : List ℕ) (es : List Event) where
  resolved-in_turn : IsResolved note es → IsInTurn 0 (length note) (written_spans es)
  resolved-in_turn r = written-in_turn 0 (length note) (spans es) (spans-inside note [] es r.lawful.nested r.lawful.placed) r.read.ordered

  resolved_few : IsResolved note es → 3 * length (written_spans es) ≤ length note
  resolved_few r =
      let web = subst (AllByRecursion Long) (sym r.read.web) (links-long r.member note) in
      let mail = subst (AllByRecursion Long) (sym r.resolved.mail) (mail-long note (marked_spans r.member note r.links) (data_of r.member note)) in
      omega (arith, three_each 0 (length note) (written_spans es) (omega arith) (resolved-in_turn r) (all_long (spans es) web mail))

  pub writable : ∥ IsResolved note es ∥₁ → Writable note es
  writable h = record {
    nested = ∥∥₁_elim h (Bool-set (nests [] es) true) (λ r. r.lawful.nested);
    flat = ∥∥₁_elim h (Bool-set (only_links_hold [] es) true) (λ r. r.read.flat);
    in_turn = ∥∥₁_elim h (in_turn_prop 0 (length note) (written_spans es)) resolved-in_turn;
    few = ∥∥₁_elim h le_prop resolved_few;
  }

pub written_few : (note : List ℕ) (es : List Event) → length note ≤ 1024 → Writable note es → length (written_spans es) ≤ 341
written_few note es short w = omega (arith, w.few)

-- ---- spans at the front of a table

pub record AtFront (xs table : List Span) (n : ℕ) : Type 0 where
  pub within : n ≤ length table
  pub are : take n table ≡ xs
  pub count : n ≡ length (take n table)

pub at_front : (xs lent table : List Span) (n : ℕ) → length xs ≤ length lent → n ≡ length xs → table ≡ overwritten xs lent → AtFront xs table n
at_front xs lent table n room count is =
    let e = is ∙ cond-true (fits xs lent) (xs ++ drop (length xs) lent) lent (le-leb (length xs) (length lent) room) in
    let are = ap (take n) e ∙ take_at xs (drop (length xs) lent) n (sym count) in
    record {
      within = omega (arith, ap length e, length-append xs (drop (length xs) lent));
      are = are;
      count = count ∙ ap length (sym are);
    }

abbrev pub no_spans : List Span
no_spans = replicate 341 (record { kind = Email; from = 0; to = 0 })

pub in_table : (xs table : List Span) (n : ℕ) → length xs ≤ 341 → n ≡ length xs → table ≡ overwritten xs no_spans → AtFront xs table n
in_table xs table n few count is =
    let size : length no_spans ≡ 341 = refl in
    at_front xs no_spans table n (omega arith) count is

-- ---- what the rules name

web_kept : (n : Name) (from to : ℕ) (xs : List Segment) (ys : List Span) → map as_named (filter (λ y. is_web y.kind) ys) ≡ xs → map as_named (filter (λ y. is_web y.kind) (address n from to ++ ys)) ≡ cond (is_web_address n) (span n from to ∷ xs) xs
web_kept name.Data from to xs ys h = h
web_kept name.LineEnding from to xs ys h = h
web_kept name.Link from to xs ys h = h
web_kept (name.Address Www) from to xs ys h = ap (λ l. span (name.Address Www) from to ∷ l) h
web_kept (name.Address Protocol) from to xs ys h = ap (λ l. span (name.Address Protocol) from to ∷ l) h
web_kept (name.Address Email) from to xs ys h = h
web_kept (name.Address Mailto) from to xs ys h = h
web_kept (name.Address Xmpp) from to xs ys h = h

mail_kept : (n : Name) (from to : ℕ) (xs : List Segment) (ys : List Span) → map as_named (filter (λ y. not (is_web y.kind)) ys) ≡ xs → map as_named (filter (λ y. not (is_web y.kind)) (address n from to ++ ys)) ≡ cond (is_mail_address n) (span n from to ∷ xs) xs
mail_kept name.Data from to xs ys h = h
mail_kept name.LineEnding from to xs ys h = h
mail_kept name.Link from to xs ys h = h
mail_kept (name.Address Www) from to xs ys h = h
mail_kept (name.Address Protocol) from to xs ys h = h
mail_kept (name.Address Email) from to xs ys h = ap (λ l. span (name.Address Email) from to ∷ l) h
mail_kept (name.Address Mailto) from to xs ys h = ap (λ l. span (name.Address Mailto) from to ∷ l) h
mail_kept (name.Address Xmpp) from to xs ys h = ap (λ l. span (name.Address Xmpp) from to ∷ l) h

web-named : (xs : List Segment) → map as_named (filter (λ y. is_web y.kind) (addresses_of xs)) ≡ with_name is_web_address xs
web-named [] = refl
web-named (x ∷ xs) = web_kept x.name x.from x.to (with_name is_web_address xs) (addresses_of xs) (web-named xs)

mail-named : (xs : List Segment) → map as_named (filter (λ y. not (is_web y.kind)) (addresses_of xs)) ≡ with_name is_mail_address xs
mail-named [] = refl
mail-named (x ∷ xs) = mail_kept x.name x.from x.to (with_name is_mail_address xs) (addresses_of xs) (mail-named xs)

named-back : (xs : List Span) → addresses_of (map as_named xs) ≡ xs
named-back [] = refl
named-back (x ∷ xs) = ap (λ l. x ∷ l) (named-back xs)

pub named : (note : List ℕ) (es : List Event) (r : IsResolved note es) → NamedByTheRules r.member note r.links (written_spans es)
named note es r = record {
  in_turn = resolved-in_turn note es r;
  web =
      sym (named-back (filter (λ y. is_web y.kind) (written_spans es)))
      ∙ ap addresses_of (web-named (spans es) ∙ r.read.web)
      ∙ named-back (links r.member note);
  mail = mail-named (spans es) ∙ r.resolved.mail;
}

-- ---- of a reader

resolved_over : (p : Phase) → is_resolved p ≡ true → is_over p ≡ true
resolved_over Empty e = absurd (true≢false (sym e))
resolved_over Loaded e = absurd (true≢false (sym e))
resolved_over Ending e = absurd (true≢false (sym e))
resolved_over Ended e = absurd (true≢false (sym e))
resolved_over Resolved e = refl

module _ (member : ℕ → Bool) (m : Model) (always : ∥ AlwaysTrue member m ∥₁) where
  pub held_short : length m.machine.note ≤ 1024
  held_short = ∥∥₁_elim always le_prop (λ a. a.short)

  pub held_few : length (held m) ≤ most_events
  held_few = ∥∥₁_elim always le_prop (λ a. a.fits)

  pub held-resolved : is_resolved m.phase ≡ true → ∥ IsResolved m.machine.note (held m) ∥₁
  held-resolved e = ∥∥₁_map always (λ a. record { member = member; links = m.links; lawful = a.lawful; read = a.read (resolved_over m.phase e); resolved = a.resolved e })

  pub held_named : is_resolved m.phase ≡ true → ∥ NamedByTheRules member m.machine.note m.links (written_spans (held m)) ∥₁
  held_named e =
      ∥∥₁_map always (λ a. named m.machine.note (held m) (record { member = member; links = m.links; lawful = a.lawful; read = a.read (resolved_over m.phase e); resolved = a.resolved e }))
