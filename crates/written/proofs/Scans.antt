-- Where only links hold other spans, an address begins at the last enter before its exit.
-- Assumes nothing.
use Rattle.std.proofs.Common.{◌≡◌, ℕ, ◌+◌, ◌<◌, true, false, not, ltb, List, [], ◌∷◌, ◌++◌, length, get_or, drop, set, sym, refl, ap, ◌∙◌}
use Rattle.std.proofs.lemmas.List.{append_assoc, length-append, drop_more}
use Rattle.std.proofs.Math.Seq.{set-append_seam}
use Rattle.std.proofs.lemmas.Bool.{and_parts, eqb-true, true≢false}
use Rattle.text.specs.declared.spans.Span.{Span}
use Rattle.text.specs.declared.spans.SpanKind.{SpanKind}
use Rattle.machine.specs.declared.events.Event.{Event}
use Rattle.machine.specs.declared.events.EventKind.{EventKind}
use Rattle.machine.specs.declared.events.EventKind.TheVariants.{Enter, Exit}
use Rattle.machine.specs.declared.events.Name.{Name}
use Rattle.machine.specs.declared.events.Name.TheVariants as name
use Rattle.machine.specs.Laws.{Segment, name_number, same_name}
use Rattle.calls.specs.EventLists.{is_link, open_then, closes, nests, stands_right, only_links_hold, closed_by, spans_from}
use Rattle.calls.proofs.Names.{same_names}
use Rattle.written.specs.Spans.{address, addresses_of, written_spans}

-- the address that an event closes, if it is its exit, where the last enter stood at `from`
abbrev pub closed : EventKind → Name → ℕ → ℕ → List Span
closed Enter n from to = []
closed Exit n from to = address n from to

abbrev pub last_enter : EventKind → ℕ → ℕ → ℕ
last_enter Enter at from = at
last_enter Exit at from = from

-- all that the events close
abbrev pub scanned : ℕ → List Event → List Span
scanned from [] = []
scanned from (e ∷ es) = closed e.kind e.name from e.point.index ++ scanned (last_enter e.kind e.point.index from) es

-- ---- what is known of the enters still open

abbrev AllLinks : List Event → Type 0
AllLinks [] = Unit {0}
AllLinks (o ∷ still) = (is_link o.name ≡ true) × AllLinks still

-- all but the latest are links, and the latest, unless it is a link, is the last enter
abbrev Standing : List Event → ℕ → Type 0
Standing [] from = Unit {0}
Standing (o ∷ still) from = (is_link o.name ≡ false → o.point.index ≡ from) × AllLinks still

all_links : (still : List Event) (e : Event) (from : ℕ) → stands_right Enter still e ≡ true → Standing still from → AllLinks still
all_links [] e from r h = tt
all_links (o ∷ still) e from r h = ((and_parts (is_link o.name) (not (is_link e.name)) r).0, h.1)

under_a_leaf : (still : List Event) (from : ℕ) → AllLinks still → Standing still from
under_a_leaf [] from h = tt
under_a_leaf (o ∷ still) from h = ((λ n. absurd (true≢false (sym h.0 ∙ n))), h.1)

same_address : (n : Name) (a b to : ℕ) → (is_link n ≡ false → a ≡ b) → address n b to ≡ address n a to ++ []
same_address name.Data a b to h = refl
same_address name.LineEnding a b to h = refl
same_address name.Link a b to h = refl
same_address (name.Address kind) a b to h = ap (λ (from : ℕ). record { kind = kind; from = from; to = to } ∷ []) (sym (h refl))

record Step (kind : EventKind) (e : Event) (still : List Event) (from : ℕ) : Type 0 where
  found : closed kind e.name from e.point.index ≡ addresses_of (closed_by kind still e)
  standing : Standing (open_then kind still e) (last_enter kind e.point.index from)

step : (kind : EventKind) (e : Event) (still : List Event) (from : ℕ) → closes kind still e ≡ true → stands_right kind still e ≡ true → Standing still from → Step kind e still from
step Enter e still from c r h = record { found = refl; standing = ((λ n. refl), all_links still e from r h) }
step Exit e [] from c r h = absurd (true≢false (sym c))
step Exit e (o ∷ still) from c r h =
    let p = and_parts (same_name o.name e.name) (ltb o.point.index e.point.index) c in
    let same = same_names o.name e.name (eqb-true (name_number o.name) (name_number e.name) p.0) in
    record {
      found = ap (λ n. address n from e.point.index) (sym same) ∙ same_address o.name o.point.index from e.point.index h.0;
      standing = under_a_leaf still from h.1;
    }

addresses_of-append : (xs ys : List Segment) → addresses_of (xs ++ ys) ≡ addresses_of xs ++ addresses_of ys
addresses_of-append [] ys = refl
addresses_of-append (x ∷ xs) ys =
    ap (λ l. address x.name x.from x.to ++ l) (addresses_of-append xs ys)
    ∙ sym (append_assoc (address x.name x.from x.to) (addresses_of xs) (addresses_of ys))

scanned-from : (es still : List Event) (from : ℕ) → nests still es ≡ true → only_links_hold still es ≡ true → Standing still from → scanned from es ≡ addresses_of (spans_from still es)
scanned-from [] still from n o h = refl
scanned-from (e ∷ es) still from n o h =
    let p = and_parts (closes e.kind still e) (nests (open_then e.kind still e) es) n in
    let q = and_parts (stands_right e.kind still e) (only_links_hold (open_then e.kind still e) es) o in
    let s = step e.kind e still from p.0 q.0 h in
    let rest = scanned-from es (open_then e.kind still e) (last_enter e.kind e.point.index from) p.1 q.1 s.standing in
    (λ i. s.found i ++ rest i)
    ∙ sym (addresses_of-append (closed_by e.kind still e) (spans_from (open_then e.kind still e) es))

pub scanned-all : (es : List Event) → nests [] es ≡ true → only_links_hold [] es ≡ true → scanned 0 es ≡ written_spans es
scanned-all es n o = scanned-from es [] 0 n o tt

-- ---- one event on

module _ (es : List Event) (i : ℕ) (none : Event) (from : ℕ) (lt : i < length es) where
  scanned-more : scanned from (drop i es) ≡ scanned from (get_or es i none ∷ drop (i + 1) es)
  scanned-more = ap (scanned from) (drop_more es i none lt)

  pub scanned-enter : (get_or es i none).kind ≡ Enter → scanned from (drop i es) ≡ scanned (get_or es i none).point.index (drop (i + 1) es)
  scanned-enter is =
      let e = get_or es i none in
      scanned-more ∙ ap (λ k. closed k e.name from e.point.index ++ scanned (last_enter k e.point.index from) (drop (i + 1) es)) is

  pub scanned-exit : (get_or es i none).kind ≡ Exit → scanned from (drop i es) ≡ address (get_or es i none).name from (get_or es i none).point.index ++ scanned from (drop (i + 1) es)
  scanned-exit is =
      let e = get_or es i none in
      scanned-more ∙ ap (λ k. closed k e.name from e.point.index ++ scanned (last_enter k e.point.index from) (drop (i + 1) es)) is

-- ---- one span more at the front

pub set-front : (done lent : List Span) (x : Span) → length done < length lent → set (done ++ drop (length done) lent) (length done) x ≡ (done ++ x ∷ []) ++ drop (length (done ++ x ∷ [])) lent
set-front done lent x lt =
    let n = length done in
    let more : n + 1 ≡ length (done ++ x ∷ []) = sym (length-append done (x ∷ [])) in
    ap (λ l. set (done ++ l) n x) (drop_more lent n x lt)
    ∙ set-append_seam done (get_or lent n x) (drop (n + 1) lent) x
    ∙ ap (λ k. done ++ (x ∷ drop k lent)) more
    ∙ sym (append_assoc done (x ∷ []) (drop (length (done ++ x ∷ [])) lent))

pub no_address : (n : Name) (from to : ℕ) → ((kind : SpanKind) → n ≡ name.Address kind → ⊥) → address n from to ≡ []
no_address name.Data from to h = refl
no_address name.LineEnding from to h = refl
no_address name.Link from to h = refl
no_address (name.Address kind) from to h = absurd (h kind refl)
