-- The events of the segments of a note are lawful, and are what a note read to its end must have.
-- Assumes nothing.
use Rattle.std.proofs.Common.{◌≡◌, ℕ, ◌+◌, ◌-◌, ◌<◌, ◌≤◌, Bool, true, false, not, ◌&&◌, eqb, List, [], ◌∷◌, ◌++◌, map, length, sym, refl, ap, ◌∙◌, subst, append-nil, arith}
use Rattle.std.specs.List.{AllByRecursion}
use Rattle.std.proofs.ByRecursion.{All-weaker}
use Rattle.std.proofs.lemmas.Bool.{cond-true, and_from, and_left, not_from_false, not_from_true, false≢true}
use Rattle.text.specs.declared.spans.Span.{Span}
use Rattle.text.specs.declared.spans.SpanKind.{SpanKind}
use Rattle.text.specs.declared.spans.SpanKind.TheVariants.{Www, Protocol, Email, Mailto, Xmpp}
use Rattle.rules.specs.Segments.{SegmentKind, Data, LineEnding, Web, segments, line_ending_at}
use Rattle.rules.specs.Segments as rules
use Rattle.rules.specs.SegmentLaws.{OneAfterAnother, Right, data_first, DataApart, web_span_of, web_spans}
use Rattle.rules.specs.SegmentLaws as segment-laws
use Rattle.rules.specs.Web.{is_web, links}
use Rattle.rules.specs.WebLaws.{BeginsAs, WebSpan}
use Rattle.rules.proofs.Cuts.{cover_le, canonical-segments}
use Rattle.rules.proofs.WebParts.{lawful}
use Rattle.machine.specs.declared.events.Name.TheVariants as name
use Rattle.machine.specs.Invariant.{Edge}
use Rattle.machine.specs.Joins.{is_data}
use Rattle.machine.specs.Laws.{Segment, events_of, Tiles}
use Rattle.findings.specs.Pieces.{name_for, named}
use Rattle.calls.specs.EventLists.{span, is_line_ending, is_link, is_web_address, is_mail_address, open_last, only_links_hold, touches, data_apart, with_name, in_order, holding, goes_forward, LawfulEvents}
use Rattle.calls.specs.Links.{as_named, ended_spans, ended_events}
use Rattle.calls.specs.Claims.{line_endings, line_endings_from, FullyRead}
use Rattle.calls.proofs.Spans.{Leaf, AtEdges, tiles-ordered, tiles_full, holding-once, spans_of, leaves_of, nests-events, open_events, only_links_events, placed-events, forward-events}
use Rattle.calls.proofs.Edges.{edge_after_plain, edge_after_line, pass_plain, take-line}

-- ---- no two Data spans in a row

-- d: whether the span before is Data
abbrev pub Alone : Bool → List Segment → Type 0
Alone d [] = Unit {0}
Alone d (x ∷ xs) = ((d && is_data x.name) ≡ false) × Alone (is_data x.name) xs

pub alone_weaken : (d : Bool) (xs : List Segment) → Alone d xs → Alone false xs
alone_weaken d [] h = tt
alone_weaken d (x ∷ xs) h = (refl, h.1)

pub alone_apart : (d : Bool) (xs : List Segment) → Alone d xs → data_apart xs ≡ true
alone_apart d [] h = refl
alone_apart d (x ∷ []) h = refl
alone_apart d (x ∷ y ∷ ys) h =
    and_from (not (touches x (y ∷ ys))) (data_apart (y ∷ ys)) (not_from_false (touches x (y ∷ ys)) (and_left (is_data x.name && is_data y.name) (eqb x.to y.from) h.1.0)) (alone_apart (is_data x.name) (y ∷ ys) h.1)

-- ---- what each segment is

-- no byte of a line ending
abbrev pub Plain : List ℕ → ℕ → ℕ → Type 0
Plain s a b = (j : ℕ) → a ≤ j → j < b → line_ending_at s j ≡ false

-- a web span has a web kind, and no byte of a line ending
abbrev WebRight : List ℕ → SegmentKind → ℕ → ℕ → Type 0
WebRight s Data a b = Unit {0}
WebRight s LineEnding a b = Unit {0}
WebRight s (Web kind) a b = (is_web kind ≡ true) × Plain s a b

web-kind : (kind : SpanKind) (s : List ℕ) (i : ℕ) → BeginsAs kind s i → is_web kind ≡ true
web-kind Www s i h = refl
web-kind Protocol s i h = refl
web-kind Email s i h = absurd h
web-kind Mailto s i h = absurd h
web-kind Xmpp s i h = absurd h

module _ (member : ℕ → Bool) (s : List ℕ) where
  one_right : (k : SegmentKind) (a b : ℕ) (ys : List Span) → AllByRecursion (WebSpan member s) (web_span_of k a b ++ ys) → WebRight s k a b × AllByRecursion (WebSpan member s) ys
  one_right Data a b ys h = (tt, h)
  one_right LineEnding a b ys h = (tt, h)
  one_right (Web kind) a b ys h = ((web-kind kind s a h.0.begins, h.0.no_line_ending), h.1)

  all_right : (xs : List rules.Segment) → AllByRecursion (WebSpan member s) (web_spans xs) → AllByRecursion (λ x. WebRight s x.kind x.from x.to) xs
  all_right [] h = tt
  all_right (x ∷ xs) h = let w = one_right x.kind x.from x.to (web_spans xs) h in (w.0, all_right xs w.1)

  web-right : AllByRecursion (λ x. WebRight s x.kind x.from x.to) (segments member s)
  web-right = all_right (segments member s) (subst (AllByRecursion (WebSpan member s)) (sym (canonical-segments member s).web) (lawful member s).are_web_spans)

-- ---- names

leaf_for : (k : SegmentKind) → is_link (name_for k) ≡ false
leaf_for Data = refl
leaf_for LineEnding = refl
leaf_for (Web kind) = refl

data_for : (k : SegmentKind) → is_data (name_for k) ≡ segment-laws.is_data k
data_for Data = refl
data_for LineEnding = refl
data_for (Web kind) = refl

no_mail_for : (s : List ℕ) (k : SegmentKind) (a b : ℕ) → WebRight s k a b → is_mail_address (name_for k) ≡ false
no_mail_for s Data a b h = refl
no_mail_for s LineEnding a b h = refl
no_mail_for s (Web kind) a b h = not_from_true (is_web kind) h.0

-- ---- lists of segments

named-tiles : (a b : ℕ) (xs : List rules.Segment) → OneAfterAnother a b xs → Tiles a b (map named xs)
named-tiles a b [] h = h
named-tiles a b (x ∷ xs) h = (h.0, h.1.0, named-tiles x.to b xs h.1.1)

named-leaves : (xs : List rules.Segment) → AllByRecursion Leaf (map named xs)
named-leaves [] = tt
named-leaves (x ∷ xs) = (leaf_for x.kind, named-leaves xs)

data_first_for : (xs : List rules.Segment) (d : Bool) → (d && data_first xs) ≡ false → DataApart xs → Alone d (map named xs)
data_first_for [] d h k = tt
data_first_for (x ∷ xs) d h k = (
  ap (λ b. d && b) (data_for x.kind) ∙ h,
  subst (λ b. Alone b (map named xs)) (sym (data_for x.kind)) (data_first_for xs (segment-laws.is_data x.kind) k.0 k.1),
)

named-web : (s : List ℕ) (xs : List rules.Segment) → AllByRecursion (λ x. WebRight s x.kind x.from x.to) xs → with_name is_web_address (map named xs) ≡ map as_named (web_spans xs)
named-web s [] h = refl
named-web s (x ∷ xs) h = go x.kind h.0 (named-web s xs h.1)
  where
    go : (k : SegmentKind) → WebRight s k x.from x.to → with_name is_web_address (map named xs) ≡ map as_named (web_spans xs) → with_name is_web_address (span (name_for k) x.from x.to ∷ map named xs) ≡ map as_named (web_span_of k x.from x.to ++ web_spans xs)
    go Data w rec = rec
    go LineEnding w rec = rec
    go (Web kind) w rec = cond-true (is_web kind) _ _ w.0 ∙ ap (λ l. span (name.Address kind) x.from x.to ∷ l) rec

-- ---- edges and line endings

-- data has no byte of a line ending
abbrev PlainData : List ℕ → Segment → Type 0
PlainData s x = is_data x.name ≡ true → Plain s x.from x.to

-- both ends are edges, and data is plain
abbrev pub Standing : List ℕ → Segment → Type 0
Standing s x = AtEdges s x × PlainData s x

module _ (s : List ℕ) where
  edge_after_segment : (k : SegmentKind) (a b : ℕ) → a < b → segment-laws.RightFor k s a b → WebRight s k a b → Edge s b
  edge_after_segment Data a b lt r w = edge_after_plain s a b lt (r (b - 1) (omega arith) (omega arith))
  edge_after_segment LineEnding a b lt r w = subst (Edge s) (sym r.1) (edge_after_line s a)
  edge_after_segment (Web kind) a b lt r w = edge_after_plain s a b lt (w.1 (b - 1) (omega arith) (omega arith))

  plain_for : (k : SegmentKind) (a b : ℕ) → segment-laws.RightFor k s a b → is_data (name_for k) ≡ true → Plain s a b
  plain_for Data a b r e = r
  plain_for LineEnding a b r e = absurd (false≢true e)
  plain_for (Web kind) a b r e = absurd (false≢true e)

  named_standing : (a b : ℕ) (xs : List rules.Segment) → Edge s a → OneAfterAnother a b xs → AllByRecursion (Right s) xs → AllByRecursion (λ x. WebRight s x.kind x.from x.to) xs → AllByRecursion (Standing s) (map named xs)
  named_standing a b [] e t r w = tt
  named_standing a b (x ∷ xs) e t r w =
      let next : Edge s x.to = edge_after_segment x.kind x.from x.to (omega (arith, t.0, t.1.0)) r.0 w.0 in
      (((subst (Edge s) (sym t.0) e, next), plain_for x.kind x.from x.to r.0), named_standing x.to b xs next t.1.1 r.1 w.1)

  -- n bytes from a on
  named-lines : (n a b : ℕ) (xs : List rules.Segment) → a + n ≡ b → Edge s a → OneAfterAnother a b xs → AllByRecursion (Right s) xs → AllByRecursion (λ x. WebRight s x.kind x.from x.to) xs → with_name is_line_ending (map named xs) ≡ line_endings_from s n a
  named-lines n a b [] e edge t r w = let z : 0 ≡ n = omega arith in ap (λ m. line_endings_from s m a) z
  named-lines n a b (x ∷ xs) e edge t r w =
      let hi = cover_le x.to b xs t.1.1 in
      let next : Edge s x.to = edge_after_segment x.kind x.from x.to (omega (arith, t.0, t.1.0)) r.0 w.0 in
      go x.kind r.0 w.0 hi (named-lines (b - x.to) x.to b xs (omega arith) next t.1.1 r.1 w.1)
    where
      go : (k : SegmentKind) → segment-laws.RightFor k s x.from x.to → WebRight s k x.from x.to → x.to ≤ b → with_name is_line_ending (map named xs) ≡ line_endings_from s (b - x.to) x.to → with_name is_line_ending (span (name_for k) x.from x.to ∷ map named xs) ≡ line_endings_from s n a
      go Data r w hi rec = rec ∙ sym (pass_plain s (x.to - a) n a x.to (b - x.to) (omega (arith, t.1.0)) (omega (arith, t.1.0)) (λ l lo up. r l (omega (arith, t.0)) up))
      go LineEnding r w hi rec =
          let at = t.0 in
          ap (λ l. span name.LineEnding x.from x.to ∷ l) rec
          ∙ sym (take-line s n x.from x.to (b - x.to) (subst (Edge s) (sym at) edge) r.0 r.1 (omega arith))
          ∙ ap (line_endings_from s n) at
      go (Web kind) r w hi rec = rec ∙ sym (pass_plain s (x.to - a) n a x.to (b - x.to) (omega (arith, t.1.0)) (omega (arith, t.1.0)) (λ l lo up. w.1 l (omega (arith, t.0)) up))

-- ---- the segments of a note

module _ (member : ℕ → Bool) (note : List ℕ) where
  pub segment-tiles : Tiles 0 (length note) (ended_spans member note)
  segment-tiles = named-tiles 0 (length note) (segments member note) (canonical-segments member note).cover

  pub segment-leaves : AllByRecursion Leaf (ended_spans member note)
  segment-leaves = named-leaves (segments member note)

  pub segment_alone : Alone false (ended_spans member note)
  segment_alone = data_first_for (segments member note) false refl (canonical-segments member note).apart

  pub segment_standing : AllByRecursion (Standing note) (ended_spans member note)
  segment_standing =
      let c = canonical-segments member note in
      named_standing note 0 (length note) (segments member note) refl c.cover c.right (web-right member note)

  pub segment-no-mail : AllByRecursion (λ x. is_mail_address x.name ≡ false) (ended_spans member note)
  segment-no-mail = go (segments member note) (web-right member note)
    where
      go : (xs : List rules.Segment) → AllByRecursion (λ x. WebRight note x.kind x.from x.to) xs → AllByRecursion (λ x. is_mail_address x.name ≡ false) (map named xs)
      go [] h = tt
      go (x ∷ xs) h = (no_mail_for note x.kind x.from x.to h.0, go xs h.1)

  pub segment-web : with_name is_web_address (ended_spans member note) ≡ map as_named (links member note)
  segment-web = named-web note (segments member note) (web-right member note) ∙ ap (map as_named) (canonical-segments member note).web

  pub segment-lines : with_name is_line_ending (ended_spans member note) ≡ line_endings note
  segment-lines =
      let c = canonical-segments member note in
      named-lines note (length note) 0 (length note) (segments member note) (omega arith) refl c.cover c.right (web-right member note)

-- ---- and their events

pub lawful-events : (note : List ℕ) (xs : List Segment) → Tiles 0 (length note) xs → AllByRecursion (AtEdges note) xs → LawfulEvents note (events_of note xs)
lawful-events note xs t k =
    subst (LawfulEvents note) (append-nil (events_of note xs))
    (record { nested = nests-events note xs [] [] (tiles_full xs 0 (length note) t) refl; placed = placed-events note xs 0 (length note) [] t (omega arith) k tt })

module _ (member : ℕ → Bool) (note : List ℕ) where
  pub ended-lawful : LawfulEvents note (ended_events member note)
  ended-lawful = lawful-events note (ended_spans member note) (segment-tiles member note) (All-weaker (Standing note) (AtEdges note) (λ x h. h.0) (ended_spans member note) (segment_standing member note))

  pub ended-read : FullyRead member note (ended_events member note)
  ended-read =
      let xs = ended_spans member note in
      let all-leaves = leaves_of note xs (segment-leaves member note) in
      let tiles = segment-tiles member note in
      record {
        all_closed = ap (open_last []) (sym (append-nil (events_of note xs))) ∙ open_events note xs [] [];
        forward = ap (goes_forward 0) (sym (append-nil (events_of note xs))) ∙ forward-events note xs 0 (length note) [] tiles refl;
        flat = ap (only_links_hold []) (sym (append-nil (events_of note xs))) ∙ only_links_events note xs [] [] tt (segment-leaves member note) refl;
        web = ap (with_name is_web_address) (spans_of note xs) ∙ segment-web member note;
        lines = ap (with_name is_line_ending) (spans_of note xs) ∙ segment-lines member note;
        ordered = ap (in_order 0) all-leaves ∙ tiles-ordered xs 0 (length note) tiles;
        each_byte_once = λ i lt. ap (λ l. holding l i) all-leaves ∙ holding-once xs 0 (length note) i tiles (omega arith) lt;
        uncut = ap data_apart all-leaves ∙ alone_apart false xs (segment_alone member note);
      }
