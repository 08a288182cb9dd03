-- The pieces of a note, with neighbouring data joined, are its segments.
-- Assumes nothing.
use Rattle.std.proofs.Common.{◌≡◌, ℕ, ◌<◌, Bool, false, cond, ◌&&◌, List, [], ◌∷◌, ◌++◌, map, length, refl, ap, ◌∙◌, ⊎_elim, arith}
use Rattle.std.specs.List.{AllByRecursion}
use Rattle.std.proofs.lemmas.Bool.{cases_lt, and_right}
use Rattle.text.specs.declared.spans.Span.{Span}
use Rattle.rules.specs.Segments.{SegmentKind, Data, LineEnding, Web, Segment, segment, segments}
use Rattle.rules.specs.SegmentLaws.{OneAfterAnother, Right, is_data, DataApart, web_span_of, web_spans}
use Rattle.rules.proofs.Cuts.{canonical-is}
use Rattle.machine.specs.Joins.{joined}
use Rattle.machine.specs.Laws as laws
use Rattle.machine.proofs.Joinings as joinings
use Rattle.findings.specs.Pieces.{pieces, name_for, named, segment_events}
use Rattle.findings.proofs.Cutting.{pieces-cover}

-- ---- segments of a note joined, as the machine's are

-- a segment in front of others that are joined already: one with the first of them where both are data
abbrev put : SegmentKind → ℕ → ℕ → List Segment → List Segment
put k a b [] = segment k a b ∷ []
put k a b (y ∷ ys) = cond (is_data k && is_data y.kind) (segment k a y.to ∷ ys) (segment k a b ∷ y ∷ ys)

abbrev merged : List Segment → List Segment
merged [] = []
merged (x ∷ xs) = put x.kind x.from x.to (merged xs)

named_put : (k : SegmentKind) (a b : ℕ) (ys : List Segment) → joinings.put (name_for k) a b (map named ys) ≡ map named (put k a b ys)
named_put k a b [] = refl
named_put k a b (y ∷ ys) = by_kinds k y.kind y.from y.to
  where
    by_kinds : (k m : SegmentKind) (c d : ℕ) → joinings.put (name_for k) a b (map named (segment m c d ∷ ys)) ≡ map named (put k a b (segment m c d ∷ ys))
    by_kinds Data Data c d = refl
    by_kinds Data LineEnding c d = refl
    by_kinds Data (Web kind) c d = refl
    by_kinds LineEnding m c d = refl
    by_kinds (Web kind) m c d = refl

named_merged : (xs : List Segment) → joinings.merged (map named xs) ≡ map named (merged xs)
named_merged [] = refl
named_merged (x ∷ xs) = ap (joinings.put (name_for x.kind) x.from x.to) (named_merged xs) ∙ named_put x.kind x.from x.to (merged xs)

-- ---- what joining keeps, and what it brings about

module _ (s : List ℕ) where
  record CanonicalFrom (i : ℕ) (spans : List Span) (xs : List Segment) : Type 0 where
    cover : OneAfterAnother i (length s) xs
    right : AllByRecursion (Right s) xs
    apart : DataApart xs
    web : web_spans xs ≡ spans

  put-canonical : (i : ℕ) (k : SegmentKind) (a b : ℕ) (spans : List Span) (ys : List Segment) → a ≡ i → i < b → Right s (segment k a b) → CanonicalFrom b spans ys → CanonicalFrom i (web_span_of k a b ++ spans) (put k a b ys)
  put-canonical i k a b spans [] e lt r g = record { cover = (e, (lt, g.cover)); right = (r, tt); apart = (and_right (is_data k) false refl, tt); web = ap (λ l. web_span_of k a b ++ l) g.web }
  put-canonical i k a b spans (y ∷ ys) e lt r g = by_kinds k y.kind y.from y.to r g
    where
      by_kinds : (k m : SegmentKind) (c d : ℕ) → Right s (segment k a b) → CanonicalFrom b spans (segment m c d ∷ ys) → CanonicalFrom i (web_span_of k a b ++ spans) (put k a b (segment m c d ∷ ys))
      by_kinds Data Data c d r g =
          let t = g.cover in
          record {
            cover = (e, (omega (arith, t.1.0), t.1.1));
            right = (λ j lo hi. ⊎_elim (λ less. r j lo less) (λ le. g.right.0 j (omega (arith, t.0)) hi) (cases_lt j b), g.right.1);
            apart = g.apart;
            web = g.web;
          }
      by_kinds Data LineEnding c d r g = record { cover = (e, (lt, g.cover)); right = (r, g.right); apart = (refl, g.apart); web = g.web }
      by_kinds Data (Web kind) c d r g = record { cover = (e, (lt, g.cover)); right = (r, g.right); apart = (refl, g.apart); web = g.web }
      by_kinds LineEnding m c d r g = record { cover = (e, (lt, g.cover)); right = (r, g.right); apart = (refl, g.apart); web = g.web }
      by_kinds (Web kind) m c d r g = record { cover = (e, (lt, g.cover)); right = (r, g.right); apart = (refl, g.apart); web = ap (λ l. web_span_of (Web kind) a b ++ l) g.web }

  merged_canonical : (i : ℕ) (xs : List Segment) → OneAfterAnother i (length s) xs → AllByRecursion (Right s) xs → CanonicalFrom i (web_spans xs) (merged xs)
  merged_canonical i [] t u = record { cover = t; right = tt; apart = tt; web = refl }
  merged_canonical i (x ∷ xs) t u = put-canonical i x.kind x.from x.to (web_spans xs) (merged xs) t.0 t.1.0 u.0 (merged_canonical x.to xs t.1.1 u.1)

-- ---- the pieces

pub merged_pieces : (member : ℕ → Bool) (s : List ℕ) → merged (pieces member s) ≡ segments member s
merged_pieces member s =
    let c = pieces-cover member s in
    let g = merged_canonical s 0 (pieces member s) c.cover c.right in
    canonical-is member s (merged (pieces member s)) (record { cover = g.cover; web = g.web ∙ c.web; right = g.right; apart = g.apart })

pub pieces-joined : (member : ℕ → Bool) (s : List ℕ) → joined (segment_events s (pieces member s)) ≡ segment_events s (segments member s)
pieces-joined member s =
    joinings.joined_are s (map named (pieces member s))
    ∙ ap (laws.events_of s) (named_merged (pieces member s) ∙ ap (map named) (merged_pieces member s))
