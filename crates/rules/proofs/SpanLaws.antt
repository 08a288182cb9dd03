-- The laws of all web spans and mail addresses of a note, from those of its segments.
-- Assumes nothing.
use Rattle.std.proofs.Common.{◌≡◌, ℕ, ◌+◌, ◌<◌, ◌≤◌, Bool, ◌⊎◌, List, [], ◌∷◌, ◌++◌, map, length, sym, subst, inl, inr, arith}
use Rattle.std.specs.List.{AllByRecursion}
use Rattle.text.specs.declared.spans.Span.{Span}
use Rattle.text.specs.Bytes.{part}
use Rattle.rules.specs.InTurn.{InTextOrder}
use Rattle.rules.specs.Mail.{addresses}
use Rattle.rules.specs.MailLaws.{Address}
use Rattle.rules.specs.Notes.{moved}
use Rattle.rules.specs.Segments.{SegmentKind, Data, LineEnding, Web, Segment, segments, spans_of, spans_in}
use Rattle.rules.specs.SegmentLaws.{OneAfterAnother, web_span_of, web_spans, SpansAreLawful}
use Rattle.rules.specs.WebLaws.{WebSpan}
use Rattle.rules.proofs.AddressParts.{addresses-in_order, addresses_are}
use Rattle.rules.proofs.Cuts.{cover_le, canonical-segments}
use Rattle.std.proofs.ByRecursion.{All-append}
use Rattle.rules.proofs.LineLaws.{all_moved, all-inside, order_moved, order_lower, order_append}
use Rattle.rules.proofs.WebParts.{lawful}

all_map : (P Q : Span → Type 0) (xs : List Span) → ((x : Span) → P x → Q x) → AllByRecursion P xs → AllByRecursion Q xs
all_map P Q [] f h = tt
all_map P Q (x ∷ xs) f h = (f x h.0, all_map P Q xs f h.1)

module _ (s : List ℕ) where
  -- the addresses of the data from a to b
  data_in_order : (a b : ℕ) → InTextOrder a (map (moved a) (addresses (part a b s)))
  data_in_order a b = let e : a + 0 ≡ a = omega arith in subst (λ c. InTextOrder c (map (moved a) (addresses (part a b s)))) e (order_moved a 0 (addresses (part a b s)) (addresses-in_order (part a b s)))

  one-in_order : (k : SegmentKind) (a b : ℕ) (ys : List Span) → a < b → b ≤ length s → InTextOrder b ys → InTextOrder a (spans_of s k a b ++ ys)
  one-in_order Data a b ys lt le h =
      order_append a b (map (moved a) (addresses (part a b s))) ys (omega arith) (data_in_order a b)
      (all-inside s a b le (addresses (part a b s)) (addresses_are (part a b s)) (omega arith)) h
  one-in_order LineEnding a b ys lt le h = order_lower a b ys (omega arith) h
  one-in_order (Web kind) a b ys lt le h = ((omega arith, lt), h)

  in_order : (a : ℕ) (xs : List Segment) → OneAfterAnother a (length s) xs → InTextOrder a (spans_in s xs)
  in_order a [] t = tt
  in_order a (x ∷ xs) t =
      let le = cover_le x.to (length s) xs t.1.1 in
      subst (λ i. InTextOrder a (spans_of s x.kind i x.to ++ spans_in s xs)) (sym t.0)
      (one-in_order x.kind a x.to (spans_in s xs) t.1.0 le (in_order x.to xs t.1.1))

module _ (member : ℕ → Bool) (s : List ℕ) where
  abbrev Known : Span → Type 0
  Known x = WebSpan member s x ⊎ Address s x

  one_known : (k : SegmentKind) (a b : ℕ) (ys zs : List Span) → b ≤ length s → AllByRecursion (WebSpan member s) (web_span_of k a b ++ zs) → (AllByRecursion (WebSpan member s) zs → AllByRecursion Known ys) → AllByRecursion Known (spans_of s k a b ++ ys)
  one_known Data a b ys zs le w rest =
      All-append Known (map (moved a) (addresses (part a b s))) ys
      (all_map (Address s) Known _ (λ x h. inr h) (all_moved s a b le (addresses (part a b s)) (addresses_are (part a b s))))
      (rest w)
  one_known LineEnding a b ys zs le w rest = rest w
  one_known (Web kind) a b ys zs le w rest = (inl w.0, rest w.1)

  known : (a : ℕ) (xs : List Segment) → OneAfterAnother a (length s) xs → AllByRecursion (WebSpan member s) (web_spans xs) → AllByRecursion Known (spans_in s xs)
  known a [] t w = tt
  known a (x ∷ xs) t w =
      one_known x.kind x.from x.to (spans_in s xs) (web_spans xs) (cover_le x.to (length s) xs t.1.1) w
      (λ r. known x.to xs t.1.1 r)

pub lawful-spans : SpansAreLawful
lawful-spans member s =
    let c = canonical-segments member s in
    record {
      in_text_order = in_order s 0 (segments member s) c.cover;
      known = known member s 0 (segments member s) c.cover (subst (AllByRecursion (WebSpan member s)) (sym c.web) (lawful member s).are_web_spans);
    }
