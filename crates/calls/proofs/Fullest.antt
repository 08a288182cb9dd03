-- The note with the most events: 1,024 line feeds, of which 64 are marked, each as a link of its own.
-- Assumes nothing.
use Rattle.std.proofs.Common.{◌≡◌, ℕ, zero, suc, ◌+◌, ◌<◌, Bool, true, eqb, List, [], ◌∷◌, length, get_or, replicate, sym, refl, ap, ◌∙◌, subst, arith}
use Rattle.std.specs.List.{AllByRecursion}
use Rattle.std.proofs.lemmas.List.{get_or-replicate, length-replicate}
use Rattle.std.proofs.lemmas.Bool.{and_left, cond-false, true≢false}
use Rattle.text.specs.declared.spans.Span.{Span}
use Rattle.text.specs.Bytes.{among}
use Rattle.rules.specs.InTurn.{InTextOrder}
use Rattle.rules.specs.Segments.{Segment, LineEnding, segment, segments}
use Rattle.rules.specs.SegmentLaws.{OneAfterAnother, Right, DataApart, web_spans}
use Rattle.rules.specs.Web.{links}
use Rattle.rules.specs.WebLaws.{WebSpan}
use Rattle.rules.proofs.Cuts.{canonical-is}
use Rattle.rules.proofs.WebParts.{lawful}
use Rattle.findings.specs.Pieces.{segment_events}
use Rattle.calls.specs.declared.links.MarkedRun.{MarkedRun}
use Rattle.calls.specs.Links.{marked_in_turn, resolved}
use Rattle.calls.specs.Steps.{run_of}
use Rattle.calls.specs.Theorems.{RoomIsReached}

-- n line feeds, and the lines that they end, from byte i on
abbrev feeds : ℕ → List ℕ
feeds n = replicate n 10

abbrev ends : ℕ → ℕ → List Segment
ends zero i = []
ends (suc n) i = segment LineEnding i (i + 1) ∷ ends n (i + 1)

module _ (n : ℕ) where
  long : length (feeds n) ≡ n
  long = length-replicate {A = ℕ} n 10

  feed_at : (i : ℕ) → i < n → get_or (feeds n) i 0 ≡ 10
  feed_at i lt = get_or-replicate n i 10 0 lt

  ends-cover : (k i : ℕ) → i + k ≡ n → OneAfterAnother i n (ends k i)
  ends-cover zero i e = omega arith
  ends-cover (suc k) i e = (refl, (omega arith, ends-cover k (i + 1) (omega arith)))

  ends-right : (k i : ℕ) → i + k ≡ n → AllByRecursion (Right (feeds n)) (ends k i)
  ends-right zero i e = tt
  ends-right (suc k) i e =
      let here = feed_at i (omega arith) in
      ((ap (among (13 ∷ 10 ∷ [])) here, sym (cond-false _ (i + 2) (i + 1) (and_left _ _ (ap (λ b. eqb b 13) here)))), ends-right k (i + 1) (omega arith))

  ends-apart : (k i : ℕ) → DataApart (ends k i)
  ends-apart zero i = tt
  ends-apart (suc k) i = (refl, ends-apart k (i + 1))

  ends-no-web : (k i : ℕ) → web_spans (ends k i) ≡ []
  ends-no-web zero i = refl
  ends-no-web (suc k) i = ends-no-web k (i + 1)

  module _ (member : ℕ → Bool) where
    -- a web span has no byte of a line ending
    none : (xs : List Span) → InTextOrder 0 xs → AllByRecursion (WebSpan member (feeds n)) xs → xs ≡ []
    none [] o h = refl
    none (x ∷ xs) o h =
        let inside : x.from < n = omega (arith, o.0.1, h.0.within, long) in
        absurd (true≢false (sym (ap (among (13 ∷ 10 ∷ [])) (feed_at x.from inside)) ∙ h.0.no_line_ending x.from (omega arith) o.0.1))

    no-links : links member (feeds n) ≡ []
    no-links = let l = lawful member (feeds n) in none (links member (feeds n)) l.in_text_order l.are_web_spans

    lines : ends n 0 ≡ segments member (feeds n)
    lines =
        canonical-is member (feeds n) (ends n 0)
        (record {
          cover = subst (λ b. OneAfterAnother 0 b (ends n 0)) (sym long) (ends-cover n 0 (omega arith));
          web = ends-no-web n 0 ∙ sym no-links;
          right = ends-right n 0 (omega arith);
          apart = ends-apart n 0;
        })

abbrev runs : ℕ → ℕ → List MarkedRun
runs zero i = []
runs (suc k) i = run_of i (i + 1) ∷ runs k (i + 2)

pub room_is_reached : RoomIsReached 2176
room_is_reached = (
  feeds 1024,
  runs 64 0,
  refl,
  refl,
  λ member. (
    subst (λ xs. marked_in_turn (segment_events (feeds 1024) xs) 0 (runs 64 0) ≡ true) (lines 1024 member) refl,
    subst (λ xs. length (resolved (feeds 1024) (runs 64 0) (segment_events (feeds 1024) xs)) ≡ 2176) (lines 1024 member) refl,
  ),
)
