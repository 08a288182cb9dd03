-- The pieces of a note cover it, one after another, and have the web spans that the rules name.
-- Assumes nothing.
use Rattle.std.proofs.Common.{◌≡◌, ℕ, zero, suc, ◌+◌, ◌-◌, ◌<◌, ◌≤◌, Bool, true, false, eqb, ltb, ◌⊎◌, List, [], ◌∷◌, ◌++◌, length, get_or, Some, None, codes, Option, sym, refl, ap, ◌∙◌, subst, inl, inr, ⊎_elim, arith}
use Rattle.std.specs.List.{AllByRecursion}
use Rattle.std.proofs.lemmas.Bool.{cases_Bool, cases_lt, cond-true, cond-false, and_parts, eqb-true, lt-ltb, le-ltb, both_ways, true≢false}
use Rattle.text.specs.declared.spans.Span.{Span}
use Rattle.text.specs.declared.spans.SpanKind.{SpanKind}
use Rattle.text.specs.declared.spans.SpanKind.TheVariants.{Www, Protocol, Email, Mailto, Xmpp}
use Rattle.text.specs.Ascii.{lower_case, reads}
use Rattle.text.specs.Bytes.{among, within, part}
use Rattle.text.proofs.Firsts.{first-within}
use Rattle.text.proofs.Runs.{part_at}
use Rattle.rules.specs.InTurn.{next, then_from_its_end}
use Rattle.rules.specs.Segments.{Data, LineEnding, Segment, segment, line_ending_at, line_ending_end}
use Rattle.rules.specs.SegmentLaws.{OneAfterAnother, Right, web_span_of, web_spans}
use Rattle.rules.specs.Web.{link_at}
use Rattle.rules.specs.WebLaws.{BeginsAs}
use Rattle.rules.proofs.Cuts.{line_ending_high, line_ending_low}
use Rattle.rules.proofs.KindsAtPlaces.{OfEach, among-each}
use Rattle.rules.proofs.Turns.{found-more, found_here, found-end, left, left_one, left-more, left-none}
use Rattle.rules.proofs.WebParts.{link_at-is, web-forward}
use Rattle.findings.specs.Pieces.{cuts_data, data_end, piece, pieces_from, pieces}

-- ---- a link begins with one of H h W w

-- b is none of the bytes cs, so it is none of these
among_none : (cs ds : List ℕ) → OfEach (λ c. among cs c ≡ true) ds → (b : ℕ) → among cs b ≡ false → among ds b ≡ false
among_none cs ds h b e = ⊎_elim (λ t. absurd (both_ways (among cs b) e (among-each (λ c. among cs c ≡ true) ds h b t))) (λ f. f) (cases_Bool (among ds b))

abbrev link_start : ℕ → Bool
link_start b = among (codes "HhWw") b

-- where a word is read, its first byte stands in lower or upper case
reads_first : (c : ℕ) (w bs : List ℕ) → reads (c ∷ w) bs ≡ true → c ≡ lower_case (get_or bs 0 0)
reads_first c w [] e = absurd (true≢false (sym e))
reads_first c w (b ∷ bs) e = eqb-true c (lower_case b) (and_parts (eqb c (lower_case b)) _ e).0

raised : (c b : ℕ) → c ≡ lower_case b → (b ≡ c) ⊎ (b + 32 ≡ c)
raised c b e =
    ⊎_elim
    (λ t. inr (sym (cond-true (within 65 90 b) (b + 32) b t) ∙ sym e))
    (λ f. inl (sym (cond-false (within 65 90 b) (b + 32) b f) ∙ sym e))
    (cases_Bool (within 65 90 b))

read_first : (c : ℕ) (w s : List ℕ) (i n : ℕ) → 0 < n → link_start c ≡ true → link_start (c - 32) ≡ true → reads (c ∷ w) (part i (i + n) s) ≡ true → link_start (get_or s i 0) ≡ true
read_first c w s i n some low high e =
    let z : i + 0 ≡ i = omega arith in
    let at : get_or (part i (i + n) s) 0 0 ≡ get_or s i 0 = part_at i (i + n) s 0 (omega arith) ∙ ap (λ k. get_or s k 0) z in
    ⊎_elim
    (λ same. ap link_start same ∙ low)
    (λ big. let q : get_or s i 0 ≡ c - 32 = omega arith in ap link_start q ∙ high)
    (raised c (get_or s i 0) (reads_first c w (part i (i + n) s) e ∙ ap lower_case at))

begins-first : (kind : SpanKind) (s : List ℕ) (i : ℕ) → BeginsAs kind s i → link_start (get_or s i 0) ≡ true
begins-first Www s i h = read_first 119 (codes "ww.") s i 4 (omega arith) refl refl h
begins-first Protocol s i h =
    ⊎_elim
    (λ a. read_first 104 (codes "ttp://") s i 7 (omega arith) refl refl a)
    (λ a. read_first 104 (codes "ttps://") s i 8 (omega arith) refl refl a)
    h
begins-first Email s i h = absurd h
begins-first Mailto s i h = absurd h
begins-first Xmpp s i h = absurd h

module _ (member : ℕ → Bool) (s : List ℕ) where
  no-link : (i : ℕ) → link_start (get_or s i 0) ≡ false → link_at member s i ≡ None
  no-link i h = by_what (link_at member s i) refl
    where
      by_what : (o : Option Span) → link_at member s i ≡ o → o ≡ None
      by_what None e = refl
      by_what (Some x) e =
          let a = link_at-is member s i x e in
          absurd (both_ways (link_start (get_or s i 0)) h (subst (λ k. link_start (get_or s k 0) ≡ true) a.start (begins-first x.kind s x.from a.span.begins)))

  -- ---- the web spans that are left from a place on

  abbrev pub left-from : ℕ → List Span
  left-from i = left (λ _. link_at member s) s (web-forward member s) i

  next_later : (k i : ℕ) → i + k ≤ length s → ((j : ℕ) → i ≤ j → j < i + k → link_at member s j ≡ None) → next (λ _. link_at member s) s i ≡ next (λ _. link_at member s) s (i + k)
  next_later zero i le h = let e : i ≡ i + 0 = omega arith in ap (next (λ _. link_at member s) s) e
  next_later (suc k) i le h =
      let e : i + 1 + k ≡ i + suc k = omega arith in
      found-more (link_at member s) s i (omega arith) (h i (omega arith) (omega arith))
      ∙ next_later k (i + 1) (omega arith) (λ j a b. h j (omega arith) (omega arith))
      ∙ ap (next (λ _. link_at member s) s) e

  -- where none begins from i to j − 1, those from i on are those from j on
  left_later : (i j : ℕ) → i ≤ j → j ≤ length s → ((k : ℕ) → i ≤ k → k < j → link_at member s k ≡ None) → left-from i ≡ left-from j
  left_later i j lo hi h =
      let e : i + (j - i) ≡ j = omega arith in
      let q : next (λ _. link_at member s) s i ≡ next (λ _. link_at member s) s j = next_later (j - i) i (omega arith) (λ k a b. h k a (omega arith)) ∙ ap (next (λ _. link_at member s) s) e in
      left_one (λ _. link_at member s) s (web-forward member s) i
      ∙ ap (then_from_its_end left-from) q
      ∙ sym (left_one (λ _. link_at member s) s (web-forward member s) j)

  left_end : (i : ℕ) → length s ≤ i → left-from i ≡ []
  left_end i le = left-none (λ _. link_at member s) s (web-forward member s) i (found-end (link_at member s) s i le ((web-forward member s).ends i i le))

  -- ---- one piece

  record Step (i : ℕ) (x : Segment) : Type 0 where
    at : x.from ≡ i
    on : i < x.to
    high : x.to ≤ length s
    right : Right s x
    found : left-from i ≡ web_span_of x.kind x.from x.to ++ left-from x.to

  module _ (i : ℕ) (lt : i < length s) where
    in_line : line_ending_at s i ≡ true → (j : ℕ) → i ≤ j → j < line_ending_end s i → line_ending_at s j ≡ true
    in_line l j lo hi =
        ⊎_elim
        (λ t. t)
        (λ f.
        ⊎_elim
        (λ less. absurd (omega (arith, line_ending_low s i j less f)))
        (λ le. let e : j ≡ i = omega arith in ap (line_ending_at s) e ∙ l)
        (cases_lt i j))
        (cases_Bool (line_ending_at s j))

    -- no link begins with a byte of a line ending
    line_step : line_ending_at s i ≡ true → Step i (segment LineEnding i (line_ending_end s i))
    line_step l =
        let w = line_ending_high s i lt in
        record {
          at = refl;
          on = w.0;
          high = w.1;
          right = (l, refl);
          found = left_later i (line_ending_end s i) (omega (arith, w.0)) w.1
              (λ j lo hi. no-link j (among-each (λ b. link_start b ≡ false) (13 ∷ 10 ∷ []) (refl, (refl, tt)) (get_or s j 0) (in_line l j lo hi)));
        }

    -- data is cut in front of each byte that a link may begin with
    in_data : (j : ℕ) → i ≤ j → j < data_end s (i + 1) → (j ≡ i) ⊎ (cuts_data (get_or s j 0) ≡ false)
    in_data j lo hi =
        ⊎_elim
        (λ less. inr ((first-within (λ k. cuts_data (get_or s k 0)) s (i + 1) (omega arith)).none j (omega arith) hi))
        (λ le. inl (omega arith))
        (cases_lt i j)

    data_step : line_ending_at s i ≡ false → link_at member s i ≡ None → Step i (segment Data i (data_end s (i + 1)))
    data_step l h =
        let w = first-within (λ j. cuts_data (get_or s j 0)) s (i + 1) (omega arith) in
        record {
          at = refl;
          on = omega (arith, w.low);
          high = w.high;
          right = λ j lo hi. ⊎_elim
              (λ e. ap (line_ending_at s) e ∙ l)
              (λ f. among_none (10 ∷ 13 ∷ codes "HhWw") (13 ∷ 10 ∷ []) (refl, (refl, tt)) (get_or s j 0) f)
              (in_data j lo hi);
          found = left_later i (data_end s (i + 1)) (omega (arith, w.low)) w.high (λ j lo hi. ⊎_elim
              (λ e. ap (link_at member s) e ∙ h)
              (λ f. no-link j (among_none (10 ∷ 13 ∷ codes "HhWw") (codes "HhWw") (refl, (refl, (refl, (refl, tt)))) (get_or s j 0) f))
              (in_data j lo hi));
        }

    piece-step : (o : Option Span) → link_at member s i ≡ o → Step i (piece s i o)
    piece-step None e =
        ⊎_elim
        (λ l. subst (Step i) (sym (cond-true (line_ending_at s i) _ _ l)) (line_step l))
        (λ l. subst (Step i) (sym (cond-false (line_ending_at s i) _ _ l)) (data_step l e))
        (cases_Bool (line_ending_at s i))
    piece-step (Some x) e =
        let a = link_at-is member s i x e in
        let f = a.shape in
        record {
          at = refl;
          on = omega (arith, f.some, f.low);
          high = f.high;
          right = tt;
          found =
              left-more (λ _. link_at member s) s (web-forward member s) i x (found_here (link_at member s) s i x lt e)
              ∙ ap (λ (k : ℕ). (let y : Span = record { kind = x.kind; from = k; to = x.to } in y) ∷ left-from x.to) a.start;
        }

  -- ---- all pieces

  pub record Covered (i : ℕ) (xs : List Segment) : Type 0 where
    pub cover : OneAfterAnother i (length s) xs
    pub right : AllByRecursion (Right s) xs
    pub web : web_spans xs ≡ left-from i

  covered_end : (n i : ℕ) → i ≤ length s → length s ≤ i → Covered i (pieces_from member s n i)
  covered_end n i le ge = subst (Covered i) (none n) (record { cover = omega arith; right = tt; web = sym (left_end i ge) })
    where
      none : (n : ℕ) → [] ≡ pieces_from member s n i
      none zero = refl
      none (suc n) = sym (cond-false (ltb i (length s)) _ [] (le-ltb i (length s) ge))

  covered_from : (n i : ℕ) → i ≤ length s → length s ≤ i + n → Covered i (pieces_from member s n i)
  covered_from zero i le fuel = covered_end zero i le (omega arith)
  covered_from (suc n) i le fuel =
      ⊎_elim
      (λ lt.
      let x = piece s i (link_at member s i) in
      let f = piece-step i lt (link_at member s i) refl in
      let g = covered_from n x.to f.high (omega (arith, f.on)) in
      subst (Covered i) (sym (cond-true (ltb i (length s)) _ [] (lt-ltb i (length s) lt))) (record {
        cover = (f.at, (f.on, g.cover));
        right = (f.right, g.right);
        web = ap (λ xs. web_span_of x.kind x.from x.to ++ xs) g.web ∙ sym f.found;
      }))
      (λ ge. covered_end (suc n) i le ge)
      (cases_lt i (length s))

  pub pieces-cover : Covered 0 (pieces member s)
  pieces-cover = covered_from (length s) 0 (omega arith) (omega arith)
