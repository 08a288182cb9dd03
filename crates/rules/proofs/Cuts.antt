-- The segments of a note are canonical, and no others are.
-- Assumes nothing.
use Rattle.std.proofs.Common.{◌≡◌, ℕ, zero, suc, ◌+◌, ◌-◌, ◌<◌, ◌≤◌, Bool, true, false, ◌&&◌, ◌||◌, eqb, ltb, leb, List, [], ◌∷◌, ◌++◌, length, get_or, sym, refl, ap, ◌∙◌, subst, ⊎_elim, arith}
use Rattle.std.specs.List.{AllByRecursion}
use Rattle.std.proofs.lemmas.List.{get_or_past}
use Rattle.std.proofs.lemmas.Bool.{cases_Bool, cases_lt, cond-true, cond-false, or_parts, or_from, or_left, or_right, and_from, and_parts, and_left, and_right, lt-ltb, le-ltb, le-leb, lt-leb, eq-eqb, ne_eqb, eqb-true, eqb-false, both_ways, true≢false}
use Rattle.text.specs.declared.spans.Span.{Span}
use Rattle.text.specs.Bytes.{among, first}
use Rattle.text.proofs.Firsts.{first-within, first-seek}
use Rattle.rules.specs.InTurn.{InTextOrder}
use Rattle.rules.specs.Segments.{SegmentKind, Data, LineEnding, Web, Segment, segment, line_ending_at, line_ending_end, begins, between, cut_from, segments}
use Rattle.rules.specs.SegmentLaws.{OneAfterAnother, holding, RightFor, Right, is_data, data_first, DataApart, web_span_of, web_spans, Canonical, SegmentsAreLawful}
use Rattle.rules.specs.Web.{links}
use Rattle.rules.specs.WebLaws.{WebSpan}
use Rattle.rules.proofs.WebParts.{lawful}

-- ---- segments one after another

pub cover_le : (a b : ℕ) (xs : List Segment) → OneAfterAnother a b xs → a ≤ b
cover_le a b [] t = omega arith
cover_le a b (x ∷ xs) t = omega (arith, t.1.0, cover_le x.to b xs t.1.1)

cover-few : (a b : ℕ) (xs : List Segment) → OneAfterAnother a b xs → length xs ≤ b - a
cover-few a b [] t = omega arith
cover-few a b (x ∷ xs) t = omega (arith, t.1.0, cover-few x.to b xs t.1.1, cover_le x.to b xs t.1.1)

holding-before : (a b : ℕ) (xs : List Segment) (i : ℕ) → OneAfterAnother a b xs → i < a → holding xs i ≡ 0
holding-before a b [] i t lt = refl
holding-before a b (x ∷ xs) i t lt =
    cond-false (leb x.from i && ltb i x.to) _ _ (and_left (leb x.from i) (ltb i x.to) (lt-leb x.from i (omega (arith, t.0))))
    ∙ holding-before x.to b xs i t.1.1 (omega (arith, t.1.0))

holding-once : (a b : ℕ) (xs : List Segment) (i : ℕ) → OneAfterAnother a b xs → a ≤ i → i < b → holding xs i ≡ 1
holding-once a b [] i t lo hi = absurd (omega arith)
holding-once a b (x ∷ xs) i t lo hi =
    ⊎_elim
    (λ lt.
    cond-true (leb x.from i && ltb i x.to) _ _ (and_from (leb x.from i) (ltb i x.to) (le-leb x.from i (omega (arith, t.0))) (lt-ltb i x.to lt))
    ∙ ap suc (holding-before x.to b xs i t.1.1 lt))
    (λ ge.
    cond-false (leb x.from i && ltb i x.to) _ _ (and_right (leb x.from i) (ltb i x.to) (le-ltb i x.to ge))
    ∙ holding-once x.to b xs i t.1.1 ge hi)
    (cases_lt i x.to)

-- ---- one step of a cut

-- no span begins at i
cut-between : (s : List ℕ) (n : ℕ) (xs : List Span) (i : ℕ) → i < length s → begins xs i ≡ false → cut_from s (suc n) xs i ≡ between s xs i ∷ cut_from s n xs (between s xs i).to
cut-between s n [] i lt h = cond-true (ltb i (length s)) _ [] (lt-ltb i (length s) lt)
cut-between s n (x ∷ xs) i lt h = cond-true (ltb i (length s)) _ [] (lt-ltb i (length s) lt) ∙ cond-false (eqb x.from i) _ _ h

cut-web : (s : List ℕ) (n : ℕ) (x : Span) (xs : List Span) (i : ℕ) → i < length s → x.from ≡ i → cut_from s (suc n) (x ∷ xs) i ≡ segment (Web x.kind) i x.to ∷ cut_from s n xs x.to
cut-web s n x xs i lt h = cond-true (ltb i (length s)) _ [] (lt-ltb i (length s) lt) ∙ cond-true (eqb x.from i) _ _ (eq-eqb x.from i h)

cut-end : (s : List ℕ) (n : ℕ) (xs : List Span) (i : ℕ) → length s ≤ i → cut_from s n xs i ≡ []
cut-end s zero xs i le = refl
cut-end s (suc n) [] i le = cond-false (ltb i (length s)) _ [] (le-ltb i (length s) le)
cut-end s (suc n) (x ∷ xs) i le = cond-false (ltb i (length s)) _ [] (le-ltb i (length s) le)

-- ---- the cut by spans in text order, none of which begins with a byte of a line ending

module _ (s : List ℕ) where
  abbrev Clear : Span → Type 0
  Clear x = (x.to ≤ length s) × (line_ending_at s x.from ≡ false)

  pub line_ending_high : (i : ℕ) → i < length s → (i < line_ending_end s i) × (line_ending_end s i ≤ length s)
  line_ending_high i lt =
      ⊎_elim
      (λ t.
      let e : line_ending_end s i ≡ i + 2 = cond-true (eqb (get_or s i 0) 13 && eqb (get_or s (i + 1) 0) 10) (i + 2) (i + 1) t in
      let b : get_or s (i + 1) 0 ≡ 10 = eqb-true (get_or s (i + 1) 0) 10 (and_parts (eqb (get_or s i 0) 13) (eqb (get_or s (i + 1) 0) 10) t).1 in
      let in-s : i + 1 < length s = ⊎_elim (λ l. l) (λ ge. absurd (omega (arith, get_or_past s (i + 1) 0 ge, b))) (cases_lt (i + 1) (length s)) in
      (omega arith, omega arith))
      (λ f.
      let e : line_ending_end s i ≡ i + 1 = cond-false (eqb (get_or s i 0) 13 && eqb (get_or s (i + 1) 0) 10) (i + 2) (i + 1) f in
      (omega arith, omega arith))
      (cases_Bool (eqb (get_or s i 0) 13 && eqb (get_or s (i + 1) 0) 10))

  -- no span begins inside a line ending
  pub line_ending_low : (i k : ℕ) → i < k → line_ending_at s k ≡ false → line_ending_end s i ≤ k
  line_ending_low i k lt h =
      ⊎_elim
      (λ t.
      let e : line_ending_end s i ≡ i + 2 = cond-true (eqb (get_or s i 0) 13 && eqb (get_or s (i + 1) 0) 10) (i + 2) (i + 1) t in
      let b : get_or s (i + 1) 0 ≡ 10 = eqb-true (get_or s (i + 1) 0) 10 (and_parts (eqb (get_or s i 0) 13) (eqb (get_or s (i + 1) 0) 10) t).1 in
      let ne : i + 1 ≡ k → ⊥ = λ q. both_ways (line_ending_at s k) h (ap (line_ending_at s) (sym q) ∙ ap (among (13 ∷ 10 ∷ [])) b) in
      omega (arith, ne))
      (λ f.
      let e : line_ending_end s i ≡ i + 1 = cond-false (eqb (get_or s i 0) 13 && eqb (get_or s (i + 1) 0) 10) (i + 2) (i + 1) f in
      omega arith)
      (cases_Bool (eqb (get_or s i 0) 13 && eqb (get_or s (i + 1) 0) 10))

  -- what is known of the line ending or data at i; xs are the spans beyond
  record Step (xs : List Span) (i : ℕ) (y : Segment) : Type 0 where
    at : y.from ≡ i
    on : i < y.to
    high : y.to ≤ length s
    beyond : InTextOrder y.to xs
    right : Right s y
    no-web : web_span_of y.kind y.from y.to ≡ []
    stops : is_data y.kind ≡ true → y.to < length s → (line_ending_at s y.to || begins xs y.to) ≡ true

  later : (i k : ℕ) (xs : List Span) → InTextOrder i xs → ((x : Span) (r : List Span) → xs ≡ x ∷ r → k ≤ x.from) → InTextOrder k xs
  later i k [] t h = tt
  later i k (x ∷ xs) t h = ((h x xs refl, t.0.1), t.1)

  between_step : (xs : List Span) (i : ℕ) → i < length s → InTextOrder i xs → AllByRecursion Clear xs → begins xs i ≡ false → Step xs i (between s xs i)
  between_step xs i lt t c h =
      ⊎_elim
      (λ l. subst (Step xs i) (sym (cond-true (line_ending_at s i) _ _ l)) (line l))
      (λ l. subst (Step xs i) (sym (cond-false (line_ending_at s i) _ _ l)) (run l))
      (cases_Bool (line_ending_at s i))
    where
      -- the next span begins beyond i
      next-beyond : (x : Span) (r : List Span) → xs ≡ x ∷ r → (i < x.from) × ((x.from < x.to) × Clear x)
      next-beyond x r e =
          let t' = subst (InTextOrder i) e t in
          let c' = subst (AllByRecursion Clear) e c in
          let ne = eqb-false x.from i (subst (λ l. begins l i ≡ false) e h) in
          (omega (arith, t'.0.0, ne), (t'.0.1, c'.0))

      line : line_ending_at s i ≡ true → Step xs i (segment LineEnding i (line_ending_end s i))
      line l =
          let w = line_ending_high i lt in
          record {
            at = refl;
            on = w.0;
            high = w.1;
            beyond = later i (line_ending_end s i) xs t (λ x r e. let n = next-beyond x r e in line_ending_low i x.from n.0 n.1.1.1);
            right = (l, refl);
            no-web = refl;
            stops = λ d. absurd (true≢false (sym d));
          }

      run : line_ending_at s i ≡ false → Step xs i (segment Data i (first (λ j. line_ending_at s j || begins xs j) s (i + 1)))
      run l =
          let p : ℕ → Bool = λ j. line_ending_at s j || begins xs j in
          let w = first-within p s (i + 1) (omega arith) in
          record {
            at = refl;
            on = omega (arith, w.low);
            high = w.high;
            beyond = later i (first p s (i + 1)) xs t (λ x r e.
                let n = next-beyond x r e in
                ⊎_elim
                (λ less.
                absurd (both_ways (begins xs x.from)
                (or_parts (line_ending_at s x.from) (begins xs x.from) (w.none x.from (omega (arith, n.0)) less)).1
                (ap (λ l. begins l x.from) e ∙ eq-eqb x.from x.from refl)))
                (λ le. le)
                (cases_lt x.from (first p s (i + 1))));
            right = λ j lo hi. ⊎_elim (λ less. (or_parts (line_ending_at s j) (begins xs j) (w.none j (omega arith) hi)).0) (λ ge. let q : j ≡ i = omega arith in ap (line_ending_at s) q ∙ l) (cases_lt i j);
            no-web = refl;
            stops = λ d less. w.here less;
          }

  -- what begins at a line ending or at a span is no data
  not_data : (n : ℕ) (xs : List Span) (i : ℕ) → i < length s → (line_ending_at s i || begins xs i) ≡ true → data_first (cut_from s n xs i) ≡ false
  not_data zero xs i lt h = refl
  not_data (suc n) xs i lt h = by_begins xs h (begins xs i) refl
    where
      by_begins : (xs : List Span) → (line_ending_at s i || begins xs i) ≡ true → (b : Bool) → begins xs i ≡ b → data_first (cut_from s (suc n) xs i) ≡ false
      by_begins [] h true e = absurd (true≢false (sym e))
      by_begins (x ∷ xs) h true e = ap data_first (cut-web s n x xs i lt (eqb-true x.from i e))
      by_begins xs h false e =
          let l : line_ending_at s i ≡ true = ⊎_elim (λ t. t) (λ f. absurd (both_ways (line_ending_at s i || begins xs i) (or_from (line_ending_at s i) (begins xs i) f e) h)) (cases_Bool (line_ending_at s i)) in
          ap data_first (cut-between s n xs i lt e) ∙ ap (λ (y : Segment). is_data y.kind) (cond-true (line_ending_at s i) (segment LineEnding i (line_ending_end s i)) _ l)

  record Good (i : ℕ) (xs : List Span) (ys : List Segment) : Type 0 where
    cover : OneAfterAnother i (length s) ys
    web : web_spans ys ≡ xs
    right : AllByRecursion (Right s) ys
    apart : DataApart ys

  -- at the end of the note no span is left
  none_left : (i : ℕ) (xs : List Span) → length s ≤ i → InTextOrder i xs → AllByRecursion Clear xs → [] ≡ xs
  none_left i [] le t c = refl
  none_left i (x ∷ xs) le t c = absurd (omega (arith, t.0.0, t.0.1, c.0.0))

  good_end : (n i : ℕ) (xs : List Span) → i ≤ length s → length s ≤ i → InTextOrder i xs → AllByRecursion Clear xs → Good i xs (cut_from s n xs i)
  good_end n i xs le ge t c = subst (Good i xs) (sym (cut-end s n xs i ge)) (record { cover = omega arith; web = none_left i xs ge t c; right = tt; apart = tt })

  good_between : (n i : ℕ) (xs : List Span) (y : Segment) → Step xs i y → Good y.to xs (cut_from s n xs y.to) → Good i xs (y ∷ cut_from s n xs y.to)
  good_between n i xs y f g =
      let rest = cut_from s n xs y.to in
      record {
        cover = (f.at, (f.on, g.cover));
        web = ap (λ l. l ++ web_spans rest) f.no-web ∙ g.web;
        right = (f.right, g.right);
        apart = (
          ⊎_elim
              (λ d.
              and_right (is_data y.kind) (data_first rest)
              (⊎_elim (λ lt. not_data n xs y.to lt (f.stops d lt)) (λ le. ap data_first (cut-end s n xs y.to le)) (cases_lt y.to (length s))))
              (λ d. and_left (is_data y.kind) (data_first rest) d)
              (cases_Bool (is_data y.kind)),
          g.apart,
        );
      }

  good_web : (n i : ℕ) (x : Span) (xs : List Span) → x.from ≡ i → x.from < x.to → Good x.to xs (cut_from s n xs x.to) → Good i (x ∷ xs) (segment (Web x.kind) i x.to ∷ cut_from s n xs x.to)
  good_web n i x xs e lt g =
      record {
        cover = (refl, (omega arith, g.cover));
        web =
            ap (λ (k : ℕ). (let y : Span = record { kind = x.kind; from = k; to = x.to } in y) ∷ web_spans (cut_from s n xs x.to)) (sym e)
            ∙ ap (λ l. x ∷ l) g.web;
        right = (tt, g.right);
        apart = (refl, g.apart);
      }

  -- so many segments are enough from every place on
  abbrev GoodCut : ℕ → Type 0
  GoodCut n = (xs : List Span) (i : ℕ) → i ≤ length s → length s ≤ i + n → InTextOrder i xs → AllByRecursion Clear xs → Good i xs (cut_from s n xs i)

  good_more : (n : ℕ) → GoodCut n → (xs : List Span) (i : ℕ) → length s ≤ i + suc n → InTextOrder i xs → AllByRecursion Clear xs → i < length s → (b : Bool) → begins xs i ≡ b → Good i xs (cut_from s (suc n) xs i)
  good_more n rec [] i fuel t c lt true e = absurd (true≢false (sym e))
  good_more n rec (x ∷ xs) i fuel t c lt true e =
      let at = eqb-true x.from i e in
      subst (Good i (x ∷ xs)) (sym (cut-web s n x xs i lt at))
      (good_web n i x xs at t.0.1 (rec xs x.to c.0.0 (omega (arith, t.0.0, t.0.1)) t.1 c.1))
  good_more n rec xs i fuel t c lt false e =
      let f = between_step xs i lt t c e in
      let y = between s xs i in
      subst (Good i xs) (sym (cut-between s n xs i lt e))
      (good_between n i xs y f (rec xs y.to f.high (omega (arith, f.on)) f.beyond c))

  good_cut : (n : ℕ) → GoodCut n
  good_cut zero xs i le fuel t c = good_end zero i xs le (omega arith) t c
  good_cut (suc n) xs i le fuel t c =
      ⊎_elim
      (λ lt. good_more n (good_cut n) xs i fuel t c lt (begins xs i) refl)
      (λ ge. good_end (suc n) i xs le ge t c)
      (cases_lt i (length s))

-- ---- no other cut has these properties

-- the spans of what covers from a on begin at a or beyond
abbrev Beyond : ℕ → List Span → Type 0
Beyond a [] = Unit {0}
Beyond a (x ∷ xs) = a ≤ x.from

beyond_less : (a b : ℕ) (xs : List Span) → a ≤ b → Beyond b xs → Beyond a xs
beyond_less a b [] le h = tt
beyond_less a b (x ∷ xs) le h = omega arith

spans-beyond : (a b : ℕ) (xs : List Segment) → OneAfterAnother a b xs → Beyond a (web_spans xs)
spans-beyond a b [] t = tt
spans-beyond a b (x ∷ xs) t = at x.kind x.from x.to t.0 t.1.0 (spans-beyond x.to b xs t.1.1)
  where
    at : (k : SegmentKind) (from to : ℕ) → from ≡ a → a < to → Beyond to (web_spans xs) → Beyond a (web_span_of k from to ++ web_spans xs)
    at Data from to p q h = beyond_less a to (web_spans xs) (omega arith) h
    at LineEnding from to p q h = beyond_less a to (web_spans xs) (omega arith) h
    at (Web k) from to p q h = omega arith

begins-none : (a j : ℕ) (xs : List Span) → Beyond a xs → j < a → begins xs j ≡ false
begins-none a j [] h lt = refl
begins-none a j (x ∷ xs) h lt = ne_eqb x.from j (λ e. omega arith)

module _ (s : List ℕ) where
  -- they are the cut by their own web spans
  abbrev Cut : ℕ → List Segment → Type 0
  Cut i xs = (n : ℕ) → length s ≤ i + n → cut_from s n (web_spans xs) i ≡ xs

  -- data ends at the end of the note, at a line ending or at a web span
  data_end : (a b : ℕ) (r : List Segment) → a < b → OneAfterAnother b (length s) r → AllByRecursion (Right s) r → data_first r ≡ false → ((j : ℕ) → a ≤ j → j < b → line_ending_at s j ≡ false) → first (λ j. line_ending_at s j || begins (web_spans r) j) s (a + 1) ≡ b
  data_end a b r lt t u h f =
      let p : ℕ → Bool = λ j. line_ending_at s j || begins (web_spans r) j in
      first-seek p (length s - (a + 1)) (a + 1) b (record {
        low = omega arith;
        high = omega (arith, cover_le b (length s) r t);
        none = λ j lo hi. or_from (line_ending_at s j) (begins (web_spans r) j) (f j (omega arith) hi) (begins-none b j (web_spans r) (spans-beyond b (length s) r t) hi);
        here = λ less. at r t u h (omega (arith, cover_le b (length s) r t));
      })
    where
      here : (k : SegmentKind) (c d : ℕ) (q : List Segment) → c ≡ b → RightFor k s c d → is_data k ≡ false → (line_ending_at s b || begins (web_span_of k c d ++ web_spans q) b) ≡ true
      here Data c d q e g h = absurd (true≢false h)
      here LineEnding c d q e g h = or_left (line_ending_at s b) _ (ap (line_ending_at s) (sym e) ∙ g.0)
      here (Web k) c d q e g h = or_right (line_ending_at s b) _ (eq-eqb c b e)

      at : (r : List Segment) → OneAfterAnother b (length s) r → AllByRecursion (Right s) r → data_first r ≡ false → b < length s → (line_ending_at s b || begins (web_spans r) b) ≡ true
      at [] t u h less = absurd (omega arith)
      at (y ∷ q) t u h less = here y.kind y.from y.to q t.0 u.0 h

  cut-one : (i : ℕ) (k : SegmentKind) (a b : ℕ) (r : List Segment) → OneAfterAnother i (length s) (segment k a b ∷ r) → AllByRecursion (Right s) (segment k a b ∷ r) → DataApart (segment k a b ∷ r) → Cut b r → Cut i (segment k a b ∷ r)
  cut-one i k a b r (p, (q, t)) u h ih zero fuel = absurd (let le = cover_le b (length s) r t in omega arith)
  cut-one i (Web k) a b r (p, (q, t)) u h ih (suc m) fuel =
      let le = cover_le b (length s) r t in
      let x : Span = record { kind = k; from = a; to = b } in
      cut-web s m x (web_spans r) i (omega arith) p
      ∙ ap (λ j. segment (Web k) j b ∷ cut_from s m (web_spans r) b) (sym p)
      ∙ ap (λ z. segment (Web k) a b ∷ z) (ih m (omega arith))
  cut-one i LineEnding a b r (p, (q, t)) u h ih (suc m) fuel =
      let le = cover_le b (length s) r t in
      let line : line_ending_at s i ≡ true = ap (line_ending_at s) (sym p) ∙ u.0.0 in
      let to : line_ending_end s i ≡ b = ap (line_ending_end s) (sym p) ∙ sym u.0.1 in
      let o : between s (web_spans r) i ≡ segment LineEnding a b = cond-true (line_ending_at s i) _ _ line ∙ ap (λ j. segment LineEnding i j) to ∙ ap (λ j. segment LineEnding j b) (sym p) in
      cut-between s m (web_spans r) i (omega arith) (begins-none b i (web_spans r) (spans-beyond b (length s) r t) q)
      ∙ ap (λ (y : Segment). y ∷ cut_from s m (web_spans r) y.to) o ∙ ap (λ z. segment LineEnding a b ∷ z) (ih m (omega arith))
  cut-one i Data a b r (p, (q, t)) u h ih (suc m) fuel =
      let le = cover_le b (length s) r t in
      let line : line_ending_at s i ≡ false = u.0 i (omega arith) q in
      let to : first (λ j. line_ending_at s j || begins (web_spans r) j) s (i + 1) ≡ b = ap (λ k. first (λ j. line_ending_at s j || begins (web_spans r) j) s (k + 1)) (sym p) ∙ data_end a b r (omega arith) t u.1 h.0 u.0 in
      let o : between s (web_spans r) i ≡ segment Data a b = cond-false (line_ending_at s i) _ _ line ∙ ap (λ j. segment Data i j) to ∙ ap (λ j. segment Data j b) (sym p) in
      cut-between s m (web_spans r) i (omega arith) (begins-none b i (web_spans r) (spans-beyond b (length s) r t) q)
      ∙ ap (λ (y : Segment). y ∷ cut_from s m (web_spans r) y.to) o ∙ ap (λ z. segment Data a b ∷ z) (ih m (omega arith))

  cut-is : (i : ℕ) (xs : List Segment) → OneAfterAnother i (length s) xs → AllByRecursion (Right s) xs → DataApart xs → Cut i xs
  cut-is i [] t u h n fuel = cut-end s n [] i (omega arith)
  cut-is i (x ∷ xs) t u h n fuel = cut-one i x.kind x.from x.to xs t u h (cut-is x.to xs t.1.1 u.1 h.1) n fuel

pub canonical-is : (member : ℕ → Bool) (s : List ℕ) (xs : List Segment) → Canonical member s xs → xs ≡ segments member s
canonical-is member s xs c =
    sym (ap (λ l. cut_from s (length s) l 0) (sym c.web) ∙ cut-is s 0 xs c.cover c.right c.apart (length s) (omega arith))

-- ---- the segments of a note

-- a web span begins with no byte of a line ending
clear-spans : (member : ℕ → Bool) (s : List ℕ) (c : ℕ) (xs : List Span) → InTextOrder c xs → AllByRecursion (WebSpan member s) xs → AllByRecursion (Clear s) xs
clear-spans member s c [] t h = tt
clear-spans member s c (x ∷ xs) t h = ((h.0.within, h.0.no_line_ending x.from (omega arith) t.0.1), clear-spans member s x.to xs t.1 h.1)

pub canonical-segments : (member : ℕ → Bool) (s : List ℕ) → Canonical member s (segments member s)
canonical-segments member s =
    let l = lawful member s in
    let xs = links member s in
    let g = good_cut s (length s) xs 0 (omega arith) (omega arith) l.in_text_order (clear-spans member s 0 xs l.in_text_order l.are_web_spans) in
    record { cover = g.cover; web = g.web; right = g.right; apart = g.apart }

pub lawful-segments : SegmentsAreLawful
lawful-segments member s =
    let c = canonical-segments member s in
    record {
      canonical = c;
      each_byte_once = λ i lt. holding-once 0 (length s) (segments member s) i c.cover (omega arith) lt;
      few = omega (arith, cover-few 0 (length s) (segments member s) c.cover);
      no_other = canonical-is member s;
    }
