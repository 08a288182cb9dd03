-- What the link rules say of the span at a place: where its parts lie, what stands in them, and that the rule goes forward.
-- Assumes nothing.
use Rattle.std.proofs.Common.{◌≡◌, ℕ, zero, suc, ◌+◌, ◌-◌, ◌<◌, ◌≤◌, Bool, true, false, cond, not, ◌&&◌, ◌||◌, eqb, ltb, ◌⊎◌, List, [], ◌∷◌, map, length, get_or, take, drop, Some, None, codes, count_by, Option, sym, refl, ap, ◌∙◌, subst, inl, inr, ⊎_elim, arith}
use Rattle.std.proofs.lemmas.List.Edits.{between_more}
use Rattle.std.proofs.lemmas.List.{length-take, length-drop}
use Rattle.std.proofs.lemmas.List.Sums.{sum_by_push}
use Rattle.std.proofs.lemmas.Bool.{cases_Bool, cases_lt, cond-true, cond-false, or_cases, or_parts, or_left, or_right, and_cases, and_from, and_parts, eqb-true, ne_eqb, ltb-true, ltb-false, le-ltb, not-false, both_ways, true≢false}
use Rattle.std.proofs.lemmas.Bool.Decides.{nat_tests}
use Rattle.text.specs.declared.spans.Span.{Span}
use Rattle.text.specs.declared.spans.SpanKind.{SpanKind}
use Rattle.text.specs.declared.spans.SpanKind.TheVariants.{Www, Protocol}
use Rattle.text.specs.Ascii.{letter, lower_case, reads}
use Rattle.text.specs.Bytes.{among, within, each, same, part}
use Rattle.punctuation.specs.Kinds.{kind_of}
use Rattle.characters.specs.WhiteSpace.{white_space}
use Rattle.text.proofs.Firsts.{first-within}
use Rattle.text.proofs.Runs.{part_at}
use Rattle.rules.specs.Web.{is_white, is_other, white_at, other_at, mark, trail, joint, domain_stops, domain_end, valid, unclosed, trail_starter, path_stops, path_end, after, before_www, www_at, protocol_length, web_span, link_at}
use Rattle.rules.specs.WebLaws.{BeginsAs, WebSpan, WebSpansAreLawful}
use Rattle.rules.proofs.KindsAtPlaces.{among-each, byte_kind, ascii_dark, character_dark, end-is_white, other_not_white, joint_not_white}
use Rattle.rules.proofs.Trails.{trail_mark, trail-closing, trail_white, trail_angle}
use Rattle.rules.proofs.Turns.{Forward, left-in_order, left-in_turn, left-all}

-- ---- bytes that stand in no part of an address before its path

-- parentheses, `<`, CR and LF
abbrev barred : ℕ → Bool
barred b = among (40 ∷ 41 ∷ 60 ∷ 13 ∷ 10 ∷ []) b

-- what holds of each place of an address before its path
pub record Calm (m : ℕ → Bool) (s : List ℕ) (j : ℕ) : Type 0 where
  pub dark : white_at m s j ≡ false
  pub free : barred (get_or s j 0) ≡ false

module _ (m : ℕ → Bool) (s : List ℕ) (j : ℕ) (lt : j < length s) where
  -- a domain goes on over a byte that is joint, or over one of another character
  goes_on : domain_stops m s j ≡ false → (joint (get_or s j 0) ≡ true) ⊎ (other_at m s j ≡ true)
  goes_on h =
      let p = or_parts (among (codes "._") (get_or s j 0) && trail m true s j) (not (joint (get_or s j 0)) && not (other_at m s j)) h in
      ⊎_elim
      (λ a. inl (not-false (joint (get_or s j 0)) a))
      (λ a. inr (not-false (other_at m s j) a))
      (and_cases (not (joint (get_or s j 0))) (not (other_at m s j)) p.1)

  -- so it holds no byte below 128 that is neither
  not_in_domain : domain_stops m s j ≡ false → (b : ℕ) → b < 128 → joint b ≡ false → is_other (kind_of m b) ≡ false → get_or s j 0 ≡ b → ⊥
  not_in_domain h b low no-joint no_other e =
      ⊎_elim
      (λ a. both_ways (joint (get_or s j 0)) (ap joint e ∙ no-joint) a)
      (λ a. both_ways (other_at m s j) (ap is_other (byte_kind m s j b low lt e) ∙ no_other) a)
      (goes_on h)

  in_domain : domain_stops m s j ≡ false → Calm m s j
  in_domain h =
      record {
        dark = ⊎_elim (λ a. joint_not_white m s j lt a) (λ a. other_not_white m s j a) (goes_on h);
        free =
            ⊎_elim
            (λ t. absurd (among-each (λ b. get_or s j 0 ≡ b → ⊥) (40 ∷ 41 ∷ 60 ∷ 13 ∷ 10 ∷ [])
            (not_in_domain h 40 (omega arith) refl refl, (not_in_domain h 41 (omega arith) refl refl, (not_in_domain h 60 (omega arith) refl refl, (not_in_domain h 13 (omega arith) refl refl, (not_in_domain h 10 (omega arith) refl refl, tt)))))
            (get_or s j 0) t refl))
            (λ f. f)
            (cases_Bool (barred (get_or s j 0)));
      }

-- ---- the bytes of `http://` and `https://`

-- letters, `:` and `/`
abbrev scheme_byte : ℕ → Bool
scheme_byte b = letter b || among (58 ∷ 47 ∷ []) b

scheme_lower : (b : ℕ) → scheme_byte (lower_case b) ≡ true → scheme_byte b ≡ true
scheme_lower b h =
    ⊎_elim
    (λ big. or_left (letter b) _ (or_left (within 65 90 b) _ big))
    (λ small. ap scheme_byte (sym (cond-false (within 65 90 b) (b + 32) b small)) ∙ h)
    (cases_Bool (within 65 90 b))

scheme_dark : (b : ℕ) → scheme_byte b ≡ true → (b < 128) × ((white_space b ≡ false) × (barred b ≡ false))
scheme_dark b h =
    ⊎_elim
    (λ l. (grind (arith, nat_tests), (grind (arith, nat_tests), grind (arith, nat_tests))))
    (λ a. among-each (λ x. (x < 128) × ((white_space x ≡ false) × (barred x ≡ false))) (58 ∷ 47 ∷ []) ((omega arith, (refl, refl)), ((omega arith, (refl, refl)), tt)) b a)
    (or_cases (letter b) (among (58 ∷ 47 ∷ []) b) h)

reads-each : (w bs : List ℕ) → reads w bs ≡ true → each scheme_byte w ≡ true → (length bs ≡ length w) × ((j : ℕ) → j < length bs → scheme_byte (get_or bs j 0) ≡ true)
reads-each [] [] e h = (refl, λ j lt. absurd (omega arith))
reads-each [] (b ∷ bs) e h = absurd (true≢false (sym e))
reads-each (c ∷ w) [] e h = absurd (true≢false (sym e))
reads-each (c ∷ w) (b ∷ bs) e h =
    let p = and_parts (eqb c (lower_case b)) (same w (map lower_case bs)) e in
    let q = and_parts (scheme_byte c) (each scheme_byte w) h in
    let r = reads-each w bs p.1 q.1 in (
      ap suc r.0,
      λ (j : ℕ). elim j as (λ k. k < suc (length bs) → scheme_byte (get_or (b ∷ bs) k 0) ≡ true) [
        | zero ↦ λ lt. scheme_lower b (ap scheme_byte (sym (eqb-true c (lower_case b) p.0)) ∙ q.0)
        | suc k ↦ λ lt. r.1 k (omega arith)
      ],
    )

module _ (m : ℕ → Bool) (s w : List ℕ) (i n : ℕ) where
  -- where a word of such bytes is read, it ends within s, and each of its places is calm
  reads_calm : length w ≡ n → reads w (part i (i + n) s) ≡ true → each scheme_byte w ≡ true → 0 < n → (i + n ≤ length s) × ((j : ℕ) → i ≤ j → j < i + n → Calm m s j)
  reads_calm long e h some-n =
      let r = reads-each w (part i (i + n) s) e h in
      let size : length (take (i + n - i) (drop i s)) ≡ n = r.0 ∙ long in
      let size' = simp (length-take, length-drop) at size in
      let inside : i + n ≤ length s = omega arith in (
        inside,
        λ j a b.
            let k : j - i < i + n - i = omega arith in
            let at : i + (j - i) ≡ j = omega arith in
            let there : get_or (part i (i + n) s) (j - i) 0 ≡ get_or s j 0 = part_at i (i + n) s (j - i) k ∙ ap (λ t. get_or s t 0) at in
            let is : scheme_byte (get_or s j 0) ≡ true = ap scheme_byte (sym there) ∙ r.1 (j - i) (omega (arith, size)) in
            let d = scheme_dark (get_or s j 0) is in
            record {
              dark = ascii_dark m s j (omega arith) d.0 d.1.0;
              free = d.1.1;
            },
      )

-- ---- counts of parentheses

module _ (p : ℕ → Bool) (s : List ℕ) where
  pub count-more : (a i : ℕ) → a ≤ i → i < length s → count_by p (part a (i + 1) s) ≡ count_by p (part a i s) + cond (p (get_or s i 0)) 1 0
  count-more a i le lt = ap (count_by p) (between_more s a i 0 le lt) ∙ sum_by_push (λ x. cond (p x) 1 0) (part a i s) (get_or s i 0)

  count_same : (a i : ℕ) → a ≤ i → i < length s → p (get_or s i 0) ≡ false → count_by p (part a (i + 1) s) ≡ count_by p (part a i s)
  count_same a i le lt h = omega (arith, count-more a i le lt, cond-false {A = ℕ} (p (get_or s i 0)) 1 0 h)

  count_none : (n a : ℕ) → a + n ≤ length s → ((j : ℕ) → a ≤ j → j < a + n → p (get_or s j 0) ≡ false) → count_by p (part a (a + n) s) ≡ 0
  count_none zero a le h = let e : a + 0 - a ≡ 0 = omega arith in ap (λ k. count_by p (take k (drop a s))) e
  count_none (suc n) a le h =
      let e : a + suc n ≡ a + n + 1 = omega arith in
      ap (λ k. count_by p (part a k s)) e ∙ count_same a (a + n) (omega arith) (omega arith) (h (a + n) (omega arith) (omega arith))
      ∙ count_none n a (omega arith) (λ j lo hi. h j lo (omega arith))

  -- bytes at the front of which none counts may be left out
  count_past : (n a b : ℕ) → a ≤ b → b + n ≤ length s → ((j : ℕ) → a ≤ j → j < b → p (get_or s j 0) ≡ false) → count_by p (part a (b + n) s) ≡ count_by p (part b (b + n) s)
  count_past zero a b le fits h =
      let e : a + (b - a) ≡ b + 0 = omega arith in
      let z : b + 0 - b ≡ 0 = omega arith in
      ap (λ k. count_by p (part a k s)) (sym e) ∙ count_none (b - a) a (omega arith) (λ j lo hi. h j lo (omega arith))
      ∙ sym (ap (λ k. count_by p (take k (drop b s))) z)
  count_past (suc n) a b le fits h =
      let e : b + suc n ≡ b + n + 1 = omega arith in
      ap (λ k. count_by p (part a k s)) e
      ∙ count-more a (b + n) (omega arith) (omega arith)
      ∙ ap (λ k. k + cond (p (get_or s (b + n) 0)) 1 0) (count_past n a b le (omega arith) h)
      ∙ sym (ap (λ k. count_by p (part b k s)) e ∙ count-more b (b + n) (omega arith) (omega arith))

-- ---- the parts of a span: [i, e) up to the end of the domain, and the path [e, p)

pub record Shape (m : ℕ → Bool) (s : List ℕ) (i e p : ℕ) : Type 0 where
  pub some : i < e
  pub low : e ≤ p
  pub high : p ≤ length s
  pub front : (j : ℕ) → i ≤ j → j < e → Calm m s j
  pub domain_last : domain_stops m s (e - 1) ≡ false
  pub path : (j : ℕ) → e ≤ j → j < p → path_stops m s e j ≡ false
  pub here : p < length s → path_stops m s e p ≡ true

abbrev marks : List ℕ
marks = 33 ∷ 34 ∷ 39 ∷ 42 ∷ 44 ∷ 46 ∷ 58 ∷ 59 ∷ 63 ∷ 95 ∷ 126 ∷ 93 ∷ []

-- a mark may start a trail, and is no parenthesis
mark_starts : (b : ℕ) → mark b ≡ true → trail_starter b ≡ true
mark_starts = among-each (λ b. trail_starter b ≡ true) marks (refl, (refl, (refl, (refl, (refl, (refl, (refl, (refl, (refl, (refl, (refl, (refl, tt))))))))))))

mark-apart : (b : ℕ) → mark b ≡ true → (eqb b 40 ≡ false) × (eqb b 41 ≡ false)
mark-apart =
    among-each (λ b. (eqb b 40 ≡ false) × (eqb b 41 ≡ false)) marks
    ((refl, refl), ((refl, refl), ((refl, refl), ((refl, refl), ((refl, refl), ((refl, refl), ((refl, refl), ((refl, refl), ((refl, refl), ((refl, refl), ((refl, refl), ((refl, refl), tt))))))))))))

-- a domain holds no mark but `.` and `_`
module _ (m : ℕ → Bool) where
  abbrev Barely : ℕ → Type 0
  Barely b = (among (codes "._") b ≡ true) ⊎ ((b < 128) × ((joint b ≡ false) × (is_other (kind_of m b) ≡ false)))

  mark-domain : (b : ℕ) → mark b ≡ true → Barely b
  mark-domain = among-each Barely marks (inr (omega arith, (refl, refl)), (inr (omega arith, (refl, refl)), (inr (omega arith, (refl, refl)), (inr (omega arith, (refl, refl)), (inr (omega arith, (refl, refl)), (inl refl, (inr (omega arith, (refl, refl)), (inr (omega arith, (refl, refl)), (inr (omega arith, (refl, refl)), (inl refl, (inr (omega arith, (refl, refl)), (inr (omega arith, (refl, refl)), tt))))))))))))

module _ (m : ℕ → Bool) (s : List ℕ) (i e p : ℕ) (f : Shape m s i e p) where
  -- neither `(` nor `)` stands before the path
  front_apart : (b : ℕ) → (barred b ≡ true) → (j : ℕ) → i ≤ j → j < e → eqb (get_or s j 0) b ≡ false
  front_apart b is j lo hi = ne_eqb (get_or s j 0) b (λ q. both_ways (barred (get_or s j 0)) (f.front j lo hi).free (ap barred q ∙ is))

  whole-unclosed : (q : ℕ) → e ≤ q → q ≤ length s → unclosed (part i q s) ≡ unclosed (part e q s)
  whole-unclosed q lo hi =
      let at : e + (q - e) ≡ q = omega arith in
      let some = f.some in
      let count : (b : ℕ) → barred b ≡ true → count_by (λ x. eqb x b) (part i q s) ≡ count_by (λ x. eqb x b) (part e q s) = λ b is.
      subst (λ k. count_by (λ x. eqb x b) (part i k s) ≡ count_by (λ x. eqb x b) (part e k s)) at
      (count_past (λ x. eqb x b) s (q - e) i e (omega arith) (omega arith) (front_apart b is)) in
      ap (λ n. ltb n (count_by (λ b. eqb b 40) (part i q s))) (count 41 refl) ∙ ap (λ n. ltb (count_by (λ b. eqb b 41) (part e q s)) n) (count 40 refl)

  then_trail : trail m (not (unclosed (part e p s))) s p ≡ true
  then_trail =
      ⊎_elim
      (λ lt.
      ⊎_elim
      (λ w. trail_white m _ s p w)
      (λ t. (and_parts (trail_starter (get_or s p 0)) (trail m (not (unclosed (part e p s))) s p) t).1)
      (or_cases (white_at m s p) (trail_starter (get_or s p 0) && trail m (not (unclosed (part e p s))) s p) (f.here lt)))
      (λ le. trail_white m _ s p (end-is_white m s p le))
      (cases_lt p (length s))

  -- ---- the last byte, at q

  module _ (q : ℕ) (last : q + 1 ≡ p) where
    inside : q < length s
    inside = omega (arith, f.high)

    trail-next : (c : Bool) → not (unclosed (part e p s)) ≡ c → trail m c s (q + 1) ≡ true
    trail-next c h = ap (trail m c s) last ∙ subst (λ x. trail m x s p ≡ true) h then_trail

    -- in the path: no trail begins at q
    path-no-trail : e < p → trail_starter (get_or s q 0) ≡ true → trail m (not (unclosed (part e q s))) s q ≡ true → ⊥
    path-no-trail lt b t =
        both_ways (path_stops m s e q) (f.path q (omega arith) (omega arith))
        (or_right (white_at m s q) _ (and_from (trail_starter (get_or s q 0)) (trail m (not (unclosed (part e q s))) s q) b t))

    path-mark : e < p → mark (get_or s q 0) ≡ true → ⊥
    path-mark lt b =
        let apart = mark-apart (get_or s q 0) b in
        let counts : (c : ℕ) → eqb (get_or s q 0) c ≡ false → count_by (λ x. eqb x c) (part e p s) ≡ count_by (λ x. eqb x c) (part e q s) = λ c h.
        ap (λ k. count_by (λ x. eqb x c) (part e k s)) (sym last) ∙ count_same (λ x. eqb x c) s e q (omega arith) inside h in
        let same : unclosed (part e p s) ≡ unclosed (part e q s) =
        ap (λ n. ltb n (count_by (λ x. eqb x 40) (part e p s))) (counts 41 apart.1) ∙ ap (λ n. ltb (count_by (λ x. eqb x 41) (part e q s)) n) (counts 40 apart.0) in
        path-no-trail lt (mark_starts (get_or s q 0) b)
        (trail_mark m (not (unclosed (part e q s))) s q inside b (trail-next (not (unclosed (part e q s))) (ap not same)))

    path-closing : e < p → get_or s q 0 ≡ 41 → unclosed (part e q s) ≡ false → ⊥
    path-closing lt b level =
        let one : count_by (λ x. eqb x 41) (part e p s) ≡ count_by (λ x. eqb x 41) (part e q s) + 1 =
        ap (λ k. count_by (λ x. eqb x 41) (part e k s)) (sym last) ∙ count-more (λ x. eqb x 41) s e q (omega arith) inside ∙ ap (λ x. count_by (λ x. eqb x 41) (part e q s) + cond (eqb x 41) 1 0) b in
        let none : count_by (λ x. eqb x 40) (part e p s) ≡ count_by (λ x. eqb x 40) (part e q s) =
        ap (λ k. count_by (λ x. eqb x 40) (part e k s)) (sym last) ∙ count_same (λ x. eqb x 40) s e q (omega arith) inside (ap (λ x. eqb x 40) b) in
        let le = ltb-false (count_by (λ x. eqb x 41) (part e q s)) (count_by (λ x. eqb x 40) (part e q s)) level in
        let closed : unclosed (part e p s) ≡ false = le-ltb (count_by (λ x. eqb x 41) (part e p s)) (count_by (λ x. eqb x 40) (part e p s)) (omega (arith, one, none, le)) in
        path-no-trail lt (ap trail_starter b)
        (subst (λ c. trail m c s q ≡ true) (sym (ap not level)) (trail-closing m true s q inside refl b (trail-next true (ap not closed))))

    -- in the domain, where the path is empty
    domain-mark : p ≤ e → mark (get_or s q 0) ≡ true → ⊥
    domain-mark le b =
        let at : e - 1 ≡ q = omega (arith, f.low) in
        let on : domain_stops m s q ≡ false = subst (λ k. domain_stops m s k ≡ false) at f.domain_last in
        let z : p - e ≡ 0 = omega arith in
        let none : not (unclosed (part e p s)) ≡ true = ap (λ k. not (unclosed (take k (drop e s)))) z in
        ⊎_elim
        (λ d.
        both_ways (domain_stops m s q) on
        (or_left (among (codes "._") (get_or s q 0) && trail m true s q) _ (and_from (among (codes "._") (get_or s q 0)) (trail m true s q) d (trail_mark m true s q inside b (trail-next true none)))))
        (λ d. not_in_domain m s q inside on (get_or s q 0) d.0 d.1.0 d.1.1 refl)
        (mark-domain m (get_or s q 0) b)

    domain-closing : p ≤ e → get_or s q 0 ≡ 41 → ⊥
    domain-closing le b =
        let at : e - 1 ≡ q = omega (arith, f.low) in
        not_in_domain m s q inside (subst (λ k. domain_stops m s k ≡ false) at f.domain_last) 41 (omega arith) refl refl b

    last_no_mark : mark (get_or s q 0) ≡ false
    last_no_mark = ⊎_elim (λ t. absurd (⊎_elim (λ lt. path-mark lt t) (λ le. domain-mark le t) (cases_lt e p))) (λ h. h) (cases_Bool (mark (get_or s q 0)))

    last_closing : get_or s q 0 ≡ 41 → unclosed (part i q s) ≡ true
    last_closing b =
        ⊎_elim
        (λ lt. whole-unclosed q (omega arith) (omega (arith, inside)) ∙ ⊎_elim (λ t. t) (λ h. absurd (path-closing lt b h)) (cases_Bool (unclosed (part e q s))))
        (λ le. absurd (domain-closing le b))
        (cases_lt e p)

  -- ---- what stands in it

  pub dark : (j : ℕ) → i ≤ j → j < p → white_at m s j ≡ false
  dark j lo hi =
      ⊎_elim
      (λ lt. (f.front j lo lt).dark)
      (λ ge. (or_parts (white_at m s j) _ (f.path j ge hi)).0)
      (cases_lt j e)

  pub no_break : (j : ℕ) → i ≤ j → j < p → among (13 ∷ 10 ∷ []) (get_or s j 0) ≡ false
  no_break j lo hi =
      let lt : j < length s = omega (arith, f.high) in
      let clash : (b : ℕ) → b < 128 → is_white (kind_of m b) ≡ true → get_or s j 0 ≡ b → ⊥ = λ b low h q. both_ways (white_at m s j) (dark j lo hi) (ap is_white (byte_kind m s j b low lt q) ∙ h) in
      ⊎_elim
      (λ t. absurd (among-each (λ b. get_or s j 0 ≡ b → ⊥) (13 ∷ 10 ∷ []) (clash 13 (omega arith) refl, (clash 10 (omega arith) refl, tt)) (get_or s j 0) t refl))
      (λ h. h)
      (cases_Bool (among (13 ∷ 10 ∷ []) (get_or s j 0)))

  pub no_angle : (j : ℕ) → i ≤ j → j < p → get_or s j 0 ≡ 60 → ⊥
  no_angle j lo hi b =
      ⊎_elim
      (λ lt. both_ways (barred (get_or s j 0)) (f.front j lo lt).free (ap barred b))
      (λ ge.
      both_ways (path_stops m s e j) (f.path j ge hi)
      (or_right (white_at m s j) _ (and_from (trail_starter (get_or s j 0)) _ (ap trail_starter b) (trail_angle m _ s j (omega (arith, f.high)) b))))
      (cases_lt j e)

  -- a web span of a kind that begins so
  pub shape_is_span : (kind : SpanKind) → BeginsAs kind s i → WebSpan m s (record { kind = kind; from = i; to = p })
  shape_is_span kind b =
      let last : p - 1 + 1 ≡ p = omega (arith, f.some, f.low) in
      record {
        begins = b;
        within = f.high;
        no_white_space = λ j lo hi. character_dark m s j (dark j lo hi);
        no_line_ending = no_break;
        no_angle = no_angle;
        no_mark_last = last_no_mark (p - 1) last;
        closing_last = last_closing (p - 1) last;
        then_a_trail = subst (λ x. trail m (not x) s p ≡ true) (sym (whole-unclosed p f.low f.high)) then_trail;
      }

-- ---- the span at a place

-- what is known of a span that the rule gives at i
pub record At (m : ℕ → Bool) (s : List ℕ) (i : ℕ) (x : Span) : Type 0 where
  pub start : x.from ≡ i
  pub path-start : ℕ
  pub shape : Shape m s i path-start x.to
  pub span : WebSpan m s x

some_then : {X : Type 0} (b : Bool) (y x : X) → cond b (Some y) None ≡ Some x → (b ≡ true) × (y ≡ x)
some_then true y x e = (refl, cc)
some_then false y x e = let z : ◌≡◌ {A = ℕ} 0 1 = cc in absurd (omega arith)

never_some : {X : Type 0} (x : X) → None ≡ Some x → ⊥
never_some x e = let z : ◌≡◌ {A = ℕ} 0 1 = cc in omega arith

nothing-valid : (s : List ℕ) (d e : ℕ) → e ≤ d → valid (part d e s) ≡ false
nothing-valid s d e le = let z : e - d ≡ 0 = omega arith in ap (λ n. valid (take n (drop d s))) z

module _ (m : ℕ → Bool) (s : List ℕ) (i : ℕ) (x : Span) where
  web_span-is : (kind : SpanKind) (d : ℕ) → i ≤ d → d ≤ length s → ((j : ℕ) → i ≤ j → j < d → Calm m s j) → BeginsAs kind s i → web_span m s kind i d ≡ Some x → At m s i x
  web_span-is kind d le fits front begins e =
      let end = domain_end m s d in
      let p = path_end m s end in
      let c = some_then (valid (part d end s)) (record { kind = kind; from = i; to = p }) x e in
      let f = first-within (domain_stops m s) s d fits in
      let g = first-within (path_stops m s end) s end f.high in
      let more : d < end = ⊎_elim (λ lt. lt) (λ ge. absurd (both_ways (valid (part d end s)) (nothing-valid s d end ge) c.0)) (cases_lt d end) in
      let low : end ≤ p = g.low in
      let fine : end ≤ length s = f.high in
      let shape : Shape m s i end p = record {
        some = omega arith;
        low = low;
        high = g.high;
        front = λ j lo hi. ⊎_elim (λ lt. front j lo lt) (λ ge. in_domain m s j (omega arith) (f.none j ge hi)) (cases_lt j d);
        domain_last = f.none (end - 1) (omega arith) (omega arith);
        path = g.none;
        here = g.here;
      } in
      subst (At m s i) c.1 (record { start = refl; path-start = end; shape = shape; span = shape_is_span m s i end p shape kind begins })

  -- the lengths that a protocol may have
  abbrev chosen : Bool → Bool → Bool → ℕ
  chosen a b c = cond a (cond b 7 (cond c 8 0)) 0

  protocol_cases : (a b c : Bool) → eqb (chosen a b c) 0 ≡ false → ((b ≡ true) × (chosen a b c ≡ 7)) ⊎ ((c ≡ true) × (chosen a b c ≡ 8))
  protocol_cases false b c e = absurd (true≢false e)
  protocol_cases true true c e = inl (refl, refl)
  protocol_cases true false true e = inr (refl, refl)
  protocol_cases true false false e = absurd (true≢false e)

  www-is : www_at s i ≡ true → web_span m s Www i i ≡ Some x → At m s i x
  www-is w e =
      let p = and_parts (after before_www s i && reads (codes "www.") (part i (i + 4) s)) (ltb (i + 4) (length s)) w in
      let q = and_parts (after before_www s i) (reads (codes "www.") (part i (i + 4) s)) p.0 in
      let lt = ltb-true (i + 4) (length s) p.1 in
      web_span-is Www i (omega arith) (omega arith) (λ j lo hi. absurd (omega arith)) q.1 e

  protocol-is : eqb (protocol_length s i) 0 ≡ false → web_span m s Protocol i (i + protocol_length s i) ≡ Some x → At m s i x
  protocol-is z e =
      ⊎_elim
      (λ h.
      let f = reads_calm m s (codes "http://") i 7 refl h.0 refl (omega arith) in
      web_span-is Protocol (i + 7) (omega arith) f.0 f.1 (inl h.0) (subst (λ n. web_span m s Protocol i (i + n) ≡ Some x) h.1 e))
      (λ h.
      let f = reads_calm m s (codes "https://") i 8 refl h.0 refl (omega arith) in
      web_span-is Protocol (i + 8) (omega arith) f.0 f.1 (inr h.0) (subst (λ n. web_span m s Protocol i (i + n) ≡ Some x) h.1 e))
      (protocol_cases (after (λ b. not (letter b)) s i) (reads (codes "http://") (part i (i + 7) s)) (reads (codes "https://") (part i (i + 8) s)) z)

  pub link_at-is : link_at m s i ≡ Some x → At m s i x
  link_at-is e =
      let n = protocol_length s i in
      ⊎_elim
      (λ w. www-is w (sym (cond-true (www_at s i) (web_span m s Www i i) (cond (eqb n 0) None (web_span m s Protocol i (i + n))) w) ∙ e))
      (λ w.
      let e' = sym (cond-false (www_at s i) (web_span m s Www i i) (cond (eqb n 0) None (web_span m s Protocol i (i + n))) w) ∙ e in
      ⊎_elim
      (λ z. absurd (never_some x (sym (cond-true (eqb n 0) None (web_span m s Protocol i (i + n)) z) ∙ e')))
      (λ z. protocol-is z (sym (cond-false (eqb n 0) None (web_span m s Protocol i (i + n)) z) ∙ e'))
      (cases_Bool (eqb n 0)))
      (cases_Bool (www_at s i))

-- ---- the rule goes forward, and so all web spans of a note are lawful

module _ (m : ℕ → Bool) (s : List ℕ) where
  past-none : (i : ℕ) (o : Option Span) → length s ≤ i → link_at m s i ≡ o → o ≡ None
  past-none i None le e = refl
  past-none i (Some x) le e = let f = (link_at-is m s i x e).shape in absurd (omega (arith, f.some, f.low, f.high))

  pub web-forward : Forward (λ _. link_at m s) s
  web-forward =
      record {
        ends = λ c i le. past-none i (link_at m s i) le refl;
        low = λ c i x le e. omega (arith, (link_at-is m s i x e).start);
        some = λ c i x le e. let a = link_at-is m s i x e in omega (arith, a.start, a.shape.some, a.shape.low);
        on = λ c i x le e. let a = link_at-is m s i x e in omega (arith, a.shape.some, a.shape.low);
        high = λ c i x le e. (link_at-is m s i x e).shape.high;
      }

pub lawful : WebSpansAreLawful
lawful m s =
    record {
      in_text_order = left-in_order (λ _. link_at m s) s (web-forward m s) 0;
      in_turn = left-in_turn (λ _. link_at m s) s (web-forward m s) 0;
      are_web_spans = left-all (λ _. link_at m s) s (web-forward m s) (WebSpan m s) (λ c i x le e. (link_at-is m s i x e).span) 0;
    }
