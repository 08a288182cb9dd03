-- The walk: in two parts, its bounds, and the laws of places.
-- Assumes nothing.
use Rattle.std.proofs.Common.{◌≡◌, ℕ, zero, suc, ◌+◌, ◌-◌, ◌*◌, ◌%◌, ◌<◌, ◌≤◌, Bool, true, false, cond, ◌&&◌, eqb, leb, List, length, get_or, Ok, Err, Result, sym, refl, ap, ◌∙◌, subst, zero-add, add-one, arith}
use Rattle.std.proofs.lemmas.Bool.{cond_both, ltb-true, ltb-false, le-leb, eq-eqb, and_from, true≢false}
use Rattle.text.specs.Notes.{too_long, checked_length}
use Rattle.text.specs.declared.refusals.Fault.{Fault}
use Rattle.text.specs.declared.refusals.Fault.TheVariants.{NoteTooLong, TargetOutOfRange}
use Rattle.text.specs.declared.places.Point.{Point}
use Rattle.text.specs.Places.{Place, after_tab, passed_over, ends_line, past, walked, start, place_at, point, point_at, place_of, shifted, within_a_note, checked_target, moved_on, shift_answer, line_endings_before, LineCountsLineEndings, TabsFillUp}

after_tab-next : (c : ℕ) → (c < after_tab c) × (after_tab c ≤ c + 4)
after_tab-next c = (omega arith, omega arith)

after_tab_form : (c : ℕ) → after_tab c % 4 ≡ 1
after_tab_form c = omega arith

-- the walk in two parts
pub walked_join : (s : List ℕ) (i : ℕ) (p : Place) (m n : ℕ) → walked s i p (m + n) ≡ walked s (i + m) (walked s i p m) n
walked_join s i p m zero = let e : m + 0 ≡ m = omega arith in ap (walked s i p) e
walked_join s i p m (suc n) =
    let e : m + suc n ≡ suc (m + n) = omega arith in
    let k : i + (m + n) ≡ i + m + n = omega arith in
    ap (walked s i p) e
    ∙ ap (λ j. past (get_or s j 0) (get_or s (j + 1) 0) (walked s i p (m + n))) k
    ∙ ap (past (get_or s (i + m + n) 0) (get_or s (i + m + n + 1) 0)) (walked_join s i p m n)

-- a point that is the place of its byte leads to places
pub shifted-place : (s : List ℕ) (p : Point) (i : ℕ) → p ≡ point_at s p.index → p.index ≤ i → shifted s p i ≡ point_at s i
shifted-place s p i e le =
    let k = p.index in
    let all : k + (i - k) ≡ i = omega arith in
    let here : place_of p ≡ place_at s k = ap place_of e in
    ap (λ (q : Place). point q i)
    (ap (λ (q : Place). walked s k q (i - k)) here
    ∙ ap (λ j. walked s j (place_at s k) (i - k)) (sym (zero-add k))
    ∙ sym (walked_join s 0 start k (i - k))
    ∙ ap (walked s 0 start) all)

-- ---- one byte more

pub past-line : (b next : ℕ) (p : Place) → (past b next p).line ≤ p.line + 1
past-line b next p = cond_both (ends_line b next) (p.line + 1) p.line (λ n. n ≤ p.line + 1) (λ _. omega arith) (λ _. omega arith)

pub past-column : (b next : ℕ) (p : Place) → (past b next p).column ≤ p.column + 4
past-column b next p =
    let P : ℕ → Type 0 = λ n. n ≤ p.column + 4 in
    cond_both (ends_line b next) 1 (cond (passed_over b next) p.column (cond (eqb b 9) (after_tab p.column) (p.column + 1))) P
    (λ _. omega arith)
    (λ _.
    cond_both (passed_over b next) p.column (cond (eqb b 9) (after_tab p.column) (p.column + 1)) P
    (λ _. omega arith)
    (λ _. cond_both (eqb b 9) (after_tab p.column) (p.column + 1) P (λ _. (after_tab-next p.column).1) (λ _. omega arith)))

place-more : (s : List ℕ) (i : ℕ) → place_at s (i + 1) ≡ past (get_or s i 0) (get_or s (i + 1) 0) (place_at s i)
place-more s i =
    ap (place_at s) (add-one i) ∙ ap (λ j. past (get_or s j 0) (get_or s (j + 1) 0) (place_at s i)) (zero-add i)

pub place-line : (s : List ℕ) (i : ℕ) → (place_at s i).line ≤ i + 1
place-line s zero = omega arith
place-line s (suc i) = omega (arith, past-line (get_or s (0 + i) 0) (get_or s (0 + i + 1) 0) (place_at s i), place-line s i)

pub place-column : (s : List ℕ) (i : ℕ) → (place_at s i).column ≤ 4 * i + 1
place-column s zero = omega arith
place-column s (suc i) = omega (arith, past-column (get_or s (0 + i) 0) (get_or s (0 + i + 1) 0) (place_at s i), place-column s i)

-- ---- how the loop steps

-- next is where the walk from p has come
pub record Come (s : List ℕ) (p next : Point) : Type 0 where
  pub low : p.index ≤ next.index
  pub line : next.line ≤ p.line + (next.index - p.index)
  pub column : next.column ≤ p.column + 4 * (next.index - p.index)
  pub is : next ≡ point (walked s p.index (place_of p) (next.index - p.index)) next.index

pub come_none : (s : List ℕ) (p : Point) → p.vs ≡ 0 → Come s p p
come_none s p none =
    let e : p.index - p.index ≡ 0 = omega arith in
    record {
      low = omega arith;
      line = omega arith;
      column = omega arith;
      is = (λ i. record { line = p.line; column = p.column; index = p.index; vs = none i }) ∙ ap (λ n. point (walked s p.index (place_of p) n) p.index) (sym e);
    }

come_to : (s : List ℕ) (p next : Point) → Come s p next → Come s p (point (past (get_or s next.index 0) (get_or s (next.index + 1) 0) (place_of next)) (next.index + 1))
come_to s p next c =
    let k = next.index in
    let n = k - p.index in
    let one : k + 1 - p.index ≡ suc n = omega (arith, c.low) in
    let at : p.index + n ≡ k = omega (arith, c.low) in
    let more = past-line (get_or s k 0) (get_or s (k + 1) 0) (place_of next) in
    let wide = past-column (get_or s k 0) (get_or s (k + 1) 0) (place_of next) in
    record {
      low = omega (arith, c.low);
      line = omega (arith, c.low, c.line, more);
      column = omega (arith, c.low, c.column, wide);
      is =
          ap (λ (q : Point). point (past (get_or s k 0) (get_or s (k + 1) 0) (place_of q)) (k + 1)) c.is
          ∙ ap (λ j. point (past (get_or s j 0) (get_or s (j + 1) 0) (walked s p.index (place_of p) n)) (k + 1)) (sym at)
          ∙ ap (λ m. point (walked s p.index (place_of p) m) (k + 1)) (sym one);
    }

pub come_more : (s : List ℕ) (p next r : Point) → Come s p next → r ≡ point (past (get_or s next.index 0) (get_or s (next.index + 1) 0) (place_of next)) (next.index + 1) → Come s p r
come_more s p next r c e = subst (Come s p) (sym e) (come_to s p next c)

pub come_there : (s : List ℕ) (p next : Point) (i : ℕ) → Come s p next → next.index ≡ i → next ≡ shifted s p i
come_there s p next i c e = c.is ∙ ap (λ k. point (walked s p.index (place_of p) (k - p.index)) k) e

-- ---- the laws

line_by : (b : Bool) (line count : ℕ) → line ≡ count + 1 → cond b (line + 1) line ≡ count + cond b 1 0 + 1
line_by true line count e = omega (arith, e)
line_by false line count e = omega (arith, e)

pub line_counts : (s : List ℕ) → LineCountsLineEndings s
line_counts s zero = refl
line_counts s (suc i) =
    let e = zero-add i in
    ap (λ j. (past (get_or s j 0) (get_or s (j + 1) 0) (place_at s i)).line) e
    ∙ line_by (ends_line (get_or s i 0) (get_or s (i + 1) 0)) (place_at s i).line (line_endings_before s i) (line_counts s i)

pub tabs_fill : (s : List ℕ) → TabsFillUp s
tabs_fill s i tab =
    let c = (place_at s i).column in
    let at : (place_at s (i + 1)).column ≡ after_tab c =
    ap (λ (p : Place). p.column) (place-more s i) ∙ ap (λ b. (past b (get_or s (i + 1) 0) (place_at s i)).column) tab in
    let next = after_tab-next c in
    (ap (λ n. n % 4) at ∙ after_tab_form c, (omega (arith, at, next.0), omega (arith, at, next.1)))

-- ---- the refusals

pub record TooLong (s : List ℕ) (p : Point) (i : ℕ) (f : Fault) : Type 0 where
  pub answer : Err f ≡ shift_answer s p i
  pub never : length s ≤ 1024 → ⊥

long_as : (s : List ℕ) (p : Point) (i : ℕ) (f : Fault) (b : Bool) → too_long s ≡ b → Err f ≡ cond b (Err NoteTooLong) (Ok (length s)) → (Err f ≡ cond b (Err NoteTooLong) (moved_on (checked_target p i (length s)) (shifted s p i))) × (length s ≤ 1024 → ⊥)
long_as s p i f true l e = (cc, λ short. absurd (omega (arith, ltb-true 1024 (length s) l)))
long_as s p i f false l e = let z : ◌≡◌ {A = ℕ} 0 1 = cc in absurd (omega arith)

pub too_long_refused : (s : List ℕ) (p : Point) (i : ℕ) (f : Fault) → Err f ≡ checked_length s → TooLong s p i f
too_long_refused s p i f e =
    let w = long_as s p i f (too_long s) refl e in
    record { answer = w.0; never = w.1 }

pub record OffTarget (s : List ℕ) (p : Point) (i : ℕ) (f : Fault) : Type 0 where
  pub answer : Err f ≡ shift_answer s p i
  pub never : p ≡ point_at s p.index → p.index ≤ i → i ≤ length s → ⊥

short_as : (s : List ℕ) (r : Result Point Fault) (n : ℕ) (b : Bool) → too_long s ≡ b → Ok n ≡ cond b (Err NoteTooLong) (Ok (length s)) → (r ≡ cond b (Err NoteTooLong) r) × ((length s ≤ 1024) × (n ≡ length s))
short_as s r n true l e = let z : ◌≡◌ {A = ℕ} 0 1 = cc in absurd (omega arith)
short_as s r n false l e = (refl, (ltb-false 1024 (length s) l, cc))

-- a place of a short note is accepted
place-within : (s : List ℕ) (p : Point) → p ≡ point_at s p.index → p.index ≤ 1024 → within_a_note p ≡ true
place-within s p e le =
    let line : p.line ≤ 1025 = omega (arith, ap (λ (q : Point). q.line) e, place-line s p.index) in
    let column : p.column ≤ 4097 = omega (arith, ap (λ (q : Point). q.column) e, place-column s p.index) in
    and_from (leb p.line 1025 && leb p.column 4097) (eqb p.vs 0)
    (and_from (leb p.line 1025) (leb p.column 4097) (le-leb p.line 1025 line) (le-leb p.column 4097 column))
    (eq-eqb p.vs 0 (ap (λ (q : Point). q.vs) e))

off_as : (b : Bool) (f : Fault) → ◌≡◌ {A = Result (Unit {0}) Fault} (Err f) (cond b (Ok tt) (Err TargetOutOfRange)) → b ≡ true → ⊥
off_as true f e t = let z : ◌≡◌ {A = ℕ} 0 1 = cc in omega arith
off_as false f e t = true≢false (sym t)

pub target_refused : (s : List ℕ) (p : Point) (i n : ℕ) (f : Fault) → Ok n ≡ checked_length s → Err f ≡ checked_target p i n → OffTarget s p i f
target_refused s p i n f len off =
    let w = short_as s (moved_on (checked_target p i (length s)) (shifted s p i)) n (too_long s) refl len in
    let here : Err f ≡ checked_target p i (length s) = subst (λ k. Err f ≡ checked_target p i k) w.1.1 off in
    record {
      answer = ap (λ (r : Result (Unit {0}) Fault). moved_on r (shifted s p i)) here ∙ w.0;
      never = λ at low high.
          off_as (leb p.index i && leb i (length s) && within_a_note p) f here
          (and_from (leb p.index i && leb i (length s)) (within_a_note p)
          (and_from (leb p.index i) (leb i (length s)) (le-leb p.index i low) (le-leb i (length s) high))
          (place-within s p at (omega (arith, w.1.0))));
    }

-- an accepted shift leads to the byte asked for
index_as : (s : List ℕ) (p q : Point) (i : ℕ) (long fine : Bool) → ◌≡◌ {A = Result Point Fault} (Ok q) (cond long (Err NoteTooLong) (moved_on (cond fine (Ok tt) (Err TargetOutOfRange)) (shifted s p i))) → q.index ≡ i
index_as s p q i true fine e = let z : ◌≡◌ {A = ℕ} 0 1 = cc in absurd (omega arith)
index_as s p q i false false e = let z : ◌≡◌ {A = ℕ} 0 1 = cc in absurd (omega arith)
index_as s p q i false true e = let same : q ≡ shifted s p i = cc in ap (λ (r : Point). r.index) same

pub shift_index : (s : List ℕ) (p q : Point) (i : ℕ) → Ok q ≡ shift_answer s p i → q.index ≡ i
shift_index s p q i e = index_as s p q i (too_long s) (leb p.index i && leb i (length s) && within_a_note p) e
