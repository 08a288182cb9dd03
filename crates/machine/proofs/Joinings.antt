-- Joining events is joining segments; and what joined segments are.
-- Assumes nothing.
use Rattle.std.proofs.Common.{◌≡◌, ℕ, suc, ◌<◌, ◌≤◌, Bool, true, false, cond, not, ◌&&◌, ◌||◌, ltb, leb, List, [], ◌∷◌, length, sym, refl, ap, ◌∙◌, subst, ⊎_elim, arith}
use Rattle.std.proofs.lemmas.Bool.{cases_Bool, cond-true, cond-false, and_from, and_parts, and_right, not-true, true≢false}
use Rattle.std.proofs.lemmas.Bool.Decides.{nat_tests}
use Rattle.machine.specs.declared.events.Event.{Event}
use Rattle.machine.specs.declared.events.EventKind.TheVariants.{Enter, Exit}
use Rattle.machine.specs.declared.events.Name.{Name}
use Rattle.machine.specs.declared.events.Name.TheVariants as name
use Rattle.machine.specs.Laws.{Segment, event_at, events_of, Tiles}
use Rattle.machine.specs.Joins.{is_data, seam, joined, seamless, in_data, others, JoiningIsLawful, JoinsByExample}

abbrev pub segment : Name → ℕ → ℕ → Segment
segment n from to = record { name = n; from = from; to = to }

-- ---- segments joined

-- x in front of segments that are joined already: one segment with the first of them where both are Data
abbrev pub put : Name → ℕ → ℕ → List Segment → List Segment
put n from to [] = segment n from to ∷ []
put n from to (y ∷ ys) = cond (is_data n && is_data y.name) (segment n from y.to ∷ ys) (segment n from to ∷ y ∷ ys)

abbrev pub merged : List Segment → List Segment
merged [] = []
merged (x ∷ xs) = put x.name x.from x.to (merged xs)

-- what comes first then has the name and the beginning of what was put there
record Head (n : Name) (from : ℕ) (ys : List Segment) : Type 0 where
  to : ℕ
  rest : List Segment
  are : ys ≡ segment n from to ∷ rest

put-head : (n : Name) (a b : ℕ) (ys : List Segment) → Head n a (put n a b ys)
put-head n a b [] = record { to = b; rest = []; are = refl }
put-head n a b (y ∷ ys) = by_test (is_data n && is_data y.name)
  where
    by_test : (t : Bool) → Head n a (cond t (segment n a y.to ∷ ys) (segment n a b ∷ y ∷ ys))
    by_test true = record { to = y.to; rest = ys; are = refl }
    by_test false = record { to = b; rest = y ∷ ys; are = refl }

-- where not both are Data, nothing changes
put-apart : (n m : Name) (a b c d : ℕ) (ys : List Segment) → (is_data n && is_data m) ≡ false → put n a b (put m c d ys) ≡ segment n a b ∷ put m c d ys
put-apart n m a b c d ys e =
    let h = put-head m c d ys in
    ap (put n a b) h.are ∙ cond-false (is_data n && is_data m) _ _ e ∙ ap (λ zs. segment n a b ∷ zs) (sym h.are)

abbrev later : List Event → List Event
later [] = []
later (e ∷ es) = es

module _ (s : List ℕ) where
  -- joining goes on from the exit of a segment that has been entered
  abbrev JoinsOn : Name → ℕ → ℕ → List Segment → Type 0
  JoinsOn n a b ys = ◌≡◌ {A = List Event} (event_at s Enter n a ∷ joined (event_at s Exit n b ∷ events_of s ys)) (events_of s (put n a b (merged ys)))

  -- two neighbours that stay apart
  stay : (n m : Name) (a b c d : ℕ) (ys : List Segment) → (is_data n && is_data m) ≡ false → JoinsOn m c d ys → JoinsOn n a b (segment m c d ∷ ys)
  stay n m a b c d ys e ih =
      ap (λ es. event_at s Enter n a ∷ es) (cond-false (is_data n && is_data m) _ _ e ∙ ap (λ es. event_at s Exit n b ∷ es) ih)
      ∙ ap (events_of s) (sym (put-apart n m a b c d (merged ys) e))

  -- joining is made of Data and Data alone
  by_names : (n m : Name) (a b c d : ℕ) (ys : List Segment) → JoinsOn m c d ys → JoinsOn n a b (segment m c d ∷ ys)
  by_names name.Data name.Data a b c d ys ih =
      let h = put-head name.Data c d (merged ys) in
      ap (λ es. event_at s Enter name.Data a ∷ es) (ap later ih ∙ ap (λ zs. later (events_of s zs)) h.are)
      ∙ sym (ap (λ zs. events_of s (put name.Data a b zs)) h.are)
  by_names name.Data name.LineEnding a b c d ys ih = stay name.Data name.LineEnding a b c d ys refl ih
  by_names name.Data name.Link a b c d ys ih = stay name.Data name.Link a b c d ys refl ih
  by_names name.Data (name.Address k) a b c d ys ih = stay name.Data (name.Address k) a b c d ys refl ih
  by_names name.LineEnding m a b c d ys ih = stay name.LineEnding m a b c d ys refl ih
  by_names name.Link m a b c d ys ih = stay name.Link m a b c d ys refl ih
  by_names (name.Address k) m a b c d ys ih = stay (name.Address k) m a b c d ys refl ih

  joins_on : (n : Name) (a b : ℕ) (ys : List Segment) → JoinsOn n a b ys
  joins_on n a b [] = refl
  joins_on n a b (y ∷ ys) = by_names n y.name a b y.from y.to ys (joins_on y.name y.from y.to ys)

  pub joined_are : (xs : List Segment) → joined (events_of s xs) ≡ events_of s (merged xs)
  joined_are [] = refl
  joined_are (x ∷ xs) = joins_on x.name x.from x.to xs

-- ---- what joining keeps

put-tiles : (i z : ℕ) (n : Name) (a b : ℕ) (ys : List Segment) → a ≡ i → i < b → Tiles b z ys → Tiles i z (put n a b ys)
put-tiles i z n a b [] e lt t = (e, lt, t)
put-tiles i z n a b (y ∷ ys) e lt t = by_test (is_data n && is_data y.name)
  where
    by_test : (c : Bool) → Tiles i z (cond c (segment n a y.to ∷ ys) (segment n a b ∷ y ∷ ys))
    by_test true = (e, omega (arith, t.1), t.2)
    by_test false = (e, lt, t)

pub merged_tiles : (i z : ℕ) (xs : List Segment) → Tiles i z xs → Tiles i z (merged xs)
merged_tiles i z [] t = t
merged_tiles i z (x ∷ xs) t = put-tiles i z x.name x.from x.to (merged xs) t.0 t.1 (merged_tiles x.to z xs t.2)

-- the bytes from a to d are those from a to b and those from b to d
two_runs : (a b d i : ℕ) (later : Bool) → a < b → b < d → ((leb a i && ltb i d) || later) ≡ ((leb a i && ltb i b) || ((leb b i && ltb i d) || later))
two_runs a b d i later p q = grind (arith, nat_tests)

put_data : (i z : ℕ) (n : Name) (a b : ℕ) (ys : List Segment) → a < b → Tiles b z ys → in_data (put n a b ys) i ≡ in_data (segment n a b ∷ ys) i
put_data i z n a b [] lt t = refl
put_data i z n a b (y ∷ ys) lt t = by_names n y.name y.from y.to t.0 t.1
  where
    by_names : (n m : Name) (c d : ℕ) → c ≡ b → b < d → in_data (put n a b (segment m c d ∷ ys)) i ≡ in_data (segment n a b ∷ segment m c d ∷ ys) i
    by_names name.Data name.Data c d e less =
        two_runs a b d i (in_data ys i) lt less
        ∙ ap (λ k. (leb a i && ltb i b) || ((leb k i && ltb i d) || in_data ys i)) (sym e)
    by_names name.Data name.LineEnding c d e less = refl
    by_names name.Data name.Link c d e less = refl
    by_names name.Data (name.Address k) c d e less = refl
    by_names name.LineEnding m c d e less = refl
    by_names name.Link m c d e less = refl
    by_names (name.Address k) m c d e less = refl

merged_data : (i a z : ℕ) (xs : List Segment) → Tiles a z xs → in_data (merged xs) i ≡ in_data xs i
merged_data i a z [] t = refl
merged_data i a z (x ∷ xs) t =
    put_data i z x.name x.from x.to (merged xs) (omega (arith, t.0, t.1)) (merged_tiles x.to z xs t.2)
    ∙ ap (λ later. (is_data x.name && (leb x.from i && ltb i x.to)) || later) (merged_data i x.to z xs t.2)

put-others : (n : Name) (a b : ℕ) (ys : List Segment) → others (put n a b ys) ≡ others (segment n a b ∷ ys)
put-others n a b [] = refl
put-others n a b (y ∷ ys) = by_names n y.name y.from y.to
  where
    by_names : (n m : Name) (c d : ℕ) → others (put n a b (segment m c d ∷ ys)) ≡ others (segment n a b ∷ segment m c d ∷ ys)
    by_names name.Data name.Data c d = refl
    by_names name.Data name.LineEnding c d = refl
    by_names name.Data name.Link c d = refl
    by_names name.Data (name.Address k) c d = refl
    by_names name.LineEnding m c d = refl
    by_names name.Link m c d = refl
    by_names (name.Address k) m c d = refl

merged_others : (xs : List Segment) → others (merged xs) ≡ others xs
merged_others [] = refl
merged_others (x ∷ xs) =
    put-others x.name x.from x.to (merged xs)
    ∙ ap (λ l. cond (is_data x.name) l (x ∷ l)) (merged_others xs)

-- ---- no two Data are left side by side

abbrev data_first : List Segment → Bool
data_first [] = false
data_first (x ∷ xs) = is_data x.name

abbrev DataApart : List Segment → Type 0
DataApart [] = Unit {0}
DataApart (x ∷ xs) = ((is_data x.name && data_first xs) ≡ false) × DataApart xs

put-data_apart : (n : Name) (a b : ℕ) (ys : List Segment) → DataApart ys → DataApart (put n a b ys)
put-data_apart n a b [] h = (and_right (is_data n) false refl, tt)
put-data_apart n a b (y ∷ ys) h = by_names n y.name y.from y.to h
  where
    by_names : (n m : Name) (c d : ℕ) → DataApart (segment m c d ∷ ys) → DataApart (put n a b (segment m c d ∷ ys))
    by_names name.Data name.Data c d h = h
    by_names name.Data name.LineEnding c d h = (refl, h)
    by_names name.Data name.Link c d h = (refl, h)
    by_names name.Data (name.Address k) c d h = (refl, h)
    by_names name.LineEnding m c d h = (refl, h)
    by_names name.Link m c d h = (refl, h)
    by_names (name.Address k) m c d h = (refl, h)

merged_apart : (xs : List Segment) → DataApart (merged xs)
merged_apart [] = tt
merged_apart (x ∷ xs) = put-data_apart x.name x.from x.to (merged xs) (merged_apart xs)

-- the same of segments and of their events
module _ (s : List ℕ) where
  from_exit : (n : Name) (b : ℕ) (ys : List Segment) → (is_data n && data_first ys) ≡ false → seamless (events_of s ys) ≡ true → seamless (event_at s Exit n b ∷ events_of s ys) ≡ true
  from_exit n b [] e h = refl
  from_exit n b (y ∷ ys) e h = and_from (not (is_data n && is_data y.name)) _ (ap not e) h

  apart-seamless : (xs : List Segment) → DataApart xs → seamless (events_of s xs) ≡ true
  apart-seamless [] h = refl
  apart-seamless (x ∷ xs) h = from_exit x.name x.to xs h.0 (apart-seamless xs h.1)

  seamless-apart : (xs : List Segment) → seamless (events_of s xs) ≡ true → DataApart xs
  seamless-apart [] h = tt
  seamless-apart (x ∷ []) h = (and_right (is_data x.name) false refl, tt)
  seamless-apart (x ∷ y ∷ ys) h =
      let p = and_parts (not (is_data x.name && is_data y.name)) (seamless (events_of s (y ∷ ys))) h in
      (not-true (is_data x.name && is_data y.name) p.0, seamless-apart (y ∷ ys) p.1)

-- where there is no seam, joining changes nothing
seamless-joined : (es : List Event) → seamless es ≡ true → joined es ≡ es
seamless-joined [] h = refl
seamless-joined (a ∷ []) h = refl
seamless-joined (a ∷ b ∷ es) h =
    let p = and_parts (not (seam a b)) (seamless (b ∷ es)) h in
    cond-false (seam a b) _ _ (not-true (seam a b) p.0) ∙ ap (λ l. a ∷ l) (seamless-joined (b ∷ es) p.1)

-- ---- what is not Data tells the rest

tiles_le : (a z : ℕ) (xs : List Segment) → Tiles a z xs → a ≤ z
tiles_le a z [] t = omega arith
tiles_le a z (x ∷ xs) t = omega (arith, t.1, tiles_le x.to z xs t.2)

data_name : (n : Name) → is_data n ≡ true → n ≡ name.Data
data_name name.Data e = refl
data_name name.LineEnding e = absurd (true≢false (sym e))
data_name name.Link e = absurd (true≢false (sym e))
data_name (name.Address k) e = absurd (true≢false (sym e))

others_skip : (x : Segment) (xs : List Segment) → is_data x.name ≡ true → others (x ∷ xs) ≡ others xs
others_skip x xs e = cond-true (is_data x.name) _ _ e

others_keep : (x : Segment) (xs : List Segment) → is_data x.name ≡ false → others (x ∷ xs) ≡ x ∷ others xs
others_keep x xs e = cond-false (is_data x.name) _ _ e

-- the first begins at a or beyond
abbrev Beyond : ℕ → List Segment → Type 0
Beyond a [] = Unit {0}
Beyond a (x ∷ xs) = a ≤ x.from

beyond_less : (a b : ℕ) (xs : List Segment) → a ≤ b → Beyond b xs → Beyond a xs
beyond_less a b [] le h = tt
beyond_less a b (x ∷ xs) le h = omega arith

others-beyond : (a z : ℕ) (xs : List Segment) → Tiles a z xs → Beyond a (others xs)
others-beyond a z [] t = tt
others-beyond a z (x ∷ xs) t =
    ⊎_elim
    (λ e. subst (Beyond a) (sym (others_skip x xs e)) (beyond_less a x.to (others xs) (omega (arith, t.1)) (others-beyond x.to z xs t.2)))
    (λ e. subst (Beyond a) (sym (others_keep x xs e)) (omega (arith, t.0)))
    (cases_Bool (is_data x.name))

-- segments from a on and from b on, none of which begins with Data: where the others are the same, a is b
same_start : (a b z : ℕ) (xs ys : List Segment) → Tiles a z xs → Tiles b z ys → data_first xs ≡ false → data_first ys ≡ false → others xs ≡ others ys → a ≡ b
same_start a b z [] [] t u p q e = omega arith
same_start a b z [] (y ∷ ys) t u p q e = let l : ◌≡◌ {A = ℕ} 0 (suc (length (others ys))) = ap length (e ∙ others_keep y ys q) in absurd (omega arith)
same_start a b z (x ∷ xs) [] t u p q e = let l : ◌≡◌ {A = ℕ} 0 (suc (length (others xs))) = ap length (sym e ∙ others_keep x xs p) in absurd (omega arith)
same_start a b z (x ∷ xs) (y ∷ ys) t u p q e =
    let both : x ∷ others xs ≡ y ∷ others ys = sym (others_keep x xs p) ∙ e ∙ others_keep y ys q in
    let one : x ≡ y = cc in
    omega (arith, t.0, u.0, ap (λ (w : Segment). w.from) one)

data_then : (x : Segment) (xs : List Segment) → DataApart (x ∷ xs) → is_data x.name ≡ true → data_first xs ≡ false
data_then x xs h e = ap (λ b. b && data_first xs) (sym e) ∙ h.0

-- Data at a and something else at a do not have the same others
not_both : (a z : ℕ) (x y : Segment) (xs ys : List Segment) → Tiles a z (x ∷ xs) → y.from ≡ a → is_data x.name ≡ true → is_data y.name ≡ false → others (x ∷ xs) ≡ others (y ∷ ys) → ⊥
not_both a z x y xs ys t u p q e =
    let low : Beyond x.to (y ∷ others ys) = subst (Beyond x.to) (sym (others_skip x xs p) ∙ e ∙ others_keep y ys q) (others-beyond x.to z xs t.2) in
    omega (arith, low, t.1)

only_one : (a z : ℕ) (xs ys : List Segment) → Tiles a z xs → Tiles a z ys → DataApart xs → DataApart ys → others xs ≡ others ys → xs ≡ ys
only_one a z [] [] t u g h e = refl
only_one a z [] (y ∷ ys) t u g h e = absurd (omega (arith, u.1, tiles_le y.to z ys u.2))
only_one a z (x ∷ xs) [] t u g h e = absurd (omega (arith, t.1, tiles_le x.to z xs t.2))
only_one a z (x ∷ xs) (y ∷ ys) t u g h e =
    let rest : Tiles x.to z ys → others xs ≡ others ys → xs ≡ ys = λ v r. only_one x.to z xs ys t.2 v g.1 h.1 r in
    ⊎_elim
    (λ p. ⊎_elim (λ q. both_data rest p q) (λ q. absurd (not_both a z x y xs ys t u.0 p q e)) (cases_Bool (is_data y.name)))
    (λ p. ⊎_elim (λ q. absurd (not_both a z y x ys xs u t.0 q p (sym e))) (λ q. neither rest p q) (cases_Bool (is_data y.name)))
    (cases_Bool (is_data x.name))
  where
    both_data : (Tiles x.to z ys → others xs ≡ others ys → xs ≡ ys) → is_data x.name ≡ true → is_data y.name ≡ true → x ∷ xs ≡ y ∷ ys
    both_data rest p q =
        let same : others xs ≡ others ys = sym (others_skip x xs p) ∙ e ∙ others_skip y ys q in
        let to : x.to ≡ y.to = same_start x.to y.to z xs ys t.2 u.2 (data_then x xs g p) (data_then y ys h q) same in
        let from : x.from ≡ y.from = t.0 ∙ sym u.0 in
        let names : x.name ≡ y.name = data_name x.name p ∙ sym (data_name y.name q) in
        let more : xs ≡ ys = rest (subst (λ k. Tiles k z ys) (sym to) u.2) same in
        λ i. segment (names i) (from i) (to i) ∷ more i

    neither : (Tiles x.to z ys → others xs ≡ others ys → xs ≡ ys) → is_data x.name ≡ false → is_data y.name ≡ false → x ∷ xs ≡ y ∷ ys
    neither rest p q =
        let both : x ∷ others xs ≡ y ∷ others ys = sym (others_keep x xs p) ∙ e ∙ others_keep y ys q in
        let one : x ≡ y = cc in
        let same : others xs ≡ others ys = cc in
        let more : xs ≡ ys = rest (subst (λ (w : Segment). Tiles w.to z ys) (sym one) u.2) same in
        λ i. one i ∷ more i

-- ---- the laws

pub joining_is_lawful : JoiningIsLawful
joining_is_lawful s n xs t =
    let are = joined_are s xs in
    let apart : seamless (joined (events_of s xs)) ≡ true = ap seamless are ∙ apart-seamless s (merged xs) (merged_apart xs) in
    record {
      segments = merged xs;
      events = are;
      tiles = merged_tiles 0 n xs t;
      apart = apart;
      same_data = λ i. merged_data i 0 n xs t;
      same_others = merged_others xs;
      no_other = λ ys u g e. only_one 0 n ys (merged xs) u (merged_tiles 0 n xs t) (seamless-apart s ys g) (merged_apart xs) (e ∙ sym (merged_others xs));
      once = seamless-joined (joined (events_of s xs)) apart;
    }

-- ---- examples

pub joins_by_example : JoinsByExample
joins_by_example = record { who = refl; awww = refl; lines = refl; address = refl; empty_lines = refl; nothing = refl; opened = refl }
