-- A batch whose edits lie before a number of the list: what it makes of the list up to there, and one more edit at that number.
-- Assumes nothing.
use Rattle.std.proofs.Common.{◌≡◌, ℕ, suc, ◌+◌, ◌-◌, ◌<◌, ◌≤◌, Bool, true, false, cond, ◌||◌, ◌⊎◌, eqb, ltb, List, [], ◌∷◌, ◌++◌, length, take, drop, Ok, Err, sym, refl, ap, ◌∙◌, subst, ⊎_elim, arith, take-add}
use Rattle.std.proofs.lemmas.List.{append_assoc, append-nil, length-append, length-drop, length-take-le, take-append-drop, take-append-le, drop-append-le, take_at, take_all, drop_all}
use Rattle.std.proofs.lemmas.Bool.{cond-true, cond-false, cond_both, le-ltb, eqb-true, cases_Bool, cases_order, and_parts}
use Rattle.text.specs.declared.refusals.Fault.TheVariants.{NoRoomForEdit}
use Rattle.edit_map.specs.declared.entries.Side.TheVariants.{Back}
use Rattle.edit_map.specs.Edits.{Edit, edit, put, idle, added, count_at, add_answer, applied, applied_from}
use Rattle.edit_map.specs.Laws.{InOrder, Rising}
use Rattle.edit_map.proofs.Adds.{put-past, put_here, put-before}

-- ---- the list past the edits

pub inside-stays : {A : Type 0} (from p : ℕ) (es : List (Edit A)) (xs ys : List A) → InOrder from p es → from + length xs ≡ p → applied_from from es (xs ++ ys) ≡ applied_from from es xs ++ ys
inside-stays from p [] xs ys o e = refl
inside-stays from p (x ∷ es) xs ys o e =
    let a : x.place - from ≤ length xs = omega (arith, o.0, o.1) in
    let n : x.place - from + x.count ≤ length xs = omega (arith, o.0, o.1) in
    let long : x.place + x.count + length (drop (x.place - from + x.count) xs) ≡ p = simp length-drop (omega (arith, o.0, o.1)) in
    let rest = applied_from (x.place + x.count) es (drop (x.place - from + x.count) xs) in
    (λ i. take-append-le (x.place - from) xs ys a i ++ (x.elements ++ applied_from (x.place + x.count) es (drop-append-le (x.place - from + x.count) xs ys n i)))
    ∙ ap (λ l. take (x.place - from) xs ++ (x.elements ++ l)) (inside-stays (x.place + x.count) p es (drop (x.place - from + x.count) xs) ys o.2 long)
    ∙ ap (λ l. take (x.place - from) xs ++ l) (sym (append_assoc x.elements rest ys))
    ∙ sym (append_assoc (take (x.place - from) xs) (x.elements ++ rest) ys)

pub later : {A : Type 0} (from p q : ℕ) (es : List (Edit A)) → p ≤ q → InOrder from p es → InOrder from q es
later from p q [] le o = tt
later from p q (e ∷ es) le o = (o.0, omega (arith, o.1), later (e.place + e.count) p q es le o.2)

-- ---- one more edit at number p, behind all edits

pub record PutBehind {A : Type 0} (from p c : ℕ) (zs : List A) (es new : List (Edit A)) : Type 0 where
  pub in_order : InOrder from (p + c) new
  pub few : length new ≤ length es + 1
  pub made : (xs ys : List A) → from + length xs ≡ p → length ys ≡ c → applied_from from new (xs ++ ys) ≡ applied_from from es xs ++ zs

module _ {A : Type 0} (p c : ℕ) (zs : List A) where
  -- p stands behind the edits
  alone : (from : ℕ) → from ≤ p → PutBehind from p c zs [] (edit p c zs ∷ [])
  alone from le =
      record {
        in_order = (le, omega arith, tt);
        few = omega arith;
        made = λ xs ys e n.
            let at : length xs ≡ p - from = omega arith in
            let all : length (xs ++ ys) ≤ p - from + c = omega (arith, length-append xs ys) in
            (λ i. take_at xs ys (p - from) at i ++ (zs ++ drop_all (p - from + c) (xs ++ ys) all i))
            ∙ ap (λ l. xs ++ l) (append-nil zs);
      }

  -- the last edit is at p
  joins : (from : ℕ) (e : Edit A) → from ≤ p → e.place ≡ p → e.count ≡ 0 → PutBehind from p c zs (e ∷ []) (edit p (e.count + c) (e.elements ++ zs) ∷ [])
  joins from e le is none =
      record {
        in_order = (le, omega arith, tt);
        few = omega arith;
        made = λ xs ys h n.
            let at : length xs ≡ p - from = omega arith in
            let at' : length xs ≤ e.place - from + e.count = omega arith in
            let low : length xs ≤ e.place - from = omega arith in
            let all : length (xs ++ ys) ≤ p - from + (e.count + c) = omega (arith, length-append xs ys) in
            (λ i. take_at xs ys (p - from) at i ++ ((e.elements ++ zs) ++ drop_all (p - from + (e.count + c)) (xs ++ ys) all i))
            ∙ ap (λ l. xs ++ l) (append-nil (e.elements ++ zs))
            ∙ sym (append_assoc xs e.elements zs)
            ∙ sym ((λ i. (take_all (e.place - from) xs low i ++ (e.elements ++ drop_all (e.place - from + e.count) xs at' i)) ++ zs)
            ∙ ap (λ l. (xs ++ l) ++ zs) (append-nil e.elements));
      }

  none_behind : (low : ℕ) (es : List (Edit A)) → p < low → InOrder p p es → Rising low es → es ≡ []
  none_behind low [] lt o r = refl
  none_behind low (e ∷ es) lt o r = absurd (omega (arith, o.1, r.0))

  pub put_behind : (from low : ℕ) (es : List (Edit A)) → from ≤ p → InOrder from p es → Rising low es → PutBehind from p c zs es (put Back p c zs es)
  put_behind from low [] le o r = alone from le
  put_behind from low (e ∷ es) le o r =
      ⊎_elim
      (λ same.
      let none : e.count ≡ 0 = omega (arith, o.1) in
      let stop : e.place + e.count ≡ p = omega arith in
      let last : es ≡ [] = none_behind (suc e.place) es (omega arith) (subst (λ (k : ℕ). InOrder k p es) stop o.2) r.1 in
      subst (λ (l : List (Edit A)). PutBehind from p c zs (e ∷ l) (put Back p c zs (e ∷ l))) (sym last)
      (subst (PutBehind from p c zs (e ∷ [])) (sym (put_here Back p c zs e [] same)) (joins from e le same none)))
      (λ (other : (e.place < p) ⊎ (p < e.place)). ⊎_elim
      (λ below.
      let rest = put_behind (e.place + e.count) (suc e.place) es o.1 o.2 r.1 in
      subst (PutBehind from p c zs (e ∷ es)) (sym (put-past Back p c zs e es below)) (record {
        in_order = (o.0, omega (arith, o.1), rest.in_order);
        few = omega (arith, rest.few);
        made = λ xs ys h n.
            let k : e.place - from ≤ length xs = omega (arith, o.0, o.1) in
            let m : e.place - from + e.count ≤ length xs = omega (arith, o.0, o.1) in
            let long : e.place + e.count + length (drop (e.place - from + e.count) xs) ≡ p = simp length-drop (omega (arith, o.0, o.1)) in
            let after = applied_from (e.place + e.count) es (drop (e.place - from + e.count) xs) in
            (λ i. take-append-le (e.place - from) xs ys k i ++ (e.elements ++ applied_from (e.place + e.count) (put Back p c zs es) (drop-append-le (e.place - from + e.count) xs ys m i)))
            ∙ ap (λ l. take (e.place - from) xs ++ (e.elements ++ l)) (rest.made (drop (e.place - from + e.count) xs) ys long n)
            ∙ ap (λ l. take (e.place - from) xs ++ l) (sym (append_assoc e.elements after zs))
            ∙ sym (append_assoc (take (e.place - from) xs) (e.elements ++ after) zs);
      }))
      (λ above. absurd (omega (arith, o.1)))
      other)
      (cases_order e.place p)

  pub put_rises : (low : ℕ) (es : List (Edit A)) → low ≤ p → Rising low es → Rising low (put Back p c zs es)
  put_rises low [] le r = (le, tt)
  put_rises low (e ∷ es) le r =
      ⊎_elim
      (λ same. subst (Rising low) (sym (put_here Back p c zs e es same)) (le, subst (λ (k : ℕ). Rising (suc k) es) same r.1))
      (λ other. ⊎_elim
      (λ below. subst (Rising low) (sym (put-past Back p c zs e es below)) (r.0, put_rises (suc e.place) es (omega arith) r.1))
      (λ above. subst (Rising low) (sym (put-before Back p c zs e es above)) (le, (omega arith, r.1)))
      other)
      (cases_order e.place p)

-- ---- none is refused

none_at : {A : Type 0} (from p : ℕ) (es : List (Edit A)) → InOrder from p es → count_at p es ≡ 0
none_at from p [] o = refl
none_at from p (e ∷ es) o =
    ⊎_elim
    (λ t. cond-true (ltb e.place p) _ _ t ∙ none_at (e.place + e.count) p es o.2)
    (λ f. cond-false (ltb e.place p) _ _ f
    ∙ ⊎_elim
    (λ t. cond-true (eqb e.place p) e.count 0 t ∙ omega (arith, eqb-true e.place p t, o.1))
    (λ n. cond-false (eqb e.place p) e.count 0 n)
    (cases_Bool (eqb e.place p)))
    (cases_Bool (ltb e.place p))

pub accepted : {A : Type 0} (room kept p c : ℕ) (xs : List A) (es : List (Edit A)) → p + c ≤ 4096 → InOrder 0 p es → length (put Back p c xs es) ≤ 1024 → kept + length xs ≤ room → add_answer Back room kept es p c xs ≡ Ok tt
accepted room kept p c xs es low o few fits =
    let low' : p ≤ 4096 = omega arith in
    let counts : count_at p es + c ≤ 4096 = omega (arith, none_at 0 p es o) in
    cond-false (ltb 4096 p || ltb 4096 (count_at p es + c)) _ _ (λ i. le-ltb 4096 p low' i || le-ltb 4096 (count_at p es + c) counts i)
    ∙ cond_both (idle c xs) (Ok (tt {0})) (cond (ltb 1024 (length (put Back p c xs es)) || ltb room (kept + length xs)) (Err NoRoomForEdit) (Ok (tt {0}))) (λ r. r ≡ Ok (tt {0}))
    (λ _. refl)
    (λ _. cond-false (ltb 1024 (length (put Back p c xs es)) || ltb room (kept + length xs)) _ _ (λ i. le-ltb 1024 (length (put Back p c xs es)) few i || le-ltb room (kept + length xs) fits i))

-- ---- what a batch makes of a list up to a number

pub record Makes {A : Type 0} (es : List (Edit A)) (list : List A) (p : ℕ) (out : List A) : Type 0 where
  pub within : p ≤ length list
  pub in_order : InOrder 0 p es
  pub rising : Rising 0 es
  pub made : applied es (take p list) ≡ out

-- elements number p to q − 1
abbrev pub stretch : {A : Type 0} → ℕ → ℕ → List A → List A
stretch p q list = take (q - p) (drop p list)

module _ {A : Type 0} (list : List A) where
  pub makes_none : Makes [] list 0 []
  makes_none = record { within = omega arith; in_order = tt; rising = tt; made = refl }

  -- the elements up to q, in two parts
  pub up_to : (p q : ℕ) → p ≤ q → take q list ≡ take p list ++ stretch p q list
  up_to p q le = let e : p + (q - p) ≡ q = omega arith in ap (λ n. take n list) (sym e) ∙ take-add p (q - p) list

  pub length-stretch : (p q : ℕ) → p ≤ q → q ≤ length list → length (stretch p q list) ≡ q - p
  length-stretch p q le in_list = length-take-le (q - p) (drop p list) (simp length-drop (omega arith))

  -- no edit from p to q
  pub makes_on : {es : List (Edit A)} {p : ℕ} {out : List A} (q : ℕ) → p ≤ q → q ≤ length list → Makes es list p out → Makes es list q (out ++ stretch p q list)
  makes_on {es} {p} {out} q le in_list m =
      let long : 0 + length (take p list) ≡ p = omega (arith, length-take-le p list m.within) in
      record {
        within = in_list;
        in_order = later 0 p q es le m.in_order;
        rising = m.rising;
        made = ap (applied es) (up_to p q le) ∙ inside-stays 0 p es (take p list) (stretch p q list) m.in_order long ∙ ap (λ l. l ++ stretch p q list) m.made;
      }

  -- all edits made
  pub makes_all : {es : List (Edit A)} {p : ℕ} {out : List A} → Makes es list p out → applied es list ≡ out ++ drop p list
  makes_all {es} {p} {out} m =
      let long : 0 + length (take p list) ≡ p = omega (arith, length-take-le p list m.within) in
      ap (applied es) (sym (take-append-drop p list)) ∙ inside-stays 0 p es (take p list) (drop p list) m.in_order long ∙ ap (λ l. l ++ drop p list) m.made

  pub makes-order : {es : List (Edit A)} {p : ℕ} {out : List A} → Makes es list p out → InOrder 0 (length list) es
  makes-order {es} {p} m = later 0 p (length list) es m.within m.in_order

  -- one more edit at p
  pub makes_put : {es : List (Edit A)} {p : ℕ} {out : List A} (c : ℕ) (zs : List A) → p + c ≤ length list → Makes es list p out → Makes (added p c zs es) list (p + c) (out ++ zs)
  makes_put {es} {p} {out} c zs in_list m = go (idle c zs) refl
    where
      long : 0 + length (take p list) ≡ p
      long = omega (arith, length-take-le p list m.within)

      idle_parts : idle c zs ≡ true → (c ≡ 0) × (zs ≡ [])
      idle_parts e = let both = and_parts (eqb c 0) (eqb (length zs) 0) e in (eqb-true c 0 both.0, empty zs (eqb-true (length zs) 0 both.1))
        where
          empty : (xs : List A) → length xs ≡ 0 → xs ≡ []
          empty [] h = refl
          empty (x ∷ xs) h = absurd (omega arith)

      go : (b : Bool) → idle c zs ≡ b → Makes (cond b es (put Back p c zs es)) list (p + c) (out ++ zs)
      go true e =
          let i = idle_parts e in
          let z : p + c ≡ p = omega (arith, i.0) in
          subst (λ (k : ℕ). Makes es list k (out ++ zs)) (sym z) (subst (λ (l : List A). Makes es list p l) (sym (ap (λ l. out ++ l) i.1 ∙ append-nil out)) m)
      go false e =
          let b = put_behind p c zs 0 0 es (omega arith) m.in_order m.rising in
          let size : p + c - p ≡ c = omega arith in
          record {
            within = in_list;
            in_order = b.in_order;
            rising = put_rises p c zs 0 es (omega arith) m.rising;
            made =
                ap (applied (put Back p c zs es)) (up_to p (p + c) (omega arith))
                ∙ b.made (take p list) (stretch p (p + c) list) long (length-stretch p (p + c) (omega arith) in_list ∙ size)
                ∙ ap (λ l. l ++ zs) m.made;
          }

-- ---- two edits at one place

pub put_twice : {A : Type 0} (p c d : ℕ) (xs ys : List A) (es : List (Edit A)) → put Back p d ys (put Back p c xs es) ≡ put Back p (c + d) (xs ++ ys) es
put_twice p c d xs ys [] = put_here Back p d ys (edit p c xs) [] refl
put_twice p c d xs ys (e ∷ es) =
    ⊎_elim
    (λ same.
    ap (put Back p d ys) (put_here Back p c xs e es same)
    ∙ put_here Back p d ys (edit p (e.count + c) (e.elements ++ xs)) es refl
    ∙ (λ i. edit p (sum i) (append_assoc e.elements xs ys i) ∷ es)
    ∙ sym (put_here Back p (c + d) (xs ++ ys) e es same))
    (λ other. ⊎_elim
    (λ below.
    ap (put Back p d ys) (put-past Back p c xs e es below)
    ∙ put-past Back p d ys e (put Back p c xs es) below
    ∙ ap (λ l. e ∷ l) (put_twice p c d xs ys es)
    ∙ sym (put-past Back p (c + d) (xs ++ ys) e es below))
    (λ above.
    ap (put Back p d ys) (put-before Back p c xs e es above)
    ∙ put_here Back p d ys (edit p c xs) (e ∷ es) refl
    ∙ sym (put-before Back p (c + d) (xs ++ ys) e es above))
    other)
    (cases_order e.place p)
  where
    sum : e.count + c + d ≡ e.count + (c + d)
    sum = omega arith
