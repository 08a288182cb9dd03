-- What is shown at a place, and the place after a byte, a tab and a line ending.
-- Assumes nothing.
use Rattle.std.proofs.Common.{◌≡◌, ℕ, zero, suc, ◌+◌, ◌-◌, ◌%◌, ◌<◌, ◌≤◌, Bool, true, false, cond, not, ◌&&◌, ◌||◌, eqb, ltb, List, [], ◌∷◌, length, get_or, drop, Some, None, Option, sym, refl, ap, ◌∙◌, subst, ⊎_elim, zero-add, add-one, arith}
use Rattle.std.proofs.lemmas.List.{get_or_past, at_drop_more}
use Rattle.std.proofs.lemmas.Bool.{cases_Bool, cases_lt, cond-true, cond-false, cond_both, or_cases, and_cases, and_left, and_right, and_from, and_parts, or_from, or_left, or_right, not_from_false, eqb-true, eq-eqb, ne_eqb, lt-ltb, le-ltb, true≢false, both_ways}
use Rattle.punctuation.specs.declared.kinds.CharacterKind.{CharacterKind}
use Rattle.punctuation.specs.declared.kinds.CharacterKind.TheVariants.{Whitespace, Punctuation, Other}
use Rattle.text.specs.declared.places.Point.{Point}
use Rattle.text.specs.Bytes.{among}
use Rattle.punctuation.specs.Kinds.{kind_of, kind_or_end, kind_at}
use Rattle.text.specs.Places.{Place, after_tab, passed_over, ends_line, past, place_at, point, point_at}
use Rattle.characters.specs.Utf8.{character}
use Rattle.machine.specs.declared.cursors.Cursor.{Cursor}
use Rattle.machine.specs.Cursors.{crlf_at, before_cr, shown_as, shown_at, line_end, tab_goes_on, moved, past_shown, consumed_at}
use Rattle.machine.specs.States.{on, is, is_white_space, is_other}
use Rattle.machine.specs.Invariant.{Plain, Edge, index_shown, byte_shown, cursor_at, ready}

-- ---- bytes of a test

-- a byte in a test is none outside it
pub apart : (p : ℕ → Bool) (b c : ℕ) → p c ≡ false → p b ≡ true → eqb b c ≡ false
apart p b c out has = ne_eqb b c (λ e. both_ways (p b) (ap p e ∙ out) has)

abbrev pub All : (ℕ → Type 0) → List ℕ → Type 0
All P [] = Unit {0}
All P (c ∷ cs) = P c × All P cs

-- what holds of each of these bytes holds of a byte among them
pub among-all : (P : ℕ → Type 0) (cs : List ℕ) → All P cs → (b : ℕ) → among cs b ≡ true → P b
among-all P [] a b h = absurd (true≢false (sym h))
among-all P (c ∷ cs) a b h = ⊎_elim (λ e. subst P (sym (eqb-true b c e)) a.0) (λ e. among-all P cs a.1 b e) (or_cases (eqb b c) (among cs b) h)

-- ---- what is shown

module _ (s : List ℕ) (i : ℕ) where
  -- a byte in a test that 0 is not in stands in the note
  pub stands : (p : ℕ → Bool) → p 0 ≡ false → p (get_or s i 0) ≡ true → i < length s
  stands p z h = ⊎_elim (λ lt. lt) (λ le. absurd (both_ways (p (get_or s i 0)) (ap p (get_or_past s i 0 le) ∙ z) h)) (cases_lt i (length s))

  -- what holds of the rest of the note, where it begins with b
  pub known : {Y : Type 0} (F : List ℕ → Y) (b : ℕ) → i < length s → get_or s i 0 ≡ b → F (drop i s) ≡ F (b ∷ drop (i + 1) s)
  known F b lt e = at_drop_more F s i 0 lt ∙ ap (λ x. F (x ∷ drop (i + 1) s)) e

  pub shows-at : i < length s → byte_shown s i ≡ Some (cond (eqb (get_or s i 0) 13) 10 (get_or s i 0))
  shows-at lt = cond-true (ltb i (length s)) _ _ (lt-ltb i (length s) lt)

  pub shows-end : length s ≤ i → byte_shown s i ≡ None
  shows-end le = cond-false (ltb i (length s)) _ _ (le-ltb i (length s) le)

  on_line : (p : ℕ → Bool) (b : ℕ) → p 10 ≡ false → p 13 ≡ false → p (cond (eqb b 13) 10 b) ≡ p b
  on_line p b l c = ⊎_elim (λ e. ap p (cond-true (eqb b 13) 10 b e) ∙ l ∙ sym (ap p (eqb-true b 13 e) ∙ c)) (λ e. ap p (cond-false (eqb b 13) 10 b e)) (cases_Bool (eqb b 13))

  -- a test of what is shown is a test of the byte there
  pub shown_test : (p : ℕ → Bool) → p 0 ≡ false → p 10 ≡ false → p 13 ≡ false → on p (byte_shown s i) ≡ p (get_or s i 0)
  shown_test p z l c =
      ⊎_elim
      (λ lt. ap (on p) (shows-at lt) ∙ on_line p (get_or s i 0) l c)
      (λ le. ap (on p) (shows-end le) ∙ sym (ap p (get_or_past s i 0 le) ∙ z))
      (cases_lt i (length s))

  -- ---- CR LF

  pub crlf : crlf_at s i ≡ true → (get_or s i 0 ≡ 13) × (get_or s (i + 1) 0 ≡ 10) × (i + 1 < length s)
  crlf h =
      let p = and_parts (eqb (get_or s i 0) 13) (eqb (get_or s (i + 1) 0) 10) h in
      let e = eqb-true (get_or s (i + 1) 0) 10 p.1 in (
        eqb-true (get_or s i 0) 13 p.0,
        e,
        ⊎_elim (λ lt. lt) (λ le. let z : 0 ≡ 10 = sym (get_or_past s (i + 1) 0 le) ∙ e in absurd (omega arith)) (cases_lt (i + 1) (length s)),
      )

  pub index_same : crlf_at s i ≡ false → index_shown s i ≡ i
  index_same h = cond-false (crlf_at s i) _ _ h

  pub index-next : crlf_at s i ≡ true → index_shown s i ≡ i + 1
  index-next h = cond-true (crlf_at s i) _ _ h

  -- by whether a CR is passed over
  pub two_ways : (P : ℕ → Type 0) → (crlf_at s i ≡ true → P (i + 1)) → (crlf_at s i ≡ false → P i) → P (index_shown s i)
  two_ways P f g = cond_both (crlf_at s i) (i + 1) i P f g

  pub index_low : i ≤ index_shown s i
  index_low = two_ways (λ k. i ≤ k) (λ _. omega arith) (λ _. omega arith)

  pub index_high : i ≤ length s → index_shown s i ≤ length s
  index_high le = two_ways (λ k. k ≤ length s) (λ h. omega (arith, (crlf h).2)) (λ _. le)

  pub index-inside : i < length s → index_shown s i < length s
  index-inside lt = two_ways (λ k. k < length s) (λ h. (crlf h).2) (λ _. lt)

  pub edge_after : crlf_at s i ≡ false → Edge s (i + 1)
  edge_after h =
      let e : i + 1 - 1 ≡ i = omega arith in
      ap (λ k. ltb 0 (i + 1) && crlf_at s k) e ∙ and_right (ltb 0 (i + 1)) (crlf_at s i) h

pub crlf_lf : (s : List ℕ) (i : ℕ) → get_or s i 0 ≡ 10 → crlf_at s i ≡ false
crlf_lf s i e = and_left _ _ (ap (λ b. eqb b 13) e)

tab-shown : (b : ℕ) → shown_as 0 b ≡ cond (eqb b 13) 10 b
tab-shown b = ap (λ x. cond (eqb b 13) 10 x) (⊎_elim (λ e. ap (λ x. cond (x && false) 32 b) e) (λ e. ap (λ x. cond (x && false) 32 b) e) (cases_Bool (eqb b 9)))

-- a cursor at place i before a byte is shown there
abbrev pub cursor-before : List ℕ → ℕ → Option ℕ → Option ℕ → Cursor
cursor-before s i v w = record { point = point_at s i; previous = v; current = w }

module _ (s : List ℕ) (i : ℕ) where
  -- what is shown past a CR LF is no CR LF
  pub shown_no_crlf : crlf_at s (index_shown s i) ≡ false
  shown_no_crlf = two_ways s i (λ k. crlf_at s k ≡ false) (λ c. crlf_lf s (i + 1) (crlf s i c).1) (λ c. c)

  pub index-index : index_shown s (index_shown s i) ≡ index_shown s i
  index-index = index_same s (index_shown s i) shown_no_crlf

  abbrev look : ℕ → Option ℕ
  look j = cond (ltb j (length s)) (Some (shown_as 0 (get_or s j 0))) None

  look_plain : (j : ℕ) → look j ≡ byte_shown s j
  look_plain j = ap (λ x. cond (ltb j (length s)) (Some x) None) (tab-shown (get_or s j 0))

  look_index : look (index_shown s i) ≡ byte_shown s i
  look_index =
      ⊎_elim
      (λ h.
      let f = crlf s i h in
      ap look (index-next s i h) ∙ look_plain (i + 1) ∙ shows-at s (i + 1) f.2 ∙ ap (λ b. Some (cond (eqb b 13) 10 b)) f.1
      ∙ sym (shows-at s i (omega (arith, f.2)) ∙ ap (λ b. Some (cond (eqb b 13) 10 b)) f.0))
      (λ h. ap look (index_same s i h) ∙ look_plain i)
      (cases_Bool (crlf_at s i))

  pub ready-before : (v w : Option ℕ) → ready s (cursor-before s i v w) ≡ cursor_at s i v
  ready-before v w = ap (λ o. record { point = (cursor_at s i v).point; previous = v; current = o }) look_index

  pub ready_at : (v : Option ℕ) → ready s (cursor_at s i v) ≡ cursor_at s i v
  ready_at v =
      ap (λ j. record { point = record { line = (place_at s i).line; column = (place_at s i).column; index = j; vs = 0 }; previous = v; current = look j }) index-index
      ∙ ap (λ o. record { point = (cursor_at s i v).point; previous = v; current = o }) look_index

  -- the byte shown is consumed
  pub consumed-shown : (v : Option ℕ) → i < length s → consumed_at s (cursor_at s i v) ≡ record { point = moved s (cursor_at s i v).point; previous = byte_shown s i; current = None }
  consumed-shown v lt =
      ap (λ o. past_shown s o (cursor_at s i v)) (shows-at s i lt)
      ∙ ap (λ o. record { point = moved s (cursor_at s i v).point; previous = o; current = None }) (sym (shows-at s i lt))

-- an event at the cursor stands at its place
pub before_edge : (s : List ℕ) (i : ℕ) → Edge s i → before_cr s (index_shown s i) ≡ i
before_edge s i h =
    ⊎_elim
    (λ c.
    let e : i + 1 - 1 ≡ i = omega arith in
    ap (before_cr s) (index-next s i c) ∙ cond-true (ltb 0 (i + 1) && crlf_at s (i + 1 - 1)) _ _ (and_from _ _ (lt-ltb 0 (i + 1) (omega arith)) (ap (crlf_at s) e ∙ c)) ∙ e)
    (λ c. ap (before_cr s) (index_same s i c) ∙ cond-false (ltb 0 i && crlf_at s (i - 1)) _ _ h)
    (cases_Bool (crlf_at s i))

-- ---- plain bytes and kinds

pub plain_test : (s : List ℕ) (i : ℕ) (p : ℕ → Bool) → p 0 ≡ false → p 9 ≡ false → p 10 ≡ false → p 13 ≡ false → p (get_or s i 0) ≡ true → Plain s i
plain_test s i p z t l c h = record { inside = stands s i p z h; tab = apart p _ 9 t h; lf = apart p _ 10 l h; cr = apart p _ 13 c h }

module _ (mem : ℕ → Bool) (s : List ℕ) (i : ℕ) where
  pub kind-end : length s ≤ i → kind_at mem s i ≡ Whitespace
  kind-end h = ap (kind_or_end mem) (cond-false (ltb i (length s)) _ _ (le-ltb i (length s) h))

  pub kind-known : (b : ℕ) → i < length s → get_or s i 0 ≡ b → kind_at mem s i ≡ kind_of mem (character (b ∷ drop (i + 1) s))
  kind-known b lt e = ap (kind_or_end mem) (cond-true (ltb i (length s)) _ _ (lt-ltb i (length s) lt)) ∙ known s i (λ r. kind_of mem (character r)) b lt e

module _ (mem : ℕ → Bool) (s : List ℕ) (i : ℕ) where
  pub kind-index : kind_at mem s (index_shown s i) ≡ kind_at mem s i
  kind-index =
      ⊎_elim
      (λ h.
      let f = crlf s i h in
      ap (kind_at mem s) (index-next s i h) ∙ kind-known mem s (i + 1) 10 f.2 f.1 ∙ sym (kind-known mem s i 13 (omega (arith, f.2)) f.0))
      (λ h. ap (kind_at mem s) (index_same s i h))
      (cases_Bool (crlf_at s i))

  not_white : (b : ℕ) → is_white_space (kind_at mem s i) ≡ false → kind_of mem (character (b ∷ drop (i + 1) s)) ≡ Whitespace → i < length s → eqb (get_or s i 0) b ≡ false
  not_white b h w lt = ne_eqb _ b (λ e. both_ways (is_white_space (kind_at mem s i)) h (ap is_white_space (kind-known mem s i b lt e ∙ w)))

  pub plain_kind : is_white_space (kind_at mem s i) ≡ false → Plain s i
  plain_kind h =
      let lt : i < length s = ⊎_elim (λ lt. lt) (λ le. absurd (both_ways (is_white_space (kind_at mem s i)) h (ap is_white_space (kind-end mem s i le)))) (cases_lt i (length s)) in
      record { inside = lt; tab = not_white 9 h refl lt; lf = not_white 10 h refl lt; cr = not_white 13 h refl lt }

  other_white : (k : CharacterKind) → is_other k ≡ true → is_white_space k ≡ false
  other_white Whitespace h = absurd (true≢false (sym h))
  other_white Punctuation h = refl
  other_white Other h = refl

  pub plain_other : is_other (kind_at mem s i) ≡ true → Plain s i
  plain_other h = plain_kind (other_white (kind_at mem s i) h)

-- ---- one byte further on the walk

-- the place after a byte, by the tests of that byte
abbrev pub after_byte : Bool → Bool → Bool → Place → Place
after_byte x y z p = record { line = cond x (p.line + 1) p.line; column = cond x 1 (cond y p.column (cond z (after_tab p.column) (p.column + 1))) }

pub place-more : (s : List ℕ) (i : ℕ) → place_at s (i + 1) ≡ past (get_or s i 0) (get_or s (i + 1) 0) (place_at s i)
place-more s i = ap (place_at s) (add-one i) ∙ ap (λ j. past (get_or s j 0) (get_or s (j + 1) 0) (place_at s i)) (zero-add i)

by_tests : (x x' y y' z z' : Bool) (p : Place) → x ≡ x' → y ≡ y' → z ≡ z' → after_byte x y z p ≡ after_byte x' y' z' p
by_tests x x' y y' z z' p ex ey ez = ap (λ b. after_byte b y z p) ex ∙ ap (λ b. after_byte x' b z p) ey ∙ ap (λ b. after_byte x' y' b p) ez

low_after : (x y z : Bool) (p : Place) → 1 ≤ p.line → 1 ≤ p.column → (1 ≤ (after_byte x y z p).line) × (1 ≤ (after_byte x y z p).column)
low_after true y z p a b = (omega arith, omega arith)
low_after false true z p a b = (a, b)
low_after false false true p a b = (a, omega arith)
low_after false false false p a b = (a, omega arith)

-- lines and columns are from 1
pub place_low : (s : List ℕ) (i : ℕ) → (1 ≤ (place_at s i).line) × (1 ≤ (place_at s i).column)
place_low s zero = (omega arith, omega arith)
place_low s (suc i) =
    let h = place_low s i in
    let b = get_or s (0 + i) 0 in
    let n = get_or s (0 + i + 1) 0 in
    low_after (ends_line b n) (passed_over b n) (eqb b 9) (place_at s i) h.0 h.1

module _ (s : List ℕ) (i : ℕ) (f : Plain s i) where
  no-line_end : line_end (get_or s i 0) ≡ false
  no-line_end = or_from (eqb (get_or s i 0) 10) (eqb (get_or s i 0) 13 || false) f.lf (or_from (eqb (get_or s i 0) 13) false f.cr refl)

  pub plain_no_crlf : crlf_at s i ≡ false
  plain_no_crlf = and_left _ _ f.cr

  pub index_plain : index_shown s i ≡ i
  index_plain = index_same s i plain_no_crlf

  place_plain : place_at s (i + 1) ≡ record { line = (place_at s i).line; column = (place_at s i).column + 1 }
  place_plain =
      place-more s i
      ∙ by_tests (ends_line (get_or s i 0) (get_or s (i + 1) 0)) false (passed_over (get_or s i 0) (get_or s (i + 1) 0)) false (eqb (get_or s i 0) 9) false (place_at s i)
      (or_from (eqb (get_or s i 0) 10) _ f.lf (and_left _ _ f.cr)) (and_left _ _ f.cr) f.tab

  abbrev at : ℕ → Point
  at j = record { line = (place_at s i).line; column = (place_at s i).column; index = j; vs = 0 }

  moved_plain : moved s (at (index_shown s i)) ≡ record { line = (place_at s i).line; column = (place_at s i).column + 1; index = i + 1; vs = 0 }
  moved_plain =
      ap (λ j. moved s (at j)) index_plain
      ∙ cond-false (line_end (get_or s i 0)) _ _ no-line_end
      ∙ cond-false (tab_goes_on (get_or s i 0) (at i)) _ _ (and_left _ _ f.tab)

  pub past_plain : (v : Option ℕ) → consumed_at s (cursor_at s i v) ≡ cursor-before s (i + 1) (byte_shown s i) None
  past_plain v =
      consumed-shown s i v f.inside
      ∙ ap (λ p. record { point = p; previous = byte_shown s i; current = None })
      (moved_plain ∙ ap (λ (q : Place). point q (i + 1)) (sym place_plain))

  pub eaten : (v : Option ℕ) → ready s (consumed_at s (cursor_at s i v)) ≡ cursor_at s (i + 1) (byte_shown s i)
  eaten v = ap (ready s) (past_plain v) ∙ ready-before s (i + 1) (byte_shown s i) None

-- ---- tabs

module _ (s : List ℕ) (i : ℕ) (lt : i < length s) (tab : eqb (get_or s i 0) 9 ≡ true) where
  tab-is : get_or s i 0 ≡ 9
  tab-is = eqb-true _ 9 tab

  pub tab_no_crlf : crlf_at s i ≡ false
  tab_no_crlf = and_left _ _ (ap (is 13) tab-is)

  pub tab-index : index_shown s i ≡ i
  tab-index = index_same s i tab_no_crlf

  place-tab : place_at s (i + 1) ≡ record { line = (place_at s i).line; column = after_tab (place_at s i).column }
  place-tab = place-more s i ∙ ap (λ b. past b (get_or s (i + 1) 0) (place_at s i)) tab-is

  -- the cursor at the column c of the tab, of which k columns have been shown
  abbrev pub in_tab : ℕ → ℕ → Option ℕ → Option ℕ → Cursor
  in_tab c k u w = record { point = record { line = (place_at s i).line; column = c; index = i; vs = k }; previous = u; current = w }

  abbrev after_tab_byte : ℕ → Point
  after_tab_byte c = record { line = (place_at s i).line; column = c + 1; index = i + 1; vs = 0 }

  past-tab : (c k : ℕ) (u : Option ℕ) (b : ℕ) → consumed_at s (in_tab c k u (Some b)) ≡ cond (not (eqb (c % 4) 0)) (in_tab (c + 1) (k + 1) (Some b) None) (record { point = after_tab_byte c; previous = Some b; current = None })
  past-tab c k u b = ap (λ p. record { point = p; previous = Some b; current = None }) (ap pick tab-is) ∙ go (not (eqb (c % 4) 0))
    where
      pick : ℕ → Point
      pick x =
          cond (line_end x) (record { line = (place_at s i).line + 1; column = 1; index = i + 1; vs = 0 })
          (cond (tab_goes_on x (in_tab c k u (Some b)).point) (record { line = (place_at s i).line; column = c + 1; index = i; vs = k + 1 })
          (after_tab_byte c))

      go : (x : Bool) → ◌≡◌ {A = Cursor} (record { point = cond x (record { line = (place_at s i).line; column = c + 1; index = i; vs = k + 1 }) (after_tab_byte c); previous = Some b; current = None }) (cond x (in_tab (c + 1) (k + 1) (Some b) None) (record { point = after_tab_byte c; previous = Some b; current = None }))
      go true = refl
      go false = refl

  -- the last column of a tab
  pub tab_last : (c k : ℕ) (u : Option ℕ) (b : ℕ) → c + 1 ≡ after_tab (place_at s i).column → consumed_at s (in_tab c k u (Some b)) ≡ cursor-before s (i + 1) (Some b) None
  tab_last c k u b e =
      let z : c % 4 ≡ 0 = omega arith in
      past-tab c k u b ∙ cond-false (not (eqb (c % 4) 0)) _ _ (ap not (eq-eqb (c % 4) 0 z))
      ∙ ap (λ x. record { point = record { line = (place_at s i).line; column = x; index = i + 1; vs = 0 }; previous = Some b; current = None }) e
      ∙ ap (λ (q : Place). record { point = point q (i + 1); previous = Some b; current = None }) (sym place-tab)

  pub tab-more : (c k : ℕ) (u : Option ℕ) (b : ℕ) → (place_at s i).column ≤ c → c + 1 < after_tab (place_at s i).column → consumed_at s (in_tab c k u (Some b)) ≡ in_tab (c + 1) (k + 1) (Some b) None
  tab-more c k u b lo hi =
      let z : c % 4 ≡ 0 → ⊥ = λ q. omega arith in
      past-tab c k u b ∙ cond-true (not (eqb (c % 4) 0)) _ _ (ap not (ne_eqb (c % 4) 0 z))

  pub ready-tab : (c k : ℕ) (u w : Option ℕ) → ready s (in_tab c (k + 1) u w) ≡ in_tab c (k + 1) u (Some 32)
  ready-tab c k u w =
      ap (λ j. record { point = record { line = (place_at s i).line; column = c; index = j; vs = k + 1 }; previous = u; current = shown_at s (record { line = (place_at s i).line; column = c; index = j; vs = k + 1 }) }) tab-index
      ∙ ap (λ o. in_tab c (k + 1) u o) (cond-true (ltb i (length s)) _ None (lt-ltb i (length s) lt) ∙ ap Some (ap (shown_as (k + 1)) tab-is ∙ cond-true (ltb 0 (k + 1)) 32 9 (lt-ltb 0 (k + 1) (omega arith))))

  -- the tab as it is shown first
  pub at-tab : (v : Option ℕ) → cursor_at s i v ≡ in_tab (place_at s i).column 0 v (Some 9)
  at-tab v =
      ap (λ j. record { point = record { line = (place_at s i).line; column = (place_at s i).column; index = j; vs = 0 }; previous = v; current = byte_shown s i }) tab-index
      ∙ ap (λ o. in_tab (place_at s i).column 0 v o) (shows-at s i lt ∙ ap (λ b. Some (cond (eqb b 13) 10 b)) tab-is)

-- ---- line endings

module _ (s : List ℕ) (i : ℕ) (lt : i < length s) (h : line_end (get_or s i 0) ≡ true) where
  last_line : line_end (get_or s (index_shown s i) 0) ≡ true
  last_line = two_ways s i (λ q. line_end (get_or s q 0) ≡ true) (λ c. ap line_end (crlf s i c).1) (λ c. h)

  -- a line ending that is no CR before an LF ends the line
  ends : (b n : ℕ) → line_end b ≡ true → passed_over b n ≡ false → ends_line b n ≡ true
  ends b n l c =
      ⊎_elim
      (λ e. or_left (eqb b 10) _ e)
      (λ e.
      let r : eqb b 13 ≡ true = ⊎_elim (λ q. q) (λ q. absurd (true≢false (sym q))) (or_cases (eqb b 13) false e) in
      or_right (eqb b 10) _ (and_from (eqb b 13) (not (eqb n 10)) r (⊎_elim (λ q. absurd (both_ways (eqb b 13) q r)) (λ q. not_from_false (eqb n 10) q) (and_cases (eqb b 13) (eqb n 10) c))))
      (or_cases (eqb b 10) (eqb b 13 || false) l)

  place-line_end : place_at s (index_shown s i + 1) ≡ record { line = (place_at s i).line + 1; column = 1 }
  place-line_end =
      two_ways s i (λ q. place_at s (q + 1) ≡ record { line = (place_at s i).line + 1; column = 1 })
      (λ c.
      let f = crlf s i c in
      let same : place_at s (i + 1) ≡ place_at s i = place-more s i ∙ ap (λ b. past b (get_or s (i + 1) 0) (place_at s i)) f.0 ∙ ap (λ n. past 13 n (place_at s i)) f.1 in
      place-more s (i + 1) ∙ ap (λ b. past b (get_or s (i + 1 + 1) 0) (place_at s (i + 1))) f.1 ∙ ap (λ (p : Place). record { line = p.line + 1; column = 1 }) same)
      (λ c.
      place-more s i
      ∙ ap (λ x. after_byte x (passed_over (get_or s i 0) (get_or s (i + 1) 0)) (eqb (get_or s i 0) 9) (place_at s i)) (ends (get_or s i 0) (get_or s (i + 1) 0) h c))

  shown-lf : byte_shown s i ≡ Some 10
  shown-lf = shows-at s i lt ∙ ap Some (among-all (λ x. cond (eqb x 13) 10 x ≡ 10) (10 ∷ 13 ∷ []) (refl, (refl, tt)) (get_or s i 0) h)

  pub past-line_end : (v : Option ℕ) → consumed_at s (cursor_at s i v) ≡ cursor-before s (index_shown s i + 1) (Some 10) None
  past-line_end v =
      consumed-shown s i v lt
      ∙ ap (λ p. record { point = p; previous = byte_shown s i; current = None }) (cond-true (line_end (get_or s (index_shown s i) 0)) _ _ last_line)
      ∙ ap (λ o. record { point = record { line = (place_at s i).line + 1; column = 1; index = index_shown s i + 1; vs = 0 }; previous = o; current = None }) shown-lf
      ∙ ap (λ (p : Place). record { point = point p (index_shown s i + 1); previous = Some 10; current = None }) (sym place-line_end)

  pub edge_line_end : Edge s (index_shown s i + 1)
  edge_line_end = edge_after s (index_shown s i) (shown_no_crlf s i)
