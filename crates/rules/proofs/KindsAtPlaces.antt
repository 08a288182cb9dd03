-- What the byte at a place tells of the kind of character there.
-- Assumes nothing.
use Rattle.std.proofs.Common.{◌≡◌, ℕ, ◌+◌, ◌-◌, ◌<◌, ◌≤◌, Bool, true, false, cond, eqb, ltb, leb, List, [], ◌∷◌, length, get_or, drop, Some, sym, refl, ap, ◌∙◌, subst, ⊎_elim, arith}
use Rattle.std.specs.List.{AllByRecursion}
use Rattle.std.proofs.lemmas.List.{drop_more}
use Rattle.std.proofs.lemmas.Bool.{cond-true, cond-false, lt-ltb, le-ltb, le-leb, lt-leb, leb-true, and_from, and_left, and_right, and_parts, or_from, or_left, or_cases, eqb-true, true≢false}
use Rattle.punctuation.specs.declared.kinds.CharacterKind.{CharacterKind}
use Rattle.punctuation.specs.declared.kinds.CharacterKind.TheVariants.{Whitespace, Punctuation, Other}
use Rattle.text.specs.Bytes.{among, within}
use Rattle.punctuation.specs.Kinds.{kind_of, kind_or_end, kind_at, punctuation}
use Rattle.characters.specs.Utf8.{Row, begin_with, shaped, character, character_at, one_byte, two_bytes, three_bytes, four_bytes}
use Rattle.characters.specs.WhiteSpace.{white_space}
use Rattle.rules.specs.Web.{is_white, is_other, white_at, other_at, joint}

-- ---- what holds of each of some bytes

abbrev pub OfEach : (ℕ → Type 0) → List ℕ → Type 0
OfEach P [] = Unit {0}
OfEach P (c ∷ cs) = P c × OfEach P cs

pub among-each : (P : ℕ → Type 0) (cs : List ℕ) → OfEach P cs → (b : ℕ) → among cs b ≡ true → P b
among-each P [] h b e = absurd (true≢false (sym e))
among-each P (c ∷ cs) h b e =
    ⊎_elim
    (λ here. subst P (sym (eqb-true b c here)) h.0)
    (λ later. among-each P cs h.1 b later)
    (or_cases (eqb b c) (among cs b) e)

-- ---- characters by their first byte

ascii_character : (b : ℕ) (bs : List ℕ) → b < 128 → character (b ∷ bs) ≡ b
ascii_character b bs lt =
    cond-true (shaped one_byte (b ∷ bs)) (b - 0) _ (or_left _ false (and_from _ true (and_from (leb 0 b) (leb b 127) (le-leb 0 b (omega arith)) (le-leb b 127 (omega arith))) refl))
    ∙ omega arith

-- rows for first bytes from 192 up
abbrev BeginsHigh : Row → Type 0
BeginsHigh [] = ⊥
BeginsHigh (r ∷ row) = leb 192 r.0 ≡ true

not_high : (row : Row) (b : ℕ) (bs : List ℕ) → BeginsHigh row → b < 192 → begin_with row (b ∷ bs) ≡ false
not_high [] b bs h lt = absurd h
not_high (r ∷ row) b bs h lt = and_left (within r.0 r.1 b) (begin_with row bs) (and_left (leb r.0 b) (leb b r.1) (lt-leb r.0 b (omega (arith, leb-true 192 r.0 h))))

none_high : (rows : List Row) (b : ℕ) (bs : List ℕ) → AllByRecursion BeginsHigh rows → b < 192 → shaped rows (b ∷ bs) ≡ false
none_high [] b bs h lt = refl
none_high (row ∷ rows) b bs h lt = or_from (begin_with row (b ∷ bs)) (shaped rows (b ∷ bs)) (not_high row b bs h.0 lt) (none_high rows b bs h.1 lt)

inner_character : (b : ℕ) (bs : List ℕ) → within 0x80 0xBF b ≡ true → character (b ∷ bs) ≡ 0xFFFD
inner_character b bs h =
    let p = and_parts (leb 0x80 b) (leb b 0xBF) h in
    let lo : 128 ≤ b = leb-true 0x80 b p.0 in
    let hi : b ≤ 191 = leb-true b 0xBF p.1 in
    cond-false (shaped one_byte (b ∷ bs)) _ _ (or_from (begin_with ((0x00, 0x7F) ∷ []) (b ∷ bs)) false (and_left (within 0 0x7F b) true (and_right (leb 0 b) (leb b 0x7F) (lt-leb b 0x7F (omega arith)))) refl)
    ∙ cond-false (shaped two_bytes (b ∷ bs)) _ _ (none_high two_bytes b bs (refl, tt) (omega arith))
    ∙ cond-false (shaped three_bytes (b ∷ bs)) _ _ (none_high three_bytes b bs (refl, (refl, (refl, (refl, tt)))) (omega arith))
    ∙ cond-false (shaped four_bytes (b ∷ bs)) _ _ (none_high four_bytes b bs (refl, (refl, (refl, tt))) (omega arith))

-- ---- kinds

white_kind : (w p : Bool) → is_white (cond w Whitespace (cond p Punctuation Other)) ≡ w
white_kind true p = refl
white_kind false true = refl
white_kind false false = refl

other_kind : (k : CharacterKind) → is_other k ≡ true → is_white k ≡ false
other_kind Whitespace e = absurd (true≢false (sym e))
other_kind Punctuation e = refl
other_kind Other e = refl

white_other : (k : CharacterKind) → is_white k ≡ true → is_other k ≡ false
white_other Whitespace e = refl
white_other Punctuation e = absurd (true≢false (sym e))
white_other Other e = absurd (true≢false (sym e))

module _ (member : ℕ → Bool) (s : List ℕ) (i : ℕ) where
  pub end-is_white : length s ≤ i → white_at member s i ≡ true
  end-is_white le = ap (λ o. is_white (kind_or_end member o)) (cond-false (ltb i (length s)) _ _ (le-ltb i (length s) le))

  kind_here : i < length s → kind_at member s i ≡ kind_of member (character (get_or s i 0 ∷ drop (i + 1) s))
  kind_here lt =
      ap (kind_or_end member) (cond-true (ltb i (length s)) _ _ (lt-ltb i (length s) lt))
      ∙ ap (λ t. kind_of member (character t)) (drop_more s i 0 lt)

  pub ascii_kind : i < length s → get_or s i 0 < 128 → kind_at member s i ≡ kind_of member (get_or s i 0)
  ascii_kind lt low = kind_here lt ∙ ap (kind_of member) (ascii_character (get_or s i 0) (drop (i + 1) s) low)

  -- the kind where the byte is one below 128 that is known
  pub byte_kind : (b : ℕ) → b < 128 → i < length s → get_or s i 0 ≡ b → kind_at member s i ≡ kind_of member b
  byte_kind b low lt e = ascii_kind lt (omega (arith, e)) ∙ ap (kind_of member) e

  pub ascii_dark : i < length s → get_or s i 0 < 128 → white_space (get_or s i 0) ≡ false → white_at member s i ≡ false
  ascii_dark lt low h = ap is_white (ascii_kind lt low) ∙ white_kind (white_space (get_or s i 0)) (punctuation member (get_or s i 0)) ∙ h

  -- where a place is not white, no white space is read
  pub character_dark : white_at member s i ≡ false → (c : ℕ) → character_at s i ≡ Some c → white_space c ≡ false
  character_dark h c e = sym (white_kind (white_space c) (punctuation member c)) ∙ ap (λ o. is_white (kind_or_end member o)) (sym e) ∙ h

  pub other_not_white : other_at member s i ≡ true → white_at member s i ≡ false
  other_not_white e = other_kind (kind_at member s i) e

  pub white_not_other : white_at member s i ≡ true → other_at member s i ≡ false
  white_not_other e = white_other (kind_at member s i) e

  pub joint_not_white : i < length s → joint (get_or s i 0) ≡ true → white_at member s i ≡ false
  joint_not_white lt e =
      ⊎_elim
      (λ h.
      among-each (λ b. get_or s i 0 ≡ b → white_at member s i ≡ false) (46 ∷ 95 ∷ 45 ∷ [])
      ((λ q. ap is_white (byte_kind 46 (omega arith) lt q)), ((λ q. ap is_white (byte_kind 95 (omega arith) lt q)), ((λ q. ap is_white (byte_kind 45 (omega arith) lt q)), tt)))
      (get_or s i 0) h refl)
      (λ h.
      ap is_white (kind_here lt)
      ∙ ap (λ c. is_white (kind_of member c)) (inner_character (get_or s i 0) (drop (i + 1) s) h)
      ∙ white_kind (white_space 0xFFFD) (punctuation member 0xFFFD))
      (or_cases (among (46 ∷ 95 ∷ 45 ∷ []) (get_or s i 0)) (within 0x80 0xBF (get_or s i 0)) e)
