-- How many bytes a character has, by what is read at its place.
-- Assumes nothing.
use Rattle.std.proofs.Common.{◌≡◌, ℕ, ◌+◌, ◌-◌, ◌<◌, ◌≤◌, Bool, true, false, cond, eqb, ltb, List, length, drop, Some, None, sym, refl, ap, ◌∙◌, arith, length-append, length-drop}
use lib.Utf8.{encode}
use Rattle.std.proofs.lemmas.Bool.{cond-false, ltb-true, ne_eqb}
use Rattle.characters.specs.Utf8.{character, character_at, EncodedAt}
use Rattle.characters.specs.Widths.{replacement_width, width_of, character_width}

pub replacement : (s : List ℕ) (i w : ℕ) → Some 65533 ≡ character_at s i → w ≡ replacement_width (drop i s) → w ≡ character_width s i
replacement s i w e h = h ∙ ap (width_of (drop i s)) e

pub written : (s : List ℕ) (i w c : ℕ) → Some c ≡ character_at s i → (c ≡ 65533 → ⊥) → w ≡ length (encode c) → w ≡ character_width s i
written s i w c e ne h = h ∙ sym (cond-false (eqb c 65533) (replacement_width (drop i s)) (length (encode c)) (ne_eqb c 65533 ne)) ∙ ap (width_of (drop i s)) e

-- what stands at the place ends within the bytes
pub written_within : (s : List ℕ) (i c : ℕ) → EncodedAt s i c → i < length s → i + length (encode c) ≤ length s
written_within s i c w lt =
    let long : length (encode c) + length w.0 ≡ length s - i = sym (length-append (encode c) w.0) ∙ ap length (sym w.1) ∙ length-drop i s in
    omega (arith, long)

-- a character is read only before the end
inside_as : (n i c d : ℕ) (b : Bool) → ltb i n ≡ b → Some c ≡ cond b (Some d) None → i < n
inside_as n i c d true l e = ltb-true i n l
inside_as n i c d false l e = let z : ◌≡◌ {A = ℕ} 0 1 = cc in absurd (omega arith)

pub some-inside : (s : List ℕ) (i c : ℕ) → Some c ≡ character_at s i → i < length s
some-inside s i c e = inside_as (length s) i c (character (drop i s)) (ltb i (length s)) refl e
