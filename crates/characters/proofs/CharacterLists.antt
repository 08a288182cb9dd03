-- The characters in turn: the first, the others after it, and the end.
-- Assumes nothing.
use Rattle.std.proofs.Common.{◌≡◌, ℕ, zero, suc, ◌+◌, ◌-◌, ◌<◌, ◌≤◌, eqb, List, [], ◌∷◌, length, drop, Some, None, sym, refl, ap, ◌∙◌, ⊎_elim, subst, arith}
use lib.Utf8.{encode}
use Rattle.std.proofs.lemmas.Bool.{cond-true, cond-false, cases_Bool, cases_lt, lt-ltb}
use Rattle.std.proofs.lemmas.Bool.Decides.{nat_tests}
use Rattle.std.proofs.lemmas.Str.{length-encode, len_utf8_bounds}
use Rattle.characters.specs.Utf8.{character, character_at}
use Rattle.characters.specs.Widths.{replacement_width, width_of, character_width}
use Rattle.characters.specs.CharacterLists.{with_place, next_characters, characters_from}
use Rattle.characters.proofs.CharacterWidths.{some-inside}
use Rattle.characters.proofs.Characters.{none-at_end}

replacement_wide : (bs : List ℕ) → 0 < replacement_width bs
replacement_wide bs = grind (arith, nat_tests)

encoding_wide : (c : ℕ) → 0 < length (encode c)
encoding_wide c = omega (arith, length-encode c, (len_utf8_bounds c).0)

some_wide : (bs : List ℕ) (c : ℕ) → 0 < width_of bs (Some c)
some_wide bs c =
    ⊎_elim
    (λ e. subst (λ w. 0 < w) (sym (cond-true (eqb c 65533) (replacement_width bs) (length (encode c)) e)) (replacement_wide bs))
    (λ e. subst (λ w. 0 < w) (sym (cond-false (eqb c 65533) (replacement_width bs) (length (encode c)) e)) (encoding_wide c))
    (cases_Bool (eqb c 65533))

-- a character has a byte or more
wide : (s : List ℕ) (i : ℕ) → i < length s → 0 < character_width s i
wide s i lt =
    let here : character_at s i ≡ Some (character (drop i s)) = cond-true _ _ _ (lt-ltb i (length s) lt) in
    subst (λ r. 0 < width_of (drop i s) r) (sym here) (some_wide (drop i s) (character (drop i s)))

pub none_left : (n : ℕ) (s : List ℕ) (i : ℕ) → None ≡ character_at s i → next_characters n s i ≡ []
none_left zero s i e = refl
none_left (suc n) s i e = ap (λ r. with_place i r (next_characters n s (i + character_width s i))) (sym e)

-- as many steps as there are bytes are enough
enough : (n m : ℕ) (s : List ℕ) (i : ℕ) → length s ≤ i + n → length s ≤ i + m → next_characters n s i ≡ next_characters m s i
enough zero m s i h k = sym (none_left m s i (none-at_end s i (omega arith)))
enough (suc n) zero s i h k = none_left (suc n) s i (none-at_end s i (omega arith))
enough (suc n) (suc m) s i h k =
    ⊎_elim
    (λ lt. ap (with_place i (character_at s i)) (enough n m s (i + character_width s i) (omega (arith, wide s i lt)) (omega (arith, wide s i lt))))
    (λ le. none_left (suc n) s i (none-at_end s i le) ∙ sym (none_left (suc m) s i (none-at_end s i le)))
    (cases_lt i (length s))

pub first_then : (s : List ℕ) (i c w : ℕ) → Some c ≡ character_at s i → w ≡ character_width s i → characters_from s i ≡ (i, c) ∷ characters_from s (i + w)
first_then s i c w e is =
    let lt = some-inside s i c e in
    let k : ℕ = length s - (i + 1) in
    let one : length s - i ≡ suc k = omega arith in
    let rest : next_characters k s (i + w) ≡ characters_from s (i + w) = enough k (length s - (i + w)) s (i + w) (omega (arith, is, wide s i lt)) (omega arith) in
    ap (λ n. next_characters n s i) one ∙ ap (λ r. with_place i r (next_characters k s (i + character_width s i))) (sym e) ∙ ap (λ v. (i, c) ∷ next_characters k s (i + v)) (sym is) ∙ ap (λ l. (i, c) ∷ l) rest

nothing_at_end : (s : List ℕ) (i : ℕ) → length s ≤ i → characters_from s i ≡ []
nothing_at_end s i le = none_left (length s - i) s i (none-at_end s i le)

same_first : (i j c d : ℕ) (xs ys : List (ℕ × ℕ)) → ◌≡◌ {A = List (ℕ × ℕ)} ((j, c) ∷ xs) ((i, d) ∷ ys) → (j ≡ i) × (xs ≡ ys)
same_first i j c d xs ys e = let p : ◌≡◌ {A = ℕ × ℕ} (j, c) (i, d) = cc in (ap (λ q. q.0) p, cc)

no_first : (p : ℕ × ℕ) (xs : List (ℕ × ℕ)) → [] ≡ p ∷ xs → ⊥
no_first p xs e = omega (arith, ap length e)

-- what is first is the character at the place, within the bytes, and the others come after it
pub first_is : (s : List ℕ) (i j c : ℕ) (others : List (ℕ × ℕ)) → characters_from s i ≡ (j, c) ∷ others → (j ≡ i) × (i < length s) × (others ≡ characters_from s (i + character_width s i))
first_is s i j c others e =
    ⊎_elim
    (λ lt.
    let here : Some (character (drop i s)) ≡ character_at s i = sym (cond-true _ _ _ (lt-ltb i (length s) lt)) in
    let same = same_first i j c (character (drop i s)) others (characters_from s (i + character_width s i)) (sym e ∙ first_then s i (character (drop i s)) (character_width s i) here refl) in
    (same.0, lt, same.1))
    (λ le. absurd (no_first (j, c) others (sym (nothing_at_end s i le) ∙ e)))
    (cases_lt i (length s))
