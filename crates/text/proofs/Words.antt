-- Words compared in any case, as std compares them.
-- Assumes nothing.
use Rattle.std.proofs.Common.{◌≡◌, ℕ, Bool, true, false, eqb, List, [], ◌∷◌, map, MatchBool, sym, refl, ◌∙◌, subst, ⊎_elim, arith}
use Rattle.std.proofs.lemmas.Bool.{eqb-true, eq-eqb, and_parts, true≢false, cases_Bool, and_from}
use Rattle.std.proofs.lemmas.Bool.Decides.{nat_tests}
use Rattle.std.specs.Char.{to_ascii_lowercase}
use Rattle.text.specs.Ascii.{lower_case, reads}
use Rattle.text.specs.Bytes.{same}

same_refl : (xs : List ℕ) → same xs xs ≡ true
same_refl [] = refl
same_refl (x ∷ xs) = and_from (eqb x x) (same xs xs) (eq-eqb x x refl) (same_refl xs)

same_true : (xs ys : List ℕ) → same xs ys ≡ true → xs ≡ ys
same_true [] [] h = refl
same_true [] (y ∷ ys) h = absurd (true≢false (sym h))
same_true (x ∷ xs) [] h = absurd (true≢false (sym h))
same_true (x ∷ xs) (y ∷ ys) h =
    let p = and_parts (eqb x y) (same xs ys) h in
    λ i. eqb-true x y p.0 i ∷ same_true xs ys p.1 i

-- std's lower case is ours
lower_is : (b : ℕ) → to_ascii_lowercase b ≡ lower_case b
lower_is b = grind (arith, nat_tests)

lowers_are : (bs : List ℕ) → map to_ascii_lowercase bs ≡ map lower_case bs
lowers_are [] = refl
lowers_are (b ∷ bs) = λ i. lower_is b i ∷ lowers_are bs i

-- what std's comparison in any case tells of a word without capitals
pub reads_when : (word bs : List ℕ) (r : Bool) → map to_ascii_lowercase word ≡ word → MatchBool r (map to_ascii_lowercase bs ≡ map to_ascii_lowercase word) (map to_ascii_lowercase bs ≡ map to_ascii_lowercase word → ⊥) → reads word bs ≡ r
reads_when word bs true e h = subst (λ (x : List ℕ). same word x ≡ true) (sym (sym (lowers_are bs) ∙ h ∙ e)) (same_refl word)
reads_when word bs false e h =
    ⊎_elim
    (λ t. absurd (h (lowers_are bs ∙ sym (same_true word (map lower_case bs) t) ∙ sym e)))
    (λ f. f)
    (cases_Bool (same word (map lower_case bs)))
