-- Whether the last two parts of a domain have a `_`, told byte by byte.
-- Assumes nothing.
use Rattle.std.proofs.Common.{◌≡◌, ℕ, Bool, true, false, cond, not, ◌&&◌, ◌||◌, eqb, List, [], ◌∷◌, ◌++◌, sym, refl, ap, ◌∙◌, ⊎_elim}
use Rattle.std.proofs.lemmas.Bool.{cases_Bool, cond-true, cond-false}
use Rattle.text.specs.Bytes.{some}
use Rattle.rules.specs.Web.{onto_first, parts, last_two, without_underscore}

abbrev underscored : List ℕ → Bool
underscored x = some (λ b. eqb b 95) x

-- whether the last part so far has a `_`, and the part before it
abbrev pub Marks : Type 0
Marks = Bool × Bool

abbrev pub marked : Marks → ℕ → Marks
marked s b = cond (eqb b 46) (false, s.0) (cond (eqb b 95) (true, s.1) s)

abbrev pub marks : Marks → List ℕ → Marks
marks s [] = s
marks s (b ∷ r) = marks (marked s b) r

-- of a list of parts as their marks
abbrev clean : List Bool → Bool
clean [] = true
clean (x ∷ []) = not x
clean (x ∷ y ∷ []) = not x && not y
clean (x ∷ y ∷ z ∷ r) = clean (y ∷ z ∷ r)

abbrev underscores : List (List ℕ) → List Bool
underscores [] = []
underscores (x ∷ xs) = underscored x ∷ underscores xs

and_true : (x : Bool) → (x && true) ≡ x
and_true true = refl
and_true false = refl

clean_parts : (ps : List (List ℕ)) → without_underscore (last_two ps) ≡ clean (underscores ps)
clean_parts [] = refl
clean_parts (x ∷ []) = and_true (not (underscored x))
clean_parts (x ∷ y ∷ []) = ap (λ t. not (underscored x) && t) (and_true (not (underscored y)))
clean_parts (x ∷ y ∷ z ∷ r) = clean_parts (y ∷ z ∷ r)

-- the first of some marks joined with one more
abbrev joined : Bool → List Bool → List Bool
joined l [] = l ∷ []
joined l (f ∷ fs) = (l || f) ∷ fs

onto_first-part : (b : ℕ) (ps : List (List ℕ)) → underscores (onto_first b ps) ≡ joined (eqb b 95) (underscores ps)
onto_first-part b [] = ap (λ t. t ∷ []) (or_false (eqb b 95))
  where
    or_false : (x : Bool) → (x || false) ≡ x
    or_false true = refl
    or_false false = refl
onto_first-part b (x ∷ xs) = refl

not_or : (x y : Bool) → (not x && not (y || false)) ≡ not (y || x)
not_or true true = refl
not_or true false = refl
not_or false true = refl
not_or false false = refl

-- there is a first part
shape : (r : List ℕ) → (p : List ℕ) × ((ps : List (List ℕ)) × (parts r ≡ p ∷ ps))
shape [] = ([], ([], refl))
shape (b ∷ r) =
    let (p, (ps, e)) = shape r in
    ⊎_elim
    (λ t. ([], (parts r, cond-true (eqb b 46) ([] ∷ parts r) (onto_first b (parts r)) t)))
    (λ f. (b ∷ p, (ps, cond-false (eqb b 46) ([] ∷ parts r) (onto_first b (parts r)) f ∙ ap (onto_first b) e)))
    (cases_Bool (eqb b 46))

dot-step : (l b f : Bool) (fs : List Bool) → clean (l ∷ joined false (f ∷ fs)) ≡ clean (b ∷ joined l (false ∷ f ∷ fs))
dot-step true b f fs = refl
dot-step false b f fs = refl

underscore_step : (l b : Bool) (fs : List Bool) → clean (b ∷ joined true fs) ≡ clean (b ∷ joined l (joined true fs))
underscore_step true b [] = refl
underscore_step false b [] = refl
underscore_step true b (f ∷ fs) = refl
underscore_step false b (f ∷ fs) = refl

other_step : (l b : Bool) (fs : List Bool) → clean (b ∷ joined l fs) ≡ clean (b ∷ joined l (joined false fs))
other_step true b [] = refl
other_step false b [] = refl
other_step true b (f ∷ fs) = refl
other_step false b (f ∷ fs) = refl

abbrev pub none : Marks → Bool
none s = not (s.0 || s.1)

-- what the marks say of the parts, where s has the marks of the two parts before
steps : (s : Marks) (xs : List ℕ) → none (marks s xs) ≡ clean (s.1 ∷ joined s.0 (underscores (parts xs)))
steps (l, b) [] = sym (not_or b l)
steps (l, b) (x ∷ r) =
    ⊎_elim
    (λ dot.
    let (p, (ps, e)) = shape r in
    ap (λ s. none (marks s r)) (cond-true (eqb x 46) (false, l) (cond (eqb x 95) (true, b) (l, b)) dot)
    ∙ steps (false, l) r
    ∙ ap (λ q. clean (l ∷ joined false (underscores q))) e
    ∙ dot-step l b (underscored p) (underscores ps)
    ∙ ap (λ q. clean (b ∷ joined l (false ∷ underscores q))) (sym e)
    ∙ ap (λ q. clean (b ∷ joined l (underscores q))) (sym (cond-true (eqb x 46) ([] ∷ parts r) (onto_first x (parts r)) dot)))
    (λ no.
    ap (λ s. none (marks s r)) (cond-false (eqb x 46) (false, l) (cond (eqb x 95) (true, b) (l, b)) no)
    ∙ ⊎_elim
    (λ yes.
    ap (λ s. none (marks s r)) (cond-true (eqb x 95) (true, b) (l, b) yes)
    ∙ steps (true, b) r
    ∙ underscore_step l b (underscores (parts r))
    ∙ ap (λ t. clean (b ∷ joined l (joined t (underscores (parts r))))) (sym yes))
    (λ other.
    ap (λ s. none (marks s r)) (cond-false (eqb x 95) (true, b) (l, b) other)
    ∙ steps (l, b) r
    ∙ other_step l b (underscores (parts r))
    ∙ ap (λ t. clean (b ∷ joined l (joined t (underscores (parts r))))) (sym other))
    (cases_Bool (eqb x 95))
    ∙ ap (λ q. clean (b ∷ joined l q)) (sym (onto_first-part x (parts r)))
    ∙ ap (λ q. clean (b ∷ joined l (underscores q))) (sym (cond-false (eqb x 46) ([] ∷ parts r) (onto_first x (parts r)) no)))
    (cases_Bool (eqb x 46))

clean_front : (f : Bool) (fs : List Bool) → clean (false ∷ f ∷ fs) ≡ clean (f ∷ fs)
clean_front f [] = refl
clean_front f (g ∷ gs) = refl

-- the last two parts have no `_` exactly where neither mark is set
pub underscore_marks : (xs : List ℕ) → without_underscore (last_two (parts xs)) ≡ none (marks (false, false) xs)
underscore_marks xs =
    let (p, (ps, e)) = shape xs in
    clean_parts (parts xs) ∙ ap (λ q. clean (underscores q)) e ∙ sym (clean_front (underscored p) (underscores ps)) ∙ ap (λ q. clean (false ∷ joined false (underscores q))) (sym e) ∙ sym (steps (false, false) xs)

-- one byte more
pub marks-push : (s : Marks) (xs : List ℕ) (b : ℕ) → marks s (xs ++ b ∷ []) ≡ marked (marks s xs) b
marks-push s [] b = refl
marks-push s (x ∷ xs) b = marks-push (marked s x) xs b
