-- Edits at different places join a batch in any order.
-- Assumes nothing.
use Rattle.std.proofs.Common.{◌≡◌, ℕ, ◌+◌, ◌<◌, Bool, true, false, cond, List, [], ◌∷◌, sym, refl, ap, ◌∙◌, ⊎_elim, arith}
use Rattle.std.proofs.lemmas.Bool.{cases_order}
use Rattle.edit_map.specs.declared.entries.Side.{Side}
use Rattle.edit_map.specs.Edits.{Edit, edit, joined, put, idle}
use Rattle.edit_map.specs.Laws.{IsOrderFree}
use Rattle.edit_map.proofs.Adds.{put-past, put_here, put-before}

module _ {A : Type 0} (s t : Side) (p q n d : ℕ) (xs ys : List A) (lt : p < q) where
  -- p stands before all that is in the batch
  first : (e : Edit A) (es : List (Edit A)) → p < e.place → edit p n xs ∷ put t q d ys (e ∷ es) ≡ put s p n xs (put t q d ys (e ∷ es))
  first e es low =
      ⊎_elim
      (λ same. ap (λ l. edit p n xs ∷ l) (put_here t q d ys e es same) ∙ sym (ap (put s p n xs) (put_here t q d ys e es same) ∙ put-before s p n xs (edit q (e.count + d) (joined t e.elements ys)) es lt))
      (λ apart. ⊎_elim
      (λ below. ap (λ l. edit p n xs ∷ l) (put-past t q d ys e es below) ∙ sym (ap (put s p n xs) (put-past t q d ys e es below) ∙ put-before s p n xs e (put t q d ys es) low))
      (λ above. ap (λ l. edit p n xs ∷ l) (put-before t q d ys e es above) ∙ sym (ap (put s p n xs) (put-before t q d ys e es above) ∙ put-before s p n xs (edit q d ys) (e ∷ es) lt))
      apart)
      (cases_order e.place q)

  put_both : (es : List (Edit A)) → put t q d ys (put s p n xs es) ≡ put s p n xs (put t q d ys es)
  put_both [] = put-past t q d ys (edit p n xs) [] lt ∙ sym (put-before s p n xs (edit q d ys) [] lt)
  put_both (e ∷ es) =
      ⊎_elim
      (λ same.
      ap (put t q d ys) (put_here s p n xs e es same)
      ∙ put-past t q d ys (edit p (e.count + n) (joined s e.elements xs)) es lt
      ∙ sym (ap (put s p n xs) (put-past t q d ys e es (omega arith)) ∙ put_here s p n xs e (put t q d ys es) same))
      (λ apart. ⊎_elim
      (λ below.
      ap (put t q d ys) (put-past s p n xs e es below)
      ∙ put-past t q d ys e (put s p n xs es) (omega arith)
      ∙ ap (λ l. e ∷ l) (put_both es)
      ∙ sym (ap (put s p n xs) (put-past t q d ys e es (omega arith)) ∙ put-past s p n xs e (put t q d ys es) below))
      (λ above. ap (put t q d ys) (put-before s p n xs e es above) ∙ put-past t q d ys (edit p n xs) (e ∷ es) lt ∙ first e es above)
      apart)
      (cases_order e.place p)

either : {A : Type 0} (s t : Side) (p q n d : ℕ) (xs ys : List A) (es : List (Edit A)) → (q ≡ p → ⊥) → put t q d ys (put s p n xs es) ≡ put s p n xs (put t q d ys es)
either s t p q n d xs ys es ne =
    ⊎_elim (λ same. absurd (ne same)) (λ apart. ⊎_elim (λ below. sym (put_both t s q p d n ys xs below es)) (λ above. put_both s t p q n d xs ys above es) apart) (cases_order q p)

-- and so do edits without effect
idle_too : {A : Type 0} (f h : List A → List A) (es : List A) (a b : Bool) → h (f es) ≡ f (h es) → cond b (cond a es (f es)) (h (cond a es (f es))) ≡ cond a (cond b es (h es)) (f (cond b es (h es)))
idle_too f h es true true e = refl
idle_too f h es true false e = refl
idle_too f h es false true e = refl
idle_too f h es false false e = e

pub order_free : {A : Type 0} (side : Side) (p n : ℕ) (xs : List A) (es : List (Edit A)) → IsOrderFree side p n xs es
order_free side p n xs es = λ other q d ys ne. idle_too (put side p n xs) (put other q d ys) es (idle n xs) (idle d ys) (either side other p q n d xs ys es ne)
