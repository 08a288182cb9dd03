-- Lists that have the same at every place.
-- Assumes nothing.
use Rattle.std.proofs.Common.{◌≡◌, ℕ, suc, ◌<◌, max, List, [], ◌∷◌, length, refl, sym, arith}
use Rattle.std.proofs.lemmas.Option.{none-some, same_Some}
use Rattle.std.specs.List.{slice_get}

pub same_everywhere : {T : Type 0} (xs ys : List T) → ((k : ℕ) → k < max (length xs) (length ys) → slice_get xs k ≡ slice_get ys k) → xs ≡ ys
same_everywhere [] [] same = refl
same_everywhere [] (y ∷ ys) same = absurd (none-some y (same 0 (omega arith)))
same_everywhere (x ∷ xs) [] same = absurd (none-some x (sym (same 0 (omega arith))))
same_everywhere (x ∷ xs) (y ∷ ys) same =
    let first = same_Some x y (same 0 (omega arith)) in
    let others = same_everywhere xs ys (λ k lt. same (suc k) (omega arith)) in
    λ i. first i ∷ others i
