-- A stack that is kept in a table, its top at the end.
-- Assumes nothing.
use Rattle.std.proofs.Common.{◌≡◌, List, [], ◌∷◌, ◌++◌, reverse, Some, None, Option, sym, ap, ◌∙◌, MatchOption, IfNone}
use Rattle.std.proofs.lemmas.List.{append-nil, reverse-append}
use Rattle.std.specs.Option.{option_to_list}

-- what comes off the end of the table was the top of the stack
pub taken-off :
    {A : Type 0} (r : Option A) (xs ys : List A) → xs ≡ ys ++ option_to_list r → IfNone r (xs ≡ []) →
    MatchOption r ((reverse xs ≡ []) × (reverse ys ≡ [])) (λ a. reverse xs ≡ a ∷ reverse ys)
taken-off None xs ys e z = (ap reverse z, ap reverse (sym (append-nil ys) ∙ sym e ∙ z))
taken-off (Some a) xs ys e z = ap reverse e ∙ reverse-append ys (a ∷ [])
