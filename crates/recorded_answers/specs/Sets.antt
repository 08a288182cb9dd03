-- The numbers of the sets of the list: compare/README.md.
-- Assumes nothing.
use Rattle.std.specs.Prelude.{ℕ, zero, suc, ◌+◌, ◌*◌, List, [], ◌∷◌, ◌++◌}
use Rattle.recorded_answers.specs.declared.sets.ListedSet.{ListedSet}
use Rattle.recorded_answers.specs.declared.sets.ListedSet.TheVariants.{Empty, House, Replacement, Many}

-- the range number k of the set 3
abbrev pub range_of_many : ℕ → List ℕ
range_of_many k = (128 + 2175 * k) ∷ (128 + 2175 * k + 1087) ∷ []

-- and the first n of them
unfoldable pub many : ℕ → List ℕ
many zero = []
many (suc n) = many n ++ range_of_many n

abbrev pub set_numbers : ListedSet → List ℕ
set_numbers Empty = []
set_numbers House = 0x2010 ∷ 0x2027 ∷ 0x2030 ∷ 0x205E ∷ []
set_numbers Replacement = 0xA0 ∷ 0xA7 ∷ 0x2014 ∷ 0x2014 ∷ 0xFFFD ∷ 0xFFFD ∷ []
set_numbers Many = many 512
