-- What is printed of a kind of character.
-- Assumes nothing.
use Rattle.std.specs.Prelude.{ℕ, List, codes}
use Rattle.punctuation.specs.declared.kinds.CharacterKind.{CharacterKind}
use Rattle.punctuation.specs.declared.kinds.CharacterKind.TheVariants.{Whitespace, Punctuation, Other}

abbrev pub character_kind_shown : CharacterKind → List ℕ
character_kind_shown Whitespace = codes "white-space"
character_kind_shown Punctuation = codes "punctuation"
character_kind_shown Other = codes "other"
