-- The tally of a note's characters, and how it is printed.
-- Assumes nothing.
use Rattle.std.specs.Prelude.{ℕ, ◌+◌, ◌-◌, ◌^◌, min, List, ◌++◌, length, codes, decimal}
use Rattle.std.specs.List.{fold}
use Rattle.characters.specs.CharacterLists.{characters_from}
use Rattle.punctuation.specs.Kinds.{kind_of}
use Rattle.punctuation.specs.RangeLists.{house}
use Rattle.punctuation.specs.declared.kinds.CharacterKind.{CharacterKind}
use Rattle.punctuation.specs.declared.kinds.CharacterKind.TheVariants.{Whitespace, Punctuation, Other}
use Rattle.classes.specs.declared.tallies.Tally.{Tally}

-- none yet, in so many bytes
abbrev pub uncounted : ℕ → Tally
uncounted bytes = record { bytes = bytes; characters = 0; white_space = 0; punctuation = 0; other = 0 }

-- one more, as far as 64 bits go
abbrev pub up : ℕ → ℕ
up n = min (n + 1) (2 ^ 64 - 1)

abbrev pub counted : CharacterKind → Tally → Tally
counted Whitespace t = record { bytes = t.bytes; characters = up t.characters; white_space = up t.white_space; punctuation = t.punctuation; other = t.other }
counted Punctuation t = record { bytes = t.bytes; characters = up t.characters; white_space = t.white_space; punctuation = up t.punctuation; other = t.other }
counted Other t = record { bytes = t.bytes; characters = up t.characters; white_space = t.white_space; punctuation = t.punctuation; other = up t.other }

-- each character of a note counted by its kind
abbrev pub tally_of : List ℕ → Tally
tally_of s = fold (λ t p. counted (kind_of house p.1) t) (uncounted (length s)) (characters_from s 0)

-- as `3 characters in 5 bytes: 1 white-space, 0 punctuation, 2 other`
abbrev pub tally_shown : Tally → List ℕ
tally_shown t =
    decimal t.characters ++ (codes " characters in " ++ (decimal t.bytes ++ (codes " bytes: " ++ (decimal t.white_space ++ (codes " white-space, "
    ++ (decimal t.punctuation ++ (codes " punctuation, " ++ (decimal t.other ++ codes " other"))))))))
