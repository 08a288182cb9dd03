-- A byte below 128 is a character by itself.
-- Assumes nothing.
use Rattle.std.proofs.Common.{◌≡◌, ℕ, suc, ◌-◌, ◌<◌, Bool, true, ◌&&◌, ◌||◌, ltb, List, ◌∷◌, length, get_or, drop, Some, None, refl, ap, ◌∙◌, arith, drop-cons}
use Rattle.std.proofs.lemmas.Bool.{cond-true, lt-ltb, le-leb, and_from, or_left}
use Rattle.text.specs.Bytes.{within}
use Rattle.characters.specs.Utf8.{character}
use Rattle.punctuation.specs.Kinds.{kind_of, kind_or_end, kind_at}

ascii_character : (b : ℕ) (r : List ℕ) → b < 128 → character (b ∷ r) ≡ b
ascii_character b r h =
    cond-true ((within 0 127 b && true) || _) (b - 0) _ (or_left (within 0 127 b && true) _ (and_from (within 0 127 b) true (and_from _ _ (le-leb 0 b (omega arith)) (le-leb b 127 (omega arith))) refl))
    ∙ omega arith

pub ascii_kind_at : (member : ℕ → Bool) (s : List ℕ) (i : ℕ) → i < length s → get_or s i 0 < 128 → kind_at member s i ≡ kind_of member (get_or s i 0)
ascii_kind_at member s i lt h =
    ap (kind_or_end member)
    (cond-true (ltb i (length s)) (Some (character (drop i s))) None (lt-ltb i (length s) lt)
    ∙ ap (λ (bs : List ℕ). Some (character bs)) (drop-cons s i 0 lt)
    ∙ ap Some (ascii_character (get_or s i 0) (drop (suc i) s) h))
