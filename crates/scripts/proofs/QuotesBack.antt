-- Notes that are written in quotes read back.
-- Assumes nothing.
use Rattle.std.proofs.Common.{◌≡◌, ℕ, ◌+◌, ◌*◌, ◌/◌, ◌%◌, ◌<◌, Bool, true, false, cond, ◌&&◌, eqb, ltb, leb, List, [], ◌∷◌, ◌++◌, codes, Some, None, Ok, refl, sym, ap, ◌∙◌, subst, append_assoc, arith}
use Rattle.std.proofs.lemmas.Bool.{cond-true, cond-false, eqb-true, and_from, lt-ltb}
use Rattle.std.proofs.lemmas.Fmt.{hex_byte as two_digits}
use Rattle.std.proofs.lemmas.Str.{digit_value-digit_char}
use Rattle.std.specs.Char.{digit_value}
use Rattle.std.specs.Fmt.{digit_glyph}
use Rattle.scripts.specs.declared.quotes.Place.TheVariants as place
use Rattle.scripts.specs.Quotes.{escaped, all_escaped, hex_shown, hex_byte, in_front, quoted, quoted_from, reads, then_on, written}
use Rattle.scripts.specs.ReadingBack.{Bytes}

-- ---- two hexadecimal digits

digit_back : (d : ℕ) → d < 16 → digit_value (digit_glyph false d) ≡ d
digit_back d lt = digit_value-digit_char d (omega (arith, lt))

hex_back : (b : ℕ) → b < 256 → hex_byte (digit_glyph false (b / 16)) (digit_glyph false (b % 16)) ≡ Some b
hex_back b lt =
    let high : b / 16 < 16 = omega arith in
    let low : b % 16 < 16 = omega arith in
    let whole : b / 16 * 16 + b % 16 ≡ b = omega arith in
    (λ i. cond (ltb (digit_back (b / 16) high i) 16 && ltb (digit_back (b % 16) low i) 16) (Some (digit_back (b / 16) high i * 16 + digit_back (b % 16) low i)) None)
    ∙ cond-true (ltb (b / 16) 16 && ltb (b % 16) 16) _ None (and_from (ltb (b / 16) 16) (ltb (b % 16) 16) (lt-ltb (b / 16) 16 high) (lt-ltb (b % 16) 16 low))
    ∙ ap (λ n. Some n) whole

-- ---- one byte

-- what stands for b is read as b
abbrev pub Back : ℕ → List ℕ → Type 0
Back b text = (rest : List ℕ) → quoted_from place.Inside (text ++ rest) ≡ in_front (Some b) (quoted_from place.Inside rest)

hex_reads : (b : ℕ) → b < 256 → Back b (codes "\\x" ++ hex_shown b)
hex_reads b lt rest =
    ap (λ (t : List ℕ). quoted_from place.Inside ((codes "\\x" ++ t) ++ rest)) (two_digits false b lt)
    ∙ ap (λ r. then_on (reads r) (λ next. quoted_from next rest)) (hex_back b lt)

plain_reads : (b : ℕ) → eqb b 34 ≡ false → eqb b 92 ≡ false → Back b (b ∷ [])
plain_reads b quote slash rest =
    ap (λ s. then_on s (λ next. quoted_from next rest)) (cond-false (eqb b 34) _ _ quote ∙ cond-false (eqb b 92) _ _ slash)

-- by cases: line feed, carriage return, tab, quote, backslash, visible or not
shown_reads : (b : ℕ) (visible : Bool) → b < 256 → eqb b 34 ≡ false → eqb b 92 ≡ false → Back b (cond visible (b ∷ []) (codes "\\x" ++ hex_shown b))
shown_reads b true lt quote slash = plain_reads b quote slash
shown_reads b false lt quote slash = hex_reads b lt

at_slash : (b : ℕ) (t : Bool) → eqb b 92 ≡ t → b < 256 → eqb b 34 ≡ false → Back b (cond t (codes "\\\\") (cond (leb 32 b && leb b 126) (b ∷ []) (codes "\\x" ++ hex_shown b)))
at_slash b true e lt quote rest = subst (λ c. quoted_from place.Inside (codes "\\\\" ++ rest) ≡ in_front (Some c) (quoted_from place.Inside rest)) (sym (eqb-true b 92 e)) refl
at_slash b false e lt quote rest = shown_reads b (leb 32 b && leb b 126) lt quote e rest

at_quote : (b : ℕ) (t : Bool) → eqb b 34 ≡ t → b < 256 → Back b (cond t (codes "\\\"") (cond (eqb b 92) (codes "\\\\") (cond (leb 32 b && leb b 126) (b ∷ []) (codes "\\x" ++ hex_shown b))))
at_quote b true e lt rest = subst (λ c. quoted_from place.Inside (codes "\\\"" ++ rest) ≡ in_front (Some c) (quoted_from place.Inside rest)) (sym (eqb-true b 34 e)) refl
at_quote b false e lt rest = at_slash b (eqb b 92) refl lt e rest

-- a byte c with an escape of its own, or another byte
unless : (b c : ℕ) (text others : List ℕ) (t : Bool) → eqb b c ≡ t → Back c text → Back b others → Back b (cond t text others)
unless b c text others true e own other rest = subst (λ k. quoted_from place.Inside (text ++ rest) ≡ in_front (Some k) (quoted_from place.Inside rest)) (sym (eqb-true b c e)) (own rest)
unless b c text others false e own other rest = other rest

byte_back : (b : ℕ) → b < 256 → Back b (escaped b)
byte_back b lt =
    unless b 10 (codes "\\n") _ (eqb b 10) refl (λ rest. refl)
    (unless b 13 (codes "\\r") _ (eqb b 13) refl (λ rest. refl)
    (unless b 9 (codes "\\t") _ (eqb b 9) refl (λ rest. refl)
    (at_quote b (eqb b 34) refl lt)))

-- ---- a note

inside_back : (note : List ℕ) → Bytes note → quoted_from place.Inside (all_escaped note ++ codes "\"") ≡ Ok note
inside_back [] bytes = refl
inside_back (b ∷ note) bytes =
    ap (quoted_from place.Inside) (append_assoc (escaped b) (all_escaped note) (codes "\""))
    ∙ byte_back b bytes.0 (all_escaped note ++ codes "\"")
    ∙ ap (in_front (Some b)) (inside_back note bytes.1)

-- a note in quotes, behind a space
pub note_back : (note : List ℕ) → Bytes note → quoted (32 ∷ written note) ≡ Ok note
note_back note bytes = inside_back note bytes
