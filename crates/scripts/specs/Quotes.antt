-- Texts in double quotes, which stand for the bytes of a note: how they are read, and how a note is written as one.
-- Assumes nothing.
use Rattle.std.specs.Prelude.{ℕ, ◌+◌, ◌*◌, ◌-◌, ◌^◌, false, cond, ◌&&◌, List, [], ◌∷◌, ◌++◌, codes, Some, None, Option, Ok, Err, Result, ◌==◌, nat_lt, nat_le}
use Rattle.std.specs.Char.{digit_value, is_ascii_whitespace}
use Rattle.std.specs.Fmt.{digits, format_spec, padded_integral}
use Rattle.scripts.specs.declared.errors.Expected.{Expected}
use Rattle.scripts.specs.declared.errors.Expected.TheVariants as expected
use Rattle.scripts.specs.declared.quotes.Place.{Place}
use Rattle.scripts.specs.declared.quotes.Place.TheVariants as place

-- ---- escapes

-- the byte that a letter behind a backslash stands for
abbrev pub escape_of : ℕ → Option ℕ
escape_of b = cond (b == 110) (Some 10) (cond (b == 114) (Some 13) (cond (b == 116) (Some 9) (cond (b == 34) (Some 34) (cond (b == 92) (Some 92) None))))

-- the byte that two hexadecimal digits write
abbrev pub hex_byte : ℕ → ℕ → Option ℕ
hex_byte high low = cond (nat_lt (digit_value high) 16 && nat_lt (digit_value low) 16) (Some (digit_value high * 16 + digit_value low)) None

-- ---- reading

-- where the reading stands behind one more byte, and the byte of the note that is read then
abbrev pub Step : Type 0
Step = Result (Place × Option ℕ) Expected

abbrev pub reads : Option ℕ → Step
reads None = Err expected.Escape
reads (Some b) = Ok (place.Inside, Some b)

abbrev pub step : Place → ℕ → Step
step place.Front b = cond (b == 34) (Ok (place.Inside, None)) (cond (is_ascii_whitespace b) (Ok (place.Front, None)) (Err expected.Text))
step place.Inside b = cond (b == 34) (Ok (place.Behind, None)) (cond (b == 92) (Ok (place.Escape, None)) (Ok (place.Inside, Some b)))
step place.Escape b = cond (b == 120) (Ok (place.Hex, None)) (reads (escape_of b))
step place.Hex b = Ok (place.HexPair b, None)
step (place.HexPair high) b = reads (hex_byte high b)
step place.Behind b = cond (is_ascii_whitespace b) (Ok (place.Behind, None)) (Err expected.EndOfLine)

-- the text may end there
abbrev pub closed : Place → Result (Unit {0}) Expected
closed place.Front = Err expected.Text
closed place.Inside = Err expected.ClosingQuote
closed place.Escape = Err expected.ClosingQuote
closed place.Hex = Err expected.ClosingQuote
closed (place.HexPair high) = Err expected.ClosingQuote
closed place.Behind = Ok tt

abbrev pub in_front : Option ℕ → Result (List ℕ) Expected → Result (List ℕ) Expected
in_front None r = r
in_front (Some b) (Ok bs) = Ok (b ∷ bs)
in_front (Some b) (Err e) = Err e

abbrev pub nothing_more : Result (Unit {0}) Expected → Result (List ℕ) Expected
nothing_more (Ok done) = Ok []
nothing_more (Err e) = Err e

abbrev pub then_on : Step → (Place → Result (List ℕ) Expected) → Result (List ℕ) Expected
then_on (Ok (place, read)) rest = in_front read (rest place)
then_on (Err e) rest = Err e

-- what is read of the note from this place on
abbrev pub quoted_from : Place → List ℕ → Result (List ℕ) Expected
quoted_from place [] = nothing_more (closed place)
quoted_from place (b ∷ bs) = then_on (step place b) (λ next. quoted_from next bs)

-- the note that a text in quotes stands for
abbrev pub quoted : List ℕ → Result (List ℕ) Expected
quoted text = quoted_from place.Front text

-- ---- writing

-- in hexadecimal, with two digits
abbrev pub hex_shown : ℕ → List ℕ
hex_shown b = padded_integral (format_spec 32 0 4 2 (2 ^ 64 - 1)) false [] (digits 16 false b)

-- visible ASCII and the space stand for themselves
abbrev pub escaped : ℕ → List ℕ
escaped b =
    cond (b == 10) (codes "\\n")
    (cond (b == 13) (codes "\\r")
    (cond (b == 9) (codes "\\t")
    (cond (b == 34) (codes "\\\"")
    (cond (b == 92) (codes "\\\\")
    (cond (nat_le 32 b && nat_le b 126) (b ∷ [])
    (codes "\\x" ++ hex_shown b))))))

abbrev pub all_escaped : List ℕ → List ℕ
all_escaped [] = []
all_escaped (b ∷ bs) = escaped b ++ all_escaped bs

-- a note as a text in quotes
abbrev pub written : List ℕ → List ℕ
written note = codes "\"" ++ (all_escaped note ++ codes "\"")
