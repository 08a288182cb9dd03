-- The character at a place of some bytes, by Unicode's table of well-formed byte sequences (The Unicode Standard, Table 3-7).
-- Assumes nothing.
use Rattle.std.specs.Prelude.{◌≡◌, ℕ, zero, suc, ◌+◌, ◌-◌, ◌*◌, Bool, true, false, cond, ◌&&◌, ◌||◌, List, [], ◌∷◌, ◌++◌, length, drop, Some, None, Option, ◌≢◌, nat_lt}
use Rattle.std.proofs.Math.Utf8.{scalar, encode}
use Rattle.text.specs.Bytes.{within}

-- ---- the nine rows of the table, by how many bytes a character has

-- a row has a range for each byte, from its first to its last value
abbrev pub Row : Type 0
Row = List (ℕ × ℕ)

-- U+0000 to U+007F
abbrev pub one_byte : List Row
one_byte = ((0x00, 0x7F) ∷ []) ∷ []

-- U+0080 to U+07FF
abbrev pub two_bytes : List Row
two_bytes = ((0xC2, 0xDF) ∷ (0x80, 0xBF) ∷ []) ∷ []

-- U+0800 to U+0FFF, U+1000 to U+CFFF, U+D000 to U+D7FF, U+E000 to U+FFFF
abbrev pub three_bytes : List Row
three_bytes =
    ((0xE0, 0xE0) ∷ (0xA0, 0xBF) ∷ (0x80, 0xBF) ∷ []) ∷
    ((0xE1, 0xEC) ∷ (0x80, 0xBF) ∷ (0x80, 0xBF) ∷ []) ∷
    ((0xED, 0xED) ∷ (0x80, 0x9F) ∷ (0x80, 0xBF) ∷ []) ∷
    ((0xEE, 0xEF) ∷ (0x80, 0xBF) ∷ (0x80, 0xBF) ∷ []) ∷
    []

-- U+10000 to U+3FFFF, U+40000 to U+FFFFF, U+100000 to U+10FFFF
abbrev pub four_bytes : List Row
four_bytes =
    ((0xF0, 0xF0) ∷ (0x90, 0xBF) ∷ (0x80, 0xBF) ∷ (0x80, 0xBF) ∷ []) ∷
    ((0xF1, 0xF3) ∷ (0x80, 0xBF) ∷ (0x80, 0xBF) ∷ (0x80, 0xBF) ∷ []) ∷
    ((0xF4, 0xF4) ∷ (0x80, 0x8F) ∷ (0x80, 0xBF) ∷ (0x80, 0xBF) ∷ []) ∷
    []

-- the rows of n bytes
abbrev pub rows_of : ℕ → List Row
rows_of zero = []
rows_of (suc zero) = one_byte
rows_of (suc (suc zero)) = two_bytes
rows_of (suc (suc (suc zero))) = three_bytes
rows_of (suc (suc (suc (suc zero)))) = four_bytes
rows_of (suc (suc (suc (suc (suc n))))) = []

-- the bytes begin with a byte of each range of the row, in order
abbrev pub begin_with : Row → List ℕ → Bool
begin_with [] bs = true
begin_with (r ∷ row) [] = false
begin_with (r ∷ row) (b ∷ bs) = within r.0 r.1 b && begin_with row bs

-- the same of one of these rows
abbrev pub shaped : List Row → List ℕ → Bool
shaped [] bs = false
shaped (row ∷ rows) bs = begin_with row bs || shaped rows bs

-- ---- the character at the front of some bytes, and at a place

-- v, and then six bits of each of the next n bytes
abbrev pub six_bits_each : ℕ → ℕ → List ℕ → ℕ
six_bits_each zero v bs = v
six_bits_each (suc n) v [] = v
six_bits_each (suc n) v (b ∷ bs) = six_bits_each n (v * 64 + (b - 0x80)) bs

-- what the first byte has above `lead`, and then six bits of each of n further bytes
abbrev pub value : ℕ → ℕ → List ℕ → ℕ
value lead n [] = 0
value lead n (b ∷ bs) = six_bits_each n (b - lead) bs

-- a byte that begins no row counts as U+FFFD
abbrev pub character : List ℕ → ℕ
character bs =
    cond (shaped one_byte bs) (value 0x00 0 bs)
    (cond (shaped two_bytes bs) (value 0xC0 1 bs)
    (cond (shaped three_bytes bs) (value 0xE0 2 bs)
    (cond (shaped four_bytes bs) (value 0xF0 3 bs) 0xFFFD)))

-- none at the end of the bytes or past it
abbrev pub character_at : List ℕ → ℕ → Option ℕ
character_at s i = cond (nat_lt i (length s)) (Some (character (drop i s))) None

-- ---- reading undoes writing, and reads nothing else. `encode` is what std writes of a scalar value

-- the bytes at place i begin with the encoding of c
abbrev pub EncodedAt : List ℕ → ℕ → ℕ → Type 0
EncodedAt s i c = (rest : List ℕ) × (drop i s ≡ encode c ++ rest)

-- a scalar value whose encoding stands at the place is what is read there, whatever follows it
abbrev pub EncodedIsRead : List ℕ → ℕ → Option ℕ → Type 0
EncodedIsRead s i r = (c : ℕ) → scalar c ≡ true → EncodedAt s i c → r ≡ Some c

-- and where anything but U+FFFD is read, its encoding stands at the place
abbrev pub ReadIsEncoded : List ℕ → ℕ → Option ℕ → Type 0
ReadIsEncoded s i r = (c : ℕ) → r ≡ Some c → (c ≢ 0xFFFD) → EncodedAt s i c
