-- What the table of byte sequences reads: what was written, and only what was written.
-- Assumes nothing.
use Rattle.std.proofs.Common.{◌≡◌, ℕ, ◌+◌, ◌-◌, ◌*◌, ◌/◌, ◌%◌, ◌<◌, ◌≤◌, true, false, ◌⊎◌, List, [], ◌∷◌, ◌++◌, length, get_or, take, drop, Some, None, Option, sym, refl, ap, ◌∙◌, subst, inl, inr, ⊎_elim, arith, length-append}
use lib.Utf8.{scalar, encode, next, scalar_cases, low_scalar}
use Rattle.std.proofs.lemmas.Bool.{cond-true, cond-false, cases_Bool, cases_lt, lt-ltb, le-ltb, true≢false}
use Rattle.std.proofs.lemmas.List.{take_rest, at_drop_all}
use Rattle.std.proofs.lemmas.Str.{length-encode, len_utf8_bounds}
use Rattle.std.proofs.lemmas.Bool.Decides.{nat_tests}
use Rattle.std.specs.Option.{SomeIff}
use Rattle.characters.specs.CharacterExamples.{CharactersRead}
use Rattle.characters.specs.Utf8.{one_byte, two_bytes, three_bytes, four_bytes, shaped, value, character, character_at, EncodedIsRead, ReadIsEncoded}

-- ---- what std writes of a scalar value, by its size

written_one : (c : ℕ) → c < 128 → encode c ≡ c ∷ []
unfolding encode
written_one c h = cond-true _ _ _ (lt-ltb c 128 h)

written_two : (c : ℕ) → 128 ≤ c → c < 2048 → encode c ≡ (192 + c / 64) ∷ next c ∷ []
unfolding encode
written_two c l h = cond-false _ _ _ (le-ltb c 128 l) ∙ cond-true _ _ _ (lt-ltb c 2048 h)

written_three : (c : ℕ) → 2048 ≤ c → c < 65536 → encode c ≡ (224 + c / 4096) ∷ next (c / 64) ∷ next c ∷ []
unfolding encode
written_three c l h = cond-false _ _ _ (le-ltb c 128 (omega arith)) ∙ cond-false _ _ _ (le-ltb c 2048 l) ∙ cond-true _ _ _ (lt-ltb c 65536 h)

written_four : (c : ℕ) → 65536 ≤ c → encode c ≡ (240 + c / 262144) ∷ next (c / 4096) ∷ next (c / 64) ∷ next c ∷ []
unfolding encode
written_four c l = cond-false _ _ _ (le-ltb c 128 (omega arith)) ∙ cond-false _ _ _ (le-ltb c 2048 (omega arith)) ∙ cond-false _ _ _ (le-ltb c 65536 l)

high_scalar : (c : ℕ) → 57344 ≤ c → c < 1114112 → scalar c ≡ true
high_scalar c l u = grind (arith, nat_tests)

-- ---- only what was written is read

-- the bytes begin with the encoding of the scalar value c
abbrev Begins : List ℕ → ℕ → Type 0
Begins bs c = (scalar c ≡ true) × ((rest : List ℕ) × (bs ≡ encode c ++ rest))

impossible : {X : Type 0} → false ≡ true → X
impossible e = absurd (true≢false (sym e))

one-read : (bs : List ℕ) → shaped one_byte bs ≡ true → Begins bs (value 0 0 bs)
one-read [] h = impossible h
one-read (a ∷ rest) h =
    let u : a ≤ 127 = grind (arith, nat_tests) in
    let e : a ≡ a - 0 = omega arith in
    subst (Begins (a ∷ rest)) e
    (low_scalar a (omega arith), (rest, ap (λ l. l ++ rest) (sym (written_one a (omega arith)))))

two_read : (bs : List ℕ) → shaped two_bytes bs ≡ true → Begins bs (value 192 1 bs)
two_read [] h = impossible h
two_read (a ∷ []) h = absurd (let z : ◌≡◌ {A = ℕ} 0 1 = grind (arith, nat_tests) in omega arith)
two_read (a ∷ b ∷ rest) h =
    let al : 194 ≤ a = grind (arith, nat_tests) in
    let au : a ≤ 223 = grind (arith, nat_tests) in
    let bl : 128 ≤ b = grind (arith, nat_tests) in
    let bu : b ≤ 191 = grind (arith, nat_tests) in
    let c = (a - 192) * 64 + (b - 128) in
    let p : a ≡ 192 + c / 64 = omega arith in
    let q : b ≡ next c = omega arith in
    (low_scalar c (omega arith), (rest, (λ k. p k ∷ q k ∷ rest) ∙ ap (λ l. l ++ rest) (sym (written_two c (omega arith) (omega arith)))))

-- of three bytes: the first two keep out short characters written long, and the surrogates
abbrev Three : ℕ → ℕ → ℕ → Type 0
Three a b d = (224 ≤ a) × (a ≤ 239) × (128 ≤ b) × (b ≤ 191) × (128 ≤ d) × (d ≤ 191) × ((224 < a) ⊎ (160 ≤ b)) × ((a < 237) ⊎ ((b ≤ 159) ⊎ (237 < a)))

-- x, y and z are what the bytes have beside their marks
three_value : (x y z : ℕ) → x ≤ 15 → y ≤ 63 → z ≤ 63 → (0 < x) ⊎ (32 ≤ y) → (x < 13) ⊎ ((y ≤ 31) ⊎ (13 < x)) → (rest : List ℕ) → Begins ((224 + x) ∷ (128 + y) ∷ (128 + z) ∷ rest) ((x * 64 + y) * 64 + z)
three_value x y z xu yu zu first third rest =
    let c = (x * 64 + y) * 64 + z in
    let lo : 2048 ≤ c = ⊎_elim (λ l. omega arith) (λ l. omega arith) first in
    let hi : c < 65536 = omega arith in (
      ⊎_elim (λ l. low_scalar c (omega arith)) (λ m. ⊎_elim (λ l. ⊎_elim (λ g. high_scalar c (omega arith) (omega arith)) (λ g. low_scalar c (omega arith)) (cases_lt 13 x)) (λ l. high_scalar c (omega arith) (omega arith)) m) third,
      (rest, bytes c refl ∙ ap (λ l. l ++ rest) (sym (written_three c lo hi))),
    )
  where
    bytes : (c : ℕ) → c ≡ (x * 64 + y) * 64 + z → ◌≡◌ {A = List ℕ} ((224 + x) ∷ (128 + y) ∷ (128 + z) ∷ rest) ((224 + c / 4096) ∷ next (c / 64) ∷ next c ∷ rest)
    bytes c e =
        let p : x ≡ c / 4096 = omega arith in
        let m : c / 64 ≡ x * 64 + y = omega arith in
        let q : y ≡ (c / 64) % 64 = omega arith in
        let r : z ≡ c % 64 = omega arith in
        λ k. (224 + p k) ∷ (128 + q k) ∷ (128 + r k) ∷ rest

three_facts : (a b d : ℕ) (rest : List ℕ) → shaped three_bytes (a ∷ b ∷ d ∷ rest) ≡ true → Three a b d
three_facts a b d rest h = (
  grind (arith, nat_tests),
  grind (arith, nat_tests),
  grind (arith, nat_tests),
  grind (arith, nat_tests),
  grind (arith, nat_tests),
  grind (arith, nat_tests),
  ⊎_elim (λ lt. inl lt) (λ le. inr (grind (arith, nat_tests))) (cases_lt 224 a),
  ⊎_elim (λ lt. inl lt) (λ le. ⊎_elim (λ g. inr (inr g)) (λ g. inr (inl (grind (arith, nat_tests)))) (cases_lt 237 a)) (cases_lt a 237),
)

three_begins : (a b d : ℕ) (rest : List ℕ) → Three a b d → Begins (a ∷ b ∷ d ∷ rest) (((a - 224) * 64 + (b - 128)) * 64 + (d - 128))
three_begins a b d rest f =
    let p : 224 + (a - 224) ≡ a = omega arith in
    let q : 128 + (b - 128) ≡ b = omega arith in
    let r : 128 + (d - 128) ≡ d = omega arith in
    let first : (0 < a - 224) ⊎ (32 ≤ b - 128) = ⊎_elim (λ l. inl (omega arith)) (λ l. inr (omega arith)) f.6 in
    let third : (a - 224 < 13) ⊎ ((b - 128 ≤ 31) ⊎ (13 < a - 224)) = ⊎_elim (λ l. inl (omega arith)) (λ m. inr (⊎_elim (λ l. inl (omega arith)) (λ l. inr (omega arith)) m)) f.7 in
    let s : List ℕ → Type 0 = λ l. Begins l (((a - 224) * 64 + (b - 128)) * 64 + (d - 128)) in
    subst s (λ k. p k ∷ q k ∷ r k ∷ rest) (three_value (a - 224) (b - 128) (d - 128) (omega arith) (omega arith) (omega arith) first third rest)

three_read : (bs : List ℕ) → shaped three_bytes bs ≡ true → Begins bs (value 224 2 bs)
three_read [] h = impossible h
three_read (a ∷ []) h = absurd (let z : ◌≡◌ {A = ℕ} 0 1 = grind (arith, nat_tests) in omega arith)
three_read (a ∷ b ∷ []) h = absurd (let z : ◌≡◌ {A = ℕ} 0 1 = grind (arith, nat_tests) in omega arith)
three_read (a ∷ b ∷ d ∷ rest) h = three_begins a b d rest (three_facts a b d rest h)

-- of four bytes: the first two keep out short characters written long, and what lies past U+10FFFF
abbrev Four : ℕ → ℕ → ℕ → ℕ → Type 0
Four a b d e = (240 ≤ a) × (a ≤ 244) × (128 ≤ b) × (b ≤ 191) × (128 ≤ d) × (d ≤ 191) × (128 ≤ e) × (e ≤ 191) × ((240 < a) ⊎ (144 ≤ b)) × ((a < 244) ⊎ (b ≤ 143))

four_value : (x y z w : ℕ) → x ≤ 4 → y ≤ 63 → z ≤ 63 → w ≤ 63 → (0 < x) ⊎ (16 ≤ y) → (x < 4) ⊎ (y ≤ 15) → (rest : List ℕ) → Begins ((240 + x) ∷ (128 + y) ∷ (128 + z) ∷ (128 + w) ∷ rest) (((x * 64 + y) * 64 + z) * 64 + w)
four_value x y z w xu yu zu wu first third rest =
    let c = ((x * 64 + y) * 64 + z) * 64 + w in
    let lo : 65536 ≤ c = ⊎_elim (λ l. omega arith) (λ l. omega arith) first in
    let hi : c < 1114112 = ⊎_elim (λ l. omega arith) (λ l. omega arith) third in
    (high_scalar c (omega arith) hi, (rest, bytes c refl ∙ ap (λ l. l ++ rest) (sym (written_four c lo))))
  where
    bytes : (c : ℕ) → c ≡ ((x * 64 + y) * 64 + z) * 64 + w → ◌≡◌ {A = List ℕ} ((240 + x) ∷ (128 + y) ∷ (128 + z) ∷ (128 + w) ∷ rest) ((240 + c / 262144) ∷ next (c / 4096) ∷ next (c / 64) ∷ next c ∷ rest)
    bytes c e =
        let p : x ≡ c / 262144 = omega arith in
        let l : c / 4096 ≡ x * 64 + y = omega arith in
        let q : y ≡ (c / 4096) % 64 = omega arith in
        let m : c / 64 ≡ (x * 64 + y) * 64 + z = omega arith in
        let r : z ≡ (c / 64) % 64 = omega arith in
        let s : w ≡ c % 64 = omega arith in
        λ k. (240 + p k) ∷ (128 + q k) ∷ (128 + r k) ∷ (128 + s k) ∷ rest

four_facts : (a b d e : ℕ) (rest : List ℕ) → shaped four_bytes (a ∷ b ∷ d ∷ e ∷ rest) ≡ true → Four a b d e
four_facts a b d e rest h = (
  grind (arith, nat_tests),
  grind (arith, nat_tests),
  grind (arith, nat_tests),
  grind (arith, nat_tests),
  grind (arith, nat_tests),
  grind (arith, nat_tests),
  grind (arith, nat_tests),
  grind (arith, nat_tests),
  ⊎_elim (λ lt. inl lt) (λ le. inr (grind (arith, nat_tests))) (cases_lt 240 a),
  ⊎_elim (λ lt. inl lt) (λ le. inr (grind (arith, nat_tests))) (cases_lt a 244),
)

four_begins : (a b d e : ℕ) (rest : List ℕ) → Four a b d e → Begins (a ∷ b ∷ d ∷ e ∷ rest) ((((a - 240) * 64 + (b - 128)) * 64 + (d - 128)) * 64 + (e - 128))
four_begins a b d e rest f =
    let p : 240 + (a - 240) ≡ a = omega arith in
    let q : 128 + (b - 128) ≡ b = omega arith in
    let r : 128 + (d - 128) ≡ d = omega arith in
    let t : 128 + (e - 128) ≡ e = omega arith in
    let first : (0 < a - 240) ⊎ (16 ≤ b - 128) = ⊎_elim (λ l. inl (omega arith)) (λ l. inr (omega arith)) f.8 in
    let third : (a - 240 < 4) ⊎ (b - 128 ≤ 15) = ⊎_elim (λ l. inl (omega arith)) (λ l. inr (omega arith)) f.9 in
    let s : List ℕ → Type 0 = λ l. Begins l ((((a - 240) * 64 + (b - 128)) * 64 + (d - 128)) * 64 + (e - 128)) in
    subst s (λ k. p k ∷ q k ∷ r k ∷ t k ∷ rest) (four_value (a - 240) (b - 128) (d - 128) (e - 128) (omega arith) (omega arith) (omega arith) (omega arith) first third rest)

four_read : (bs : List ℕ) → shaped four_bytes bs ≡ true → Begins bs (value 240 3 bs)
four_read [] h = impossible h
four_read (a ∷ []) h = absurd (let z : ◌≡◌ {A = ℕ} 0 1 = grind (arith, nat_tests) in omega arith)
four_read (a ∷ b ∷ []) h = absurd (let z : ◌≡◌ {A = ℕ} 0 1 = grind (arith, nat_tests) in omega arith)
four_read (a ∷ b ∷ d ∷ []) h = absurd (let z : ◌≡◌ {A = ℕ} 0 1 = grind (arith, nat_tests) in omega arith)
four_read (a ∷ b ∷ d ∷ e ∷ rest) h = four_begins a b d e rest (four_facts a b d e rest h)

none_of : (bs : List ℕ) → shaped one_byte bs ≡ false → shaped two_bytes bs ≡ false → shaped three_bytes bs ≡ false → shaped four_bytes bs ≡ false → 65533 ≡ character bs
none_of bs h1 h2 h3 h4 = sym (cond-false _ _ _ h1 ∙ cond-false _ _ _ h2 ∙ cond-false _ _ _ h3 ∙ cond-false _ _ _ h4)

pub none_of_two : (bs : List ℕ) → 2 ≤ length bs → length bs < 3 → shaped one_byte (get_or bs 0 0 ∷ []) ≡ false → shaped two_bytes (get_or bs 0 0 ∷ get_or bs 1 0 ∷ []) ≡ false → 65533 ≡ character bs
none_of_two [] l u h1 h2 = absurd (omega arith)
none_of_two (a ∷ []) l u h1 h2 = absurd (omega arith)
none_of_two (a ∷ b ∷ []) l u h1 h2 =
    let h3 : shaped three_bytes (a ∷ b ∷ []) ≡ false = grind (arith, nat_tests) in
    let h4 : shaped four_bytes (a ∷ b ∷ []) ≡ false = grind (arith, nat_tests) in
    none_of (a ∷ b ∷ []) h1 h2 h3 h4
none_of_two (a ∷ b ∷ c ∷ r) l u h1 h2 = absurd (omega arith)

pub none_of_three : (bs : List ℕ) → 3 ≤ length bs → length bs < 4 → shaped one_byte (get_or bs 0 0 ∷ []) ≡ false → shaped two_bytes (get_or bs 0 0 ∷ get_or bs 1 0 ∷ []) ≡ false → shaped three_bytes (get_or bs 0 0 ∷ get_or bs 1 0 ∷ get_or bs 2 0 ∷ []) ≡ false → 65533 ≡ character bs
none_of_three [] l u h1 h2 h3 = absurd (omega arith)
none_of_three (a ∷ []) l u h1 h2 h3 = absurd (omega arith)
none_of_three (a ∷ b ∷ []) l u h1 h2 h3 = absurd (omega arith)
none_of_three (a ∷ b ∷ c ∷ []) l u h1 h2 h3 = let h4 : shaped four_bytes (a ∷ b ∷ c ∷ []) ≡ false = grind (arith, nat_tests) in none_of (a ∷ b ∷ c ∷ []) h1 h2 h3 h4
none_of_three (a ∷ b ∷ c ∷ d ∷ r) l u h1 h2 h3 = absurd (omega arith)

-- what is read is U+FFFD, or a scalar value whose encoding the bytes begin with
pub read : (bs : List ℕ) → (character bs ≡ 65533) ⊎ Begins bs (character bs)
read bs =
    ⊎_elim
    (λ h. inr (subst (Begins bs) (sym (cond-true _ _ _ h)) (one-read bs h)))
    (λ n1. ⊎_elim
    (λ h. inr (subst (Begins bs) (sym (cond-false _ _ _ n1 ∙ cond-true _ _ _ h)) (two_read bs h)))
    (λ n2. ⊎_elim
    (λ h. inr (subst (Begins bs) (sym (cond-false _ _ _ n1 ∙ cond-false _ _ _ n2 ∙ cond-true _ _ _ h)) (three_read bs h)))
    (λ n3. ⊎_elim
    (λ h. inr (subst (Begins bs) (sym (cond-false _ _ _ n1 ∙ cond-false _ _ _ n2 ∙ cond-false _ _ _ n3 ∙ cond-true _ _ _ h)) (four_read bs h)))
    (λ n4. inl (sym (none_of bs n1 n2 n3 n4)))
    (cases_Bool (shaped four_bytes bs)))
    (cases_Bool (shaped three_bytes bs)))
    (cases_Bool (shaped two_bytes bs)))
    (cases_Bool (shaped one_byte bs))

pub character_scalar : (bs : List ℕ) → scalar (character bs) ≡ true
character_scalar bs = ⊎_elim (λ e. ap scalar e) (λ b. b.0) (read bs)

-- ---- what was written is read

module _ (rest : List ℕ) where
  read_one : (a : ℕ) → a < 128 → character (a ∷ rest) ≡ a
  read_one a h = let e : a - 0 ≡ a = omega arith in let s : shaped one_byte (a ∷ rest) ≡ true = grind (arith, nat_tests) in cond-true _ _ _ s ∙ e

  read_two : (a b : ℕ) → 194 ≤ a → a ≤ 223 → 128 ≤ b → b ≤ 191 → character (a ∷ b ∷ rest) ≡ (a - 192) * 64 + (b - 128)
  read_two a b al au bl bu =
      let n1 : shaped one_byte (a ∷ b ∷ rest) ≡ false = grind (arith, nat_tests) in
      let s : shaped two_bytes (a ∷ b ∷ rest) ≡ true = grind (arith, nat_tests) in
      cond-false _ _ _ n1 ∙ cond-true _ _ _ s

  read_three : (a b d : ℕ) → 224 ≤ a → a ≤ 239 → 128 ≤ b → b ≤ 191 → 128 ≤ d → d ≤ 191 → (224 < a) ⊎ (160 ≤ b) → (a < 237) ⊎ ((b ≤ 159) ⊎ (237 < a)) → character (a ∷ b ∷ d ∷ rest) ≡ ((a - 224) * 64 + (b - 128)) * 64 + (d - 128)
  read_three a b d al au bl bu dl du first third =
      let n1 : shaped one_byte (a ∷ b ∷ d ∷ rest) ≡ false = grind (arith, nat_tests) in
      let n2 : shaped two_bytes (a ∷ b ∷ d ∷ rest) ≡ false = grind (arith, nat_tests) in
      let s : shaped three_bytes (a ∷ b ∷ d ∷ rest) ≡ true = grind (arith, nat_tests) in
      cond-false _ _ _ n1 ∙ cond-false _ _ _ n2 ∙ cond-true _ _ _ s

  read_four : (a b d e : ℕ) → 240 ≤ a → a ≤ 244 → 128 ≤ b → b ≤ 191 → 128 ≤ d → d ≤ 191 → 128 ≤ e → e ≤ 191 → (240 < a) ⊎ (144 ≤ b) → (a < 244) ⊎ (b ≤ 143) → character (a ∷ b ∷ d ∷ e ∷ rest) ≡ (((a - 240) * 64 + (b - 128)) * 64 + (d - 128)) * 64 + (e - 128)
  read_four a b d e al au bl bu dl du el eu first third =
      let n1 : shaped one_byte (a ∷ b ∷ d ∷ e ∷ rest) ≡ false = grind (arith, nat_tests) in
      let n2 : shaped two_bytes (a ∷ b ∷ d ∷ e ∷ rest) ≡ false = grind (arith, nat_tests) in
      let n3 : shaped three_bytes (a ∷ b ∷ d ∷ e ∷ rest) ≡ false = grind (arith, nat_tests) in
      let s : shaped four_bytes (a ∷ b ∷ d ∷ e ∷ rest) ≡ true = grind (arith, nat_tests) in
      cond-false _ _ _ n1 ∙ cond-false _ _ _ n2 ∙ cond-false _ _ _ n3 ∙ cond-true _ _ _ s

  -- the encoding of c, by its size
  of_one : (c : ℕ) → c < 128 → character (encode c ++ rest) ≡ c
  of_one c h = ap (λ l. character (l ++ rest)) (written_one c h) ∙ read_one c h

  of_two : (c : ℕ) → 128 ≤ c → c < 2048 → character (encode c ++ rest) ≡ c
  of_two c l h =
      let e : (192 + c / 64 - 192) * 64 + (next c - 128) ≡ c = omega arith in
      ap (λ l. character (l ++ rest)) (written_two c l h) ∙ read_two (192 + c / 64) (next c) (omega arith) (omega arith) (omega arith) (omega arith) ∙ e

  of_three : (c : ℕ) → 2048 ≤ c → c < 65536 → (c < 55296) ⊎ (57344 ≤ c) → character (encode c ++ rest) ≡ c
  of_three c l h s =
      let a = 224 + c / 4096 in
      let b = next (c / 64) in
      let first : (224 < a) ⊎ (160 ≤ b) = ⊎_elim (λ lt. inl lt) (λ le. inr (omega arith)) (cases_lt 224 a) in
      let third : (a < 237) ⊎ ((b ≤ 159) ⊎ (237 < a)) =
      ⊎_elim (λ lt. inl lt) (λ le. inr (⊎_elim (λ low. inl (omega arith)) (λ high. inr (omega arith)) s)) (cases_lt a 237) in
      let e : ((a - 224) * 64 + (b - 128)) * 64 + (next c - 128) ≡ c = omega arith in
      ap (λ l. character (l ++ rest)) (written_three c l h)
      ∙ read_three a b (next c) (omega arith) (omega arith) (omega arith) (omega arith) (omega arith) (omega arith) first third
      ∙ e

  of_four : (c : ℕ) → 65536 ≤ c → c < 1114112 → character (encode c ++ rest) ≡ c
  of_four c l h =
      let a = 240 + c / 262144 in
      let b = next (c / 4096) in
      let d = next (c / 64) in
      let first : (240 < a) ⊎ (144 ≤ b) = ⊎_elim (λ lt. inl lt) (λ le. let u : c / 4096 < 64 = omega arith in inr (omega arith)) (cases_lt 240 a) in
      let third : (a < 244) ⊎ (b ≤ 143) =
      ⊎_elim (λ lt. inl lt) (λ le. let m : 256 ≤ c / 4096 = omega arith in let n : c / 4096 < 272 = omega arith in inr (omega arith)) (cases_lt a 244) in
      let flat : c ≡ (c / 262144) * 262144 + ((c / 4096) % 64) * 4096 + ((c / 64) % 64) * 64 + c % 64 = omega arith in
      let e : (((a - 240) * 64 + (b - 128)) * 64 + (d - 128)) * 64 + (next c - 128) ≡ c = omega arith in
      ap (λ l. character (l ++ rest)) (written_four c l)
      ∙ read_four a b d (next c) (omega arith) (omega arith) (omega arith) (omega arith) (omega arith) (omega arith) (omega arith) (omega arith) first third
      ∙ e

  -- whatever follows it
  pub written_read : (c : ℕ) → scalar c ≡ true → character (encode c ++ rest) ≡ c
  written_read c s =
      ⊎_elim (of_one c)
      (λ l1. ⊎_elim (of_two c l1)
      (λ l2. ⊎_elim
      (λ h. of_three c l2 h (⊎_elim inl (λ x. inr x.0) (scalar_cases c s)))
      (λ l3. of_four c l3 (⊎_elim (λ x. absurd (omega arith)) (λ x. x.1) (scalar_cases c s)))
      (cases_lt c 65536))
      (cases_lt c 2048))
      (cases_lt c 128)

-- ---- at a place

encoded_not_empty : (c : ℕ) (rest : List ℕ) → [] ≡ encode c ++ rest → ⊥
encoded_not_empty c rest e = omega (arith, ap length e, length-append (encode c) rest, length-encode c, (len_utf8_bounds c).0)

module _ (s : List ℕ) (i : ℕ) where
  pub encoded_is_read : EncodedIsRead s i (character_at s i)
  encoded_is_read c sc at =
      ⊎_elim
      (λ lt. cond-true _ _ _ (lt-ltb i (length s) lt) ∙ ap Some (ap character at.1 ∙ written_read at.0 c sc))
      (λ le. absurd (encoded_not_empty c at.0 (sym (at_drop_all (λ l. l) s i le) ∙ at.1)))
      (cases_lt i (length s))

  pub read_is_encoded : ReadIsEncoded s i (character_at s i)
  read_is_encoded c e ne =
      ⊎_elim
      (λ lt.
      let f : Some (character (drop i s)) ≡ Some c = sym (cond-true _ _ _ (lt-ltb i (length s) lt)) ∙ e in
      let same : character (drop i s) ≡ c = cc in
      ⊎_elim (λ x. absurd (ne (sym same ∙ x))) (λ b. let at : ℕ → Type 0 = λ n. (rest : List ℕ) × (drop i s ≡ encode n ++ rest) in subst at same b.1) (read (drop i s)))
      (λ le.
      let f : None ≡ Some c = sym (cond-false _ _ _ (le-ltb i (length s) le)) ∙ e in
      let z : ◌≡◌ {A = ℕ} 0 1 = cc in
      absurd (omega arith))
      (cases_lt i (length s))

  pub none-at_end : length s ≤ i → None ≡ character_at s i
  none-at_end le = sym (cond-false _ _ _ (le-ltb i (length s) le))

  -- n is what `decode` gives of `&s[i..]`, and r what std makes of n
  pub some-before-end : (n : ℕ) (r : Option ℕ) → i < length s → n ≡ character (take (length s - i) (drop i s)) → SomeIff r (scalar n ≡ true) n → r ≡ character_at s i
  some-before-end n None lt e k = absurd (k (ap scalar e ∙ character_scalar (take (length s - i) (drop i s))))
  some-before-end n (Some x) lt e k = ap Some (k.1 ∙ e ∙ ap character (take_rest s i)) ∙ sym (cond-true _ _ _ (lt-ltb i (length s) lt))

pub characters_read : CharactersRead
characters_read = (refl, refl, refl, refl, refl, refl, refl, refl, refl)
