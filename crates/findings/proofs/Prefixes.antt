-- Where `www.`, `http://` and `https://` begin, byte by byte.
-- Assumes nothing.
use Rattle.std.proofs.Common.{◌≡◌, ℕ, suc, ◌+◌, ◌-◌, ◌<◌, ◌≤◌, Bool, true, false, cond, not, ◌&&◌, ◌||◌, eqb, ltb, leb, ◌⊎◌, List, [], ◌∷◌, ◌++◌, map, length, get_or, take, drop, codes, sym, refl, ap, ◌∙◌, subst, inl, ⊎_elim, arith}
use lib.ListN.{length-map}
use Rattle.std.proofs.lemmas.List.{at_drop_more, drop_all, get_or_past}
use Rattle.std.proofs.lemmas.Bool.{cases_Bool, cases_lt, cond-true, and_parts, and_left, and_right, and_from, or_cases, or_left, or_right, true≢false, both_ways, eqb-true, leb-true}
use Rattle.std.proofs.lemmas.Bool.Decides.{nat_tests}
use Rattle.text.specs.Ascii.{letter, lower_case, reads}
use Rattle.text.specs.Bytes.{within, each, same, part}
use Rattle.text.proofs.Runs.{part_length}
use Rattle.rules.specs.Web.{before_www, www_at, protocol_length}
use Rattle.rules.specs.Web as web
use Rattle.machine.specs.States.{is, begins_protocol, begins_www}
use Rattle.machine.proofs.Walk.{stands}

-- ---- one byte of a word

-- a to z, as which a word is written
abbrev small : ℕ → Bool
small c = within 97 122 c

either_case : (c b : ℕ) → 97 ≤ c → c ≤ 122 → (eqb b (c - 32) || (eqb b c || false)) ≡ eqb c (lower_case b)
either_case c b lo hi = grind (arith, nat_tests)

letter_of : (c b : ℕ) → 97 ≤ c → c ≤ 122 → eqb c (lower_case b) ≡ true → letter b ≡ true
letter_of c b lo hi h = grind (arith, nat_tests)

mark_of : (c b : ℕ) → c < 65 → eqb c (lower_case b) ≡ eqb b c
mark_of c b lo = grind (arith, nat_tests)

-- ---- words

take_zero : (xs : List ℕ) → take 0 xs ≡ []
take_zero [] = refl
take_zero (x ∷ xs) = refl

same_length : (xs ys : List ℕ) → same xs ys ≡ true → length xs ≡ length ys
same_length [] [] h = refl
same_length [] (y ∷ ys) h = absurd (true≢false (sym h))
same_length (x ∷ xs) [] h = absurd (true≢false (sym h))
same_length (x ∷ xs) (y ∷ ys) h = ap suc (same_length xs ys (and_parts (eqb x y) (same xs ys) h).1)

and_both : {a b c d : Bool} → a ≡ b → c ≡ d → (a && c) ≡ (b && d)
and_both p q = λ k. p k && q k

and_true : (x : Bool) → (x && true) ≡ x
and_true true = refl
and_true false = refl

and_assoc : (a b c : Bool) → (a && (b && c)) ≡ ((a && b) && c)
and_assoc true b c = refl
and_assoc false b c = refl

module _ (s : List ℕ) where
  -- the word stands at j, in any case
  abbrev at : List ℕ → ℕ → Bool
  at word j = reads word (part j (j + length word) s)

  at_none : (j : ℕ) → at [] j ≡ true
  at_none j = let e : j + 0 - j ≡ 0 = omega arith in ap (λ n. reads [] (take n (drop j s))) e ∙ ap (reads []) (take_zero (drop j s))

  -- its first byte, and the rest of it one place on
  at_more : (c : ℕ) (word : List ℕ) (j : ℕ) → eqb c (lower_case 0) ≡ false → at (c ∷ word) j ≡ (eqb c (lower_case (get_or s j 0)) && at word (j + 1))
  at_more c word j z =
      let e : j + suc (length word) - j ≡ suc (length word) = omega arith in
      let e' : j + 1 + length word - (j + 1) ≡ length word = omega arith in
      ap (λ n. reads (c ∷ word) (take n (drop j s))) e
      ∙ ⊎_elim
      (λ lt. at_drop_more (λ xs. reads (c ∷ word) (take (suc (length word)) xs)) s j 0 lt ∙ ap (λ n. eqb c (lower_case (get_or s j 0)) && reads word (take n (drop (j + 1) s))) (sym e'))
      (λ le. ap (λ xs. reads (c ∷ word) (take (suc (length word)) xs)) (drop_all j s le) ∙ sym (and_left _ _ (ap (λ b. eqb c (lower_case b)) (get_or_past s j 0 le) ∙ z)))
      (cases_lt j (length s))

  -- a word that is read has its length
  word_length : (word : List ℕ) (i j : ℕ) → j ≤ length s → reads word (part i j s) ≡ true → length word ≡ j - i
  word_length word i j le h = same_length word (map lower_case (part i j s)) h ∙ length-map (part i j s) lower_case ∙ part_length i j s le

  -- ---- names of protocols: words of small letters, then `://`

  small_is : (c : ℕ) → small c ≡ true → (97 ≤ c) × (c ≤ 122)
  small_is c h = let p = and_parts (leb 97 c) (leb c 122) h in (leb-true 97 c p.0, leb-true c 122 p.1)

  small_not_0 : (c : ℕ) → small c ≡ true → eqb c (lower_case 0) ≡ false
  small_not_0 c h = let p = small_is c h in grind (arith, nat_tests)

  -- `//` stands at j
  abbrev pub slashes : ℕ → Bool
  slashes j = is 47 (get_or s j 0) && is 47 (get_or s (j + 1) 0)

  -- `://` stands at j
  abbrev colon : ℕ → Bool
  colon j = is 58 (get_or s j 0) && slashes (j + 1)

  colon_is : (j : ℕ) → at (codes "://") j ≡ colon j
  colon_is j =
      at_more 58 (47 ∷ 47 ∷ []) j refl ∙ and_both (mark_of 58 (get_or s j 0) (omega arith))
      (at_more 47 (47 ∷ []) (j + 1) refl ∙ and_both (mark_of 47 (get_or s (j + 1) 0) (omega arith))
      (at_more 47 [] (j + 1 + 1) refl ∙ and_both (mark_of 47 (get_or s (j + 1 + 1) 0) (omega arith)) (at_none (j + 1 + 1 + 1)) ∙ and_true (is 47 (get_or s (j + 1 + 1) 0))))

  -- a name and `://`
  at_name : (name : List ℕ) (j : ℕ) → each small name ≡ true → at (name ++ codes "://") j ≡ (at name j && colon (j + length name))
  at_name [] j h = let e : j + 0 ≡ j = omega arith in colon_is j ∙ sym (and_both (at_none j) (ap colon e))
  at_name (c ∷ name) j h =
      let p = and_parts (small c) (each small name) h in
      let e : j + 1 + length name ≡ j + suc (length name) = omega arith in
      at_more c (name ++ codes "://") j (small_not_0 c p.0)
      ∙ ap (λ x. eqb c (lower_case (get_or s j 0)) && x) (at_name name (j + 1) p.1 ∙ ap (λ k. at name (j + 1) && colon k) e)
      ∙ and_assoc (eqb c (lower_case (get_or s j 0))) (at name (j + 1)) (colon (j + suc (length name)))
      ∙ ap (λ x. x && colon (j + suc (length name))) (sym (at_more c name j (small_not_0 c p.0)))

  -- a name stands on letters
  name_letters : (name : List ℕ) (j : ℕ) → each small name ≡ true → at name j ≡ true → (m : ℕ) → j ≤ m → m < j + length name → letter (get_or s m 0) ≡ true
  name_letters [] j h e m lo hi = absurd (omega arith)
  name_letters (c ∷ name) j h e m lo hi =
      let p = and_parts (small c) (each small name) h in
      let q = and_parts (eqb c (lower_case (get_or s j 0))) (at name (j + 1)) (sym (at_more c name j (small_not_0 c p.0)) ∙ e) in
      ⊎_elim
      (λ lt. name_letters name (j + 1) p.1 q.1 m (omega arith) (omega arith))
      (λ le. let k : m ≡ j = omega arith in ap (λ t. letter (get_or s t 0)) k ∙ letter_of c (get_or s j 0) (small_is c p.0).0 (small_is c p.0).1 q.0)
      (cases_lt j m)

  -- ---- `www.`

  -- W or w three times, then `.`
  pub www-bytes : (i : ℕ) → reads (codes "www.") (part i (i + 4) s) ≡ (begins_www (get_or s i 0) && (begins_www (get_or s (i + 1) 0) && (begins_www (get_or s (i + 1 + 1) 0) && (is 46 (get_or s (i + 1 + 1 + 1) 0) && true))))
  www-bytes i =
      at_more 119 (119 ∷ 119 ∷ 46 ∷ []) i refl ∙ and_both (w i)
      (at_more 119 (119 ∷ 46 ∷ []) (i + 1) refl ∙ and_both (w (i + 1))
      (at_more 119 (46 ∷ []) (i + 1 + 1) refl ∙ and_both (w (i + 1 + 1))
      (at_more 46 [] (i + 1 + 1 + 1) refl ∙ and_both (mark_of 46 (get_or s (i + 1 + 1 + 1) 0) (omega arith)) (at_none (i + 1 + 1 + 1 + 1)))))
    where
      w : (j : ℕ) → eqb 119 (lower_case (get_or s j 0)) ≡ begins_www (get_or s j 0)
      w j = sym (either_case 119 (get_or s j 0) (omega arith) (omega arith))

  -- without a W or w there is no `www.`
  pub www-begins : (i : ℕ) → begins_www (get_or s i 0) ≡ false → www_at s i ≡ false
  www-begins i h = and_left _ (ltb (i + 4) (length s)) (and_right (web.after before_www s i) _ (www-bytes i ∙ and_left _ _ h))

  -- ---- protocols

  module _ (i : ℕ) where
    -- nothing with a letter before it
    abbrev free : Bool
    free = web.after (λ b. not (letter b)) s i

    abbrev http : Bool
    http = reads (codes "http://") (part i (i + 7) s)

    abbrev https : Bool
    https = reads (codes "https://") (part i (i + 8) s)

    http_is : http ≡ (at (codes "http") i && colon (i + 4))
    http_is = at_name (codes "http") i refl

    https_is : https ≡ (at (codes "https") i && colon (i + 5))
    https_is = at_name (codes "https") i refl

    no-protocol : http ≡ false → https ≡ false → protocol_length s i ≡ 0
    no-protocol h h' =
        ap (λ x. cond free (cond x 7 (cond https 8 0)) 0) h ∙ ap (λ x. cond free (cond x 8 0) 0) h' ∙ none free
      where
        none : (x : Bool) → ◌≡◌ {A = ℕ} (cond x 0 0) 0
        none true = refl
        none false = refl

    http_length : (x : Bool) → free ≡ true → http ≡ x → https ≡ false → protocol_length s i ≡ cond x 7 0
    http_length x f h h' = cond-true free _ _ f ∙ ap (λ y. cond y 7 (cond https 8 0)) h ∙ ap (λ y. cond x 7 (cond y 8 0)) h'

    https_length : (x : Bool) → free ≡ true → http ≡ false → https ≡ x → protocol_length s i ≡ cond x 8 0
    https_length x f h h' = cond-true free _ _ f ∙ ap (λ y. cond y 7 (cond https 8 0)) h ∙ ap (λ y. cond y 8 0) h'

    -- without an H or h there is no protocol
    pub protocol-begins : begins_protocol (get_or s i 0) ≡ false → protocol_length s i ≡ 0
    protocol-begins h =
        let no-h : eqb 104 (lower_case (get_or s i 0)) ≡ false = sym (either_case 104 (get_or s i 0) (omega arith) (omega arith)) ∙ h in
        no-protocol
        (http_is ∙ and_left _ _ (at_more 104 (codes "ttp") i refl ∙ and_left _ _ no-h))
        (https_is ∙ and_left _ _ (at_more 104 (codes "ttps") i refl ∙ and_left _ _ no-h))

    -- the letters from i on stop at j, or five have been read
    module _ (j : ℕ) (lo : i ≤ j) (hi : j ≤ i + 5) (letters : (m : ℕ) → i ≤ m → m < j → letter (get_or s m 0) ≡ true) where
      abbrev Stop : Type 0
      Stop = (letter (get_or s j 0) ≡ false) ⊎ (i + 5 ≤ j)

      -- the name of a protocol stands from i to j
      abbrev pub name-read : Bool
      name-read = reads (codes "http") (part i j s) || reads (codes "https") (part i j s)

      colon_no_letter : (k : ℕ) → is 58 (get_or s k 0) ≡ true → letter (get_or s k 0) ≡ true → ⊥
      colon_no_letter k c l = both_ways (letter (get_or s k 0)) (ap letter (eqb-true (get_or s k 0) 58 c)) l

      -- a name of at most five letters and a colon behind it: the letters stop there
      stops_there : (name : List ℕ) → each small name ≡ true → length name ≤ 5 → Stop → at name i ≡ true → is 58 (get_or s (i + length name) 0) ≡ true → j ≡ i + length name
      stops_there name h short stop n c =
          ⊎_elim
          (λ lt. ⊎_elim (λ l. absurd (both_ways (letter (get_or s j 0)) l (name_letters name i h n j lo lt))) (λ far. absurd (omega arith)) stop)
          (λ le.
          ⊎_elim
          (λ beyond. absurd (colon_no_letter (i + length name) c (letters (i + length name) (omega arith) beyond)))
          (λ le'. omega arith)
          (cases_lt (i + length name) j))
          (cases_lt j (i + length name))

      parted : (name : List ℕ) → each small name ≡ true → length name ≤ 5 → Stop → (at name i && colon (i + length name)) ≡ true → (j ≡ i + length name) × ((is 58 (get_or s j 0) ≡ true) × (reads name (part i j s) ≡ true))
      parted name h short stop e =
          let p = and_parts (at name i) (colon (i + length name)) e in
          let c = (and_parts (is 58 (get_or s (i + length name) 0)) (slashes (i + length name + 1)) p.1).0 in
          let there = stops_there name h short stop p.0 c in
          (there, (subst (λ k. is 58 (get_or s k 0) ≡ true) (sym there) c, subst (λ k. reads name (part i k s) ≡ true) (sym there) p.0))

      -- where it stands: the slashes tell
      slashes_tell : (name : List ℕ) → j ≡ i + length name → is 58 (get_or s j 0) ≡ true → reads name (part i j s) ≡ true → (at name i && colon (i + length name)) ≡ slashes (j + 1)
      slashes_tell name there c r = subst (λ k. (reads name (part i k s) && colon k) ≡ slashes (j + 1)) there (λ k. r k && (c k && slashes (j + 1)))

      -- no name, or no colon: no protocol
      pub name_missed : Stop → (is 58 (get_or s j 0) && name-read) ≡ false → protocol_length s i ≡ 0
      name_missed stop miss =
          no-protocol
          (⊎_elim
          (λ t. let p = parted (codes "http") refl (omega arith) stop (sym http_is ∙ t) in absurd (both_ways (is 58 (get_or s j 0) && name-read) miss (and_from (is 58 (get_or s j 0)) name-read p.1.0 (or_left _ _ p.1.1))))
          (λ f. f)
          (cases_Bool http))
          (⊎_elim
          (λ t. let p = parted (codes "https") refl (omega arith) stop (sym https_is ∙ t) in absurd (both_ways (is 58 (get_or s j 0) && name-read) miss (and_from (is 58 (get_or s j 0)) name-read p.1.0 (or_right (reads (codes "http") (part i j s)) _ p.1.1))))
          (λ f. f)
          (cases_Bool https))

      -- a name and a colon: the slashes tell
      pub name-found : free ≡ true → is 58 (get_or s j 0) ≡ true → name-read ≡ true → (n : ℕ) × (j + 3 ≡ i + n) × (eqb n 0 ≡ false) × (protocol_length s i ≡ cond (slashes (j + 1)) n 0)
      name-found fr c h =
          let inside = stands s j (is 58) refl c in
          let stop : Stop = inl (ap letter (eqb-true (get_or s j 0) 58 c)) in
          ⊎_elim
          (λ r.
          let size = word_length (codes "http") i j (omega arith) r in
          let there : j ≡ i + 4 = omega (arith, size) in
          let is-http : http ≡ slashes (j + 1) = http_is ∙ slashes_tell (codes "http") there c r in
          let not-https : https ≡ false = ⊎_elim (λ t. let p = parted (codes "https") refl (omega arith) stop (sym https_is ∙ t) in absurd (omega (arith, p.0))) (λ f. f) (cases_Bool https) in
          (7, omega arith, refl, http_length (slashes (j + 1)) fr is-http not-https))
          (λ r.
          let size = word_length (codes "https") i j (omega arith) r in
          let there : j ≡ i + 5 = omega (arith, size) in
          let is-https : https ≡ slashes (j + 1) = https_is ∙ slashes_tell (codes "https") there c r in
          let not-http : http ≡ false = ⊎_elim (λ t. let p = parted (codes "http") refl (omega arith) stop (sym http_is ∙ t) in absurd (omega (arith, p.0))) (λ f. f) (cases_Bool http) in
          (8, omega arith, refl, https_length (slashes (j + 1)) fr not-http is-https))
          (or_cases (reads (codes "http") (part i j s)) (reads (codes "https") (part i j s)) h)
