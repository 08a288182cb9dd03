-- How many bytes the spans that the rules name have, at least.
-- Assumes nothing.
use Rattle.std.proofs.Common.{◌≡◌, ℕ, zero, suc, ◌+◌, ◌-◌, ◌<◌, ◌≤◌, Bool, true, false, cond, eqb, ◌&&◌, not, List, [], ◌∷◌, map, length, get_or, take, drop, Some, codes, sym, refl, ap, ◌∙◌, subst, ⊎_elim, arith}
use Rattle.std.specs.List.{AllByRecursion}
use Rattle.std.proofs.ByRecursion.{All-append}
use Rattle.std.proofs.lemmas.List.{length-take, length-drop}
use Rattle.std.proofs.lemmas.Bool.{cases_Bool, cases_lt, cond-true, cond-false, or_cases, and_parts, eqb-true, both_ways, true≢false}
use Rattle.characters.specs.WhiteSpace.{white_space}
use Rattle.text.specs.declared.spans.Span.{Span}
use Rattle.text.specs.declared.spans.SpanKind.{SpanKind}
use Rattle.text.specs.declared.spans.SpanKind.TheVariants.{Www, Protocol, Email, Mailto, Xmpp}
use Rattle.text.specs.Ascii.{lower_case, reads}
use Rattle.text.specs.Bytes.{within, same, part}
use Rattle.text.proofs.Runs.{part_at}
use Rattle.rules.specs.InTurn.{FoundInTurn}
use Rattle.rules.specs.Mail.{addresses}
use Rattle.rules.specs.MailLaws.{Address}
use Rattle.rules.specs.Notes.{moved}
use Rattle.rules.specs.Web.{white_at, trail, unclosed, trail_starter, link_at, links}
use Rattle.rules.specs.WebLaws.{BeginsAs}
use Rattle.rules.proofs.AddressParts.{addresses_are}
use Rattle.rules.proofs.KindsAtPlaces.{ascii_dark}
use Rattle.rules.proofs.WebParts.{Shape, link_at-is, lawful}
use Rattle.marked.proofs.Outcomes.{five_bytes}
use Rattle.machine.specs.Laws.{Segment}
use Rattle.calls.specs.Claims.{within as lies_within, mail_outside}
use Rattle.calls.specs.Links.{as_named, mail_in}

-- ---- the letters after the first are no end of a span

-- a byte that neither is white space nor may begin a trail
record Letter (b : ℕ) : Type 0 where
  low : b < 128
  dark : white_space b ≡ false
  no_trail : trail_starter b ≡ false

-- a letter in either case
letter_of : (c b : ℕ) → Letter c → Letter (c - 32) → lower_case b ≡ c → Letter b
letter_of c b small big e =
    ⊎_elim
    (λ t. let is : b ≡ c - 32 = omega (arith, cond-true (within 65 90 b) (b + 32) b t) in subst Letter (sym is) big)
    (λ f. let is : b ≡ c = omega (arith, cond-false (within 65 90 b) (b + 32) b f) in subst Letter (sym is) small)
    (cases_Bool (within 65 90 b))

letter_t : (b : ℕ) → lower_case b ≡ 116 → Letter b
letter_t b e = letter_of 116 b (record { low = omega arith; dark = refl; no_trail = refl }) (record { low = omega arith; dark = refl; no_trail = refl }) e

letter_w : (b : ℕ) → lower_case b ≡ 119 → Letter b
letter_w b e = letter_of 119 b (record { low = omega arith; dark = refl; no_trail = refl }) (record { low = omega arith; dark = refl; no_trail = refl }) e

-- the second and the third byte of what a word is read in
reads-size : (word bytes : List ℕ) → reads word bytes ≡ true → length bytes ≡ length word
reads-size [] [] e = refl
reads-size [] (b ∷ bs) e = absurd (true≢false (sym e))
reads-size (c ∷ cs) [] e = absurd (true≢false (sym e))
reads-size (c ∷ cs) (b ∷ bs) e = ap suc (reads-size cs bs (and_parts (eqb c (lower_case b)) (same cs (map lower_case bs)) e).1)

reads-at : (word bytes : List ℕ) (j : ℕ) → reads word bytes ≡ true → j < length word → lower_case (get_or bytes j 0) ≡ get_or word j 0
reads-at [] bytes j e lt = absurd (omega arith)
reads-at (c ∷ cs) [] j e lt = absurd (true≢false (sym e))
reads-at (c ∷ cs) (b ∷ bs) zero e lt = sym (eqb-true c (lower_case b) (and_parts (eqb c (lower_case b)) (same cs (map lower_case bs)) e).0)
reads-at (c ∷ cs) (b ∷ bs) (suc j) e lt = reads-at cs bs j (and_parts (eqb c (lower_case b)) (same cs (map lower_case bs)) e).1 (omega arith)

-- ---- web spans

module _ (m : ℕ → Bool) (s : List ℕ) (i e p : ℕ) (f : Shape m s i e p) where
  no_letter : p < length s → Letter (get_or s p 0) → ⊥
  no_letter lt h =
      ⊎_elim
      (λ white. both_ways (white_at m s p) (ascii_dark m s p lt h.low h.dark) white)
      (λ starts. both_ways (trail_starter (get_or s p 0)) h.no_trail (and_parts (trail_starter (get_or s p 0)) (trail m (not (unclosed (part e p s))) s p) starts).0)
      (or_cases (white_at m s p) (trail_starter (get_or s p 0) && trail m (not (unclosed (part e p s))) s p) (f.here lt))

  past_word : (word : List ℕ) (n : ℕ) → length word ≡ n → 3 ≤ n → reads word (part i (i + n) s) ≡ true → ((b : ℕ) → lower_case b ≡ get_or word 1 0 → Letter b) → ((b : ℕ) → lower_case b ≡ get_or word 2 0 → Letter b) → i + 3 ≤ p
  past_word word n long enough r second third =
      ⊎_elim
      (λ short.
      let size : length (take (i + n - i) (drop i s)) ≡ n = reads-size word (part i (i + n) s) r ∙ long in
      let size' = simp (length-take, length-drop) at size in
      let inside : p < length s = omega arith in
      let low : i < p = omega (arith, f.some, f.low) in
      let there : i + (p - i) ≡ p = omega arith in
      let within_part : p - i < i + n - i = omega arith in
      let is : get_or (part i (i + n) s) (p - i) 0 ≡ get_or s p 0 = part_at i (i + n) s (p - i) within_part ∙ ap (λ k. get_or s k 0) there in
      let reading : lower_case (get_or s p 0) ≡ get_or word (p - i) 0 = ap lower_case (sym is) ∙ reads-at word (part i (i + n) s) (p - i) r (omega arith) in
      ⊎_elim
      (λ one. let at : p - i ≡ 1 = omega arith in absurd (no_letter inside (second (get_or s p 0) (reading ∙ ap (λ k. get_or word k 0) at))))
      (λ two. let at : p - i ≡ 2 = omega arith in absurd (no_letter inside (third (get_or s p 0) (reading ∙ ap (λ k. get_or word k 0) at))))
      (cases_lt p (i + 2)))
      (λ done. done)
      (cases_lt p (i + 3))

  past_its_begin : (kind : SpanKind) → BeginsAs kind s i → i + 3 ≤ p
  past_its_begin Www b = past_word (codes "www.") 4 refl (omega arith) b letter_w letter_w
  past_its_begin Protocol b =
      ⊎_elim
      (λ h. past_word (codes "http://") 7 refl (omega arith) h letter_t letter_t)
      (λ h. past_word (codes "https://") 8 refl (omega arith) h letter_t letter_t)
      b
  past_its_begin Email b = absurd b
  past_its_begin Mailto b = absurd b
  past_its_begin Xmpp b = absurd b

three_bytes : (m : ℕ → Bool) (s : List ℕ) (i : ℕ) (x : Span) → link_at m s i ≡ Some x → x.from + 3 ≤ x.to
three_bytes m s i x e =
    let a = link_at-is m s i x e in
    let begins : BeginsAs x.kind s i = subst (λ k. BeginsAs x.kind s k) a.start a.span.begins in
    omega (arith, a.start, past_its_begin m s i a.path-start x.to a.shape x.kind begins)

-- ---- spans of three bytes or more

abbrev pub Long : Segment → Type 0
Long x = x.from + 3 ≤ x.to

web_long : (m : ℕ → Bool) (s : List ℕ) (c : ℕ) (xs : List Span) → FoundInTurn (λ _. link_at m s) c xs → AllByRecursion Long (map as_named xs)
web_long m s c [] h = tt
web_long m s c (x ∷ xs) h = (three_bytes m s h.0.0 x h.0.1.1.1, web_long m s x.to xs h.1)

pub links-long : (m : ℕ → Bool) (s : List ℕ) → AllByRecursion Long (map as_named (links m s))
links-long m s = web_long m s 0 (links m s) (lawful m s).in_turn

mail_long : (s : List ℕ) (d : ℕ) (xs : List Span) → AllByRecursion (Address s) xs → AllByRecursion Long (map as_named (map (moved d) xs))
mail_long s d [] h = tt
mail_long s d (x ∷ xs) h = (omega (arith, five_bytes s x h.0), mail_long s d xs h.1)

pub mail-long : (note : List ℕ) (ls xs : List Segment) → AllByRecursion Long (mail_outside note ls xs)
mail-long note ls [] = tt
mail-long note ls (x ∷ xs) =
    let data_bytes = part x.from x.to note in
    let here = mail_long data_bytes x.from (addresses data_bytes) (addresses_are data_bytes) in
    let there : AllByRecursion Long (cond (lies_within ls x) [] (mail_in note x)) = elim (lies_within ls x) as (λ v. AllByRecursion Long (cond v [] (mail_in note x))) [ true ↦ tt | false ↦ here ] in
    All-append Long (cond (lies_within ls x) [] (mail_in note x)) (mail_outside note ls xs) there (mail-long note ls xs)
