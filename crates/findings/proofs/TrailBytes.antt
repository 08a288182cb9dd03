-- Trails, by the byte that they begin with: one lemma for each row of the trail states.
-- Assumes nothing.
use Rattle.std.proofs.Common.{◌≡◌, ℕ, suc, ◌+◌, ◌<◌, Bool, true, false, cond, not, ◌&&◌, ◌||◌, eqb, ltb, List, ◌∷◌, length, get_or, drop, codes, sym, refl, ap, ◌∙◌, ⊎_elim, add-zero, arith}
use Rattle.std.specs.List.{prefix_len}
use Rattle.std.proofs.lemmas.List.{get_or-drop, drop_all}
use Rattle.std.proofs.lemmas.List.Sums.{prefix_len-drop_yes, prefix_len-drop_no, prefix_len-drop_all}
use Rattle.std.proofs.lemmas.Bool.{cases_Bool, cases_lt, cond-true, cond-false, and_from, and_left, and_right, or_from, not-false, eqb-true, ne_eqb, lt-ltb, le-ltb, ltb-false, true≢false, both_ways}
use Rattle.text.specs.Ascii.{letter}
use Rattle.text.specs.Bytes.{among}
use Rattle.punctuation.specs.Kinds.{kind_of}
use Rattle.characters.specs.Utf8.{character}
use Rattle.rules.specs.Web.{is_white, white_at, mark, reference_length, item_length, run_end, stop}
use Rattle.rules.proofs.KindsAtPlaces.{end-is_white}
use Rattle.rules.proofs.Trails.{goes, goes_stop, goes_item, reference_goes}
use Rattle.machine.specs.Invariant.{byte_shown}
use Rattle.machine.specs.States.{on, at_end, is, trail_mark, after_bracket}
use Rattle.machine.proofs.Walk.{among-all, All, stands, known, kind-known, shows-at, shows-end}

-- a byte that a wider test leaves out is none of these
pub among_none : (p : ℕ → Bool) (cs : List ℕ) → All (λ c. p c ≡ true) cs → (b : ℕ) → p b ≡ false → among cs b ≡ false
among_none p cs a b h = ⊎_elim (λ e. absurd (both_ways (p b) h (among-all (λ c. p c ≡ true) cs a b e))) (λ e. e) (cases_Bool (among cs b))

-- the brackets that end a trail behind a `]`
abbrev opening : ℕ → Bool
opening b = among (codes "([") b

-- the item that begins with `&`
reference_item : (c : Bool) (bs : List ℕ) → item_length c (38 ∷ bs) ≡ cond (ltb 0 (prefix_len letter bs) && eqb (get_or bs (prefix_len letter bs) 0) 59) (prefix_len letter bs + 2) 0
reference_item true bs = refl
reference_item false bs = refl

-- c: whether `)` is an item. t: where the trail, or the rest of one, begins
module _ (mem : ℕ → Bool) (c : Bool) (s : List ℕ) (t : ℕ) where
  -- a byte that is known, and no item: a stop or not
  goes_known : (bracket : Bool) (b : ℕ) → t < length s → get_or s t 0 ≡ b → item_length c (b ∷ drop (t + 1) s) ≡ 0 → goes mem c bracket s t ≡ (is_white (kind_of mem (character (b ∷ drop (t + 1) s))) || eqb b 60 || (bracket && opening b))
  goes_known bracket b lt e none =
      goes_stop mem c bracket s t (known s t (item_length c) b lt e ∙ none)
      ∙ ap (λ k. is_white k || eqb (get_or s t 0) 60 || (bracket && opening (get_or s t 0))) (kind-known mem s t b lt e)
      ∙ ap (λ x. is_white (kind_of mem (character (b ∷ drop (t + 1) s))) || eqb x 60 || (bracket && opening x)) e

  -- an item of one byte
  goes_byte : (bracket : Bool) → t < length s → item_length c (drop t s) ≡ 1 → goes mem c bracket s t ≡ goes mem c (eqb (get_or s t 0) 93) s (t + 1)
  goes_byte bracket lt e = goes_item mem c bracket s t 0 e (omega arith) ∙ ap (λ k. goes mem c (eqb (get_or s k 0) 93) s (t + 1)) (add-zero t)

  -- a `)` that is no item
  pub goes_closing : c ≡ false → t < length s → eqb (get_or s t 0) 41 ≡ true → goes mem c false s t ≡ false
  goes_closing n lt h = goes_known false 41 lt (eqb-true _ 41 h) (ap (λ x. item_length x (41 ∷ drop (t + 1) s)) n)

  -- a `]`: what comes next may be a bracket that opens
  pub goes_bracket : t < length s → eqb (get_or s t 0) 93 ≡ true → goes mem c false s t ≡ goes mem c true s (t + 1)
  goes_bracket lt h = goes_byte false lt (known s t (item_length c) 93 lt (eqb-true _ 93 h)) ∙ ap (λ x. goes mem c x s (t + 1)) h

  mark_item : (b : ℕ) → (eqb b 41 && not c) ≡ false → trail_mark b ≡ true → item_length c (b ∷ drop (t + 1) s) ≡ 1
  mark_item b free h =
      among-all (λ x. (eqb x 41 && not c) ≡ false → item_length c (x ∷ drop (t + 1) s) ≡ 1) (codes "!\"')*,.:;?_~")
      ((λ _. refl), ((λ _. refl), ((λ _. refl), ((λ f. ap (λ x. item_length x (41 ∷ drop (t + 1) s)) (not-false c f)), ((λ _. refl), ((λ _. refl), ((λ _. refl), ((λ _. refl), ((λ _. refl), ((λ _. refl), ((λ _. refl), ((λ _. refl), tt))))))))))))
      b h free

  -- any other mark, and a `)` that is an item
  pub goes_mark : t < length s → (eqb (get_or s t 0) 41 && not c) ≡ false → trail_mark (get_or s t 0) ≡ true → goes mem c false s t ≡ goes mem c false s (t + 1)
  goes_mark lt free h =
      goes_byte false lt (known s t (item_length c) (get_or s t 0) lt refl ∙ mark_item (get_or s t 0) free h)
      ∙ ap (λ x. goes mem c x s (t + 1)) (ne_eqb (get_or s t 0) 93 (λ e. both_ways (trail_mark (get_or s t 0)) (ap trail_mark e) h))

  none_item : (b : ℕ) (bs : List ℕ) → eqb b 93 ≡ false → trail_mark b ≡ false → eqb b 38 ≡ false → item_length c (b ∷ bs) ≡ 0
  none_item b bs h1 h2 h3 =
      cond-false (mark b || (c && eqb b 41)) 1 (reference_length (b ∷ bs))
      (or_from (mark b) (c && eqb b 41)
      (among_none (λ x. trail_mark x || eqb x 93) (codes "!\"'*,.:;?_~]") (refl, (refl, (refl, (refl, (refl, (refl, (refl, (refl, (refl, (refl, (refl, (refl, tt)))))))))))) b (or_from (trail_mark b) (eqb b 93) h2 h1))
      (and_right c (eqb b 41) (ne_eqb b 41 (λ e. both_ways (trail_mark b) h2 (ap trail_mark e)))))
      ∙ cond-false (eqb b 38 && ltb 0 (prefix_len letter bs) && eqb (get_or bs (prefix_len letter bs) 0) 59) _ 0 (and_left _ _ (and_left _ _ h3))

  -- no byte that an item begins with
  pub goes_no_item : (bracket : Bool) → eqb (get_or s t 0) 93 ≡ false → trail_mark (get_or s t 0) ≡ false → eqb (get_or s t 0) 38 ≡ false → goes mem c bracket s t ≡ stop mem s bracket t
  goes_no_item bracket h1 h2 h3 =
      goes_stop mem c bracket s t
      (⊎_elim (λ lt. known s t (item_length c) (get_or s t 0) lt refl ∙ none_item (get_or s t 0) (drop (t + 1) s) h1 h2 h3) (λ le. ap (item_length c) (drop_all t s le)) (cases_lt t (length s)))

  -- ---- behind a `]`

  at_once : (bracket : Bool) → ltb t (run_end c s t) ≡ false → goes mem c bracket s t ≡ stop mem s bracket t
  at_once bracket e =
      let same : run_end c s t ≡ t = omega (arith, ltb-false t (run_end c s t) e) in
      ap (λ x. stop mem s x (run_end c s t)) (cond-false (ltb t (run_end c s t)) _ bracket e) ∙ ap (stop mem s bracket) same

  -- a `]` matters only to a bracket that opens
  pub goes_no_opening : opening (get_or s t 0) ≡ false → goes mem c true s t ≡ goes mem c false s t
  goes_no_opening h =
      ⊎_elim
      (λ e. ap (λ x. stop mem s x (run_end c s t)) (cond-true (ltb t (run_end c s t)) _ true e ∙ sym (cond-true (ltb t (run_end c s t)) _ false e)))
      (λ e. at_once true e ∙ ap (λ x. white_at mem s t || eqb (get_or s t 0) 60 || x) h ∙ sym (at_once false e))
      (cases_Bool (ltb t (run_end c s t)))

  -- the end, white space of one byte, and a bracket that opens
  pub goes_ended : (at_end (byte_shown s t) || on after_bracket (byte_shown s t)) ≡ true → goes mem c true s t ≡ true
  goes_ended h =
      ⊎_elim
      (λ lt.
      let h' : after_bracket (cond (eqb (get_or s t 0) 13) 10 (get_or s t 0)) ≡ true = ap (λ o. at_end o || on after_bracket o) (sym (shows-at s t lt)) ∙ h in
      ⊎_elim
      (λ e. goes_known true 13 lt (eqb-true _ 13 e) (none_item 13 (drop (t + 1) s) refl refl refl))
      (λ e.
      among-all (λ x. get_or s t 0 ≡ x → goes mem c true s t ≡ true) (9 ∷ 10 ∷ 32 ∷ codes "([")
      ((λ q. goes_known true 9 lt q (none_item 9 (drop (t + 1) s) refl refl refl)), ((λ q. goes_known true 10 lt q (none_item 10 (drop (t + 1) s) refl refl refl)), ((λ q. goes_known true 32 lt q (none_item 32 (drop (t + 1) s) refl refl refl)), ((λ q. goes_known true 40 lt q (none_item 40 (drop (t + 1) s) refl refl refl)), ((λ q. goes_known true 91 lt q (none_item 91 (drop (t + 1) s) refl refl refl)), tt)))))
      (get_or s t 0) (ap after_bracket (sym (cond-false (eqb (get_or s t 0) 13) 10 (get_or s t 0) e)) ∙ h') refl)
      (cases_Bool (eqb (get_or s t 0) 13)))
      (λ le. goes_stop mem c true s t (ap (item_length c) (drop_all t s le)) ∙ ap (λ x. x || eqb (get_or s t 0) 60 || (true && opening (get_or s t 0))) (end-is_white mem s t le))
      (cases_lt t (length s))

  -- elsewhere no bracket opens
  pub no-opening : (at_end (byte_shown s t) || on after_bracket (byte_shown s t)) ≡ false → opening (get_or s t 0) ≡ false
  no-opening h =
      ⊎_elim
      (λ lt.
      let h' : after_bracket (cond (eqb (get_or s t 0) 13) 10 (get_or s t 0)) ≡ false = ap (λ o. at_end o || on after_bracket o) (sym (shows-at s t lt)) ∙ h in
      ⊎_elim
      (λ e. ap opening (eqb-true _ 13 e))
      (λ e. among_none after_bracket (codes "([") (refl, (refl, tt)) (get_or s t 0) (ap after_bracket (sym (cond-false (eqb (get_or s t 0) 13) 10 (get_or s t 0) e)) ∙ h'))
      (cases_Bool (eqb (get_or s t 0) 13)))
      (λ le. absurd (true≢false (ap (λ o. at_end o || on after_bracket o) (sym (shows-end s t le)) ∙ h)))
      (cases_lt t (length s))

  -- ---- a reference

  module _ (lt : t < length s) (h : eqb (get_or s t 0) 38 ≡ true) where
    abbrev letters : ℕ
    letters = prefix_len letter (drop (t + 1) s)

    no_reference : (ltb 0 letters && eqb (get_or (drop (t + 1) s) letters 0) 59) ≡ false → goes mem c false s t ≡ false
    no_reference e = goes_known false 38 lt (eqb-true _ 38 h) (reference_item c (drop (t + 1) s) ∙ cond-false _ _ _ e)

    behind_letters : get_or (drop (t + 1) s) letters 0 ≡ get_or s (t + 1 + letters) 0
    behind_letters = get_or-drop (t + 1) s letters 0

    a_reference : ltb 0 letters ≡ true → eqb (get_or s (t + 1 + letters) 0) 59 ≡ true → goes mem c false s t ≡ goes mem c false s (t + 1 + letters + 1)
    a_reference some e =
        let fits = stands s (t + 1 + letters) (is 59) refl e in
        let two : letters + 2 ≡ suc (letters + 1) = omega arith in
        let item : item_length c (drop t s) ≡ suc (letters + 1) =
        known s t (item_length c) 38 lt (eqb-true _ 38 h) ∙ reference_item c (drop (t + 1) s) ∙ cond-true _ _ _ (and_from (ltb 0 letters) _ some (ap (is 59) behind_letters ∙ e)) ∙ two in
        let p : t + (letters + 1) ≡ t + 1 + letters = omega arith in
        let q : t + suc (letters + 1) ≡ t + 1 + letters + 1 = omega arith in
        goes_item mem c false s t (letters + 1) item (omega (arith, fits))
        ∙ ap (λ k. goes mem c (eqb (get_or s k 0) 93) s (t + suc (letters + 1))) p
        ∙ ap (λ x. goes mem c x s (t + suc (letters + 1))) (ap (is 93) (eqb-true _ 59 e))
        ∙ ap (goes mem c false s) q

    -- an `&`: a letter and the rest of a reference, then the rest of the trail
    pub goes_ampersand : goes mem c false s t ≡ (letter (get_or s (t + 1) 0) && reference_goes mem c s (t + 1))
    goes_ampersand =
        ⊎_elim
        (λ yes.
        let inside = stands s (t + 1) letter refl yes in
        let some : ltb 0 letters ≡ true = lt-ltb 0 letters (omega (arith, prefix_len-drop_yes letter s (t + 1) 0 inside yes)) in
        ⊎_elim
        (λ e. a_reference some e ∙ sym (ap (λ x. x && reference_goes mem c s (t + 1)) yes ∙ ap (λ x. x && goes mem c false s (t + 1 + letters + 1)) e))
        (λ e. no_reference (and_right (ltb 0 letters) _ (ap (is 59) behind_letters ∙ e)) ∙ sym (ap (λ x. x && reference_goes mem c s (t + 1)) yes ∙ ap (λ x. x && goes mem c false s (t + 1 + letters + 1)) e))
        (cases_Bool (eqb (get_or s (t + 1 + letters) 0) 59)))
        (λ no.
        no_reference (and_left (ltb 0 letters) _ (le-ltb 0 letters (⊎_elim
        (λ l. omega (arith, prefix_len-drop_no letter s (t + 1) 0 l no))
        (λ l. omega (arith, prefix_len-drop_all letter s (t + 1) l))
        (cases_lt (t + 1) (length s)))))
        ∙ sym (ap (λ x. x && reference_goes mem c s (t + 1)) no))
        (cases_Bool (letter (get_or s (t + 1) 0)))
