-- Where a link may be tried: what was shown last tells of the byte before what that byte itself tells.
-- Assumes nothing.
use Rattle.std.proofs.Common.{◌≡◌, ℕ, ◌+◌, ◌<◌, Bool, true, not, ◌||◌, eqb, List, [], ◌∷◌, length, get_or, Some, None, codes, Option, sym, refl, ap, ◌∙◌, add-one}
use Rattle.std.proofs.lemmas.Bool.{cond-false, eqb-true}
use Rattle.text.specs.Ascii.{letter}
use Rattle.text.specs.Bytes.{among}
use Rattle.rules.specs.Web.{before_www}
use Rattle.rules.specs.Web as web
use Rattle.machine.specs.Cursors.{line_end}
use Rattle.machine.specs.Invariant.{Plain, Edge, index_shown, byte_shown}
use Rattle.machine.specs.States.{on, may_precede_www}
use Rattle.machine.proofs.Walk.{among-all, shows-at, edge_after, plain_no_crlf, tab_no_crlf, two_ways, crlf, edge_line_end}

abbrev no-letter : ℕ → Bool
no-letter b = not (letter b)

-- the cursor stands at i, not between CR and LF, and v was shown last
pub record Stands (s : List ℕ) (i : ℕ) (v : Option ℕ) : Type 0 where
  pub edge : Edge s i
  -- `www.` may follow
  pub www : may_precede_www v ≡ web.after before_www s i
  -- a protocol may follow
  pub protocol : not (on letter v) ≡ web.after no-letter s i

pub at_first : (s : List ℕ) → Stands s 0 None
at_first s = record { edge = refl; www = refl; protocol = refl }

after_more : (p : ℕ → Bool) (s : List ℕ) (i : ℕ) → web.after p s (i + 1) ≡ p (get_or s i 0)
after_more p s i = ap (web.after p s) (add-one i)

-- past a plain byte
pub past_plain : (s : List ℕ) (i : ℕ) → Plain s i → Stands s (i + 1) (byte_shown s i)
past_plain s i f =
    let b = get_or s i 0 in
    let shown = shows-at s i f.inside ∙ ap Some (cond-false (eqb b 13) 10 b f.cr) in
    record {
      edge = edge_after s i (plain_no_crlf s i f);
      www = ap may_precede_www shown ∙ ap (λ x. eqb b 9 || (eqb b 10 || (x || among (32 ∷ codes "(*_[]~") b))) (sym f.cr) ∙ sym (after_more before_www s i);
      protocol = ap (λ o. not (on letter o)) shown ∙ sym (after_more no-letter s i);
    }

-- past a tab, of which a column or more was shown
pub past-tab : (s : List ℕ) (i : ℕ) → i < length s → eqb (get_or s i 0) 9 ≡ true → (b : ℕ) → among (9 ∷ 32 ∷ []) b ≡ true → Stands s (i + 1) (Some b)
past-tab s i lt tab b h =
    let is-tab = eqb-true (get_or s i 0) 9 tab in
    record {
      edge = edge_after s i (tab_no_crlf s i lt tab);
      www = among-all (λ x. may_precede_www (Some x) ≡ true) (9 ∷ 32 ∷ []) (refl, (refl, tt)) b h ∙ sym (after_more before_www s i ∙ ap before_www is-tab);
      protocol = among-all (λ x. not (on letter (Some x)) ≡ true) (9 ∷ 32 ∷ []) (refl, (refl, tt)) b h ∙ sym (after_more no-letter s i ∙ ap no-letter is-tab);
    }

-- past a line ending, which is shown as an LF
pub past_line_ending : (s : List ℕ) (i : ℕ) → i < length s → line_end (get_or s i 0) ≡ true → Stands s (index_shown s i + 1) (Some 10)
past_line_ending s i lt h =
    let last = two_ways s i (λ q. line_end (get_or s q 0) ≡ true) (λ c. ap line_end (crlf s i c).1) (λ c. h) in
    let k = index_shown s i in
    record {
      edge = edge_line_end s i lt h;
      www = sym (after_more before_www s k ∙ among-all (λ b. before_www b ≡ true) (10 ∷ 13 ∷ []) (refl, (refl, tt)) (get_or s k 0) last);
      protocol = sym (after_more no-letter s k ∙ among-all (λ b. no-letter b ≡ true) (10 ∷ 13 ∷ []) (refl, (refl, tt)) (get_or s k 0) last);
    }
