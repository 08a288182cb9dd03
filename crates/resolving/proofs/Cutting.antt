-- The edits that cut mail out of an event list, from its front on.
-- Assumes nothing.
use Rattle.std.proofs.Common.{◌≡◌, ℕ, suc, ◌+◌, ◌-◌, ◌*◌, ◌<◌, ◌≤◌, Bool, true, false, not, ◌||◌, List, [], ◌∷◌, ◌++◌, length, get_or, take, drop, sym, refl, ap, ◌∙◌, subst, arith}
use Rattle.std.proofs.Math.Seq.{drop-cons}
use Rattle.std.proofs.lemmas.List.{append_assoc, length-drop}
use Rattle.std.proofs.lemmas.Bool.{cond-true, cond-false}
use Rattle.edit_map.specs.Edits.{Edit, added, applied}
use Rattle.edit_map.specs.Laws.{InOrder, Rising}
use Rattle.machine.specs.declared.events.Event.{Event}
use Rattle.machine.specs.declared.events.Name.TheVariants as name
use Rattle.machine.specs.Joins.{is_data}
use Rattle.machine.specs.Laws.{enters, Segment, events_of, Tiles}
use Rattle.calls.specs.EventLists.{span, is_link}
use Rattle.calls.specs.Links.{split}
use Rattle.calls.specs.Passes.{mail_cut}
use Rattle.calls.proofs.Mail.{split-tiles}
use Rattle.resolving.specs.Places.{AtItsPlace, PairsInOrder}
use Rattle.resolving.proofs.Behind.{put_behind, Makes, makes_none, makes_on, makes_put, makes_all, makes-order, stretch}

-- ---- how many events data is split into

events-few : (note : List ℕ) (xs : List Segment) (a b : ℕ) → Tiles a b xs → 2 * a + length (events_of note xs) ≤ 2 * b
events-few note [] a b t = omega arith
events-few note (x ∷ xs) a b t = omega (arith, t.0, t.1, events-few note xs x.to b t.2)

pub split-few : (note : List ℕ) (from to : ℕ) → from < to → to ≤ length note → 2 * from + length (events_of note (split note (span name.Data from to))) ≤ 2 * to
split-few note from to lt le = events-few note (split note (span name.Data from to)) from to (split-tiles note (span name.Data from to) lt le)

-- ---- the batch, with the events before number `place` done

pub record Cutting (note : List ℕ) (es : List Event) (place : ℕ) (in_link : Bool) (batch : List (Edit Event)) (kept : ℕ) : Type 0 where
  pub at : ℕ
  pub out : List Event
  pub inside : at ≤ length note
  pub pairs : PairsInOrder note at (drop place es)
  pub makes : Makes batch es place out
  pub few : length batch ≤ at
  pub kept_low : kept ≤ 2 * at
  pub whole : out ++ mail_cut note in_link (drop place es) ≡ mail_cut note false es

pub none-cut : (note : List ℕ) (es : List Event) (batch : List (Edit Event)) (kept : ℕ) → PairsInOrder note 0 es → batch ≡ [] → kept ≡ 0 → Cutting note es 0 false batch kept
none-cut note es batch kept pairs none is =
    subst (λ (b : List (Edit Event)). Cutting note es 0 false b kept) (sym none)
    (record { at = 0; out = []; inside = omega arith; pairs = pairs; makes = makes_none es; few = omega arith; kept_low = omega arith; whole = refl })

module _ (note : List ℕ) (es : List Event) (place : ℕ) (in_link : Bool) (batch : List (Edit Event)) (kept : ℕ) (c : Cutting note es place in_link batch kept) (more : place + 1 < length es) (d : Event) where
  abbrev first : Event
  first = get_or es place d

  abbrev second : Event
  second = get_or es (place + 1) d

  abbrev left : List Event
  left = drop (place + 2) es

  behind_first : drop (place + 1) es ≡ second ∷ left
  behind_first = let e : suc (place + 1) ≡ place + 2 = omega arith in drop-cons es (place + 1) d more ∙ ap (λ k. second ∷ drop k es) e

  at_hand : drop place es ≡ first ∷ second ∷ left
  at_hand =
      let lt : place < length es = omega arith in
      let e : suc place ≡ place + 1 = omega arith in
      drop-cons es place d lt ∙ ap (λ k. first ∷ drop k es) e ∙ ap (λ l. first ∷ l) behind_first

  pairs : PairsInOrder note c.at (first ∷ second ∷ left)
  pairs = subst (PairsInOrder note c.at) at_hand c.pairs

  one : stretch place (place + 1) es ≡ first ∷ []
  one = let e : place + 1 - place ≡ 1 = omega arith in ap (λ n. take n (drop place es)) e ∙ ap (take 1) at_hand

  two : stretch place (place + 2) es ≡ first ∷ second ∷ []
  two = let e : place + 2 - place ≡ 2 = omega arith in ap (λ n. take n (drop place es)) e ∙ ap (take 2) at_hand

  -- the event of a Link stays
  pub after_link : is_link first.name ≡ true → Cutting note es (place + 1) (enters first.kind) batch kept
  after_link is = record {
    at = c.at;
    out = c.out ++ stretch place (place + 1) es;
    inside = c.inside;
    pairs = subst (PairsInOrder note c.at) (sym behind_first) (pairs.0 is);
    makes = makes_on es (place + 1) (omega arith) (omega arith) c.makes;
    few = c.few;
    kept_low = c.kept_low;
    whole =
        (λ i. (c.out ++ one i) ++ mail_cut note (enters first.kind) (behind_first i))
        ∙ append_assoc c.out (first ∷ []) (mail_cut note (enters first.kind) (second ∷ left))
        ∙ ap (λ l. c.out ++ l) (sym (ap (mail_cut note in_link) at_hand ∙ cond-true (is_link first.name) _ _ is))
        ∙ c.whole;
  }

  module _ (is : is_link first.name ≡ false) where
    -- what splitting asks
    pub record Asks : Type 0 where
      pub placed : AtItsPlace note first
      pub some : first.point.index < second.point.index
      pub inside : second.point.index ≤ length note
      pub order : InOrder 0 place batch
      pub rising : Rising 0 batch
      pub few : length batch < second.point.index
      pub room : kept + length (events_of note (split note (span name.Data first.point.index second.point.index))) ≤ 2 * length note

    pub asks : Asks
    asks =
        let p = pairs.1 is in
        record {
          placed = p.0;
          some = p.2;
          inside = p.3;
          order = c.makes.in_order;
          rising = c.makes.rising;
          few = omega (arith, c.few, p.1, p.2);
          room = omega (arith, c.kept_low, p.1, p.3, split-few note first.point.index second.point.index p.2 p.3);
        }

    -- a span stays
    pub after_span : in_link || not (is_data first.name) ≡ true → Cutting note es (place + 2) in_link batch kept
    after_span stays =
        let p = pairs.1 is in
        record {
          at = second.point.index;
          out = c.out ++ stretch place (place + 2) es;
          inside = p.3;
          pairs = p.4;
          makes = makes_on es (place + 2) (omega arith) (omega arith) c.makes;
          few = omega (arith, c.few, p.1, p.2);
          kept_low = omega (arith, c.kept_low, p.1, p.2);
          whole =
              ap (λ l. (c.out ++ l) ++ mail_cut note in_link left) two
              ∙ append_assoc c.out (first ∷ second ∷ []) (mail_cut note in_link left)
              ∙ ap (λ l. c.out ++ l) (sym (
              ap (mail_cut note in_link) at_hand
              ∙ cond-false (is_link first.name) _ _ is
              ∙ cond-true (in_link || not (is_data first.name)) _ _ stays))
              ∙ c.whole;
        }

    -- data is split
    pub after_split : (batch' : List (Edit Event)) (kept' : ℕ) → first.name ≡ name.Data → in_link ≡ false → batch' ≡ added place 2 (events_of note (split note (span name.Data first.point.index second.point.index))) batch → kept' ≡ kept + length (events_of note (split note (span name.Data first.point.index second.point.index))) → Cutting note es (place + 2) in_link batch' kept'
    after_split batch' kept' named outside is-batch is-kept =
        let p = pairs.1 is in
        let zs = events_of note (split note (span name.Data first.point.index second.point.index)) in
        let cut : in_link || not (is_data first.name) ≡ false = (λ i. outside i || not (is_data (named i))) in
        subst (λ (b : List (Edit Event)). Cutting note es (place + 2) in_link b kept') (sym is-batch)
        (record {
          at = second.point.index;
          out = c.out ++ zs;
          inside = p.3;
          pairs = p.4;
          makes = makes_put es 2 zs (omega arith) c.makes;
          few = omega (arith, c.few, p.1, p.2, (put_behind place 2 zs 0 0 batch (omega arith) c.makes.in_order c.makes.rising).few);
          kept_low = omega (arith, c.kept_low, p.1, split-few note first.point.index second.point.index p.2 p.3);
          whole =
              append_assoc c.out zs (mail_cut note in_link left)
              ∙ ap (λ l. c.out ++ l) (sym (
              ap (mail_cut note in_link) at_hand
              ∙ cond-false (is_link first.name) _ _ is
              ∙ cond-false (in_link || not (is_data first.name)) _ _ cut
              ∙ ap (λ n. events_of note (split note (span n first.point.index second.point.index)) ++ mail_cut note in_link left) named))
              ∙ c.whole;
        })

-- ---- at the end

pub record Cut (note : List ℕ) (es : List Event) (batch : List (Edit Event)) (kept : ℕ) : Type 0 where
  pub made : applied batch es ≡ mail_cut note false es
  pub order : InOrder 0 (length es) batch
  pub kept_low : kept ≤ 2 * length note

last_stays : (note : List ℕ) (b : Bool) (es : List Event) → length es ≤ 1 → mail_cut note b es ≡ es
last_stays note b [] le = refl
last_stays note b (x ∷ []) le = refl
last_stays note b (x ∷ y ∷ es) le = absurd (omega arith)

pub all-cut : (note : List ℕ) (es : List Event) (place : ℕ) (in_link : Bool) (batch : List (Edit Event)) (kept : ℕ) → Cutting note es place in_link batch kept → length es ≤ place + 1 → Cut note es batch kept
all-cut note es place in_link batch kept c over =
    record {
      made = makes_all es c.makes ∙ ap (λ l. c.out ++ l) (sym (last_stays note in_link (drop place es) (simp length-drop (omega arith)))) ∙ c.whole;
      order = makes-order es c.makes;
      kept_low = omega (arith, c.kept_low, c.inside);
    }
