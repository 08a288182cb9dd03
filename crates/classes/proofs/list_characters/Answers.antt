use Rattle.std.proofs.Common.{◌≡◌, ℕ, ◌+◌, List, ◌∷◌, sym, refl, ap, ◌∙◌, Ok, Result, arith}
use Rattle.std.specs.List.{fold}
use Rattle.text.specs.Places.{point_at}
use Rattle.characters.specs.Widths.{character_width}
use Rattle.characters.proofs.CharacterLists.{first_is}
use Rattle.punctuation.specs.declared.kinds.CharacterKind.{CharacterKind}
use Rattle.punctuation.specs.Kinds.{kind_of}
use Rattle.punctuation.specs.RangeLists.{house}
use Rattle.classes.specs.declared.tallies.Tally.{Tally}
use Rattle.classes.specs.Tallies.{counted}
use Rattle.classes.proofs.list_characters.Goals as goal

-- one character counted by its kind leaves the others to count
counted_more : (mem : ℕ → _) (i c : ℕ) (all left : List (ℕ × ℕ)) (t u : Tally) (k : CharacterKind) → mem ≡ house → all ≡ (i, c) ∷ left → k ≡ kind_of mem c → u ≡ counted k t → fold (λ t p. counted (kind_of house p.1) t) u left ≡ fold (λ t p. counted (kind_of house p.1) t) t all
counted_more mem i c all left t u k same first kind is =
    ap (λ v. fold (λ t p. counted (kind_of house p.1) t) v left) (is ∙ ap (λ j. counted j t) (kind ∙ ap (λ m. kind_of m c) same))
    ∙ ap (fold (λ t p. counted (kind_of house p.1) t) t) (sym first)

unwrapped : {A E : Type 0} (r : Result A E) (x y : A) → r ≡ Ok x → r ≡ Ok y → x ≡ y
unwrapped r x y e f = cc

pub unwrap-point-requires : goal.unwrap-point-requires
unwrap-point-requires c =
    let i = c.loop-index.invariant.2 in
    let at = first_is c.args.note.now i.from.0 c.in-Some.index c.in-Some.c _ (sym i.from.2 ∙ c.in-Some.ensures.steps) in
    let ok = c.shift_to.ensures.leads_to_places c.requires i.place (omega (arith, at, i)) (omega (arith, at)) in
    rw ok refl

pub loop-index-preserved : goal.loop-index-preserved
loop-index-preserved c =
    let s = c.args.note.now in
    let i = c.loop-index.invariant.2 in
    let at = first_is s i.from.0 c.in-Some.index c.in-Some.c _ (sym i.from.2 ∙ c.in-Some.ensures.steps) in
    let ok = c.shift_to.ensures.leads_to_places c.requires i.place (omega (arith, at, i)) (omega (arith, at)) in
    let moved : c.unwrap-point.result ≡ point_at s c.in-Some.index = unwrapped _ _ _ c.unwrap-point.ensures ok in
    let here : c.unwrap-point.result.index ≡ c.in-Some.index = ap (λ p. p.index) moved in (
      tt,
      tt,
      record {
        total = counted_more _ c.in-Some.index c.in-Some.c _ _ c.loop-index.tally c.count.new.self c.classify-kind.result i.meaning c.in-Some.ensures.steps c.classify-kind.ensures.kind c.count.ensures ∙ i.total;
        from = (i.from.0 + character_width s i.from.0, omega (arith, here, at), at.2);
        place = moved ∙ ap (point_at s) (sym here);
        meaning = c.classify-kind.ensures.meaning_stays ∙ i.meaning;
      },
    )
