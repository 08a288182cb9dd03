-- The edits that put links into an event list, one link after another.
-- Assumes nothing.
use Rattle.std.proofs.Common.{◌≡◌, ℕ, zero, suc, ◌+◌, ◌*◌, ◌<◌, ◌≤◌, true, ◌&&◌, ltb, leb, List, [], ◌∷◌, ◌++◌, length, get_or, drop, sym, refl, ap, ◌∙◌, subst, arith}
use Rattle.std.proofs.lemmas.List.{append_assoc, drop_all}
use Rattle.std.proofs.Math.Seq.{drop-cons}
use Rattle.std.proofs.lemmas.Bool.{and_parts, leb-true, ltb-true, true≢false}
use Rattle.text.specs.declared.places.Point.{Point}
use Rattle.text.specs.Places.{point_at}
use Rattle.edit_map.specs.declared.entries.Side.TheVariants.{Back}
use Rattle.edit_map.specs.Edits.{Edit, put, added, applied}
use Rattle.edit_map.specs.Laws.{InOrder}
use Rattle.machine.specs.declared.events.Event.{Event}
use Rattle.machine.specs.declared.events.EventKind.{EventKind}
use Rattle.machine.specs.declared.events.EventKind.TheVariants.{Enter, Exit}
use Rattle.machine.specs.declared.events.Name.TheVariants.{Link}
use Rattle.machine.specs.Laws.{event_at}
use Rattle.calls.specs.declared.links.MarkedRun.{MarkedRun}
use Rattle.calls.specs.Links.{has_enter, has_exit, markable, marked_in_turn, numbered, index_of, linked}
use Rattle.calls.specs.Passes.{with_links_from, with_links}
use Rattle.resolving.specs.Places.{AllPlaced}
use Rattle.resolving.proofs.Behind.{put_behind, Makes, makes_none, makes_on, makes_put, makes_all, makes-order, stretch}

-- ---- the events of a link

enter_there : (es : List Event) (n : ℕ) → has_enter es n ≡ true → n < length es
enter_there [] n e = absurd (true≢false (sym e))
enter_there (x ∷ es) zero e = omega arith
enter_there (x ∷ es) (suc n) e = omega (arith, enter_there es n e)

exit_there : (es : List Event) (n : ℕ) → has_exit es n ≡ true → n < length es
exit_there [] n e = absurd (true≢false (sym e))
exit_there (x ∷ es) zero e = omega arith
exit_there (x ∷ es) (suc n) e = omega (arith, exit_there es n e)

placed_there : (note : List ℕ) (es : List Event) (n : ℕ) (d : Event) → AllPlaced note es → n < length es → (get_or es n d).point ≡ point_at note (index_of es n)
placed_there note [] n d p lt = absurd (omega arith)
placed_there note (x ∷ es) zero d p lt = p.0
placed_there note (x ∷ es) (suc n) d p lt = placed_there note es n d p.1 (omega arith)

-- an event of a Link by event number n
abbrev pub link_by : List Event → EventKind → ℕ → Event → Event
link_by es kind n d = record { kind = kind; name = Link; point = (get_or es n d).point }

by_place : (note : List ℕ) (es : List Event) (kind : EventKind) (n : ℕ) (d x : Event) → AllPlaced note es → n < length es → x ≡ link_by es kind n d → x ≡ event_at note kind Link (index_of es n)
by_place note es kind n d x p lt is = is ∙ ap (λ (q : Point). record { kind = kind; name = Link; point = q }) (placed_there note es n d p lt)

-- ---- the runs that may be marked

pub record Run (es : List Event) (from : ℕ) (l : MarkedRun) : Type 0 where
  pub low : from ≤ l.first
  pub up : l.first < l.last
  pub within : l.last < length es

pub run_of : (es : List Event) (from : ℕ) (l : MarkedRun) (ls : List MarkedRun) → marked_in_turn es from (l ∷ ls) ≡ true → Run es from l × (marked_in_turn es (suc l.last) ls ≡ true)
run_of es from l ls e =
    let a = and_parts (markable es from l) (marked_in_turn es (suc l.last) ls) e in
    let b = and_parts (leb from l.first && ltb l.first l.last && has_enter es l.first) (has_exit es l.last) a.0 in
    let c = and_parts (leb from l.first && ltb l.first l.last) (has_enter es l.first) b.0 in
    let d = and_parts (leb from l.first) (ltb l.first l.last) c.0 in
    (record { low = leb-true from l.first d.0; up = ltb-true l.first l.last d.1; within = exit_there es l.last b.1 }, a.1)

-- ---- the batch, with some links in it and some left

pub record Marking (es : List Event) (all left : List MarkedRun) (batch : List (Edit Event)) (kept : ℕ) : Type 0 where
  pub from : ℕ
  pub out : List Event
  pub turn : marked_in_turn es from left ≡ true
  pub makes : Makes batch es from out
  pub few : length batch + 2 * length left ≤ 2 * length all
  pub kept_is : kept + 2 * length left ≡ 2 * length all
  pub whole : (note : List ℕ) → AllPlaced note es → out ++ with_links_from note es from left ≡ with_links note all es

pub none-marked : (es : List Event) (all : List MarkedRun) (kept : ℕ) → marked_in_turn es 0 all ≡ true → kept ≡ 0 → Marking es all all [] kept
none-marked es all kept turn none =
    record { from = 0; out = []; turn = turn; makes = makes_none es; few = omega arith; kept_is = omega arith; whole = λ note p. refl }

module _ (es : List Event) (all : List MarkedRun) (l : MarkedRun) (left : List MarkedRun) (batch : List (Edit Event)) (kept : ℕ) (m : Marking es all (l ∷ left) batch kept) where
  pub run : Run es m.from l
  run = (run_of es m.from l left m.turn).0

  -- up to the run, and its Enter
  makes_before : Makes batch es l.first (m.out ++ stretch m.from l.first es)
  makes_before = makes_on es l.first run.low (omega (arith, run.up, run.within)) m.makes

  pub before_enter : InOrder 0 l.first batch
  before_enter = makes_before.in_order

  module _ (x : Event) where
    abbrev entered : List (Edit Event)
    entered = added l.first 0 (x ∷ []) batch

    abbrev out₁ : List Event
    out₁ = (m.out ++ stretch m.from l.first es) ++ x ∷ []

    makes_inside : Makes entered es (l.last + 1) (out₁ ++ stretch l.first (l.last + 1) es)
    makes_inside =
        let z : l.first + 0 ≡ l.first = omega arith in
        let m₁ = makes_put es 0 (x ∷ []) (omega (arith, run.up, run.within)) makes_before in
        makes_on es (l.last + 1) (omega (arith, run.up)) (omega (arith, run.within)) (subst (λ (k : ℕ). Makes entered es k out₁) z m₁)

    few_inside : length entered ≤ length batch + 1
    few_inside = (put_behind l.first 0 (x ∷ []) 0 0 batch (omega arith) makes_before.in_order m.makes.rising).few

    pub few_enter : length all ≤ 64 → length (put Back l.first 0 (x ∷ []) batch) ≤ 1024
    few_enter small = omega (arith, m.few, few_inside)

    -- behind the run, and its Exit
    module _ (new : List (Edit Event)) (is : new ≡ entered) where
      pub before_exit : InOrder 0 (l.last + 1) new
      before_exit = subst (InOrder 0 (l.last + 1)) (sym is) makes_inside.in_order

      module _ (y : Event) where
        few_behind : length (put Back (l.last + 1) 0 (y ∷ []) new) ≤ length batch + 2
        few_behind =
            subst (λ (b : List (Edit Event)). length (put Back (l.last + 1) 0 (y ∷ []) b) ≤ length batch + 2) (sym is)
            (omega (arith, few_inside, (put_behind (l.last + 1) 0 (y ∷ []) 0 0 entered (omega arith) makes_inside.in_order makes_inside.rising).few))

        pub few_exit : length all ≤ 64 → length (put Back (l.last + 1) 0 (y ∷ []) new) ≤ 1024
        few_exit small = omega (arith, m.few, few_behind)

        abbrev exited : List (Edit Event)
        exited = added (l.last + 1) 0 (y ∷ []) new

        makes_behind : Makes exited es (suc l.last) ((out₁ ++ stretch l.first (suc l.last) es) ++ y ∷ [])
        makes_behind =
            let z : l.last + 1 + 0 ≡ suc l.last = omega arith in
            let e : l.last + 1 ≡ suc l.last = omega arith in
            let start = subst (λ (b : List (Edit Event)). Makes b es (l.last + 1) (out₁ ++ stretch l.first (l.last + 1) es)) (sym is) makes_inside in
            subst (λ (k : ℕ). Makes exited es (suc l.last) ((out₁ ++ stretch l.first k es) ++ y ∷ [])) e
            (subst (λ (k : ℕ). Makes exited es k ((out₁ ++ stretch l.first (l.last + 1) es) ++ y ∷ [])) z
            (makes_put es 0 (y ∷ []) (omega (arith, run.within)) start))

        pub marked : (d e : Event) → x ≡ link_by es Enter l.first d → y ≡ link_by es Exit l.last e → Marking es all left exited (kept + 1 + 1)
        marked d e is-x is-y =
            record {
              from = suc l.last;
              out = (out₁ ++ stretch l.first (suc l.last) es) ++ y ∷ [];
              turn = (run_of es m.from l left m.turn).1;
              makes = makes_behind;
              few = omega (arith, m.few, few_behind);
              kept_is = omega (arith, m.kept_is);
              whole = λ note p.
                  let a = by_place note es Enter l.first d x p (omega (arith, run.up, run.within)) is-x in
                  let b = by_place note es Exit l.last e y p run.within is-y in
                  let rest = with_links_from note es (suc l.last) left in
                  let inner = numbered l.first (suc l.last) es in
                  let before = numbered m.from l.first es in
                  append_assoc (out₁ ++ inner) (y ∷ []) rest
                  ∙ append_assoc out₁ inner (y ∷ rest)
                  ∙ append_assoc (m.out ++ before) (x ∷ []) (inner ++ (y ∷ rest))
                  ∙ append_assoc m.out before (x ∷ (inner ++ (y ∷ rest)))
                  ∙ (λ i. m.out ++ (before ++ (a i ∷ (inner ++ (b i ∷ rest)))))
                  ∙ ap (λ t. m.out ++ t) (sym (
                  append_assoc before (linked note es l) rest
                  ∙ ap (λ t. before ++ (event_at note Enter Link (index_of es l.first) ∷ t)) (append_assoc inner (event_at note Exit Link (index_of es l.last) ∷ []) rest)))
                  ∙ m.whole note p;
            }

pub alike : {es : List Event} {all left : List MarkedRun} {batch batch' : List (Edit Event)} {kept kept' : ℕ} → Marking es all left batch kept → batch' ≡ batch → kept' ≡ kept → Marking es all left batch' kept'
alike {es} {all} {left} {batch} {batch'} {kept} m is-batch is-kept =
    subst (λ (k : ℕ). Marking es all left batch' k) (sym is-kept) (subst (λ (b : List (Edit Event)). Marking es all left b kept) (sym is-batch) m)

-- the link at hand, and those behind it
pub at_hand : (es : List Event) (all : List MarkedRun) (i : ℕ) (d : MarkedRun) (batch : List (Edit Event)) (kept : ℕ) → i < length all → Marking es all (drop i all) batch kept → Marking es all (get_or all i d ∷ drop (i + 1) all) batch kept
at_hand es all i d batch kept lt m =
    let e : suc i ≡ i + 1 = omega arith in
    subst (λ (t : List MarkedRun). Marking es all t batch kept) (drop-cons all i d lt ∙ ap (λ k. get_or all i d ∷ drop k all) e) m

-- ---- all links

pub record Marked (es : List Event) (all : List MarkedRun) (batch : List (Edit Event)) (kept : ℕ) : Type 0 where
  pub made : (note : List ℕ) → AllPlaced note es → applied batch es ≡ with_links note all es
  pub order : InOrder 0 (length es) batch
  pub kept_is : kept ≡ 2 * length all

pub all_marked : (es : List Event) (all : List MarkedRun) (i : ℕ) (batch : List (Edit Event)) (kept : ℕ) → length all ≤ i → Marking es all (drop i all) batch kept → Marked es all batch kept
all_marked es all i batch kept le m' =
    let m = subst (λ (t : List MarkedRun). Marking es all t batch kept) (drop_all i all le) m' in
    record { made = λ note p. makes_all es m.makes ∙ m.whole note p; order = makes-order es m.makes; kept_is = omega (arith, m.kept_is) }
