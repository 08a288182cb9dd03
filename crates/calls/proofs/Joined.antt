-- What a reader holds once its end is done, whatever its punctuation set means: the enters and exits of spans that tile the text, with
-- neighbouring data joined.
-- Assumes nothing.
use Rattle.std.proofs.Common.{◌≡◌, ℕ, zero, suc, ◌<◌, ◌≤◌, Bool, true, false, cond, ◌&&◌, List, [], ◌∷◌, length, None, Option, sym, refl, ap, ◌∙◌, subst, ⊎_elim, arith}
use Rattle.std.specs.List.{AllByRecursion}
use Rattle.std.proofs.lemmas.Bool.{cases_Bool, cond-true, cond-false, true≢false}
use Rattle.machine.specs.declared.cursors.Until.TheVariants.{End}
use Rattle.machine.specs.declared.events.Event.{Event}
use Rattle.machine.specs.declared.events.EventKind.TheVariants.{Enter, Exit}
use Rattle.machine.specs.declared.events.Name.{Name}
use Rattle.machine.specs.declared.states.StateName.{StateName}
use Rattle.machine.specs.Invariant.{Sound, next, retry, over}
use Rattle.machine.specs.Joins.{is_data, joined}
use Rattle.machine.specs.Laws.{event_at, Segment, events_of, Tiles, Tiled}
use Rattle.machine.specs.Moves.{Machine, settled}
use Rattle.machine.specs.Runs.{prepared, due, shown, Outcome, stopped, none_due, run}
use Rattle.machine.specs.States.{call}
use Rattle.machine.proofs.Facts.{sound_lawful}
use Rattle.machine.proofs.Turns.{choose_both, sound_passed, due-called, called-kept, run_sound}
use Rattle.calls.specs.EventLists.{span}
use Rattle.calls.proofs.Names.{data_is}
use Rattle.calls.proofs.Spans.{Leaf, AtEdges}
use Rattle.calls.proofs.Aside.{Aside, run_aside}

-- ---- spans with neighbouring data joined

-- x, which goes on over data that follows it if it is data, and the others
abbrev pub joined_onto : Segment → List Segment → List Segment
joined_onto x [] = x ∷ []
joined_onto x (y ∷ ys) =
    let on = joined_onto (span x.name x.from y.to) ys in
    let apart = joined_onto y ys in
    cond (is_data x.name && is_data y.name) on (x ∷ apart)

abbrev pub joined-spans : List Segment → List Segment
joined-spans [] = []
joined-spans (x ∷ xs) = joined_onto x xs

onto_tiles : (x : Segment) (ys : List Segment) (a b : ℕ) → x.from ≡ a → a < x.to → Tiles x.to b ys → Tiles a b (joined_onto x ys)
onto_tiles x [] a b e lt t = (e, lt, t)
onto_tiles x (y ∷ ys) a b e lt t =
    ⊎_elim
    (λ d. subst (Tiles a b) (sym (cond-true (is_data x.name && is_data y.name) _ _ d)) (onto_tiles (span x.name x.from y.to) ys a b e (omega (arith, t.1)) t.2))
    (λ d. subst (Tiles a b) (sym (cond-false (is_data x.name && is_data y.name) _ _ d)) (e, lt, onto_tiles y ys x.to b t.0 t.1 t.2))
    (cases_Bool (is_data x.name && is_data y.name))

pub joined-tiles : (xs : List Segment) (a b : ℕ) → Tiles a b xs → Tiles a b (joined-spans xs)
joined-tiles [] a b t = t
joined-tiles (x ∷ xs) a b t = onto_tiles x xs a b t.0 t.1 t.2

-- what two neighbours have, and so the one that they become
onto_all : (Q : Segment → Type 0) → ((x y : Segment) → Q x → Q y → Q (span x.name x.from y.to)) → (x : Segment) (ys : List Segment) → Q x → AllByRecursion Q ys → AllByRecursion Q (joined_onto x ys)
onto_all Q both x [] h k = (h, tt)
onto_all Q both x (y ∷ ys) h k =
    ⊎_elim
    (λ d. subst (AllByRecursion Q) (sym (cond-true (is_data x.name && is_data y.name) _ _ d)) (onto_all Q both (span x.name x.from y.to) ys (both x y h k.0) k.1))
    (λ d. subst (AllByRecursion Q) (sym (cond-false (is_data x.name && is_data y.name) _ _ d)) (h, onto_all Q both y ys k.0 k.1))
    (cases_Bool (is_data x.name && is_data y.name))

joined-all : (Q : Segment → Type 0) → ((x y : Segment) → Q x → Q y → Q (span x.name x.from y.to)) → (xs : List Segment) → AllByRecursion Q xs → AllByRecursion Q (joined-spans xs)
joined-all Q both [] h = tt
joined-all Q both (x ∷ xs) h = onto_all Q both x xs h.0 h.1

-- ---- and their events

onto_events : (note : List ℕ) (x : Segment) (ys : List Segment) → event_at note Enter x.name x.from ∷ joined (event_at note Exit x.name x.to ∷ events_of note ys) ≡ events_of note (joined_onto x ys)
onto_events note x [] = refl
onto_events note x (y ∷ ys) = go (is_data x.name) (is_data y.name) refl refl (onto_events note (span x.name x.from y.to) ys) (onto_events note y ys)
  where
    go : (p q : Bool) → is_data x.name ≡ p → is_data y.name ≡ q →
        event_at note Enter x.name x.from ∷ joined (event_at note Exit x.name y.to ∷ events_of note ys) ≡ events_of note (joined_onto (span x.name x.from y.to) ys) →
        event_at note Enter y.name y.from ∷ joined (event_at note Exit y.name y.to ∷ events_of note ys) ≡ events_of note (joined_onto y ys) →
        event_at note Enter x.name x.from ∷ cond ((true && p) && (true && q)) (joined (event_at note Exit y.name y.to ∷ events_of note ys)) (event_at note Exit x.name x.to ∷ (event_at note Enter y.name y.from ∷ joined (event_at note Exit y.name y.to ∷ events_of note ys)))
        ≡ events_of note (cond (p && q) (joined_onto (span x.name x.from y.to) ys) (x ∷ joined_onto y ys))
    go true true p q on apart =
        ap (λ (n : Name). event_at note Enter x.name x.from ∷ joined (event_at note Exit n y.to ∷ events_of note ys)) (data_is y.name q ∙ sym (data_is x.name p)) ∙ on
    go true false p q on apart = ap (λ (es : List Event). event_at note Enter x.name x.from ∷ event_at note Exit x.name x.to ∷ es) apart
    go false q p r on apart = ap (λ (es : List Event). event_at note Enter x.name x.from ∷ event_at note Exit x.name x.to ∷ es) apart

pub joined-events : (note : List ℕ) (xs : List Segment) → joined (events_of note xs) ≡ events_of note (joined-spans xs)
joined-events note [] = refl
joined-events note (x ∷ xs) = onto_events note x xs

-- ---- when the end is done

-- no name is open where nothing is due at the end
none_open : (s : List ℕ) {m : Machine} → Sound s m → none_due (due End m) ≡ true → m.names ≡ []
none_open s (next f) e = absurd (true≢false (sym e))
none_open s (retry f) e = absurd (true≢false (sym e))
none_open s (over p c) e = refl

none_due-none : (o : Option StateName) → o ≡ None → none_due o ≡ true
none_due-none o e = ap none_due e

pub done-names : (s : List ℕ) (member : ℕ → Bool) (allowance : ℕ) (m : Machine) → Sound s (settled m) → (run member End allowance m).done ≡ true → (run member End allowance m).after.names ≡ []
done-names s member zero m h e = none_open s (sound_passed s End h) e
done-names s member (suc allowance) m h e =
    choose_both (due End (prepared End m)) (λ (o : Outcome). o.done ≡ true → o.after.names ≡ []) (stopped (prepared End m) true) _
    (λ none _. none_open s (sound_passed s End h) (none_due-none (due End (prepared End m)) none))
    (λ n some. done-names s member allowance (call member n (shown (prepared End m))) (called-kept s member n (due-called s End h n some)))
    e

-- the events of spans that tile the text, none of them a Link, and none with an end between CR and LF
pub record Shaped (note : List ℕ) (es : List Event) : Type 0 where
  pub spans : List Segment
  pub to : ℕ
  pub tiles : Tiles 0 to spans
  pub inside : to ≤ length note
  pub leaves : AllByRecursion Leaf spans
  pub edges : AllByRecursion (AtEdges note) spans
  pub are : es ≡ events_of note spans

leaves_of : (note : List ℕ) (xs : List Segment) → Aside note (events_of note xs) → AllByRecursion Leaf xs
leaves_of note [] h = tt
leaves_of note (x ∷ xs) h = (h.0.no-link, leaves_of note xs h.1.1)

edges_of : (note : List ℕ) (xs : List Segment) → Aside note (events_of note xs) → AllByRecursion (AtEdges note) xs
edges_of note [] h = tt
edges_of note (x ∷ xs) h = ((h.0.edge, h.1.0.edge), edges_of note xs h.1.1)

tiled-shaped : (note : List ℕ) (es : List Event) (ns : List Name) → Tiled note es ns → ns ≡ [] → Aside note es → Shaped note (joined es)
tiled-shaped note es ns t none h =
    ⊎_elim
    (λ a.
    let xs = t.segments in
    let k = subst (Aside note) a.0 h in
    record {
      spans = joined-spans xs;
      to = t.to;
      tiles = joined-tiles xs 0 t.to t.tiles;
      inside = t.inside;
      leaves = joined-all Leaf (λ x y p q. p) xs (leaves_of note xs k);
      edges = joined-all (AtEdges note) (λ x y p q. (p.0, q.1)) xs (edges_of note xs k);
      are = ap joined a.0 ∙ joined-events note xs;
    })
    (λ a. absurd (omega (arith, ap (λ (l : List Name). length l) (sym none ∙ a.2))))
    t.are

pub end-shaped : (note : List ℕ) (member : ℕ → Bool) (allowance : ℕ) (m : Machine) → Sound note (settled m) → Aside m.note m.events → (run member End allowance m).done ≡ true → Shaped note (joined (run member End allowance m).after.events)
end-shaped note member allowance m h k e =
    let after = (run member End allowance m).after in
    let laws = sound_lawful (run_sound note member End allowance m h) in
    tiled-shaped note after.events after.names laws.tiled (done-names note member allowance m h e)
    (subst (λ s. Aside s after.events) laws.note (run_aside member End allowance m k))
