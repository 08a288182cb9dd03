-- The two passes resolve.
-- Assumes nothing.
use Rattle.std.proofs.Common.{◌≡◌, ℕ, Bool, true, false, cond, not, List, [], ◌∷◌, ◌++◌, sym, refl, ap, ◌∙◌, subst, append-nil}
use Rattle.std.specs.List.{AllByRecursion}
use Rattle.std.proofs.lemmas.List.{append_assoc}
use Rattle.std.proofs.lemmas.Bool.{cond-false}
use Rattle.machine.specs.declared.events.Event.{Event}
use Rattle.machine.specs.declared.events.EventKind.TheVariants.{Enter, Exit}
use Rattle.machine.specs.declared.events.Name.TheVariants as name
use Rattle.machine.specs.Joins.{is_data}
use Rattle.machine.specs.Laws.{event_at, Segment, events_of}
use Rattle.calls.specs.EventLists.{is_link}
use Rattle.calls.specs.Links.{filled, mail_in, split, splits}
use Rattle.calls.specs.Passes.{mail_cut, TwoPassesResolve}
use Rattle.calls.proofs.Spans.{Leaf}
use Rattle.calls.proofs.GroupLists.{all_split}
use Rattle.calls.proofs.Groups.{Groups, rest, group, flat, begin, finish, group_events, group_linked, Grouped, grouped}

module _ (note : List ℕ) where
  events-append : (xs ys : List Segment) → events_of note (xs ++ ys) ≡ events_of note xs ++ events_of note ys
  events-append [] ys = refl
  events-append (x ∷ xs) ys = ap (λ es. event_at note Enter x.name x.from ∷ event_at note Exit x.name x.to ∷ es) (events-append xs ys)

  -- inside a Link nothing is cut
  cut_inside : (xs : List Segment) (es : List Event) → AllByRecursion Leaf xs → mail_cut note true (events_of note xs ++ es) ≡ events_of note xs ++ mail_cut note true es
  cut_inside [] es h = refl
  cut_inside (x ∷ xs) es h =
      cond-false (is_link x.name) _ _ h.0
      ∙ ap (λ t. event_at note Enter x.name x.from ∷ event_at note Exit x.name x.to ∷ t) (cut_inside xs es h.1)

  -- outside, each span is split
  cut_outside : (xs : List Segment) (es : List Event) → AllByRecursion Leaf xs → mail_cut note false (events_of note xs ++ es) ≡ events_of note (splits note xs) ++ mail_cut note false es
  cut_outside [] es h = refl
  cut_outside (x ∷ xs) es h =
      cond-false (is_link x.name) _ _ h.0
      ∙ go (is_data x.name) (cut_outside xs es h.1)
      ∙ ap (λ t. t ++ mail_cut note false es) (sym (events-append (split note x) (splits note xs)))
    where
      go : (d : Bool) → mail_cut note false (events_of note xs ++ es) ≡ events_of note (splits note xs) ++ mail_cut note false es →
          cond (not d) (event_at note Enter x.name x.from ∷ event_at note Exit x.name x.to ∷ mail_cut note false (events_of note xs ++ es)) (events_of note (cond d (filled x.from (mail_in note x) x.to) (x ∷ [])) ++ mail_cut note false (events_of note xs ++ es))
          ≡ (events_of note (cond d (filled x.from (mail_in note x) x.to) (x ∷ [])) ++ events_of note (splits note xs)) ++ mail_cut note false es
      go true rec =
          ap (λ t. events_of note (filled x.from (mail_in note x) x.to) ++ t) rec
          ∙ sym (append_assoc (events_of note (filled x.from (mail_in note x) x.to)) (events_of note (splits note xs)) (mail_cut note false es))
      go false rec = ap (λ t. event_at note Enter x.name x.from ∷ event_at note Exit x.name x.to ∷ t) rec

  -- an event of a Link stays, and tells whether the Link is open from there on
  cut_enter : (b : Bool) (i : ℕ) (e : Event) (es : List Event) → mail_cut note b (event_at note Enter name.Link i ∷ e ∷ es) ≡ event_at note Enter name.Link i ∷ mail_cut note true (e ∷ es)
  cut_enter b i e es = refl

  cut_exit : (b : Bool) (i : ℕ) (es : List Event) → mail_cut note b (event_at note Exit name.Link i ∷ es) ≡ event_at note Exit name.Link i ∷ mail_cut note false es
  cut_exit b i [] = refl
  cut_exit b i (e ∷ es) = refl

  cut-run : (b : Bool) (i j : ℕ) (ys : List Segment) (es : List Event) → AllByRecursion Leaf ys →
      mail_cut note b (event_at note Enter name.Link i ∷ (events_of note ys ++ (event_at note Exit name.Link j ∷ es)))
      ≡ event_at note Enter name.Link i ∷ (events_of note ys ++ (event_at note Exit name.Link j ∷ mail_cut note false es))
  cut-run b i j [] es h = ap (λ t. event_at note Enter name.Link i ∷ t) (cut_exit true j es)
  cut-run b i j (y ∷ ys) es h =
      ap (λ t. event_at note Enter name.Link i ∷ t)
      (cut_inside (y ∷ ys) (event_at note Exit name.Link j ∷ es) h ∙ ap (λ t. events_of note (y ∷ ys) ++ t) (cut_exit true j es))

  cut_groups : (g : Groups) → AllByRecursion Leaf (flat g) → mail_cut note false (group_linked note g) ≡ group_events note g
  cut_groups (rest xs) h =
      ap (mail_cut note false) (sym (append-nil (events_of note xs))) ∙ cut_outside xs [] h ∙ append-nil (events_of note (splits note xs))
  cut_groups (group xs ys g) h =
      let a = all_split Leaf xs (ys ++ flat g) h in
      let b = all_split Leaf ys (flat g) a.1 in
      let inner = event_at note Enter name.Link (begin ys) ∷ (events_of note ys ++ (event_at note Exit name.Link (finish ys) ∷ group_linked note g)) in
      cut_outside xs inner a.0
      ∙ ap (λ t. events_of note (splits note xs) ++ t)
      (cut-run false (begin ys) (finish ys) ys (group_linked note g) b.0
      ∙ ap (λ t. event_at note Enter name.Link (begin ys) ∷ (events_of note ys ++ (event_at note Exit name.Link (finish ys) ∷ t))) (cut_groups g b.1))

pub two_passes_resolve : TwoPassesResolve
two_passes_resolve note xs ls h ok =
    let by : Grouped note xs 0 ls = grouped note xs ls 0 ok in
    ap (mail_cut note false) by.linked_are ∙ cut_groups note by.groups (subst (AllByRecursion Leaf) (sym by.flat_are) h) ∙ sym by.events_are
