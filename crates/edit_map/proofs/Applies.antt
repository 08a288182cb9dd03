-- The turns of the pass that makes the edits.
-- Assumes nothing.
use Rattle.std.proofs.Common.{◌≡◌, ℕ, ◌+◌, ◌-◌, ◌<◌, ◌≤◌, List, ◌∷◌, ◌++◌, length, get_or, take, drop, sym, refl, ap, ◌∙◌, subst, arith}
use Rattle.std.proofs.lemmas.List.{append_assoc, length-append, length-drop, length-take-le, take-append-drop, take_all, drop_all, drop-drop, drop_more}
use Rattle.edit_map.specs.declared.entries.Entry.{Entry}
use Rattle.edit_map.specs.Edits.{applied, applied_from}
use Rattle.edit_map.specs.Entries.{entry, total, edits}
use Rattle.edit_map.specs.Laws.{InOrder}

-- what is equal from some place on is equal from every later one
drop-on : {A : Type 0} (m n : ℕ) (xs ys : List A) → m ≤ n → drop m xs ≡ drop m ys → drop n xs ≡ drop n ys
drop-on m n xs ys le e =
    let sum : m + (n - m) ≡ n = omega arith in
    ap (λ k. drop k xs) (sym sum) ∙ sym (drop-drop (n - m) m xs) ∙ ap (drop (n - m)) e ∙ drop-drop (n - m) m ys ∙ ap (λ k. drop k ys) sum

module _ {A : Type 0} (es : List Entry) (store list old : List A) where
  -- before the entry k: the edits left are to be made in the list from `from` on, with the store from `used` on, and
  -- the first `end` elements of `out` are written
  pub record Left (k from used end : ℕ) (out : List A) : Type 0 where
    pub whole : take end out ++ applied_from from (edits (drop k es) (drop used store)) (drop from list) ≡ applied (edits es store) list
    pub order : InOrder from (length list) (edits (drop k es) (drop used store))
    pub within : from ≤ length list
    pub rest : total (drop k es) + used ≤ length store
    pub far : end ≤ length out
    pub same : length out ≡ length old
    pub tail : drop end out ≡ drop end old

  pub start : InOrder 0 (length list) (edits es store) → total es ≤ length store → Left 0 0 0 0 old
  start order stored = record { whole = refl; order = order; within = omega arith; rest = omega arith; far = omega arith; same = refl; tail = refl }

  module _ (k from used end : ℕ) (out : List A) (lt : k < length es) (room : length (applied (edits es store) list) ≤ length old) (left : Left k from used end out) where
    abbrev here : Entry
    here = get_or es k (entry 0 0 0)

    next : drop k es ≡ get_or es k (entry 0 0 0) ∷ drop (k + 1) es
    next = drop_more es k (entry 0 0 0) lt

    order : InOrder from (length list) (edits (get_or es k (entry 0 0 0) ∷ drop (k + 1) es) (drop used store))
    order = subst (λ (l : List Entry). InOrder from (length list) (edits l (drop used store))) next left.order

    stored : here.size + total (drop (k + 1) es) + used ≤ length store
    stored = omega (arith, ap total next, left.rest)

    whole : take end out ++ (take (here.place - from) (drop from list) ++ (take here.size (drop used store) ++ applied_from (here.place + here.count) (edits (drop (k + 1) es) (drop here.size (drop used store))) (drop (here.place - from + here.count) (drop from list)))) ≡ applied (edits es store) list
    whole = ap (λ l. take end out ++ applied_from from (edits l (drop used store)) (drop from list)) (sym next) ∙ left.whole

    -- what the turn reads lies in the list and in the store, and what it writes in `out`
    pub record Turn : Type 0 where
      pub forward : from ≤ here.place
      pub run : here.place + here.count ≤ length list
      pub taken : used + here.size ≤ length store
      pub first : end + length (take (here.place - from) (drop from list)) ≤ length out
      pub both : end + length (take (here.place - from) (drop from list)) + length (take (used + here.size - used) (drop used store)) ≤ length out

    pub turn : Turn
    turn =
        let a = take (here.place - from) (drop from list) in
        let b = take here.size (drop used store) in
        let r = applied_from (here.place + here.count) (edits (drop (k + 1) es) (drop here.size (drop used store))) (drop (here.place - from + here.count) (drop from list)) in
        let la : length a ≡ here.place - from = length-take-le (here.place - from) (drop from list) (simp length-drop (omega (arith, order.0, order.1))) in
        let lb : length b ≡ here.size = length-take-le here.size (drop used store) (simp length-drop (omega (arith, stored))) in
        let size : used + here.size - used ≡ here.size = omega arith in
        let lb' : length (take (used + here.size - used) (drop used store)) ≡ length (take here.size (drop used store)) = ap (λ n. length (take n (drop used store))) size in
        let le : length (take end out) ≡ end = length-take-le end out left.far in
        let sum = ap length whole in
        let s₁ = length-append (take end out) (a ++ (b ++ r)) in
        let s₂ = length-append a (b ++ r) in
        let s₃ = length-append b r in
        record { forward = order.0; run = order.1; taken = omega (arith, stored); first = omega (arith, left.same); both = omega (arith, left.same) }

    more-at : (end₁ end₂ : ℕ) (out₁ out₂ : List A) → end₁ ≡ end + length (take (here.place - from) (drop from list)) → take end₁ out₁ ≡ take end out ++ take (here.place - from) (drop from list) → drop end₁ out₁ ≡ drop end₁ out → length out₁ ≡ length out → end₂ ≡ end₁ + length (take (used + here.size - used) (drop used store)) → take end₂ out₂ ≡ take end₁ out₁ ++ take (used + here.size - used) (drop used store) → drop end₂ out₂ ≡ drop end₂ out₁ → length out₂ ≡ length out₁ → Left (k + 1) (here.place + here.count) (used + here.size) end₂ out₂
    more-at end₁ end₂ out₁ out₂ at₁ front₁ tail₁ same₁ at₂ front₂ tail₂ same₂ =
        let t = turn in
        let a = take (here.place - from) (drop from list) in
        let b = take here.size (drop used store) in
        let size : used + here.size - used ≡ here.size = omega arith in
        let on : from + (here.place - from + here.count) ≡ here.place + here.count = omega (arith, t.forward) in
        let r = applied_from (here.place + here.count) (edits (drop (k + 1) es) (drop here.size (drop used store))) (drop (here.place - from + here.count) (drop from list)) in
        let moved : applied_from (here.place + here.count) (edits (drop (k + 1) es) (drop (used + here.size) store)) (drop (here.place + here.count) list) ≡ r =
        (λ i. applied_from (here.place + here.count) (edits (drop (k + 1) es) (sym (drop-drop here.size used store) i)) (◌∙◌ (ap (λ j. drop j list) (sym on)) (sym (drop-drop (here.place - from + here.count) from list)) i)) in
        let written : take end₂ out₂ ≡ (take end out ++ a) ++ b = front₂ ∙ (λ i. front₁ i ++ take (size i) (drop used store)) in
        record {
          whole = (λ i. written i ++ moved i) ∙ append_assoc (take end out ++ a) b r ∙ append_assoc (take end out) a (b ++ r) ∙ whole;
          order = subst (λ (l : List A). InOrder (here.place + here.count) (length list) (edits (drop (k + 1) es) l)) (drop-drop here.size used store) order.2;
          within = t.run;
          rest = omega (arith, stored);
          far = omega (arith, t.both);
          same = same₂ ∙ same₁ ∙ left.same;
          tail = tail₂ ∙ drop-on end₁ end₂ out₁ out (omega arith) tail₁ ∙ drop-on end end₂ out old (omega arith) left.tail;
        }

    pub more : (from₁ end₁ end₂ : ℕ) (out₁ out₂ : List A) → from₁ ≡ here.place + here.count → end₁ ≡ end + length (take (here.place - from) (drop from list)) → take end₁ out₁ ≡ take end out ++ take (here.place - from) (drop from list) → drop end₁ out₁ ≡ drop end₁ out → length out₁ ≡ length out → end₂ ≡ end₁ + length (take (used + here.size - used) (drop used store)) → take end₂ out₂ ≡ take end₁ out₁ ++ take (used + here.size - used) (drop used store) → drop end₂ out₂ ≡ drop end₂ out₁ → length out₂ ≡ length out₁ → Left (k + 1) from₁ (used + here.size) end₂ out₂
    more from₁ end₁ end₂ out₁ out₂ is at₁ front₁ tail₁ same₁ at₂ front₂ tail₂ same₂ =
        subst (λ (f : ℕ). Left (k + 1) f (used + here.size) end₂ out₂) (sym is) (more-at end₁ end₂ out₁ out₂ at₁ front₁ tail₁ same₁ at₂ front₂ tail₂ same₂)

  -- at the end the list from `from` on is left
  pub record Done (end : ℕ) (out : List A) : Type 0 where
    pub size : end ≡ length (applied (edits es store) list)
    pub written : out ≡ applied (edits es store) list ++ drop (length (applied (edits es store) list)) old

  module _ (k from used end : ℕ) (out : List A) (all : length es ≤ k) (left : Left k from used end out) where
    last : take end out ++ drop from list ≡ applied (edits es store) list
    last = ap (λ l. take end out ++ applied_from from (edits l (drop used store)) (drop from list)) (sym (drop_all k es all)) ∙ left.whole

    last_part : take (length list - from) (drop from list) ≡ drop from list
    last_part = take_all (length list - from) (drop from list) (simp length-drop (omega arith))

    pub last_room : length (applied (edits es store) list) ≤ length old → end + length (take (length list - from) (drop from list)) ≤ length out
    last_room room =
        let rest = ap length last_part in
        let sum = ap length last in
        let s₁ = length-append (take end out) (drop from list) in
        let s₂ = length-drop from list in
        let s₃ = length-take-le end out left.far in
        omega (arith, left.same)

    pub finish : (end₁ : ℕ) (out₁ : List A) → end₁ ≡ end + length (take (length list - from) (drop from list)) → take end₁ out₁ ≡ take end out ++ take (length list - from) (drop from list) → drop end₁ out₁ ≡ drop end₁ out → Done end₁ out₁
    finish end₁ out₁ at front tail =
        let rest = ap length last_part in
        let whole = front ∙ ap (λ l. take end out ++ l) last_part ∙ last in
        let sum = ap length last in
        let s₁ = length-append (take end out) (drop from list) in
        let s₂ = length-drop from list in
        let s₃ = length-take-le end out left.far in
        let size : end₁ ≡ length (applied (edits es store) list) = omega arith in
        record {
          size = size;
          written = sym (take-append-drop end₁ out₁) ∙ (λ i. whole i ++ drop end₁ out₁) ∙ ap (λ l. applied (edits es store) list ++ l) (tail ∙ drop-on end end₁ out old (omega arith) left.tail ∙ ap (λ n. drop n old) size);
        }
