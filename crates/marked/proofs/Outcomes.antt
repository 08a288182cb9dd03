-- The ends of the call that writes the marked copy of a note.
-- Assumes nothing.
use Rattle.std.proofs.Common.{◌≡◌, ℕ, ◌+◌, ◌*◌, ◌≤◌, Bool, true, false, cond, leb, List, [], ◌∷◌, ◌++◌, length, take, drop, IfOk, IfErr, Ok, Err, Result, sym, refl, ap, ◌∙◌, subst, ⊎_elim, arith}
use Rattle.std.proofs.lemmas.List.{take_at}
use Rattle.std.proofs.lemmas.Bool.{cond-true, leb-false, le-leb, ltb-false}
use Rattle.text.specs.declared.refusals.Fault.{Fault}
use Rattle.text.specs.declared.refusals.Fault.TheVariants.{NoteTooLong, BufferTooShort}
use Rattle.text.specs.declared.spans.Span.{Span}
use Rattle.text.specs.Lent.{fits, room_for, written_count, overwritten}
use Rattle.text.specs.Notes.{too_long}
use Rattle.edit_map.specs.declared.map.EditMap.{EditMap}
use Rattle.edit_map.specs.View.{AsNew}
use Rattle.rules.specs.InTurn.{InTextOrder}
use Rattle.rules.specs.MailLaws.{Address, EachIsAnAddress}
use Rattle.rules.specs.Notes.{note_addresses, note_answer, note_written}
use Rattle.marked.specs.Marked.{marked_copy, Faithful}
use Rattle.text.proofs.Rooms.{enough_room}
use Rattle.marked.specs.Marks.{IsInTurn}
use Rattle.marked.proofs.Copied.{length-copy, copy-unmarked}

-- ---- how many addresses a note has

pub five_bytes : (s : List ℕ) (x : Span) → Address s x → x.from + 5 ≤ x.to
five_bytes s x a =
    let d = a.domain.dot_inside in
    ⊎_elim (λ e. omega (arith, a.local_part, e, d.0, d.1)) (λ r. omega (arith, a.local_part, r.1.1, d.0, d.1)) a.to_the_end

five_each : (s : List ℕ) (c : ℕ) (xs : List Span) → c ≤ length s → InTextOrder c xs → EachIsAnAddress s xs → c + 5 * length xs ≤ length s
five_each s c [] le o h = omega arith
five_each s c (x ∷ xs) le o h =
    let later = five_each s x.to xs h.0.within o.1 h.1 in
    omega (arith, o.0.0, five_bytes s x h.0)

in_turn : (s : List ℕ) (c : ℕ) (xs : List Span) → InTextOrder c xs → EachIsAnAddress s xs → IsInTurn c (length s) xs
in_turn s c [] o h = tt
in_turn s c (x ∷ xs) o h = (o.0.0, omega (arith, o.0.1), h.0.within, in_turn s x.to xs o.1 h.1)

-- ---- what is known of a note's addresses

pub record Known (s : List ℕ) : Type 0 where
  pub turn : IsInTurn 0 (length s) (note_addresses s)
  pub faithful : Faithful s

pub known : (s : List ℕ) → InTextOrder 0 (note_addresses s) → EachIsAnAddress s (note_addresses s) → Known s
known s o h =
    let t = in_turn s 0 (note_addresses s) o h in
    let five = five_each s 0 (note_addresses s) (omega arith) o h in
    record { turn = t; faithful = record { few = omega arith; size = length-copy s (note_addresses s) t; only_marks = copy-unmarked s (note_addresses s) t } }

not_both : {X : Type 0} (n : ℕ) (f : Fault) → ◌≡◌ {A = Result ℕ Fault} (Ok n) (Err f) → X
not_both n f e = let z : ◌≡◌ {A = ℕ} 0 1 = cc in absurd (omega arith)

-- ---- the ends of a copy of spans

-- what holds when the call returns: m and out are the map and the slice before it, m' and out' after it
pub record Outcome (m m' : EditMap) (s : List ℕ) (xs : List Span) (out out' : List ℕ) (r : Result ℕ Fault) : Type 0 where
  pub answer : r ≡ written_count (marked_copy s xs) out
  pub written : out' ≡ overwritten (marked_copy s xs) out
  pub as_new : IfOk r (λ _. AsNew m')
  pub refused : IfErr r (λ _. m' ≡ m)

module _ (m : EditMap) (s : List ℕ) (xs : List Span) (out : List ℕ) (t : IsInTurn 0 (length s) xs) where
  short_as : (f : Fault) (b : Bool) (ys : List ℕ) → Err f ≡ cond b (Ok (length ys)) (Err (BufferTooShort (length ys))) → out ≡ cond b (ys ++ drop (length ys) out) out
  short_as f true ys h = not_both (length ys) f (sym h)
  short_as f false ys h = refl

  pub short : (f : Fault) (r : Result ℕ Fault) → r ≡ Err f → Err f ≡ room_for (length s + 3 * length xs) (length out) → Outcome m m s xs out out r
  short f r is e =
      let copy = marked_copy s xs in
      let h : Err f ≡ written_count (marked_copy s xs) out = e ∙ ap (λ j. room_for j (length out)) (sym (length-copy s xs t)) in
      subst (Outcome m m s xs out out) (sym is) (record { answer = h; written = short_as f (fits copy out) copy h; as_new = tt; refused = refl })

  pub enough : (j : ℕ) → Ok j ≡ room_for (length s + 3 * length xs) (length out) → length (marked_copy s xs) ≤ length out
  enough j e = omega (arith, (enough_room (length s + 3 * length xs) (length out) j e).0, length-copy s xs t)

  pub copied : (m' : EditMap) (out' : List ℕ) (r : Result ℕ Fault) → length (marked_copy s xs) ≤ length out → r ≡ Ok (length (marked_copy s xs)) → out' ≡ overwritten (marked_copy s xs) out → AsNew m' → Outcome m m' s xs out out' r
  copied m' out' r room ok written new =
      let copy = marked_copy s xs in
      subst (Outcome m m' s xs out out') (sym ok) (record {
        answer = sym (cond-true (fits copy out) (Ok (length copy)) (Err (BufferTooShort (length copy))) (le-leb (length copy) (length out) room));
        written = written;
        as_new = new;
        refused = tt;
      })

-- ---- what the accepted calls tell

pub record Found (s : List ℕ) (n : ℕ) (found : List Span) : Type 0 where
  pub not_long : too_long s ≡ false
  pub count : n ≡ length (note_addresses s)
  pub spans : take n found ≡ note_addresses s

found_as : (s : List ℕ) (lent out : List Span) (n : ℕ) (long short : Bool) → too_long s ≡ long → Ok n ≡ cond long (Err NoteTooLong) (cond short (Ok (length (note_addresses s))) (Err (BufferTooShort (length (note_addresses s))))) → out ≡ cond long lent (cond short (note_addresses s ++ drop (length (note_addresses s)) lent) lent) → Found s n out
found_as s lent out n true short l e w = not_both n NoteTooLong e
found_as s lent out n false false l e w = not_both n (BufferTooShort (length (note_addresses s))) e
found_as s lent out n false true l e w =
    let same : n ≡ length (note_addresses s) = cc in
    record { not_long = l; count = same; spans = ap (take n) w ∙ take_at (note_addresses s) (drop (length (note_addresses s)) lent) n (sym same) }

pub found : (s : List ℕ) (lent out : List Span) (n : ℕ) → Ok n ≡ note_answer s lent → out ≡ note_written s lent → Found s n out
found s lent out n e w = found_as s lent out n (too_long s) (leb (length (note_addresses s)) (length lent)) refl e w

-- the slice of spans has room for the addresses of every note that is not too long
refused_as : (s : List ℕ) (k : Known s) (lent : List Span) (f : Fault) (long short : Bool) → too_long s ≡ long → leb (length (note_addresses s)) (length lent) ≡ short → length lent ≡ 204 → Err f ≡ cond long (Err NoteTooLong) (cond short (Ok (length (note_addresses s))) (Err (BufferTooShort (length (note_addresses s))))) → (f ≡ NoteTooLong) × (too_long s ≡ true)
refused_as s k lent f true short l h room e = (cc, l)
refused_as s k lent f false true l h room e = not_both (length (note_addresses s)) f (sym e)
refused_as s k lent f false false l h room e =
    absurd (omega (arith, leb-false (length (note_addresses s)) (length lent) h, k.faithful.few, ltb-false 1024 (length s) l))

pub refused : (s : List ℕ) (k : Known s) (lent : List Span) (f : Fault) → length lent ≡ 204 → Err f ≡ note_answer s lent → (f ≡ NoteTooLong) × (too_long s ≡ true)
refused s k lent f room e = refused_as s k lent f (too_long s) (leb (length (note_addresses s)) (length lent)) refl refl room e

-- what the marking asks of the spans that were found
pub record Ready (s : List ℕ) (ys : List Span) : Type 0 where
  pub short : length s ≤ 1024
  pub few : length ys ≤ 341
  pub turn : IsInTurn 0 (length s) ys

pub ready : (s : List ℕ) (n : ℕ) (lent : List Span) → Known s → Found s n lent → Ready s (take n lent)
ready s n lent k f =
    let small = ltb-false 1024 (length s) f.not_long in
    record {
      short = small;
      few = subst (λ (ys : List Span). length ys ≤ 341) (sym f.spans) (omega (arith, k.faithful.few, small));
      turn = subst (IsInTurn 0 (length s)) (sym f.spans) k.turn;
    }
