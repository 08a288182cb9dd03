-- The addresses of data of a note, found into a slice that has room for those of every note.
-- Assumes nothing.
use Rattle.std.proofs.Common.{◌≡◌, ℕ, ◌+◌, ◌*◌, ◌≤◌, List, [], ◌∷◌, ◌++◌, length, take, drop, Ok, Err, sym, ap, ◌∙◌, ⊎_elim, arith}
use Rattle.std.specs.List.{AllByRecursion}
use Rattle.std.proofs.lemmas.List.{take_at}
use Rattle.std.proofs.lemmas.Bool.{cond-true, le-leb}
use Rattle.text.specs.declared.refusals.Fault.{Fault}
use Rattle.text.specs.declared.refusals.Fault.TheVariants.{BufferTooShort}
use Rattle.text.specs.declared.spans.Span.{Span}
use Rattle.text.specs.Lent.{fits, written_count, overwritten}
use Rattle.rules.specs.InTurn.{InTextOrder}
use Rattle.rules.specs.MailLaws.{Address, EachIsAnAddress}
use Rattle.resolving.proofs.Consumed.{Front, not_both}

five_bytes : (s : List ℕ) (x : Span) → Address s x → x.from + 5 ≤ x.to
five_bytes s x a =
    let d = a.domain.dot_inside in
    ⊎_elim (λ e. omega (arith, a.local_part, e, d.0, d.1)) (λ r. omega (arith, a.local_part, r.1.1, d.0, d.1)) a.to_the_end

five_each : (s : List ℕ) (c : ℕ) (xs : List Span) → c ≤ length s → InTextOrder c xs → EachIsAnAddress s xs → c + 5 * length xs ≤ length s
five_each s c [] le o h = omega arith
five_each s c (x ∷ xs) le o h =
    let later = five_each s x.to xs h.0.within o.1 h.1 in
    omega (arith, o.0.0, five_bytes s x h.0)

pub all_inside : (s : List ℕ) (b : ℕ) (xs : List Span) → length s ≤ b → EachIsAnAddress s xs → AllByRecursion (λ x. x.to ≤ b) xs
all_inside s b [] le h = tt
all_inside s b (x ∷ xs) le h = (omega (arith, h.0.within), all_inside s b xs le h.1)

module _ (s : List ℕ) (xs lent : List Span) (o : InTextOrder 0 xs) (h : EachIsAnAddress s xs) (small : length s ≤ 1024) (room : length lent ≡ 204) where
  enough : length xs ≤ length lent
  enough = let five = five_each s 0 xs (omega arith) o h in omega arith

  accepted : written_count xs lent ≡ Ok (length xs)
  accepted = cond-true (fits xs lent) (Ok (length xs)) (Err (BufferTooShort (length xs))) (le-leb (length xs) (length lent) enough)

  pub not_refused : {Y : Type 0} (f : Fault) → Err f ≡ written_count xs lent → Y
  not_refused f e = not_both (length xs) f (written_count xs lent) e accepted

  pub found : (n : ℕ) (out : List Span) → Ok n ≡ written_count xs lent → out ≡ overwritten xs lent → Front xs lent out n
  found n out e w =
      let same : length xs ≡ n = cc (e, accepted) in
      record {
        count = sym same;
        inside = omega (arith, enough);
        written = ap (take n) (w ∙ cond-true (fits xs lent) (xs ++ drop (length xs) lent) lent (le-leb (length xs) (length lent) enough)) ∙ take_at xs (drop (length xs) lent) n same;
      }
