-- Bytes written one part after another.
-- Assumes nothing.
use Rattle.std.proofs.Common.{◌≡◌, ℕ, ◌+◌, ◌≤◌, List, ◌++◌, length, take, drop, sym, refl, ap, ◌∙◌, arith}
use Rattle.std.proofs.lemmas.List.{append_assoc, length-append, length-take, drop-drop, take_at}
use Rattle.std.proofs.lemmas.Bool.{cond-true, le-leb}
use Rattle.std.proofs.Math.Seq.{drop-append-add}
use Rattle.text.specs.Lent.{fits, overwritten}
use Rattle.written.specs.Fronts.{placed}

-- the slice with these bytes at its front
abbrev pub front : List ℕ → List ℕ → List ℕ
front done lent = done ++ drop (length done) lent

pub placed-front : (done xs lent : List ℕ) → placed xs (length done) (front done lent) ≡ front (done ++ xs) lent
placed-front done xs lent =
    let rest = drop (length done) lent in
    let left : drop (length done + length xs) (done ++ rest) ≡ drop (length (done ++ xs)) lent =
    drop-append-add done rest (length xs) ∙ drop-drop (length xs) (length done) lent ∙ ap (λ n. drop n lent) (sym (length-append done xs)) in
    (λ i. take_at done rest (length done) refl i ++ (xs ++ left i))
    ∙ sym (append_assoc done xs (drop (length (done ++ xs)) lent))

placed-is : (xs lent : List ℕ) (at : ℕ) → at ≤ length lent → placed xs at lent ≡ front (take at lent ++ xs) lent
placed-is xs lent at le =
    let size : at + length xs ≡ length (take at lent ++ xs) = omega (arith, length-append (take at lent) xs, length-take at lent) in
    ap (λ n. take at lent ++ (xs ++ drop n lent)) size
    ∙ sym (append_assoc (take at lent) xs (drop (length (take at lent ++ xs)) lent))

-- one part after another is both at once
pub placed-placed : (xs ys lent : List ℕ) (at : ℕ) → at + length xs ≤ length lent → placed ys (at + length xs) (placed xs at lent) ≡ placed (xs ++ ys) at lent
placed-placed xs ys lent at le =
    let le' : at ≤ length lent = omega arith in
    let done = take at lent ++ xs in
    let size : at + length xs ≡ length (take at lent ++ xs) = omega (arith, length-append (take at lent) xs, length-take at lent) in
    (λ i. placed ys (size i) (placed-is xs lent at le' i))
    ∙ placed-front done ys lent
    ∙ ap (λ l. front l lent) (append_assoc (take at lent) xs ys)
    ∙ sym (placed-is (xs ++ ys) lent at le')

pub front-overwritten : (xs lent : List ℕ) → length xs ≤ length lent → front xs lent ≡ overwritten xs lent
front-overwritten xs lent le = sym (cond-true (fits xs lent) (front xs lent) lent (le-leb (length xs) (length lent) le))

-- three parts, each where the one before it ends
pub placed-three : (xs ys zs lent one two three : List ℕ) (at a b : ℕ) → at + length (xs ++ (ys ++ zs)) ≤ length lent → length one ≡ length lent → a ≡ at + length xs → b ≡ a + length ys → one ≡ placed xs at lent → two ≡ placed ys a one → three ≡ placed zs b two → three ≡ placed (xs ++ (ys ++ zs)) at lent
placed-three xs ys zs lent one two three at a b room same a-is b-is e f g =
    let first : at + length xs ≤ length lent = omega (arith, length-append xs (ys ++ zs)) in
    let second : a + length ys ≤ length one = omega (arith, length-append xs (ys ++ zs), length-append ys zs) in
    g
    ∙ (λ i. placed zs (b-is i) (f i))
    ∙ placed-placed ys zs one a second
    ∙ (λ i. placed (ys ++ zs) (a-is i) (e i))
    ∙ placed-placed xs (ys ++ zs) lent at first

-- what a call that writes xs at a place leaves: the slice, and the place after xs
pub record Puts (xs lent : List ℕ) (at : ℕ) (after : List ℕ) (end : ℕ) : Type 0 where
  pub next : end ≡ at + length xs
  pub written : after ≡ placed xs at lent

pub puts-both : (xs ys lent one two : List ℕ) (at a b : ℕ) → at + length xs ≤ length lent → Puts xs lent at one a → Puts ys one a two b → Puts (xs ++ ys) lent at two b
puts-both xs ys lent one two at a b room x y = record {
  next = y.next ∙ ap (λ n. n + length ys) x.next ∙ omega (arith, length-append xs ys);
  written = y.written ∙ (λ i. placed ys (x.next i) (x.written i)) ∙ placed-placed xs ys lent at room;
}
