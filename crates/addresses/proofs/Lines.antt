-- The report, piece by piece and line by line.
-- Assumes nothing.
use Rattle.std.proofs.Common.{◌≡◌, ℕ, ◌+◌, ◌<◌, ◌≤◌, List, [], ◌∷◌, ◌++◌, length, get_or, take, sym, refl, ap, ◌∙◌, append_assoc, append-nil}
use Rattle.std.proofs.lemmas.List.{take_more, take_all}
use Rattle.text.specs.declared.spans.Span.{Span}
use Rattle.addresses.specs.Report.{address_line, address_lines, summary}

-- three pieces appended one after another; the first is given by another name
pub three_pieces : (a b c d x x' y z : List ℕ) → b ≡ a ++ x → x ≡ x' → c ≡ b ++ y → d ≡ c ++ z → d ≡ a ++ (x' ++ y ++ z)
three_pieces a b c d x x' y z p e q r =
    r ∙ ap (λ (l : List ℕ). l ++ z) (q ∙ ap (λ (l : List ℕ). l ++ y) (p ∙ ap (λ (l : List ℕ). a ++ l) e))
    ∙ ap (λ (l : List ℕ). l ++ z) (append_assoc a x' y)
    ∙ append_assoc a (x' ++ y) z

lines-append : (s : List ℕ) (xs ys : List Span) → address_lines s (xs ++ ys) ≡ address_lines s xs ++ address_lines s ys
lines-append s [] ys = refl
lines-append s (x ∷ xs) ys = ap (λ (l : List ℕ). address_line s x ++ l) (lines-append s xs ys) ∙ sym (append_assoc (address_line s x) (address_lines s xs) (address_lines s ys))

-- the lines of one span more
pub lines_more : (s : List ℕ) (xs : List Span) (i : ℕ) (d : Span) → i < length xs → address_lines s (take (i + 1) xs) ≡ address_lines s (take i xs) ++ address_line s (get_or xs i d)
lines_more s xs i d lt =
    ap (address_lines s) (take_more xs i d lt)
    ∙ lines-append s (take i xs) (get_or xs i d ∷ [])
    ∙ ap (λ (l : List ℕ). address_lines s (take i xs) ++ l) (append-nil (address_line s (get_or xs i d)))

-- a loop over the spans: one line more, and the summary after the last
pub line_after : (s : List ℕ) (xs : List Span) (i : ℕ) (d : Span) (v w : List ℕ) → i < length xs → v ≡ address_lines s (take i xs) → w ≡ v ++ address_line s (get_or xs i d) → w ≡ address_lines s (take (i + 1) xs)
line_after s xs i d v w lt e f = f ∙ ap (λ (l : List ℕ). l ++ address_line s (get_or xs i d)) e ∙ sym (lines_more s xs i d lt)

pub last_line : (s : List ℕ) (xs : List Span) (i : ℕ) (v w b : List ℕ) → length xs ≤ i → v ≡ address_lines s (take i xs) → b ≡ summary (length xs) (length s) → w ≡ v ++ b → w ≡ address_lines s xs ++ summary (length xs) (length s)
last_line s xs i v w b le e f g =
    g ∙ (λ j. (e ∙ ap (address_lines s) (take_all i xs le)) j ++ f j)
