-- A listing has a line for each event.
-- Assumes nothing.
use Rattle.std.proofs.Common.{◌≡◌, ℕ, zero, suc, ◌+◌, ◌/◌, ◌%◌, ◌≤◌, true, false, cond, eqb, ltb, List, [], ◌∷◌, ◌++◌, refl, ◌∙◌, ⊎_elim, arith}
use Rattle.std.specs.Prelude.{count_by, codes, decimal}
use Rattle.std.specs.Fmt.{digits, digits_onto, digit_glyph}
use Rattle.std.proofs.lemmas.Bool.{cond-true, cond-false, lt-ltb, eqb-true, cases_Bool}
use Rattle.std.proofs.lemmas.List.Sums.{sum_by-append}
use Rattle.text.specs.declared.spans.SpanKind.TheVariants.{Www, Protocol, Email, Mailto, Xmpp}
use Rattle.machine.specs.declared.events.Event.{Event}
use Rattle.machine.specs.declared.events.EventKind.{EventKind}
use Rattle.machine.specs.declared.events.EventKind.TheVariants.{Enter, Exit}
use Rattle.machine.specs.declared.events.Name.{Name}
use Rattle.machine.specs.declared.events.Name.TheVariants as name
use Rattle.written.specs.Listing.{edge_shown, name_shown, event_shown, newline, event_lines, ALineForEachEvent}

abbrev line_ends : List ℕ → ℕ
line_ends bs = count_by (λ b. eqb b 10) bs

line_ends-append : (xs ys : List ℕ) → line_ends (xs ++ ys) ≡ line_ends xs + line_ends ys
line_ends-append xs ys = sum_by-append (λ b. cond (eqb b 10) 1 0) xs ys

-- bytes with no line end among them
record Within (bs : List ℕ) : Type 0 where
  none : line_ends bs ≡ 0

both : {xs ys : List ℕ} → Within xs → Within ys → Within (xs ++ ys)
both {xs} {ys} x y = record { none = omega (arith, line_ends-append xs ys, x.none, y.none) }

-- ---- numbers

no_end : (b : ℕ) (bs : List ℕ) → 48 ≤ b → line_ends (b ∷ bs) ≡ line_ends bs
no_end b bs le =
    ⊎_elim
    (λ t. absurd (omega (arith, eqb-true b 10 t)))
    (λ f. omega (arith, line_ends-append (b ∷ []) bs, cond-false {A = ℕ} (eqb b 10) 1 0 f))
    (cases_Bool (eqb b 10))

glyph : (n : ℕ) → digit_glyph false (n % 10) ≡ 48 + n % 10
glyph n = cond-true (ltb (n % 10) 10) (48 + n % 10) (87 + n % 10) (lt-ltb (n % 10) 10 (omega arith))

no_digit_ends : (k n : ℕ) (bs : List ℕ) → line_ends (digits_onto k 10 false n bs) ≡ line_ends bs
no_digit_ends zero n bs = refl
no_digit_ends (suc k) n bs =
    let b = digit_glyph false (n % 10) in
    let here : line_ends (digit_glyph false (n % 10) ∷ bs) ≡ line_ends bs = no_end b bs (omega (arith, glyph n)) in
    elim (eqb (n / 10) 0) as (λ v. line_ends (cond v (b ∷ bs) (digits_onto k 10 false (n / 10) (b ∷ bs))) ≡ line_ends bs) [
      | true ↦ here
      | false ↦ no_digit_ends k (n / 10) (b ∷ bs) ∙ here
    ]

decimal_within : (n : ℕ) → Within (decimal n)
unfolding digits
decimal_within n = record { none = no_digit_ends 64 n [] }

-- ---- words

edge_within : (kind : EventKind) → Within (edge_shown kind)
edge_within Enter = record { none = refl }
edge_within Exit = record { none = refl }

name_within : (n : Name) → Within (name_shown n)
name_within name.Data = record { none = refl }
name_within name.LineEnding = record { none = refl }
name_within name.Link = record { none = refl }
name_within (name.Address Www) = record { none = refl }
name_within (name.Address Protocol) = record { none = refl }
name_within (name.Address Email) = record { none = refl }
name_within (name.Address Mailto) = record { none = refl }
name_within (name.Address Xmpp) = record { none = refl }

-- ---- lines

event_within : (e : Event) → Within (event_shown e)
event_within e =
    let space : Within (codes " ") = record { none = refl } in
    let colon : Within (codes ":") = record { none = refl } in
    both (edge_within e.kind) (both space (both (name_within e.name) (both space (
    both (decimal_within e.point.line) (both colon (both (decimal_within e.point.column) (both space (decimal_within e.point.index))))))))

pub a_line_for_each_event : (es : List Event) → ALineForEachEvent es
a_line_for_each_event [] = refl
a_line_for_each_event (e ∷ es) =
    let rest = a_line_for_each_event es in
    omega (arith, line_ends-append (event_shown e ++ newline) (event_lines es), line_ends-append (event_shown e) newline, (event_within e).none)
