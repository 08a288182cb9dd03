-- The addresses that the mail rules name in data lie one after another in it, are not empty, and have kinds of mail.
-- Data split around them covers what the data covered.
-- Assumes nothing.
use Rattle.std.proofs.Common.{◌≡◌, ℕ, zero, suc, ◌+◌, ◌-◌, ◌<◌, ◌≤◌, true, false, cond, eqb, List, [], ◌∷◌, map, length, get_or, Some, None, codes, Option, refl, subst, ⊎_elim, arith}
use Rattle.std.specs.List.{AllByRecursion}
use Rattle.std.proofs.ByRecursion.{All-append}
use Rattle.std.proofs.lemmas.Bool.{cases_lt, cond_both, not_from_false}
use Rattle.text.specs.declared.spans.Span.{Span}
use Rattle.text.specs.declared.spans.SpanKind.{SpanKind}
use Rattle.text.specs.declared.spans.SpanKind.TheVariants.{Email, Mailto, Xmpp}
use Rattle.text.specs.Ascii.{letter_or_digit, reads}
use Rattle.text.specs.Bytes.{part, run_start}
use Rattle.rules.specs.InTurn.{next, then_from_its_end, in_turn, InTextOrder}
use Rattle.rules.specs.Mail.{preceded_by, local_start, named, scheme, is_xmpp, address_end, ended, started, address_at, addresses}
use Rattle.rules.specs.Notes.{moved}
use Rattle.rules.specs.Web.{is_web}
use Rattle.rules.proofs.AddressParts.{addresses-in_order, addresses_are}
use Rattle.rules.proofs.LineLaws.{all-inside, order_moved}
use Rattle.machine.specs.Invariant.{Edge}
use Rattle.machine.specs.Joins.{is_data}
use Rattle.machine.specs.Laws.{Segment, Tiles}
use Rattle.calls.specs.EventLists.{is_mail_address}
use Rattle.calls.specs.Links.{filled, as_named, mail_in, split, splits}
use Rattle.calls.proofs.Spans.{Spaced, AtEdges, tiles-append, tiles_le, tiles-filled}
use Rattle.calls.proofs.Edges.{edge_after_plain}
use Rattle.calls.proofs.Ended.{Plain, Standing}

-- ---- kinds

abbrev MailKind : SpanKind → Type 0
MailKind kind = is_web kind ≡ false

-- no span, or one of a kind of mail
abbrev MailIfAny : Option Span → Type 0
MailIfAny None = Unit {0}
MailIfAny (Some x) = MailKind x.kind

scheme-mail : (s : List ℕ) (c a : ℕ) → MailKind (scheme s c a).1
scheme-mail s c a =
    let h = run_start letter_or_digit s c (a - 1) in
    let xmpp = reads (codes "xmpp") (part h (a - 1) s) in
    let mailto = reads (codes "mailto") (part h (a - 1) s) in
    let P : ℕ × SpanKind → Type 0 = λ r. MailKind r.1 in
    cond_both (preceded_by 58 s c a) (named s h a) (a, Email) P
    (λ _. cond_both xmpp (h, Xmpp) (cond mailto (h, Mailto) (a, Email)) P (λ _. refl) (λ _. cond_both mailto (h, Mailto) (a, Email) P (λ _. refl) (λ _. refl)))
    (λ _. refl)

ended-mail : (start : ℕ × SpanKind) (o : Option ℕ) → MailKind start.1 → MailIfAny (ended start o)
ended-mail start None h = tt
ended-mail start (Some to) h = h

started-mail : (s : List ℕ) (c k : ℕ) (o : Option ℕ) → MailIfAny (started s c k o)
started-mail s c k None = tt
started-mail s c k (Some a) = ended-mail (scheme s c a) (address_end s (is_xmpp (scheme s c a).1) (k + 1)) (scheme-mail s c a)

address_mail : (s : List ℕ) (c k : ℕ) → MailIfAny (address_at s c k)
address_mail s c k = cond_both (eqb (get_or s k 0) 64) (started s c k (local_start s c k)) None MailIfAny (λ _. started-mail s c k (local_start s c k)) (λ _. tt)

turn_mail : (s : List ℕ) (n c : ℕ) → AllByRecursion (λ x. MailKind x.kind) (in_turn (address_at s) s n c)
turn_mail s zero c = tt
turn_mail s (suc n) c = go (next (address_at s) s c) (address_mail s c _) (λ d. turn_mail s n d)
  where
    go : (o : Option Span) → MailIfAny o → ((d : ℕ) → AllByRecursion (λ x. MailKind x.kind) (in_turn (address_at s) s n d)) → AllByRecursion (λ x. MailKind x.kind) (then_from_its_end (in_turn (address_at s) s n) o)
    go None h rec = tt
    go (Some x) h rec = (h, rec x.to)

named-mail : (d : ℕ) (xs : List Span) → AllByRecursion (λ x. MailKind x.kind) xs → AllByRecursion (λ y. is_mail_address y.name ≡ true) (map as_named (map (moved d) xs))
named-mail d [] h = tt
named-mail d (x ∷ xs) h = (not_from_false (is_web x.kind) h.0, named-mail d xs h.1)

pub mail-is-mail : (note : List ℕ) (x : Segment) → AllByRecursion (λ y. is_mail_address y.name ≡ true) (mail_in note x)
mail-is-mail note x = let s = part x.from x.to note in named-mail x.from (addresses s) (turn_mail s (length s) 0)

-- ---- places

spaced_named : (a b : ℕ) (xs : List Span) → a ≤ b → InTextOrder a xs → AllByRecursion (λ x. x.to ≤ b) xs → Spaced a b (map as_named xs)
spaced_named a b [] le o h = le
spaced_named a b (x ∷ xs) le o h = (o.0.0, o.0.1, spaced_named x.to b xs h.0 o.1 h.1)

mail_spaced : (note : List ℕ) (x : Segment) → x.from ≤ x.to → x.to ≤ length note → Spaced x.from x.to (mail_in note x)
mail_spaced note x le fits =
    let s = part x.from x.to note in
    let xs = map (moved x.from) (addresses s) in
    let e : x.from + 0 ≡ x.from = omega arith in
    spaced_named x.from x.to xs le
    (subst (λ c. InTextOrder c xs) e (order_moved x.from 0 (addresses s) (addresses-in_order s)))
    (all-inside note x.from x.to fits (addresses s) (addresses_are s) le)

-- ---- data split around its addresses

pub split-tiles : (note : List ℕ) (x : Segment) → x.from < x.to → x.to ≤ length note → Tiles x.from x.to (split note x)
split-tiles note x lt fits =
    cond_both (is_data x.name) (filled x.from (mail_in note x) x.to) (x ∷ []) (λ l. Tiles x.from x.to l)
    (λ _. tiles-filled (mail_in note x) x.from x.to (mail_spaced note x (omega arith) fits))
    (λ _. (refl, lt, refl))

pub splits-tiles : (note : List ℕ) (xs : List Segment) (a b : ℕ) → b ≤ length note → Tiles a b xs → Tiles a b (splits note xs)
splits-tiles note [] a b le t = t
splits-tiles note (x ∷ xs) a b le t =
    let hi = tiles_le xs x.to b t.2 in
    tiles-append (split note x) (splits note xs) a x.to b
    (subst (λ k. Tiles k x.to (split note x)) t.0 (split-tiles note x (omega (arith, t.0, t.1)) (omega arith)))
    (splits-tiles note xs x.to b le t.2)

-- ---- and its edges

tiles_edges : (note : List ℕ) (xs : List Segment) (a b : ℕ) → Tiles a b xs → ((j : ℕ) → a ≤ j → j ≤ b → Edge note j) → AllByRecursion (AtEdges note) xs
tiles_edges note [] a b t h = tt
tiles_edges note (x ∷ xs) a b t h =
    let hi = tiles_le xs x.to b t.2 in
    ((h x.from (omega (arith, t.0)) (omega (arith, t.0, t.1)), h x.to (omega (arith, t.1)) hi), tiles_edges note xs x.to b t.2 (λ j lo up. h j (omega (arith, t.1)) up))

plain_edges : (note : List ℕ) (a b : ℕ) → Edge note a → Plain note a b → (j : ℕ) → a ≤ j → j ≤ b → Edge note j
plain_edges note a b e p j lo hi =
    ⊎_elim
    (λ lt. edge_after_plain note a j lt (p (j - 1) (omega arith) (omega arith)))
    (λ ge. let same : a ≡ j = omega arith in subst (Edge note) same e)
    (cases_lt a j)

split_edges : (note : List ℕ) (x : Segment) → x.from < x.to → x.to ≤ length note → Standing note x → AllByRecursion (AtEdges note) (split note x)
split_edges note x lt fits h =
    cond_both (is_data x.name) (filled x.from (mail_in note x) x.to) (x ∷ []) (AllByRecursion (AtEdges note))
    (λ d.
    tiles_edges note (filled x.from (mail_in note x) x.to) x.from x.to (tiles-filled (mail_in note x) x.from x.to (mail_spaced note x (omega arith) fits))
    (plain_edges note x.from x.to h.0.0 (h.1 d)))
    (λ _. (h.0, tt))

pub splits_edges : (note : List ℕ) (xs : List Segment) (a b : ℕ) → b ≤ length note → Tiles a b xs → AllByRecursion (Standing note) xs → AllByRecursion (AtEdges note) (splits note xs)
splits_edges note [] a b le t h = tt
splits_edges note (x ∷ xs) a b le t h =
    let hi = tiles_le xs x.to b t.2 in
    All-append (AtEdges note) (split note x) (splits note xs) (split_edges note x (omega (arith, t.0, t.1)) (omega arith) h.0) (splits_edges note xs x.to b le t.2 h.1)
