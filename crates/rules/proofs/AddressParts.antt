-- What the rules say of the address at an `@`: where its parts lie, and that the rule goes forward.
-- Assumes nothing.
use Rattle.std.proofs.Common.{◌≡◌, ℕ, ◌+◌, ◌-◌, ◌<◌, ◌≤◌, Bool, true, false, cond, not, ◌&&◌, eqb, ltb, ◌⊎◌, List, ◌∷◌, length, get_or, Some, None, codes, Option, sym, refl, ap, ◌∙◌, subst, inl, inr, ⊎_elim, arith}
use Rattle.std.specs.List.{AllByRecursion}
use Rattle.std.proofs.lemmas.Bool.{eqb-true, eqb-false, ltb-true, and_parts, not-true, or_parts, cases_lt, cond-false, cond_both, true≢false}
use Rattle.std.proofs.lemmas.List.{get_or_past}
use Rattle.text.specs.declared.spans.Span.{Span}
use Rattle.text.specs.declared.spans.SpanKind.{SpanKind}
use Rattle.text.specs.declared.spans.SpanKind.TheVariants.{Email, Mailto, Xmpp}
use Rattle.text.specs.Ascii.{letter, letter_or_digit, reads}
use Rattle.text.specs.Bytes.{some, part, run_start}
use Rattle.text.proofs.Firsts.{first-within}
use Rattle.text.proofs.Runs.{run_start-within, part_length, part_at, some_at}
use Rattle.rules.specs.Mail.{atext, preceded_by, local_start, named, scheme, in_domain, domain_stop, valid_domain, in_resource, resource_stop, is_xmpp, after_domain, address_end, ended, started, address_at, addresses, addresses_left}
use Rattle.rules.specs.InTurn.{FoundInTurn, InTextOrder}
use Rattle.rules.specs.MailLaws.{Domain, Address, EachIsAnAddress}
use Rattle.rules.proofs.Turns.{Forward, left-in_order, left-in_turn, left-all}

-- a byte other than 0 stands before the end
pub before-end : (s : List ℕ) (i b : ℕ) → get_or s i 0 ≡ b → 0 < b → i < length s
before-end s i b e h = ⊎_elim (λ lt. lt) (λ le. absurd (omega (arith, get_or_past s i 0 le))) (cases_lt i (length s))

-- ---- a `cond` that gives something

some_else : (b : Bool) (x a : ℕ) → Some a ≡ cond b None (Some x) → (b ≡ false) × (a ≡ x)
some_else true x a e = let z : ◌≡◌ {A = ℕ} 0 1 = cc in absurd (omega arith)
some_else false x a e = (refl, cc)

some_then : {X : Type 0} (b : Bool) (o : Option X) (x : X) → cond b o None ≡ Some x → (b ≡ true) × (o ≡ Some x)
some_then true o x e = (refl, e)
some_then false o x e = let z : ◌≡◌ {A = ℕ} 0 1 = cc in absurd (omega arith)

-- ---- the start

-- a local part starts between the end of the address before and the `@`, and is not empty
pub record Local (c k a : ℕ) : Type 0 where
  pub low : c ≤ a
  pub high : a < k

pub local_start-within : (s : List ℕ) (c k a : ℕ) → c ≤ k → Some a ≡ local_start s c k → Local c k a
local_start-within s c k a le e =
    let w = run_start-within atext s c k le in
    let p = some_else _ _ _ e in
    let q = or_parts (eqb (run_start atext s c k) k) _ p.0 in
    let ne = eqb-false (run_start atext s c k) k q.0 in
    record { low = omega (arith, w.0, p.1); high = omega (arith, w.1, p.1, ne) }

pub scheme-within : (s : List ℕ) (c a : ℕ) → c ≤ a → (c ≤ (scheme s c a).0) × ((scheme s c a).0 ≤ a)
scheme-within s c a le =
    let P : ℕ × SpanKind → Type 0 = λ h. (c ≤ h.0) × (h.0 ≤ a) in
    let here : P (a, Email) = (le, omega arith) in
    cond_both (preceded_by 58 s c a) (named s (run_start letter_or_digit s c (a - 1)) a) (a, Email) P
    (λ e.
    let lt = ltb-true c a (and_parts (ltb c a) (eqb (get_or s (a - 1) 0) 58) e).0 in
    let h = run_start letter_or_digit s c (a - 1) in
    let w = run_start-within letter_or_digit s c (a - 1) (omega arith) in
    let there : P (h, Email) = (w.0, omega (arith, w.1)) in
    cond_both (reads (codes "xmpp") (part h (a - 1) s)) (h, Xmpp) (cond (reads (codes "mailto") (part h (a - 1) s)) (h, Mailto) (a, Email)) P
    (λ _. there)
    (λ _. cond_both (reads (codes "mailto") (part h (a - 1) s)) (h, Mailto) (a, Email) P (λ _. there) (λ _. here)))
    (λ _. here)

-- ---- the domain, and what may follow it

valid-is-domain : (s : List ℕ) (d z : ℕ) → d ≤ z → z ≤ length s → valid_domain s d z ≡ true → Domain s d z
valid-is-domain s d z le within e =
    let dots = some (λ b. eqb b 46) (part d z s) in
    let p = and_parts (dots && not (eqb (get_or s d 0) 46)) (letter (get_or s (z - 1) 0)) e in
    let q = and_parts dots (not (eqb (get_or s d 0) 46)) p.0 in
    let w = some_at (λ b. eqb b 46) (part d z s) q.0 in
    let long = part_length d z s within in
    let lt : w.0 < z - d = omega (arith, w.1, long) in
    let dot = sym (part_at d z s w.0 lt) ∙ eqb-true _ 46 w.2 in
    let first : get_or s d 0 ≡ 46 → ⊥ = eqb-false _ 46 (not-true _ q.1) in
    let not_first : w.0 ≡ 0 → ⊥ = λ z. first (subst (λ j. get_or s j 0 ≡ 46) (omega (arith, z)) dot) in
    let not_last : d + w.0 ≡ z - 1 → ⊥ = λ l. true≢false (sym p.1 ∙ ap letter (ap (λ j. get_or s j 0) (sym l) ∙ dot)) in
    record {
      dot = d + w.0;
      dot_inside = (omega (arith, not_first), omega (arith, lt, not_last));
      is_dot = dot;
      no_dot_first = first;
      letter_last = p.1;
    }

-- where an address with such a domain ends
pub record End (s : List ℕ) (xmpp : Bool) (d to : ℕ) : Type 0 where
  pub stop : ℕ
  pub domain : Domain s d stop
  pub to_the_end : (to ≡ stop) ⊎ ((xmpp ≡ true) × ((get_or s stop 0 ≡ 47) × (stop + 1 < to)))
  pub within : to ≤ length s

after_domain-is : (s : List ℕ) (xmpp : Bool) (z : ℕ) → z ≤ length s → ((after_domain s xmpp z ≡ z) ⊎ ((xmpp ≡ true) × ((get_or s z 0 ≡ 47) × (z + 1 < after_domain s xmpp z)))) × (after_domain s xmpp z ≤ length s)
after_domain-is s xmpp z le =
    let r = resource_stop s (z + 1) in
    let P : ℕ → Type 0 = λ to. ((to ≡ z) ⊎ ((xmpp ≡ true) × ((get_or s z 0 ≡ 47) × (z + 1 < to)))) × (to ≤ length s) in
    cond_both (xmpp && eqb (get_or s z 0) 47 && ltb (z + 1) r) r z P
    (λ e.
    let p = and_parts (xmpp && eqb (get_or s z 0) 47) (ltb (z + 1) r) e in
    let q = and_parts xmpp (eqb (get_or s z 0) 47) p.0 in
    let slash = eqb-true (get_or s z 0) 47 q.1 in
    let lt = before-end s z 47 slash (omega arith) in
    let w = first-within (λ i. not (in_resource s i)) s (z + 1) (omega (arith, lt)) in
    (inr (q.0, (slash, ltb-true (z + 1) r p.1)), w.high))
    (λ _. (inl refl, le))

pub address_end-is : (s : List ℕ) (xmpp : Bool) (d to : ℕ) → d ≤ length s → address_end s xmpp d ≡ Some to → End s xmpp d to
address_end-is s xmpp d to le e =
    let z = domain_stop s d in
    let w = first-within (λ i. not (in_domain s i)) s d le in
    let p = some_then (valid_domain s d z) (Some (after_domain s xmpp z)) to e in
    let same : after_domain s xmpp z ≡ to = let h = p.1 in cc in
    let a = subst (λ t. ((t ≡ z) ⊎ ((xmpp ≡ true) × ((get_or s z 0 ≡ 47) × (z + 1 < t)))) × (t ≤ length s)) same (after_domain-is s xmpp z w.high) in
    record {
      stop = z;
      domain = valid-is-domain s d z w.low w.high p.0;
      to_the_end = a.0;
      within = a.1;
    }

-- ---- the address

-- an address lies around the place of its `@`
pub record At (s : List ℕ) (c k : ℕ) (x : Span) : Type 0 where
  pub low : c ≤ x.from
  pub local_part : x.from < k
  pub is_at_sign : get_or s k 0 ≡ 64
  pub ending : End s (is_xmpp x.kind) (k + 1) x.to

ended_is : (s : List ℕ) (c k a : ℕ) (o : Option ℕ) (x : Span) → c ≤ a → a < k → get_or s k 0 ≡ 64 → address_end s (is_xmpp (scheme s c a).1) (k + 1) ≡ o → ended (scheme s c a) o ≡ Some x → At s c k x
ended_is s c k a None x low high sign end e = let z : ◌≡◌ {A = ℕ} 0 1 = cc in absurd (omega arith)
ended_is s c k a (Some to) x low high sign end e =
    let y : Span = record { kind = (scheme s c a).1; from = (scheme s c a).0; to = to } in
    let same : y ≡ x = cc in
    let w = scheme-within s c a low in
    subst (At s c k) same (record {
      low = w.0;
      local_part = omega (arith, w.1, high);
      is_at_sign = sign;
      ending = address_end-is s (is_xmpp (scheme s c a).1) (k + 1) to (omega (arith, before-end s k 64 sign (omega arith))) end;
    })

started-is : (s : List ℕ) (c k : ℕ) (o : Option ℕ) (x : Span) → c ≤ k → get_or s k 0 ≡ 64 → o ≡ local_start s c k → started s c k o ≡ Some x → At s c k x
started-is s c k None x le sign start e = let z : ◌≡◌ {A = ℕ} 0 1 = cc in absurd (omega arith)
started-is s c k (Some a) x le sign start e =
    let l = local_start-within s c k a le start in
    ended_is s c k a _ x l.low l.high sign refl e

pub address_at-is : (s : List ℕ) (c k : ℕ) (x : Span) → c ≤ k → address_at s c k ≡ Some x → At s c k x
address_at-is s c k x le e =
    let p = some_then (eqb (get_or s k 0) 64) (started s c k (local_start s c k)) x e in
    started-is s c k (local_start s c k) x le (eqb-true (get_or s k 0) 64 p.0) refl p.1

-- it ends beyond its `@`
at-beyond : (s : List ℕ) (c k : ℕ) (x : Span) → At s c k x → k + 1 < x.to
at-beyond s c k x a =
    let d = a.ending.domain.dot_inside in
    ⊎_elim (λ e. omega (arith, e, d.0, d.1)) (λ r. omega (arith, r.1.1, d.0, d.1)) a.ending.to_the_end

pub at_is_address : (s : List ℕ) (c k : ℕ) (x : Span) → At s c k x → Address s x
at_is_address s c k x a =
    record {
      at_sign = k;
      stop = a.ending.stop;
      is_at_sign = a.is_at_sign;
      local_part = a.local_part;
      domain = a.ending.domain;
      to_the_end = a.ending.to_the_end;
      within = a.ending.within;
    }

past-none : (s : List ℕ) (c k : ℕ) → length s ≤ k → address_at s c k ≡ None
past-none s c k le = let e = get_or_past s k 0 le in cond-false (eqb (get_or s k 0) 64) _ _ (ap (λ b. eqb b 64) e)

pub mail-forward : (s : List ℕ) → Forward (address_at s) s
mail-forward s =
    record {
      ends = past-none s;
      low = λ c k x le e. (address_at-is s c k x le e).low;
      some = λ c k x le e. let a = address_at-is s c k x le e in omega (arith, a.local_part, at-beyond s c k x a);
      on = λ c k x le e. omega (arith, at-beyond s c k x (address_at-is s c k x le e));
      high = λ c k x le e. (address_at-is s c k x le e).ending.within;
    }

-- ---- all addresses of the data

pub addresses-in_order : (s : List ℕ) → InTextOrder 0 (addresses s)
addresses-in_order s = left-in_order (address_at s) s (mail-forward s) 0

pub addresses-in_turn : (s : List ℕ) → FoundInTurn (address_at s) 0 (addresses s)
addresses-in_turn s = left-in_turn (address_at s) s (mail-forward s) 0

pub addresses_are : (s : List ℕ) → EachIsAnAddress s (addresses s)
addresses_are s = left-all (address_at s) s (mail-forward s) (Address s) (λ c k x le e. at_is_address s c k x (address_at-is s c k x le e)) 0

-- the next one is not empty, and ends within the data
pub next_inside : (s : List ℕ) (c : ℕ) (x : Span) (xs : List Span) → addresses_left s c ≡ x ∷ xs → (x.from < x.to) × (x.to ≤ length s)
next_inside s c x xs e =
    let f = mail-forward s in
    let Inside : Span → Type 0 = λ y. (y.from < y.to) × (y.to ≤ length s) in
    let all : AllByRecursion Inside (addresses_left s c) = left-all (address_at s) s f Inside (λ d i y le is. (f.some d i y le is, f.high d i y le is)) c in
    (subst (AllByRecursion Inside) e all).0
