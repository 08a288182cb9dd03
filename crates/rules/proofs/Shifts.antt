-- The start of an address, looked for in the data before its `@` alone: the same, counted from where that begins.
-- Assumes nothing.
use Rattle.std.proofs.Common.{◌≡◌, ℕ, ◌+◌, ◌-◌, ◌<◌, ◌≤◌, Bool, cond, ◌&&◌, ◌||◌, eqb, ltb, List, length, get_or, take, Some, None, codes, Option, sym, ap, ◌∙◌, ⊎_elim, arith, length-take-le}
use Rattle.std.proofs.lemmas.Bool.{cases_lt, cond-true, eq-eqb}
use Rattle.std.proofs.lemmas.Bool.Decides.{nat_tests}
use Rattle.std.specs.Option.{option_map}
use Rattle.text.specs.declared.spans.SpanKind.{SpanKind}
use Rattle.text.specs.declared.spans.SpanKind.TheVariants.{Email, Mailto, Xmpp}
use Rattle.text.specs.Ascii.{letter_or_digit, reads}
use Rattle.text.specs.Bytes.{part, run_start}
use Rattle.text.proofs.Runs.{part_length, part_at, run_start-within}
use Rattle.rules.specs.Mail.{atext, preceded_by, local_start, named, scheme, is_xmpp, address_end, ended, started, address_at}
use Rattle.rules.proofs.AddressParts.{local_start-within, scheme-within}
use Rattle.rules.proofs.Searches.{part_part, run_part}

local_as : (c k r n b b' : ℕ) → c ≤ k → n ≡ k - c → r ≤ n → (0 < r → b ≡ b') → cond (eqb (c + r) k || (ltb c (c + r) && eqb b' 47)) None (Some (c + r)) ≡ option_map (λ a. c + a) (cond (eqb r n || (ltb 0 r && eqb b 47)) None (Some r))
local_as c k r n b b' le long inside same = grind (arith, nat_tests)

pub local-shift : (s : List ℕ) (c k : ℕ) → c ≤ k → k ≤ length s → local_start s c k ≡ option_map (λ a. c + a) (local_start (part c k s) 0 (length (part c k s)))
local-shift s c k le fits =
    let t = part c k s in
    let long : length t ≡ k - c = part_length c k s fits in
    let r = run_start atext t 0 (length t) in
    let high = (run_start-within atext t 0 (length t) (omega arith)).1 in
    let whole : c + length t ≡ k = omega arith in
    let start : c + r ≡ run_start atext s c k = run_part atext s c k (length t) le fits (omega arith) ∙ ap (run_start atext s c) whole in
    ap (λ a. cond (eqb a k || preceded_by 47 s c a) None (Some a)) (sym start)
    ∙ local_as c k r (length t) (get_or t (r - 1) 0) (get_or s (c + r - 1) 0) le long high
    (λ lt.
    let before : r - 1 < k - c = omega arith in
    let place : c + (r - 1) ≡ c + r - 1 = omega arith in
    part_at c k s (r - 1) before ∙ ap (λ j. get_or s j 0) place)

abbrev shift : ℕ → ℕ × SpanKind → ℕ × SpanKind
shift c start = (c + start.0, start.1)

scheme_as : (c k r n b b' : ℕ) (x y : Bool) → c < k → n ≡ k - c → b ≡ b' → cond (ltb c k && eqb b' 58) (cond x (c + r, Xmpp) (cond y (c + r, Mailto) (k, Email))) (k, Email) ≡ shift c (cond (ltb 0 n && eqb b 58) (cond x (r, Xmpp) (cond y (r, Mailto) (n, Email))) (n, Email))
scheme_as c k r n b b' x y lt long same = grind (arith, nat_tests)

pub scheme-shift : (s : List ℕ) (c k : ℕ) → c ≤ k → k ≤ length s → scheme s c k ≡ shift c (scheme (part c k s) 0 (length (part c k s)))
scheme-shift s c k le fits =
    let t = part c k s in
    let n = length t in
    let long : n ≡ k - c = part_length c k s fits in
    ⊎_elim
    (λ lt.
    let r = run_start letter_or_digit t 0 (n - 1) in
    let high = (run_start-within letter_or_digit t 0 (n - 1) (omega arith)).1 in
    let last : c + (n - 1) ≡ k - 1 = omega arith in
    let start : c + r ≡ run_start letter_or_digit s c (k - 1) = run_part letter_or_digit s c k (n - 1) le fits (omega arith) ∙ ap (run_start letter_or_digit s c) last in
    let name : part r (n - 1) t ≡ part (c + r) (k - 1) s = part_part s c k r (n - 1) high (omega arith) ∙ ap (λ e. part (c + r) e s) last in
    let before : n - 1 < k - c = omega arith in
    let byte : get_or t (n - 1) 0 ≡ get_or s (k - 1) 0 = part_at c k s (n - 1) before ∙ ap (λ j. get_or s j 0) last in
    ap (λ h. cond (preceded_by 58 s c k) (named s h k) (k, Email)) (sym start)
    ∙ ap (λ (w : List ℕ). cond (preceded_by 58 s c k) (cond (reads (codes "xmpp") w) (c + r, Xmpp) (cond (reads (codes "mailto") w) (c + r, Mailto) (k, Email))) (k, Email)) (sym name)
    ∙ scheme_as c k r n (get_or t (n - 1) 0) (get_or s (k - 1) 0) (reads (codes "xmpp") (part r (n - 1) t)) (reads (codes "mailto") (part r (n - 1) t)) lt long byte)
    (λ ge. none s c k (part c k s) (omega arith) long)
    (cases_lt c k)
  where
    none : (s : List ℕ) (c k : ℕ) (t : List ℕ) → c ≡ k → length t ≡ k - c → scheme s c k ≡ shift c (scheme t 0 (length t))
    none s c k t e long = grind (arith, nat_tests)

-- ---- the address, by what is found in the data before its `@`

address-by : (s : List ℕ) (c k : ℕ) (o : Option ℕ) → c ≤ k → k ≤ length s → get_or s k 0 ≡ 64 → o ≡ local_start (part c k s) 0 (length (part c k s)) → address_at s c k ≡ started s c k (option_map (λ a. c + a) o)
address-by s c k o le fits sign start =
    cond-true (eqb (get_or s k 0) 64) (started s c k (local_start s c k)) None (eq-eqb (get_or s k 0) 64 sign)
    ∙ ap (started s c k) (local-shift s c k le fits ∙ ap (option_map (λ a. c + a)) (sym start))

pub address-none : (s : List ℕ) (c k : ℕ) → c ≤ k → k ≤ length s → get_or s k 0 ≡ 64 → None ≡ local_start (part c k s) 0 (length (part c k s)) → None ≡ address_at s c k
address-none s c k le fits sign start = sym (address-by s c k None le fits sign start)

-- a: where the local part starts, and start: where the address does
pub address-some : (s : List ℕ) (c k a : ℕ) (start : ℕ × SpanKind) (o : Option ℕ) → c ≤ k → k ≤ length s → get_or s k 0 ≡ 64 → Some a ≡ local_start (part c k s) 0 (length (part c k s)) → start ≡ scheme (take a (part c k s)) 0 (length (take a (part c k s))) → o ≡ address_end s (is_xmpp start.1) (k + 1) → ended (c + start.0, start.1) o ≡ address_at s c k
address-some s c k a start o le fits sign local scheme_is end =
    let t = part c k s in
    let long : length t ≡ k - c = part_length c k s fits in
    let w = local_start-within t 0 (length t) a (omega arith) local in
    let less : a < length t = w.high in
    let width : a - 0 ≡ a = omega arith in
    let from : c + 0 ≡ c = omega arith in
    let front : take a t ≡ part c (c + a) s = ap (λ n. take n t) (sym width) ∙ part_part s c k 0 a (omega arith) (omega arith) ∙ ap (λ i. part i (c + a) s) from in
    let here : scheme s c (c + a) ≡ (c + start.0, start.1) =
    scheme-shift s c (c + a) (omega arith) (omega arith) ∙ ap (λ (u : List ℕ). shift c (scheme u 0 (length u))) (sym front) ∙ ap (shift c) (sym scheme_is) in
    ap (ended (c + start.0, start.1)) end
    ∙ ap (λ (p : ℕ × SpanKind). ended p (address_end s (is_xmpp p.1) (k + 1))) (sym here)
    ∙ sym (address-by s c k (Some a) le fits sign local)

-- the address starts within that data
pub starts_within : (s : List ℕ) (c k a : ℕ) (start : ℕ × SpanKind) → c ≤ k → k ≤ length s → Some a ≡ local_start (part c k s) 0 (length (part c k s)) → start ≡ scheme (take a (part c k s)) 0 (length (take a (part c k s))) → (a ≤ k - c) × (c + start.0 ≤ k)
starts_within s c k a start le fits local scheme_is =
    let t = part c k s in
    let long : length t ≡ k - c = part_length c k s fits in
    let less : a < length t = (local_start-within t 0 (length t) a (omega arith) local).high in
    let short : length (take a t) ≡ a = length-take-le a t (omega arith) in
    (omega arith, omega (arith, ap (λ (p : ℕ × SpanKind). p.0) scheme_is, (scheme-within (take a t) 0 (length (take a t)) (omega arith)).1))
