-- Which parts of the data are mail addresses.
-- s is the data, k the place of an `@`, and c the end of the address before, 0 at first.
-- Assumes nothing.
use Rattle.std.specs.Prelude.{ℕ, ◌+◌, ◌-◌, Bool, true, false, cond, not, ◌&&◌, ◌||◌, List, Some, None, codes, length, Option, ◌==◌, nat_eq, nat_lt, slice_index}
use Rattle.text.specs.declared.spans.Span.{Span}
use Rattle.text.specs.declared.spans.SpanKind.{SpanKind}
use Rattle.text.specs.declared.spans.SpanKind.TheVariants.{Www, Protocol, Email, Mailto, Xmpp}
use Rattle.text.specs.Ascii.{letter, letter_or_digit, reads}
use Rattle.text.specs.Bytes.{among, some, part, first, run_start}
use Rattle.rules.specs.InTurn.{in_turn, all}

-- ---- where an address starts

-- letters, digits, `+ - . _`
abbrev pub atext : ℕ → Bool
atext b = letter_or_digit b || among (codes "+-._") b

-- a lies beyond c, and the byte before it is b
abbrev pub preceded_by : ℕ → List ℕ → ℕ → ℕ → Bool
preceded_by b s c a = nat_lt c a && slice_index s (a - 1) == b

-- the run of such bytes before the `@` must not be empty, and no `/` may precede it
abbrev pub local_start : List ℕ → ℕ → ℕ → Option ℕ
local_start s c k =
    let a : ℕ = run_start atext s c k in
    cond (a == k || preceded_by 47 s c a) None (Some a)

-- the start and the kind of the address, by the name that runs from h to the `:` before a
abbrev pub named : List ℕ → ℕ → ℕ → ℕ × SpanKind
named s h a =
    let name : List ℕ = part h (a - 1) s in
    cond (reads (codes "xmpp") name) (h, Xmpp) (cond (reads (codes "mailto") name) (h, Mailto) (a, Email))

-- the name is the longest run of letters and digits before a `:`, and not before c
abbrev pub scheme : List ℕ → ℕ → ℕ → ℕ × SpanKind
scheme s c a = cond (preceded_by 58 s c a) (named s (run_start letter_or_digit s c (a - 1)) a) (a, Email)

-- ---- where it ends: d is the place after the `@`

-- a `.` before a letter or digit
abbrev pub inner_dot : List ℕ → ℕ → Bool
inner_dot s i = slice_index s i == 46 && letter_or_digit (slice_index s (i + 1))

abbrev pub in_domain : List ℕ → ℕ → Bool
in_domain s i = letter_or_digit (slice_index s i) || among (codes "-_") (slice_index s i) || inner_dot s i

abbrev pub domain_stop : List ℕ → ℕ → ℕ
domain_stop s d = first (λ z. not (in_domain s z)) s d

-- the domain from d to z has a `.`, none at its start, and a letter last
abbrev pub valid_domain : List ℕ → ℕ → ℕ → Bool
valid_domain s d z = some (λ b. nat_eq b 46) (part d z s) && not (slice_index s d == 46) && letter (slice_index s (z - 1))

abbrev pub in_resource : List ℕ → ℕ → Bool
in_resource s i = letter_or_digit (slice_index s i) || slice_index s i == 64 || inner_dot s i

abbrev pub resource_stop : List ℕ → ℕ → ℕ
resource_stop s d = first (λ z. not (in_resource s z)) s d

abbrev pub is_xmpp : SpanKind → Bool
is_xmpp Www = false
is_xmpp Protocol = false
is_xmpp Email = false
is_xmpp Mailto = false
is_xmpp Xmpp = true

-- where the domain stops at z: an Xmpp address goes on over a `/` and a resource, if one follows
abbrev pub after_domain : List ℕ → Bool → ℕ → ℕ
after_domain s xmpp z =
    let r : ℕ = resource_stop s (z + 1) in
    cond (xmpp && slice_index s z == 47 && nat_lt (z + 1) r) r z

abbrev pub address_end : List ℕ → Bool → ℕ → Option ℕ
address_end s xmpp d =
    let z : ℕ = domain_stop s d in
    cond (valid_domain s d z) (Some (after_domain s xmpp z)) None

-- ---- the address at an `@`, and all addresses

abbrev pub ended : ℕ × SpanKind → Option ℕ → Option Span
ended start None = None
ended start (Some to) = Some (record { kind = start.1; from = start.0; to = to })

abbrev pub started : List ℕ → ℕ → ℕ → Option ℕ → Option Span
started s c k None = None
started s c k (Some a) = ended (scheme s c a) (address_end s (is_xmpp (scheme s c a).1) (k + 1))

abbrev pub address_at : List ℕ → ℕ → ℕ → Option Span
address_at s c k = cond (slice_index s k == 64) (started s c k (local_start s c k)) None

-- each `@` in order, from the end of the address before
abbrev pub addresses : List ℕ → List Span
addresses s = all (address_at s) s

-- those that are left where the one before ended at c
abbrev pub addresses_left : List ℕ → ℕ → List Span
addresses_left s c = in_turn (address_at s) s (length s) c
