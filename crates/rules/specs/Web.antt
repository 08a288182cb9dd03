-- Which parts of a note are web addresses.
-- s is the note, and member says which characters from 128 up the punctuation set has.
-- Assumes nothing.
use Rattle.std.specs.Prelude.{ℕ, zero, suc, ◌+◌, ◌-◌, Bool, true, false, cond, not, ◌&&◌, ◌||◌, List, [], ◌∷◌, length, drop, Some, None, codes, count_by, Option, ◌==◌, nat_eq, nat_lt, slice_index}
use Rattle.std.specs.List.{prefix_len}
use Rattle.punctuation.specs.declared.kinds.CharacterKind.{CharacterKind}
use Rattle.punctuation.specs.declared.kinds.CharacterKind.TheVariants.{Whitespace, Punctuation, Other}
use Rattle.text.specs.declared.spans.Span.{Span}
use Rattle.text.specs.declared.spans.SpanKind.{SpanKind}
use Rattle.text.specs.declared.spans.SpanKind.TheVariants.{Www, Protocol, Email, Mailto, Xmpp}
use Rattle.text.specs.Ascii.{letter, reads}
use Rattle.text.specs.Bytes.{among, within, some, part, first}
use Rattle.punctuation.specs.Kinds.{kind_at}
use Rattle.rules.specs.InTurn.{all}

abbrev pub is_white : CharacterKind → Bool
is_white Whitespace = true
is_white Punctuation = false
is_white Other = false

abbrev pub is_other : CharacterKind → Bool
is_other Whitespace = false
is_other Punctuation = false
is_other Other = true

-- the end of the note, and all past it, is white space
abbrev pub white_at : (ℕ → Bool) → List ℕ → ℕ → Bool
white_at member s i = is_white (kind_at member s i)

abbrev pub other_at : (ℕ → Bool) → List ℕ → ℕ → Bool
other_at member s i = is_other (kind_at member s i)

-- ---- trails: what may follow an address without belonging to it. A trail is a run of items, perhaps none, then a stop

-- the bytes that are items by themselves; `)` is one more, where it closes no parenthesis of a path
abbrev pub mark : ℕ → Bool
mark b = among (codes "!\"'*,.:;?_~]") b

-- the length of the reference that the bytes begin with, `&`, one or more letters and `;`; 0 where they begin with none
abbrev pub reference_length : List ℕ → ℕ
reference_length [] = 0
reference_length (b ∷ bs) =
    let n : ℕ = prefix_len letter bs in
    cond (b == 38 && nat_lt 0 n && slice_index bs n == 59) (n + 2) 0

-- the length of the item that the bytes begin with, 0 where they begin with none; closing: whether `)` is an item
abbrev pub item_length : Bool → List ℕ → ℕ
item_length closing [] = 0
item_length closing (b ∷ bs) = cond (mark b || (closing && b == 41)) 1 (reference_length (b ∷ bs))

-- the length of the run of items that the bytes begin with, where the next n bytes belong to an item begun before
abbrev pub items_length : Bool → ℕ → List ℕ → ℕ
items_length closing n [] = 0
items_length closing (suc n) (b ∷ bs) = suc (items_length closing n bs)
items_length closing zero (b ∷ bs) =
    let n : ℕ = item_length closing (b ∷ bs) in
    cond (n == 0) 0 (suc (items_length closing (n - 1) bs))

-- where the run of items from i on ends
abbrev pub run_end : Bool → List ℕ → ℕ → ℕ
run_end closing s i = i + items_length closing 0 (drop i s)

-- white space, the end, `<`, and `(` or `[` directly after a `]` that is an item of the run; bracket: whether there is one
abbrev pub stop : (ℕ → Bool) → List ℕ → Bool → ℕ → Bool
stop member s bracket j = white_at member s j || slice_index s j == 60 || (bracket && among (codes "([") (slice_index s j))

abbrev pub trail : (ℕ → Bool) → Bool → List ℕ → ℕ → Bool
trail member closing s i =
    let j : ℕ = run_end closing s i in
    stop member s (nat_lt i j && slice_index s (j - 1) == 93) j

-- ---- domains

-- `.`, `_`, `-`, and 80 to BF, the bytes inside a character
abbrev pub joint : ℕ → Bool
joint b = among (codes "._-") b || within 0x80 0xBF b

-- a domain ends at e: at a `.` or `_` where a trail begins, or at a byte that is neither joint nor of an Other character
abbrev pub domain_stops : (ℕ → Bool) → List ℕ → ℕ → Bool
domain_stops member s e =
    (among (codes "._") (slice_index s e) && trail member true s e) || (not (joint (slice_index s e)) && not (other_at member s e))

abbrev pub domain_end : (ℕ → Bool) → List ℕ → ℕ → ℕ
domain_end member s d = first (domain_stops member s) s d

-- b put in front of the first part
abbrev pub onto_first : ℕ → List (List ℕ) → List (List ℕ)
onto_first b [] = (b ∷ []) ∷ []
onto_first b (x ∷ xs) = (b ∷ x) ∷ xs

-- the parts of a domain between its `.`
abbrev pub parts : List ℕ → List (List ℕ)
parts [] = [] ∷ []
parts (b ∷ bs) = cond (b == 46) ([] ∷ parts bs) (onto_first b (parts bs))

abbrev pub last_two : List (List ℕ) → List (List ℕ)
last_two [] = []
last_two (x ∷ []) = x ∷ []
last_two (x ∷ y ∷ []) = x ∷ y ∷ []
last_two (x ∷ y ∷ z ∷ xs) = last_two (y ∷ z ∷ xs)

-- none of the parts has a `_`
abbrev pub without_underscore : List (List ℕ) → Bool
without_underscore [] = true
without_underscore (x ∷ xs) = not (some (λ b. nat_eq b 95) x) && without_underscore xs

-- some byte is not joint, and the last two parts, or the only one, have no `_`
abbrev pub valid : List ℕ → Bool
valid domain = some (λ b. not (joint b)) domain && without_underscore (last_two (parts domain))

-- ---- paths

-- there are fewer `)` than `(`
abbrev pub unclosed : List ℕ → Bool
unclosed bs = nat_lt (count_by (λ b. nat_eq b 41) bs) (count_by (λ b. nat_eq b 40) bs)

-- the bytes at which a trail may end a path
abbrev pub trail_starter : ℕ → Bool
trail_starter b = among (codes "!\"&')*,.:;<?]_~") b

-- the path from e ends at p: at white space, or where a trail begins. While [e, p) has fewer `)` than `(`, `)` is no item of it
abbrev pub path_stops : (ℕ → Bool) → List ℕ → ℕ → ℕ → Bool
path_stops member s e p = white_at member s p || (trail_starter (slice_index s p) && trail member (not (unclosed (part e p s))) s p)

abbrev pub path_end : (ℕ → Bool) → List ℕ → ℕ → ℕ
path_end member s e = first (path_stops member s e) s e

-- ---- where an address begins

-- i starts the note, or the byte before it has p
abbrev pub after : (ℕ → Bool) → List ℕ → ℕ → Bool
after p s zero = true
after p s (suc i) = p (slice_index s i)

-- tab, LF, CR, space and `( * _ [ ] ~`
abbrev pub before_www : ℕ → Bool
before_www b = among (9 ∷ 10 ∷ 13 ∷ 32 ∷ codes "(*_[]~") b

-- `www.` begins at i, and more follows
abbrev pub www_at : List ℕ → ℕ → Bool
www_at s i = after before_www s i && reads (codes "www.") (part i (i + 4) s) && nat_lt (i + 4) (length s)

-- the length of the `http://` or `https://` that begins at i, 0 where none does
abbrev pub protocol_length : List ℕ → ℕ → ℕ
protocol_length s i =
    cond (after (λ b. not (letter b)) s i)
    (cond (reads (codes "http://") (part i (i + 7) s)) 7 (cond (reads (codes "https://") (part i (i + 8) s)) 8 0))
    0

-- ---- web spans

abbrev pub is_web : SpanKind → Bool
is_web Www = true
is_web Protocol = true
is_web Email = false
is_web Mailto = false
is_web Xmpp = false

-- the span that begins at i and whose domain begins at d, if that domain is valid
abbrev pub web_span : (ℕ → Bool) → List ℕ → SpanKind → ℕ → ℕ → Option Span
web_span member s kind i d =
    let e : ℕ = domain_end member s d in
    cond (valid (part d e s)) (Some (record { kind = kind; from = i; to = path_end member s e })) None

-- the domain of a Www begins with it, that of a Protocol after its slashes
abbrev pub link_at : (ℕ → Bool) → List ℕ → ℕ → Option Span
link_at member s i =
    let n : ℕ = protocol_length s i in
    cond (www_at s i) (web_span member s Www i i) (cond (n == 0) None (web_span member s Protocol i (i + n)))

-- the first place with a span is taken, then the first at or after its end, and so on
abbrev pub links : (ℕ → Bool) → List ℕ → List Span
links member s = all (λ _. link_at member s) s
