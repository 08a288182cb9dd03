-- What holds of mail addresses, in words that do not retell the search.
-- Assumes nothing.
use Rattle.std.specs.Prelude.{◌≡◌, ℕ, ◌+◌, ◌-◌, ◌<◌, ◌≤◌, true, ◌⊎◌, List, length, slice_index, slice_index_or}
use Rattle.std.specs.List.{AllByRecursion}
use Rattle.text.specs.declared.spans.Span.{Span}
use Rattle.text.specs.Ascii.{letter}
use Rattle.rules.specs.Mail.{is_xmpp}

-- the domain from d to z holds a dot, does not start with one, and ends in a letter
pub record Domain (s : List ℕ) (d z : ℕ) : Type 0 where
  pub dot : ℕ
  pub dot_inside : (d < dot) × (dot + 1 < z)
  pub is_dot : slice_index_or s dot 0 ≡ 46
  pub no_dot_first : slice_index_or s d 0 ≡ 46 → ⊥
  pub letter_last : letter (slice_index s (z - 1)) ≡ true

-- x lies within the data and holds an `@`, with bytes before it and a domain after it.
-- It ends where the domain stops; only an Xmpp address may go on, over a `/` and at least one byte more
pub record Address (s : List ℕ) (x : Span) : Type 0 where
  pub at_sign : ℕ
  pub stop : ℕ
  pub is_at_sign : slice_index_or s at_sign 0 ≡ 64
  pub local_part : x.from < at_sign
  pub domain : Domain s (at_sign + 1) stop
  pub to_the_end : (x.to ≡ stop) ⊎ ((is_xmpp x.kind ≡ true) × ((slice_index s stop ≡ 47) × (stop + 1 < x.to)))
  pub within : x.to ≤ length s

abbrev pub EachIsAnAddress : List ℕ → List Span → Type 0
EachIsAnAddress s xs = AllByRecursion (Address s) xs
