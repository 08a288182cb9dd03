-- A number in one of some ranges, looked for from range i on.
-- Assumes nothing.
use Rattle.std.proofs.Common.{◌≡◌, ℕ, ◌+◌, ◌<◌, ◌≤◌, true, false, ◌||◌, leb, ◌⊎◌, List, length, get_or, drop, ap, ◌∙◌, ⊎_elim}
use Rattle.std.proofs.lemmas.List.{at_drop_more, at_drop_all}
use Rattle.std.proofs.lemmas.Bool.{le-leb, lt-leb, and_from, and_left, and_right, or_left}
use Rattle.text.specs.Bytes.{within}
use Rattle.characters.specs.WhiteSpace.{in_ranges}

pub within_yes : (lo hi c : ℕ) → lo ≤ c → c ≤ hi → within lo hi c ≡ true
within_yes lo hi c a b = and_from (leb lo c) (leb c hi) (le-leb lo c a) (le-leb c hi b)

pub within-no : (lo hi c : ℕ) → (c < lo) ⊎ (hi < c) → within lo hi c ≡ false
within-no lo hi c h = ⊎_elim (λ a. and_left (leb lo c) (leb c hi) (lt-leb lo c a)) (λ b. and_right (leb lo c) (leb c hi) (lt-leb c hi b)) h

module _ (rs : List (ℕ × ℕ)) (i c : ℕ) where
  pub ranges_here : i < length rs → (get_or rs i (0, 0)).0 ≤ c → c ≤ (get_or rs i (0, 0)).1 → in_ranges (drop i rs) c ≡ true
  ranges_here lt a b =
      at_drop_more (λ l. in_ranges l c) rs i (0, 0) lt ∙ or_left _ _ (within_yes (get_or rs i (0, 0)).0 (get_or rs i (0, 0)).1 c a b)

  pub ranges_more : i < length rs → (c < (get_or rs i (0, 0)).0) ⊎ ((get_or rs i (0, 0)).1 < c) → in_ranges (drop i rs) c ≡ in_ranges (drop (i + 1) rs) c
  ranges_more lt h =
      at_drop_more (λ l. in_ranges l c) rs i (0, 0) lt ∙ ap (λ t. t || in_ranges (drop (i + 1) rs) c) (within-no (get_or rs i (0, 0)).0 (get_or rs i (0, 0)).1 c h)

  pub ranges_end : length rs ≤ i → in_ranges (drop i rs) c ≡ false
  ranges_end h = at_drop_all (λ l. in_ranges l c) rs i h
