-- What a list of calls has done in all, and how it is told.
-- Assumes nothing.
use Rattle.std.specs.Prelude.{ℕ, cond, List, length, ◌-◌, ◌++◌, count_by, codes, decimal}
use Rattle.calls.specs.declared.scripts.Call.{Call}
use Rattle.calls.specs.Moments.{Told, told, nothing, accepted}
use Rattle.calls.specs.Steps.{Answer}
use Rattle.scripts.specs.declared.sums.Standing.{Standing}
use Rattle.scripts.specs.declared.sums.Sum.{Sum}
use Rattle.scripts.specs.Counts.{counted_shown}

-- what the last line says of what calls and answers tell
abbrev pub standing : Told → Standing
standing t = record { bytes = length t.note; links = length t.links; ended = t.ended; resolved = t.resolved }

abbrev pub sum_of : List Call → List Answer → ℕ → Sum
sum_of calls got events = record {
  calls = length calls;
  accepted = count_by accepted got;
  refused = length got - count_by accepted got;
  standing = standing (told nothing calls got);
  events = events;
}

abbrev pub state_shown : Standing → List ℕ
state_shown s = cond s.resolved (codes "resolved") (cond s.ended (codes "ended") (codes "not ended"))

-- as `note of 7 bytes, 1 link, resolved`
abbrev pub standing_shown : Standing → List ℕ
standing_shown s =
    codes "note of " ++ (counted_shown s.bytes (codes "byte") ++ (codes ", " ++ (counted_shown s.links (codes "link") ++ (codes ", " ++ state_shown s))))

-- as `6 calls, 5 accepted, 1 refused; note of 7 bytes, 1 link, resolved; 6 events`
abbrev pub sum_shown : Sum → List ℕ
sum_shown s =
    counted_shown s.calls (codes "call") ++ (codes ", " ++ (decimal s.accepted ++ (codes " accepted, " ++ (decimal s.refused ++ (codes " refused; "
    ++ (standing_shown s.standing ++ (codes "; " ++ counted_shown s.events (codes "event"))))))))
