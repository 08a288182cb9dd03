use Rattle.std.proofs.Common.{◌+◌, ◌-◌, length, vec_items}
use Rattle.punctuation.specs.RangeLists.{house}
use Rattle.findings.proofs.FindsLinks.{finds_links}
use Rattle.readings.specs.Readings.{steps_made}
use Rattle.readings.proofs.Underway.{Underway, targets_left}
use Rattle.readings.proofs.reading.read_through.Given as goal

abbrev pub invariant-loop-calls : goal.invariant-loop-calls
invariant-loop-calls l = Underway l.plan l.note (vec_items l.calls) l.until l.reader

-- how far there is to go, and the steps that are left
abbrev pub decreases-loop-calls : goal.decreases-loop-calls
decreases-loop-calls l = targets_left (length l.note) l.until + ((finds_links house l.note).enough - steps_made (vec_items l.calls))
