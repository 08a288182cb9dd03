use Rattle.std.proofs.Common.{◌≡◌, ◌∙◌, Ok, IfOk, ap, subst}
use Rattle.calls.specs.Calls.{load}
use Rattle.punctuation.specs.RangeLists.{numbers_of, range_member}
use Rattle.recorded_answers.specs.Agreement.{said}
use Rattle.recorded_answers.specs.Replays.{reading}
use Rattle.recorded_answers.proofs.replays.replay.Goals as goal

-- The reader reads with what the numbers of the set mean, and takes the note, the pushes and the links of the record.
pub returns : goal.returns
returns c =
    let meaning =
    ap (λ set. range_member (numbers_of set.ranges.now)) c.in_ok-reader.ensures.set
    ∙ c.new.ensures.members
    ∙ ap range_member (c.deref.ensures.value ∙ c.in_ok-ranges.ensures)
    in
    subst
    (λ x. IfOk c.read_note.result (λ a. x ≡ Ok (said a)))
    (λ i. reading (meaning i) (c.deref-3.ensures.value i) (c.deref-4.ensures.value i) (load (c.in_ok-reader.ensures.new i) (c.deref-2.ensures.value i)))
    c.read_note.ensures
