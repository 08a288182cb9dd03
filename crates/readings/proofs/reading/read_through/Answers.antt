use Rattle.std.proofs.Common.{length, min, ap, sym, ◌∙◌, arith}
use Rattle.punctuation.specs.RangeLists.{numbers_of, range_member}
use Rattle.punctuation.specs.declared.range_lists.RangeList.{RangeList}
use Rattle.readings.specs.Readings.{next_target}
use Rattle.readings.proofs.Underway.{loads, begins, paused-on, paused-left, done-on, done-left, read_through}
use Rattle.readings.proofs.reading.read_through.Goals as goal

pub loop-calls-init : goal.loop-calls-init
loop-calls-init c =
    begins c.args.plan c.args.note.now _ c.load.new.self c.min.result c.new-calls.ensures.items (c.min.ensures ∙ ap (min (length c.args.note.now)) c.get.ensures.value)
    (ap (λ (x : RangeList). range_member (numbers_of x.ranges.now)) c.load.ensures.set ∙ c.requires.meaning)
    (loads c.args.reader.now c.load.new.self c.args.note.now _ c.requires.short c.requires.new c.load.ensures.answer)

pub loop-calls-smaller-in-Some : goal.loop-calls-smaller-in-Some
loop-calls-smaller-in-Some c =
    done-left c.args.plan c.args.note.now _ _ _ c.read_on-ran.new.reader _ c.loop-calls.invariant _ c.get-in-loop-calls.ensures.value c.get-in-loop-calls.ensures.nonzero c.read_on-ran.ensures.answer c.read_on-ran.ensures.meaning_stays _ c.in_ok-push.ensures.items
    _ (omega (arith, c.get-then-ran.ensures)) (c.in-Some.ensures ∙ ap (next_target c.loop-calls.until (length c.args.note.now)) c.get-then-ran.ensures.value) c.if-ran.true

pub loop-calls-preserved-in-Some : goal.loop-calls-preserved-in-Some
loop-calls-preserved-in-Some c =
    done-on c.args.plan c.args.note.now _ _ _ c.read_on-ran.new.reader _ c.loop-calls.invariant _ c.get-in-loop-calls.ensures.value c.get-in-loop-calls.ensures.nonzero c.read_on-ran.ensures.answer c.read_on-ran.ensures.meaning_stays _ c.in_ok-push.ensures.items
    _ (omega (arith, c.get-then-ran.ensures)) (c.in-Some.ensures ∙ ap (next_target c.loop-calls.until (length c.args.note.now)) c.get-then-ran.ensures.value) c.if-ran.true

pub returns-in-None-clause-read : goal.returns-in-None-clause-read
returns-in-None-clause-read c =
    read_through c.args.plan c.args.note.now _ _ _ c.read_on-ran.new.reader _ c.loop-calls.invariant _ c.get-in-loop-calls.ensures.value c.get-in-loop-calls.ensures.nonzero c.read_on-ran.ensures.answer c.read_on-ran.ensures.meaning_stays _ c.in_ok-push.ensures.items
    (sym (c.in-None.ensures ∙ ap (next_target c.loop-calls.until (length c.args.note.now)) c.get-then-ran.ensures.value)) c.if-ran.true

pub loop-calls-smaller : goal.loop-calls-smaller
loop-calls-smaller c =
    paused-left c.args.plan c.args.note.now _ _ _ c.read_on-ran.new.reader _ c.loop-calls.invariant _ c.get-in-loop-calls.ensures.value c.get-in-loop-calls.ensures.nonzero c.read_on-ran.ensures.answer c.read_on-ran.ensures.meaning_stays _ c.in_ok-push.ensures.items
    c.if-ran.false

pub loop-calls-preserved : goal.loop-calls-preserved
loop-calls-preserved c =
    paused-on c.args.plan c.args.note.now _ _ _ c.read_on-ran.new.reader _ c.loop-calls.invariant _ c.get-in-loop-calls.ensures.value c.get-in-loop-calls.ensures.nonzero c.read_on-ran.ensures.answer c.read_on-ran.ensures.meaning_stays _ c.in_ok-push.ensures.items
    c.if-ran.false
