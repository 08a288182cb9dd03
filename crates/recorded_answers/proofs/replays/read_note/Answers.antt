use Rattle.std.proofs.Common.{◌∙◌, ap}
use Rattle.reader.specs.View.{meaning_of, view}
use Rattle.recorded_answers.proofs.Pushes.{read_through}
use Rattle.recorded_answers.proofs.replays.read_note.Goals as goal

pub returns : goal.returns
returns g c =
    read_through
    (meaning_of c.args.reader.now)
    (meaning_of c.load.new.self)
    (meaning_of c.push_all.new.reader)
    (ap g.S.PunctuationSet.member c.load.ensures.set)
    c.push_all.ensures.meaning_stays
    (view c.args.reader.now)
    (view c.load.new.self)
    (view c.push_all.new.reader)
    (view c.end.new.self)
    c.args.note.now
    c.args.pushes.now
    c.args.links.now
    c.in_ok-runs.runs.items
    c.in_ok-ran.ran
    c.in_ok-load.ensures.answer
    c.in_ok-runs.ensures.answer
    c.in_ok-ran.ensures.answer
    c.push.new.self.items
    c.in_ok-events.events.items
    c.in_ok-resolved.resolved.items
    c.in_ok-push.ensures.items
    (c.in_ok-events.ensures.items ∙ c.events.ensures.events)
    c.in_ok-resolved.ensures
