use Rattle.std.proofs.Common.{rules, ◌+◌, ap, ◌∙◌, arith, vec_items}
use Rattle.findings.proofs.FindsLinks.{finds_links}
use Rattle.calls.proofs.Replays.{made_none, made_more, made_all}
use Rattle.reader.specs.View.{view}
use Rattle.reader.proofs.replaying.replay.Goals as goal

pub loop-call-init : goal.loop-call-init
loop-call-init g c = record {
  made =
      made_none (g.S.PunctuationSet.member c.args.set) g.W.Watcher.saw c.args.calls.now (vec_items c.in_ok-answers.answers) c.args.watcher.now c.look.new.self
      (view c.in_ok-reader.reader) c.in_ok-reader.ensures.new c.in_ok-answers.ensures.items c.in_ok-look.ensures;
  means = ap g.S.PunctuationSet.member c.in_ok-reader.ensures.set;
  each = c.in_ok-answers.ensures.len;
  room = c.in_ok-answers.ensures.capacity;
}

pub push_reserved-requires : goal.push_reserved-requires
push_reserved-requires g c = omega (arith, c.loop-call.invariant.each, c.loop-call.invariant.room, c.loop-call-test.true)

pub loop-call-preserved : goal.loop-call-preserved
loop-call-preserved g c = record {
  made =
      made_more (g.S.PunctuationSet.member c.args.set) g.W.Watcher.saw _ c.args.calls.now c.loop-call.call-index _ (vec_items c.push_reserved.new.self)
      c.args.watcher.now c.loop-call.watcher c.look-in-loop-call.new.self (view c.loop-call.reader) (view c.make.new.self) _ c.make.result
      c.loop-call-test.true c.loop-call.invariant.made c.loop-call.invariant.means c.make.ensures.answer c.push_reserved.ensures.items c.in_ok-look-2.ensures;
  means = c.make.ensures.meaning_stays ∙ c.loop-call.invariant.means;
  each = c.push_reserved.ensures.len ∙ ap (λ n. n + 1) c.loop-call.invariant.each;
  room = search rules;
}

pub returns : goal.returns
returns g c =
    made_all (g.S.PunctuationSet.member c.args.set) finds_links g.W.Watcher.saw c.args.calls.now c.loop-call.call-index (vec_items c.loop-call.answers)
    c.args.watcher.now c.loop-call.watcher (view c.loop-call.reader) (omega (arith, c.loop-call-test.false, c.loop-call.auto.call-index-end)) c.loop-call.invariant.made
