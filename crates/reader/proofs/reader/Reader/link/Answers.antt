use Rattle.std.proofs.Common.{rules, sym, ◌∙◌}
use Rattle.calls.specs.Steps.{run_of}
use Rattle.reader.specs.View.{meaning_of, view}
use Rattle.reader.proofs.Keeping.{led_by_link}
use Rattle.reader.proofs.reader.Reader.link.Goals as goal

pub invariant_of-self : goal.invariant_of-self
invariant_of-self g c = record {
  reachable =
      led_by_link (meaning_of c.args.self.now) (view c.args.self.now) (run_of c.args.first c.args.last) c.push.new.self.items.items c.push.ensures
      (sym c.is_empty.ensures ∙ c.if-is_empty.false) (sym c.is_ended.ensures ∙ c.if-not-is_ended.false)
      (sym c.is_markable.ensures ∙ c.if-not-is_markable.false) (search rules) c.args.self.now.reachable;
}
