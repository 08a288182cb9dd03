use Rattle.std.proofs.Common.{sym, ap, ◌∙◌}
use Rattle.std.specs.Result.{result_from_control_flow}
use Rattle.tokenizer.specs.View.{machine}
use Rattle.reader.specs.View.{meaning_of, view}
use Rattle.reader.proofs.Keeping.{led_by_load}
use Rattle.reader.proofs.reader.Reader.load.Goals as goal

pub invariant_of-self : goal.invariant_of-self
invariant_of-self g c = record {
  reachable =
      led_by_load (meaning_of c.args.self.now) (view c.args.self.now) c.args.note c.in_ok-check_length.field-0
      (machine c.restart.new.self) c.clear.new.self.items.items
      (sym c.check_length.ensures ∙ c.branch-check_length.ensures ∙ ap result_from_control_flow c.in_ok-check_length.is)
      (sym c.is_empty.ensures ∙ c.if-not-is_empty.false) c.restart.ensures c.clear.ensures c.args.self.now.reachable;
}
