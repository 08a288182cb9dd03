use Rattle.std.proofs.Common.{sym, ◌∙◌}
use Rattle.calls.specs.Links.{resolved}
use Rattle.calls.specs.Steps.{held}
use Rattle.reader.specs.View.{meaning_of, view}
use Rattle.reader.proofs.Keeping.{resolvable, led_by_resolve}
use Rattle.reader.proofs.reader.Reader.resolve.Goals as goal

pub resolve-requires : goal.resolve-requires
resolve-requires g c =
    resolvable (meaning_of c.args.self.now) (view c.args.self.now) c.deref.result.now c.deref-2.result.now c.deref.ensures.value c.deref-2.ensures.value
    (sym c.is_ended.ensures ∙ c.if-not-is_ended.false) c.args.self.now.reachable

pub invariant_of-self-2 : goal.invariant_of-self-2
invariant_of-self-2 g c = record {
  reachable =
      led_by_resolve (meaning_of c.args.self.now) (view c.args.self.now) c.resolve.new.events.items.items
      (c.resolve.ensures.resolved ∙ (λ i. resolved (c.deref.ensures.value i) (c.deref-2.ensures.value i) (held (view c.args.self.now))))
      (sym c.is_empty.ensures ∙ c.if-is_empty.false) (sym c.is_ended.ensures ∙ c.if-not-is_ended.false) c.args.self.now.reachable;
}
