use Rattle.std.proofs.Common.{◌+◌, ◌++◌, length, get_or, drop, sym, ap, ◌∙◌, subst, arith}
use Rattle.std.proofs.lemmas.List.{append_assoc, length-append, drop_more}
use Rattle.text.specs.declared.spans.Span.{Span}
use Rattle.text.specs.declared.spans.SpanKind.TheVariants.{Www}
use Rattle.marked.specs.Marks.{IsInTurn}
use Rattle.written.specs.Fronts.{placed}
use Rattle.written.specs.SavedLists.{saved_span, saved_from}
use Rattle.written.proofs.Placed.{placed-front}
use Rattle.written.proofs.saved.put_spans.Goals as goal

abbrev no_span : Span
no_span = record { kind = Www; from = 0; to = 0 }

pub loop-span-preserved : goal.loop-span-preserved
loop-span-preserved c =
    let i = c.loop-span.invariant in
    let at = c.loop-span.span-index in
    let xs = c.args.spans.now in
    let end = c.loop-span.end in
    let x = get_or xs at no_span in
    let rest = drop (at + 1) xs in
    let more = saved_span end x in
    let next = drop_more xs at no_span (omega arith) in
    record {
      done = i.done ++ more;
      all = append_assoc i.done more (saved_from x.to rest) ∙ ap (λ l. i.done ++ saved_from end l) (sym next) ∙ i.all;
      at = c.put_span-at.ensures.next ∙ ap (λ n. n + length more) i.at ∙ sym (length-append i.done more);
      written = c.put_span-at.ensures.written ∙ (λ j. placed more (i.at j) (i.written j)) ∙ placed-front i.done more c.args.out.now;
      turn = (subst (IsInTurn end 1024) next i.turn).3;
    }
