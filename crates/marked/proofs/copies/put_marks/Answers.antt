use Rattle.std.proofs.Common.{◌≡◌, ◌*◌, List, [], ◌∷◌, length, sym, refl, ap, ◌∙◌, arith}
use Rattle.std.proofs.lemmas.List.{append-nil}
use Rattle.text.specs.declared.spans.Span.{Span}
use Rattle.edit_map.specs.Entries.{total, edits}
use Rattle.edit_map.specs.View.{kept_count, edits_of}
use Rattle.marked.specs.Marks.{with_marks, marks}
use Rattle.marked.proofs.Turns.{turn, one_less, all_done}
use Rattle.marked.proofs.copies.put_marks.Goals as goal

pub loop-span-init : goal.loop-span-init
loop-span-init c =
    let all : c.into_iter-span-iterator.result.iter.rest.now ≡ c.args.spans.now = cc in
    record {
      done = [];
      all = rw (all, append-nil) refl;
      made = ap (λ es. edits es c.args.store.now) c.requires.as_new;
      kept = ap total c.requires.as_new;
    }

pub mark_span-requires : goal.mark_span-requires
mark_span-requires c =
    let i = c.loop-span.invariant in
    let t = turn c.args.spans.now c.next.new.self.iter.rest.now c.in-Some.span.now i.done (edits_of c.loop-span.map c.loop-span.store) (kept_count c.loop-span.map) (length c.loop-span.store) c.requires.in_turn c.requires.few (one_less c.args.spans.now _ _ _ i.done i.all c.in-Some.ensures.steps) i.made i.kept (omega (arith, c.requires.room, c.loop-span.auto.store)) in
    record { forward = t.forward; order = t.order; few = t.few; room = t.fits }

pub loop-span-preserved : goal.loop-span-preserved
loop-span-preserved c =
    let i = c.loop-span.invariant in
    record {
      done = c.in-Some.span.now ∷ i.done;
      all = one_less c.args.spans.now _ _ _ i.done i.all c.in-Some.ensures.steps;
      made = c.mark_span.ensures.edits ∙ ap (with_marks c.in-Some.span.now) i.made;
      kept = omega (arith, i.kept, c.mark_span.ensures.kept);
    }

pub returns : goal.returns
returns c =
    let i = c.loop-span.invariant in
    let all = all_done c.args.spans.now _ i.done i.all c.in-None.ensures.steps.0 in
    record { answer = refl; edits = i.made ∙ ap marks (sym all); kept = i.kept ∙ ap (λ (l : List Span). 3 * length l) (sym all) }
