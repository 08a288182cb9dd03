use Rattle.std.proofs.Common.{◌≤◌, List, length, sym, ap, ◌∙◌, subst}
use Rattle.text.specs.declared.spans.Span.{Span}
use Rattle.text.specs.Lent.{written_count, overwritten}
use Rattle.marked.specs.Marked.{marked_copy, OnlyMarks}
use Rattle.marked.specs.Marks.{IsInTurn}
use Rattle.written.specs.Spans.{written_spans}
use Rattle.written.proofs.Resolved.{writable, written_few, in_table}
use Rattle.written.proofs.copies.mark_events.Goals as goal

pub find_spans-count-requires : goal.find_spans-count-requires
find_spans-count-requires c =
    let w = writable c.args.note.now c.args.events.now c.requires.resolved in
    record { nested = w.nested; flat = w.flat; room = written_few c.args.note.now c.args.events.now c.requires.short w }

pub slice_bounds-spans-end : goal.slice_bounds-spans-end
slice_bounds-spans-end c =
    let few = written_few c.args.note.now c.args.events.now c.requires.short (writable c.args.note.now c.args.events.now c.requires.resolved) in
    (in_table (written_spans c.args.events.now) c.find_spans-count.new.out c.find_spans-count.result few c.find_spans-count.ensures.count c.find_spans-count.ensures.found).within

pub slice_bounds-mark_spans-end : goal.slice_bounds-mark_spans-end
slice_bounds-mark_spans-end c =
    let few = written_few c.args.note.now c.args.events.now c.requires.short (writable c.args.note.now c.args.events.now c.requires.resolved) in
    (in_table (written_spans c.args.events.now) c.find_spans-count.new.out c.find_spans-count.result few c.find_spans-count.ensures.count c.find_spans-count.ensures.found).count

pub mark_spans-requires : goal.mark_spans-requires
mark_spans-requires c =
    let note = c.args.note.now in
    let w = writable note c.args.events.now c.requires.resolved in
    let few = written_few note c.args.events.now c.requires.short w in
    let f = in_table (written_spans c.args.events.now) c.find_spans-count.new.out c.find_spans-count.result few c.find_spans-count.ensures.count c.find_spans-count.ensures.found in
    record {
      short = c.requires.short;
      few = subst (λ (xs : List Span). length xs ≤ 341) (sym f.are) few;
      in_turn = subst (IsInTurn 0 (length note)) (sym f.are) w.in_turn;
    }

pub returns : goal.returns
returns c =
    let note = c.args.note.now in
    let out = c.args.out.now in
    let few = written_few note c.args.events.now c.requires.short (writable note c.args.events.now c.requires.resolved) in
    let f = in_table (written_spans c.args.events.now) c.find_spans-count.new.out c.find_spans-count.result few c.find_spans-count.ensures.count c.find_spans-count.ensures.found in
    let m = c.mark_spans.ensures in
    record {
      answer = m.answer ∙ ap (λ (xs : List Span). written_count (marked_copy note xs) out) f.are;
      written = m.written ∙ ap (λ (xs : List Span). overwritten (marked_copy note xs) out) f.are;
      as_new = m.as_new;
      refused = m.refused;
      only_marks = subst (OnlyMarks note) f.are m.only_marks;
    }
