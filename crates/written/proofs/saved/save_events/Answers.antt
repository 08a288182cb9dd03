use Rattle.std.proofs.Common.{◌≡◌, ◌≤◌, List, length, Some, sym, ap, ◌∙◌, subst, arith}
use Rattle.text.specs.declared.spans.Span.{Span}
use Rattle.text.specs.Lent.{written_count, overwritten}
use Rattle.marked.specs.Marks.{IsInTurn}
use Rattle.marked.proofs.Copied.{wider}
use Rattle.written.specs.SavedLists.{saved_list, read_list}
use Rattle.written.specs.Spans.{written_spans}
use Rattle.written.proofs.Resolved.{writable, written_few, in_table}
use Rattle.written.proofs.saved.save_events.Goals as goal

pub find_spans-count-requires : goal.find_spans-count-requires
find_spans-count-requires c =
    let w = writable c.requires.0 c.args.events.now c.requires.2 in
    record { nested = w.nested; flat = w.flat; room = written_few c.requires.0 c.args.events.now c.requires.1 w }

pub slice_bounds-spans-end : goal.slice_bounds-spans-end
slice_bounds-spans-end c =
    let few = written_few c.requires.0 c.args.events.now c.requires.1 (writable c.requires.0 c.args.events.now c.requires.2) in
    (in_table (written_spans c.args.events.now) c.find_spans-count.new.out c.find_spans-count.result few c.find_spans-count.ensures.count c.find_spans-count.ensures.found).within

pub slice_bounds-save_spans-end : goal.slice_bounds-save_spans-end
slice_bounds-save_spans-end c =
    let few = written_few c.requires.0 c.args.events.now c.requires.1 (writable c.requires.0 c.args.events.now c.requires.2) in
    (in_table (written_spans c.args.events.now) c.find_spans-count.new.out c.find_spans-count.result few c.find_spans-count.ensures.count c.find_spans-count.ensures.found).count

pub save_spans-requires : goal.save_spans-requires
save_spans-requires c =
    let note = c.requires.0 in
    let w = writable note c.args.events.now c.requires.2 in
    let few = written_few note c.args.events.now c.requires.1 w in
    let f = in_table (written_spans c.args.events.now) c.find_spans-count.new.out c.find_spans-count.result few c.find_spans-count.ensures.count c.find_spans-count.ensures.found in
    record {
      few = subst (λ (xs : List Span). length xs ≤ 1024) (sym f.are) (omega arith);
      in_turn = subst (IsInTurn 0 1024) (sym f.are) (wider 0 (length note) 1024 (written_spans c.args.events.now) c.requires.1 w.in_turn);
    }

pub returns : goal.returns
returns c =
    let out = c.args.out.now in
    let few = written_few c.requires.0 c.args.events.now c.requires.1 (writable c.requires.0 c.args.events.now c.requires.2) in
    let f = in_table (written_spans c.args.events.now) c.find_spans-count.new.out c.find_spans-count.result few c.find_spans-count.ensures.count c.find_spans-count.ensures.found in
    let s = c.save_spans.ensures in
    record {
      answer = s.answer ∙ ap (λ (xs : List Span). written_count (saved_list xs) out) f.are;
      written = s.written ∙ ap (λ (xs : List Span). overwritten (saved_list xs) out) f.are;
      read_back = subst (λ (xs : List Span). read_list (saved_list xs) ≡ Some xs) f.are s.read_back;
      numbers_are_shortest = s.numbers_are_shortest;
    }
