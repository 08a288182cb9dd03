use Rattle.std.proofs.Common.{◌≡◌, ◌*◌, List, ◌++◌, length}
use Rattle.text.specs.declared.spans.Span.{Span}
use Rattle.edit_map.specs.View.{kept_count, edits_of}
use Rattle.marked.specs.Marks.{marks}
use Rattle.marked.proofs.copies.put_marks.Given as goal

abbrev pub invariant-loop-span : goal.invariant-loop-span
invariant-loop-span l = record {
  done : List Span;
  all : l.spans ≡ l.span-iterator.iter.rest.now ++ done;
  made : edits_of l.map l.store ≡ marks done;
  kept : kept_count l.map ≡ 3 * length done;
}
