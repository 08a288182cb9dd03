use Rattle.std.proofs.Common.{◌≡◌, ◌+◌, ◌*◌, ◌≤◌, length, drop}
use Rattle.marked.specs.Marks.{IsInTurn}
use Rattle.written.specs.SavedLists.{saved_from, saved_list}
use Rattle.written.proofs.saved.saved_size.Given as goal

abbrev pub invariant-loop-span : goal.invariant-loop-span
invariant-loop-span l = record {
  counted : l.size + length (saved_from l.end (drop l.span-index l.spans)) ≡ length (saved_list l.spans);
  small : l.size ≤ 6 * l.span-index;
  turn : IsInTurn l.end 1024 (drop l.span-index l.spans);
}
