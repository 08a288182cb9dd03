use Rattle.std.proofs.Common.{◌≡◌, ℕ, List, ◌++◌, length, drop}
use Rattle.marked.specs.Marks.{IsInTurn}
use Rattle.written.specs.SavedLists.{saved_from, saved_list}
use Rattle.written.proofs.Placed.{front}
use Rattle.written.proofs.saved.put_spans.Given as goal

abbrev pub invariant-loop-span : goal.invariant-loop-span
invariant-loop-span l = record {
  done : List ℕ;
  all : done ++ saved_from l.end (drop l.span-index l.spans) ≡ saved_list l.spans;
  at : l.at ≡ length done;
  written : l.out ≡ front done l.initial.out;
  turn : IsInTurn l.end 1024 (drop l.span-index l.spans);
}
