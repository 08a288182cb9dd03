use Rattle.std.proofs.Common.{◌≡◌, ◌≤◌, List, length}
use lib.Seq.{paste}
use Rattle.std.specs.Iterator.{AlwaysYields}
use Rattle.text.specs.declared.spans.Span.{Span}
use Rattle.rules.proofs.addresses.write_front.Given as goal

-- whatever list it is that the iterator gives
abbrev pub invariant-loop-place : goal.invariant-loop-place
invariant-loop-place g l =
    (all : List Span) → AlwaysYields g.I.Iterator.next_gives (λ x. x) l.fn.spans all → (length all ≤ length l.initial.out) × (l.out ≡ paste l.initial.out 0 all (length l.yielded))
