use Rattle.std.proofs.Common.{◌≡◌, ◌-◌, ◌≤◌, true, drop, vec_items, vec_len}
use Rattle.machine.specs.Joins.{joined}
use Rattle.tokenizer.specs.Joining.{paired, joined_from}
use Rattle.tokenizer.proofs.event_table.EventTable.join.Given as goal

abbrev pub invariant-loop-next : goal.invariant-loop-next
invariant-loop-next l = record {
  behind : l.kept ≤ l.next;
  end : l.next-end ≡ vec_len l.self.items;
  within : l.next ≤ l.next-end;
  pairs : paired (drop l.next (vec_items l.self.items)) ≡ true;
  joins : joined_from l.kept l.next (vec_items l.self.items) ≡ joined (vec_items l.initial.self.items);
}

abbrev pub decreases-loop-next : goal.decreases-loop-next
decreases-loop-next l = l.next-end - l.next
