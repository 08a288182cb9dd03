use Rattle.std.proofs.Common.{rules}
use Rattle.std.proofs.lemmas.List.Sorted.{answers_always}
use Rattle.edit_map.specs.declared.entries.Entry.{Entry}
use Rattle.edit_map.proofs.Ranks.{searched}
use Rattle.edit_map.proofs.map.EditMap.search.Goals as goal

pub returns : goal.returns
returns c =
    let facts = c.binary_search_by_key.ensures in
    let by_place = facts.position (λ (e : Entry). e.place) (answers_always _ _ _ (λ f a r g called. search rules)) in
    rw (← c.deref.ensures.value) (searched _ (rw c.deref.ensures.value c.args.self.now.ordered) c.args.place _ facts.bound by_place)
