use Rattle.std.proofs.Common.{◌≡◌, ℕ, ◌≤◌, List}
use Rattle.std.specs.List.{fold}
use Rattle.text.specs.Places.{point_at}
use Rattle.characters.specs.CharacterLists.{characters_from}
use Rattle.punctuation.specs.Kinds.{kind_of}
use Rattle.punctuation.specs.RangeLists.{numbers_of, range_member, house}
use Rattle.classes.specs.Tallies.{counted, tally_of}
use Rattle.classes.proofs.list_characters.Given as goal

-- what is left is the characters from place k on, which brings the tally to that of the note
abbrev pub invariant-loop-index : goal.invariant-loop-index
invariant-loop-index l =
    let left : List (ℕ × ℕ) = characters_from l.index-iterator.bytes.now l.index-iterator.index in
    (goal.iterator-loop-index).can_next l.index-iterator × (goal.iterator-loop-index).is_finite l.index-iterator
    × record {
      total : fold (λ t p. counted (kind_of house p.1) t) l.tally left ≡ tally_of l.note;
      from : (k : ℕ) × (l.point.index ≤ k) × (left ≡ characters_from l.note k);
      place : l.point ≡ point_at l.note l.point.index;
      meaning : range_member (numbers_of l.set.ranges.now) ≡ house;
    }
