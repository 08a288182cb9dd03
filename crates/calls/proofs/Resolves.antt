-- The resolved list is lawful, still read, and resolved.
-- Assumes nothing.
use Rattle.std.proofs.Common.{◌≡◌, ℕ, Bool, true, false, List, [], length, filter, sym, ap, ◌∙◌, subst, arith}
use Rattle.std.specs.List.{AllByRecursion}
use Rattle.machine.specs.Joins.{is_data}
use Rattle.machine.specs.Laws.{Segment, Tiles}
use Rattle.calls.specs.declared.links.MarkedRun.{MarkedRun}
use Rattle.calls.specs.EventLists.{is_line_ending, is_link, is_web_address, is_mail_address, open_last, only_links_hold, spans, with_name, leaves, in_order, data_apart, holding, goes_forward, LawfulEvents}
use Rattle.calls.specs.Links.{marked_in_turn, ended_spans, ended_events, resolved_events}
use Rattle.calls.specs.Claims.{FullyRead, FullyResolved, In, marked_spans, mail_outside}
use Rattle.calls.proofs.Names.{web_other, line_other}
use Rattle.calls.proofs.Spans.{unlinked, Leaf, tiles-ordered, holding-once, spans_of}
use Rattle.calls.proofs.Ended.{Alone, alone_apart, Standing, segment-tiles, segment-leaves, segment_alone, segment_standing, segment-no-mail, ended-read}
use Rattle.calls.proofs.Groups.{Groups, flat, group_events, Grouped, grouped}
use Rattle.calls.proofs.GroupLists.{group_spans, group_leaves, spans_group, leaves_group, links_group, named_group, group_tiles, group_nests, group_open, group_holds, group_placed, group_forward, group_alone}
use Rattle.calls.proofs.GroupData.{in_kept, Stands, stands, NotMail, mail_group, whole_by, split_by}

module _ (member : ℕ → Bool) (note : List ℕ) (ls : List MarkedRun) (ok : marked_in_turn (ended_events member note) 0 ls ≡ true) where
  by : Grouped note (ended_spans member note) 0 ls
  by = grouped note (ended_spans member note) ls 0 ok

  abbrev gs : Groups
  gs = by.groups

  flat_gs : flat gs ≡ ended_spans member note
  flat_gs = by.flat_are

  events_gs : resolved_events member note ls ≡ group_events note gs
  events_gs = by.events_are

  tiles_gs : Tiles 0 (length note) (flat gs)
  tiles_gs = subst (λ l. Tiles 0 (length note) l) (sym flat_gs) (segment-tiles member note)

  leaf_gs : AllByRecursion Leaf (flat gs)
  leaf_gs = subst (AllByRecursion Leaf) (sym flat_gs) (segment-leaves member note)

  standing_gs : AllByRecursion (Standing note) (flat gs)
  standing_gs = subst (AllByRecursion (Standing note)) (sym flat_gs) (segment_standing member note)

  spans_gs : spans (resolved_events member note ls) ≡ group_spans note gs
  spans_gs = ap spans events_gs ∙ spans_group note gs

  leaves_gs : leaves (resolved_events member note ls) ≡ group_leaves note gs
  leaves_gs = ap (filter unlinked) spans_gs ∙ leaves_group note gs leaf_gs

  leaf_tiles : Tiles 0 (length note) (group_leaves note gs)
  leaf_tiles = group_tiles note gs 0 (length note) (omega arith) tiles_gs

  pub resolved-lawful : LawfulEvents note (resolved_events member note ls)
  resolved-lawful = subst (LawfulEvents note) (sym events_gs) (record {
    nested = group_nests note gs 0 (length note) (omega arith) tiles_gs by.none_empty;
    placed = group_placed note gs 0 (length note) (omega arith) tiles_gs standing_gs by.none_empty;
  })

  pub resolved_read : FullyRead member note (resolved_events member note ls)
  resolved_read =
      let r = ended-read member note in
      let old = spans_of note (ended_spans member note) in
      record {
        all_closed = ap (open_last []) events_gs ∙ group_open note gs;
        forward = ap (goes_forward 0) events_gs ∙ group_forward note gs 0 (length note) (omega arith) tiles_gs by.none_empty;
        flat = ap (only_links_hold []) events_gs ∙ group_holds note gs leaf_gs;
        web = ap (with_name is_web_address) spans_gs ∙ named_group is_web_address web_other note gs ∙ ap (with_name is_web_address) (flat_gs ∙ sym old) ∙ r.web;
        lines = ap (with_name is_line_ending) spans_gs ∙ named_group is_line_ending line_other note gs ∙ ap (with_name is_line_ending) (flat_gs ∙ sym old) ∙ r.lines;
        ordered = ap (in_order 0) leaves_gs ∙ tiles-ordered (group_leaves note gs) 0 (length note) leaf_tiles;
        each_byte_once = λ i lt. ap (λ l. holding l i) leaves_gs ∙ holding-once (group_leaves note gs) 0 (length note) i leaf_tiles (omega arith) lt;
        uncut = ap data_apart leaves_gs ∙ alone_apart false (group_leaves note gs) (group_alone note gs false (subst (Alone false) (sym flat_gs) (segment_alone member note)));
      }

  stands_gs : (x : Segment) → In x (ended_spans member note) → Stands note gs x
  stands_gs x h = stands note gs x 0 (length note) (omega arith) tiles_gs by.none_empty (subst (In x) (sym flat_gs) h)

  pub resolved-resolved : FullyResolved member note ls (resolved_events member note ls)
  resolved-resolved = record {
    around = ap (with_name is_link) spans_gs ∙ links_group note gs leaf_gs ∙ sym by.links_are;
    mail = ap (with_name is_mail_address) spans_gs ∙ mail_group note gs 0 (length note) (omega arith) tiles_gs by.none_empty (subst (AllByRecursion NotMail) (sym flat_gs) (segment-no-mail member note)) ∙ (λ i. mail_outside note (sym by.links_are i) (with_name is_data (flat_gs i)));
    split_outside = λ x h e.
        let w = in_kept (λ y. is_data y.name) x (ended_spans member note) h in
        split_by note gs x (leaves (resolved_events member note ls)) (marked_spans member note ls) leaves_gs by.links_are (stands_gs x w.0) w.1 e;
    whole_inside = λ x h e.
        let w = in_kept (λ y. is_data y.name) x (ended_spans member note) h in
        whole_by note gs x (leaves (resolved_events member note ls)) (marked_spans member note ls) leaves_gs by.links_are (stands_gs x w.0) e;
  }
