use Rattle.std.proofs.Common.{◌≡◌, ◌+◌, get_or, sym, refl, ap, ◌∙◌, arith}
use Rattle.text.specs.declared.places.Point.{Point}
use Rattle.text.specs.Places.{past, place_of, point}
use Rattle.text.proofs.Walks.{come_none, come_more, come_there, line_counts, tabs_fill, shifted-place}
use Rattle.text.proofs.places.walk.Goals as goal

pub loop-at-init : goal.loop-at-init
loop-at-init c = record { come = come_none c.args.note.now c.args.from c.requires.small.2; there = refl }

pub pass-next-requires : goal.pass-next-requires
pass-next-requires c =
    let come = c.loop-at.invariant.come in
    (omega (arith, come.line), omega (arith, come.column), omega arith)

pub loop-at-preserved : goal.loop-at-preserved
loop-at-preserved c =
    let s = c.args.note.now in
    let next = c.loop-at.next in
    let here : c.pass-next.result ≡ point (past (get_or s next.index 0) (get_or s (next.index + 1) 0) (place_of next)) (next.index + 1) =
    c.pass-next.ensures
    ∙ ap (λ b. point (past (get_or s c.loop-at.at 0) b (place_of next)) (next.index + 1)) c.byte_at.ensures
    ∙ ap (λ i. point (past (get_or s i 0) (get_or s (i + 1) 0) (place_of next)) (next.index + 1)) (sym c.loop-at.invariant.there) in
    record {
      come = come_more s c.args.from next c.pass-next.result c.loop-at.invariant.come here;
      there = omega (arith, ap (λ (p : Point). p.index) here, c.loop-at.invariant.there);
    }

pub returns : goal.returns
returns c =
    let s = c.args.note.now in
    let there : c.loop-at.next.index ≡ c.args.index = omega arith in
    let is = come_there s c.args.from c.loop-at.next c.args.index c.loop-at.invariant.come there in
    record {
      shifted = is;
      place = λ e. is ∙ shifted-place s c.args.from c.args.index e c.requires.forward;
      line_counts_line_endings = line_counts s;
      tabs_fill_up = tabs_fill s;
    }
