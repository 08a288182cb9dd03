use Rattle.std.proofs.Common.{refl}
use Rattle.edit_map.proofs.Splices.{over_front, over-rest}
use Rattle.edit_map.proofs.map.store.copy_part.Goals as goal

pub returns : goal.returns
returns g c = rw c.copy_from_slice.ensures.after (record {
  end = refl;
  written = over_front c.args.out.now c.args.part.now c.args.at c.requires;
  rest = over-rest c.args.out.now c.args.part.now c.args.at c.requires;
})
