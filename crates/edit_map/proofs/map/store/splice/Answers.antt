use Rattle.edit_map.proofs.Splices.{spliced_in}
use Rattle.edit_map.proofs.map.store.splice.Goals as goal

pub returns : goal.returns
returns g c = spliced_in c.args.store.now c.args.elements.now _ _ c.args.used c.args.at c.requires.within c.requires.room c.rotate_right.ensures.after c.copy_from_slice.ensures.after
