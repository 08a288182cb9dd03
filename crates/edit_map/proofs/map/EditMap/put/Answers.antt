use Rattle.std.proofs.Common.{inl}
use Rattle.edit_map.proofs.Outcomes.{far}
use Rattle.edit_map.proofs.map.EditMap.put.Goals as goal

pub returns-then-addition-gt-HIGHEST : goal.returns-then-addition-gt-HIGHEST
returns-then-addition-gt-HIGHEST g c =
    let a = c.args.addition.now in
    far a c.args.self.now c.args.store.now (inl c.if-addition-gt-HIGHEST.true)
