use Rattle.reader.specs.View.{meaning_of, view}
use Rattle.reader.proofs.Keeping.{always}
use Rattle.reader.proofs.reader.Reader.events.Goals as goal

pub returns-clause-always : goal.returns-clause-always
returns-clause-always g c = always (meaning_of c.args.self.now) (view c.args.self.now) c.args.self.now.reachable
