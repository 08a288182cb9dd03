use Rattle.rules.proofs.Tried.{examples_out, cuts_out, trails_out}
use Rattle.rules.proofs.web.count_examples.Goals as goal

pub returns-clause-every_example_comes_out : goal.returns-clause-every_example_comes_out
returns-clause-every_example_comes_out c = examples_out

pub returns-clause-every_cut_comes_out : goal.returns-clause-every_cut_comes_out
returns-clause-every_cut_comes_out c = cuts_out

pub returns-clause-every_trail_comes_out : goal.returns-clause-every_trail_comes_out
returns-clause-every_trail_comes_out c = trails_out
