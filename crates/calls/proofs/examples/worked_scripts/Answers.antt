use Rattle.calls.proofs.Checks.{refusals_change_nothing}
use Rattle.calls.proofs.Computed.{every_script_comes_out}
use Rattle.calls.proofs.examples.worked_scripts.Goals as goal

pub returns-clause-every_script_comes_out : goal.returns-clause-every_script_comes_out
returns-clause-every_script_comes_out c = every_script_comes_out

pub returns-clause-refusals_change_nothing : goal.returns-clause-refusals_change_nothing
returns-clause-refusals_change_nothing c = refusals_change_nothing
