use Rattle.calls.proofs.Computed.{every_wrong_list_is_refuted}
use Rattle.calls.proofs.examples.refuted_lists.Goals as goal

pub returns-clause-every_wrong_list_is_refuted : goal.returns-clause-every_wrong_list_is_refuted
returns-clause-every_wrong_list_is_refuted c = every_wrong_list_is_refuted
