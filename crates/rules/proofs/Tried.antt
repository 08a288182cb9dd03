-- The examples come out: each is computed.
-- Assumes nothing.
use Rattle.std.proofs.Common.{refl}
use Rattle.std.specs.List.{AllByRecursion}
use Rattle.rules.specs.Examples.{ComesOut, notes_to_try, www_examples, protocol_examples, domain_examples, path_examples, turn_examples, local_examples, scheme_examples, mail_domain_examples, resource_examples, mail_turn_examples, EveryExampleComesOut, EveryCutComesOut, EveryTrailComesOut}

notes_to_try_out : AllByRecursion ComesOut notes_to_try
notes_to_try_out = ((refl, (refl, tt)), ((refl, (refl, tt)), ((refl, (refl, tt)), ((refl, (refl, tt)), ((refl, (refl, tt)), ((refl, (refl, tt)), ((refl, (refl, tt)), ((refl, tt), ((refl, tt), ((refl, (refl, tt)), ((refl, (refl, tt)), ((refl, (refl, tt)), ((refl, (refl, tt)), ((refl, (refl, tt)), ((refl, (refl, tt)), ((refl, (refl, tt)), ((refl, (refl, tt)), ((refl, (refl, tt)), ((refl, (refl, tt)), ((refl, (refl, tt)), ((refl, (refl, tt)), ((refl, (refl, tt)), ((refl, (refl, tt)), ((refl, (refl, tt)), ((refl, (refl, tt)), ((refl, (refl, tt)), ((refl, (refl, tt)), tt)))))))))))))))))))))))))))

www_examples_out : AllByRecursion ComesOut www_examples
www_examples_out = ((refl, (refl, tt)), ((refl, (refl, tt)), ((refl, (refl, tt)), ((refl, (refl, tt)), ((refl, (refl, tt)), ((refl, (refl, tt)), ((refl, (refl, tt)), ((refl, (refl, tt)), ((refl, (refl, tt)), ((refl, (refl, tt)), ((refl, (refl, tt)), ((refl, (refl, tt)), ((refl, (refl, tt)), ((refl, (refl, tt)), ((refl, (refl, tt)), tt)))))))))))))))

protocol_examples_out : AllByRecursion ComesOut protocol_examples
protocol_examples_out = ((refl, (refl, tt)), ((refl, (refl, tt)), ((refl, (refl, tt)), ((refl, (refl, tt)), ((refl, (refl, tt)), ((refl, (refl, tt)), ((refl, (refl, tt)), tt)))))))

domain_examples_out : AllByRecursion ComesOut domain_examples
domain_examples_out = ((refl, (refl, tt)), ((refl, (refl, tt)), ((refl, (refl, tt)), ((refl, (refl, tt)), ((refl, (refl, tt)), ((refl, (refl, tt)), ((refl, (refl, tt)), ((refl, (refl, tt)), tt))))))))

path_examples_out : AllByRecursion ComesOut path_examples
path_examples_out = ((refl, (refl, tt)), ((refl, (refl, tt)), ((refl, (refl, tt)), ((refl, (refl, tt)), ((refl, (refl, tt)), ((refl, (refl, tt)), ((refl, (refl, tt)), ((refl, (refl, tt)), ((refl, (refl, tt)), ((refl, (refl, tt)), ((refl, (refl, tt)), ((refl, (refl, tt)), tt))))))))))))

turn_examples_out : AllByRecursion ComesOut turn_examples
turn_examples_out = ((refl, (refl, tt)), ((refl, (refl, tt)), ((refl, (refl, tt)), ((refl, (refl, tt)), tt))))

local_examples_out : AllByRecursion ComesOut local_examples
local_examples_out = ((refl, (refl, tt)), ((refl, (refl, tt)), ((refl, (refl, tt)), ((refl, (refl, tt)), ((refl, (refl, tt)), ((refl, (refl, tt)), ((refl, (refl, tt)), ((refl, (refl, tt)), ((refl, (refl, tt)), tt)))))))))

scheme_examples_out : AllByRecursion ComesOut scheme_examples
scheme_examples_out = ((refl, (refl, tt)), ((refl, (refl, tt)), ((refl, (refl, tt)), ((refl, (refl, tt)), ((refl, (refl, tt)), ((refl, (refl, tt)), ((refl, (refl, tt)), ((refl, (refl, tt)), ((refl, (refl, tt)), tt)))))))))

mail_domain_examples_out : AllByRecursion ComesOut mail_domain_examples
mail_domain_examples_out = ((refl, (refl, tt)), ((refl, (refl, tt)), ((refl, (refl, tt)), ((refl, (refl, tt)), ((refl, (refl, tt)), ((refl, (refl, tt)), ((refl, (refl, tt)), ((refl, (refl, tt)), ((refl, (refl, tt)), ((refl, (refl, tt)), ((refl, (refl, tt)), tt)))))))))))

resource_examples_out : AllByRecursion ComesOut resource_examples
resource_examples_out = ((refl, (refl, tt)), ((refl, (refl, tt)), ((refl, (refl, tt)), ((refl, (refl, tt)), ((refl, (refl, tt)), ((refl, (refl, tt)), ((refl, (refl, tt)), ((refl, (refl, tt)), tt))))))))

mail_turn_examples_out : AllByRecursion ComesOut mail_turn_examples
mail_turn_examples_out = ((refl, (refl, tt)), ((refl, (refl, tt)), ((refl, (refl, tt)), ((refl, (refl, tt)), ((refl, (refl, tt)), tt)))))

pub examples_out : EveryExampleComesOut
examples_out = (notes_to_try_out, (www_examples_out, (protocol_examples_out, (domain_examples_out, (path_examples_out, (turn_examples_out, (local_examples_out, (scheme_examples_out, (mail_domain_examples_out, (resource_examples_out, (mail_turn_examples_out, tt)))))))))))

pub cuts_out : EveryCutComesOut
cuts_out = (refl, (refl, (refl, (refl, (refl, (refl, tt))))))

pub trails_out : EveryTrailComesOut
trails_out = (refl, (refl, (refl, (refl, (refl, (refl, (refl, (refl, (refl, (refl, (refl, (refl, (refl, (refl, tt))))))))))))))
