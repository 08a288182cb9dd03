use Rattle.std.proofs.Common.{arith}
use Rattle.std.proofs.lemmas.Grind.{common_steps}
use Rattle.rules.proofs.Cuts.{lawful-segments}
use Rattle.rules.proofs.SpanLaws.{lawful-spans}
use Rattle.rules.proofs.WebParts.{lawful}
use Rattle.rules.proofs.web.is_web.Goals as goal

pub returns-in-Www-clause-web_spans_are_lawful : goal.returns-in-Www-clause-web_spans_are_lawful
returns-in-Www-clause-web_spans_are_lawful c = lawful

pub returns-in-Www-clause-segments_are_lawful : goal.returns-in-Www-clause-segments_are_lawful
returns-in-Www-clause-segments_are_lawful c = lawful-segments

pub returns-in-Www-clause-spans_are_lawful : goal.returns-in-Www-clause-spans_are_lawful
returns-in-Www-clause-spans_are_lawful c = lawful-spans

pub returns-in_default : goal.returns-in_default
returns-in_default c =
    record {
      answer = grind (arith, common_steps);
      web_spans_are_lawful = lawful;
      segments_are_lawful = lawful-segments;
      spans_are_lawful = lawful-spans;
    }
