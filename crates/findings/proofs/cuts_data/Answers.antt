use Rattle.findings.proofs.FindsLinks.{finds_links}
use Rattle.findings.proofs.cuts_data.Goals as goal

pub returns-in-10-clause-finds_links : goal.returns-in-10-clause-finds_links
returns-in-10-clause-finds_links c = finds_links

pub returns-in_default-clause-finds_links : goal.returns-in_default-clause-finds_links
returns-in_default-clause-finds_links c = finds_links
