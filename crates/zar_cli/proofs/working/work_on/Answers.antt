use Rattle.std.proofs.Common.{rules}
use Rattle.zar_cli.proofs.Worked.{works_alone, works_as}
use Rattle.zar_cli.proofs.working.work_on.Goals as goal

pub returns-in-Sample : goal.returns-in-Sample
returns-in-Sample g c = search (rules, works_as)

pub returns-in-Mass : goal.returns-in-Mass
returns-in-Mass g c = search (rules, works_alone)

pub returns-in-Cost : goal.returns-in-Cost
returns-in-Cost g c = search (rules, works_alone)

pub returns-in-HowLong : goal.returns-in-HowLong
returns-in-HowLong g c = search (rules, works_alone)

pub returns-in-Posterior : goal.returns-in-Posterior
returns-in-Posterior g c = search (rules, works_alone)

pub returns-in-Exact : goal.returns-in-Exact
returns-in-Exact g c = search (rules, works_alone)

pub returns-in-Enclose : goal.returns-in-Enclose
returns-in-Enclose g c = search (rules, works_alone)

pub returns-in-Audit : goal.returns-in-Audit
returns-in-Audit g c = search (rules, works_alone)

pub returns-in-Tally : goal.returns-in-Tally
returns-in-Tally g c = search (rules, works_alone)

pub returns-in-Runs : goal.returns-in-Runs
returns-in-Runs g c = search (rules, works_alone)

pub returns-in-Hunt : goal.returns-in-Hunt
returns-in-Hunt g c = search (rules, works_alone)

pub returns-in-Check : goal.returns-in-Check
returns-in-Check g c = search (rules, works_alone)

pub returns-in-Code : goal.returns-in-Code
returns-in-Code g c = search (rules, works_alone)

pub returns-in-Forgetful : goal.returns-in-Forgetful
returns-in-Forgetful g c = search (rules, works_alone)
