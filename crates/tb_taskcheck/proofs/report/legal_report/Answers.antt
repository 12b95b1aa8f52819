use Rattle.tb_taskcheck.proofs.LegalLemmas.{legal_report}
use Rattle.tb_taskcheck.proofs.report.legal_report.Goals as goal

pub returns : goal.returns
returns c s cells behind legal is counted =
    let l = c.in_ok-names.ensures s behind in
    legal_report s c.args.events c.in_ok-names.unended _ c.put_head.new.names l c.in_ok-put_head.ensures counted cells c.args.found c.put_front.new.lines c.outcome.result
    c.outcome.ensures c.in_ok-put_front.ensures legal is
