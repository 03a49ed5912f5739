use Rattle.drm_script.proofs.ReportLemmas.{report_one_way}
use Rattle.drm_script.proofs.report.reports_read_one_way.Goals as goal

pub returns : goal.returns
returns c = report_one_way
