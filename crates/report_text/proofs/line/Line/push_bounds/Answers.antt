use Rattle.std.proofs.Common.{append_assoc}
use Rattle.report_text.proofs.line.Line.push_bounds.Goals as goal

pub returns : goal.returns
returns c =
    rw (c.push-3.ensures.text, c.push_decimals-2.ensures.text, c.push_fraction-2.ensures.text, c.push-2.ensures.text, c.push_decimals.ensures.text, c.push_fraction.ensures.text, c.push.ensures.text)
    (simp append_assoc)
