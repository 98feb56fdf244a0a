use Rattle.std.proofs.Common.{inl}
use Rattle.bits_fold.specs.Counted.{price_of}
use Rattle.bits_law.specs.RunPrice.{expected_price}
use Rattle.gcl_core.specs.meaning.Views.{source_of}
use Rattle.mass_lines.proofs.telling.count_text.Goals as goal

pub returns-in_ok-count_line-in-Ok-clause-line : goal.returns-in_ok-count_line-in-Ok-clause-line
returns-in_ok-count_line-in-Ok-clause-line c =
    inl (c.in_ok-count_line-in-Ok.ensures (expected_price (price_of c.args.what) (source_of c.args.program.now)) c.in-Ok.ensures.answer)
