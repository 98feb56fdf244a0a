use Rattle.std.proofs.Common.{◌≡◌, ◌∙◌, ap, sym}
use Rattle.gcl_core.specs.declared.words.Word.TheVariants as w
use Rattle.gcl_core.specs.text.Names.{with_name}
use Rattle.gcl_core.specs.text.Words.{slice_of}
use Rattle.gcl_core.proofs.TokenWords.{number_with}
use Rattle.gcl_parse.proofs.wording.word.Goals as goal

pub returns-in_ok-number-in-Name-clause-word : goal.returns-in_ok-number-in-Name-clause-word
returns-in_ok-number-in-Name-clause-word c =
    let name = slice_of c.args.text.now c.args.token in
    let new : c.add.new.self ≡ with_name c.args.names.now name = c.in_ok-number-in-Name.ensures.added in
    rw (c.in-Name.is, new) (ap w.Name (c.in_ok-number-in-Name.ensures.number ∙ sym (number_with c.args.names.now name)))
