use Rattle.std.proofs.Common.{◌≡◌, Bool, true, false, ◌&&◌, List, map, string_bytes, sym, ◌∙◌}
use Rattle.std.specs.List.{list_all}
use Rattle.zar_cli.specs.OptionWords.{Setting, given, is_given}
use Rattle.zar_cli.specs.Words.{is_whole}
use Rattle.zar_cli.proofs.words.command_of_row.Goals as goal

second : (a b : Bool) → (a && b) ≡ true → b ≡ true
second true b h = h
second false b h = cc

pub command-requires-clause-whole : goal.command-requires-clause-whole
command-requires-clause-whole c =
    let needs : List Setting = map (λ s. (s.0.now, s.1)) c.args.needs.now in
    let o = given (map (λ s. (s.0.now, s.1)) c.args.takes.now) (map string_bytes c.args.rest.now) in
    second (list_all (λ s. is_given s o) needs) (is_whole c.args.verb o) (sym c.is_complete.ensures ∙ c.if-is_complete.true)
