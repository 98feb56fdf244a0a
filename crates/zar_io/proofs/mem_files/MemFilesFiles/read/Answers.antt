use Rattle.std.proofs.Common.{◌≡◌, ◌+◌, ◌++◌, min, length, length-drop, take, drop, arith, rules, ◌∙◌}
use Rattle.zar_io.specs.MemFile.{file_of, content_at}
use Rattle.zar_io.specs.Trace.{left_in}
use Rattle.zar_io.proofs.MemFileLemmas.{drop-copied, none_copied}
use Rattle.zar_io.proofs.TraceLemmas.{agrees_read, left_once_read}
use Rattle.zar_io.proofs.mem_files.MemFilesFiles.read.Goals as goal

pub invariant_of-self-2 : goal.invariant_of-self-2
invariant_of-self-2 c =
    let s = c.args.self.now in
    let file = file_of s.files.items in
    let now = c.then-self-2.result.events in
    let all = content_at s.files.items s.current in
    let n = c.copy_front-n.result in
    let copy = c.copy_front-n.new.to in
    let is = c.then-self-2.ensures in
    let copied : take n copy ≡ take n (drop s.at all) = search rules in
    let amount : n ≡ min (length (drop s.at all)) (min s.step (length c.args.buf.now)) = search rules in
    let left : left_in file s.trace.events ≡ take n copy ++ drop (s.at + n) all = s.left c.requires.opened ∙ drop-copied all copy s.at n copied in
    record {
      gives_some = s.gives_some;
      in_files = λ opened. s.in_files c.requires.opened;
      in_file = λ opened. omega (arith, length-drop s.at all, amount, s.in_file c.requires.opened);
      agrees = agrees_read file s.trace.events now (take n copy) (drop (s.at + n) all) is left (λ none. s.left c.requires.opened ∙ none_copied (drop s.at all) copy _ n amount (omega (arith, c.requires.room, s.gives_some)) copied none) s.agrees;
      left = λ opened. left_once_read file s.trace.events now (take n copy) (drop (s.at + n) all) is left;
    }
