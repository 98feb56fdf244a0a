use Rattle.std.proofs.Common.{◌≡◌, ◌<◌, Some, length, arith, rules}
use Rattle.std.specs.Prelude.{position}
use Rattle.zar_io.specs.MemFile.{file_of, has_name}
use Rattle.zar_io.proofs.MemFileLemmas.{file_of-found, position-found}
use Rattle.zar_io.proofs.TraceLemmas.{agrees_opened, left_once_opened}
use Rattle.zar_io.proofs.mem_files.MemFilesFiles.open.Goals as goal

pub invariant_of-self-in-Some : goal.invariant_of-self-in-Some
invariant_of-self-in-Some c =
    let s = c.args.self.now in
    let is = c.then-self-in-Some.ensures in
    let found : position (has_name c.args.name.now) s.files.items ≡ Some c.in-Some.place = search rules in
    let holds = file_of-found s.files.items c.args.name.now c.in-Some.place found in
    let inside : c.in-Some.place < length s.files.items = (position-found (has_name c.args.name.now) s.files.items c.in-Some.place found).1 in
    record {
      gives_some = s.gives_some;
      in_files = λ opened. search rules;
      in_file = λ opened. omega arith;
      agrees = agrees_opened (file_of s.files.items) s.trace.events c.then-self-in-Some.result.events c.args.name.now _ is holds s.agrees;
      left = λ opened. left_once_opened (file_of s.files.items) s.trace.events c.then-self-in-Some.result.events c.args.name.now _ is holds;
    }
