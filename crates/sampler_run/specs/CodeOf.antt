-- What makes some code the listed code of a program. Only who reads a listing needs it.
use Rattle.std.specs.Prelude.{◌≡◌, length}
use Rattle.gcl_core.specs.meaning.Syntax.{SourceProgram}
use Rattle.sampler_code.specs.Assembled.{Assembled, ReachesOne}
use Rattle.sampler_code.specs.Code.{code_of, loops_in}

pub record IsCodeOf (p : SourceProgram) (s : Assembled) : Type 0 where
  -- it is the code of the program, with a counter for each loop and a variable for each name
  pub code : s.instrs ≡ code_of p
  pub loops : s.loops ≡ loops_in (code_of p)
  pub vars : s.vars ≡ length p.names
  -- it reaches no two answers, nor one at two indices
  pub one : ReachesOne s
