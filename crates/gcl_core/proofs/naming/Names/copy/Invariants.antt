use Rattle.std.proofs.Common.{◌≡◌, ◌≤◌, length, take}
use Rattle.gcl_core.proofs.naming.Names.copy.Given as goal

abbrev pub invariant-loop-i : goal.invariant-loop-i
invariant-loop-i l = record {
  place : l.i ≤ length l.self;
  copied : l.copy ≡ take l.i l.self;
}
