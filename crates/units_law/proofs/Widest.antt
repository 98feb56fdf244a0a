-- No uniform draw of a checked program has more than 2^63 - 1 numbers.
use Rattle.std.proofs.Common.{◌≡◌, zero, suc, ◌-◌, ◌^◌, ◌≤◌, pos, negsuc, true, Ok, Err, [], ◌++◌, arith}
use Rattle.std.specs.Prelude.{All}
use Rattle.std.proofs.lemmas.Bool.{ltb-true}
use Rattle.std.proofs.lemmas.List.Elements.{All-nil, All-cons, All-append}
use Rattle.gcl_core.specs.meaning.Blocks.{by_value, by_bound}
use Rattle.gcl_core.specs.meaning.Bounds.{ExpressionFits, StatementFits, BlockFits, ArmsFit}
use Rattle.gcl_core.specs.meaning.Fitting.{state_fits}
use Rattle.gcl_core.specs.meaning.Syntax.{Expression, Statement, Skip, Set, If, While, Choice, Choose, Uniform, Observe, Statements, done, ◌▸◌, ArmList, no_arm, arm}
use Rattle.gcl_core.specs.meaning.Value.{State, Value, value_of}
use Rattle.gcl_core.specs.text.ReadingOrder.{statement_listed, listed, arms_listed}
use Rattle.gcl_core.proofs.FittingValues.{ValueFits, each_value_fits}
use Rattle.units_law.specs.FewOthers.{numbers_at, DrawsWithin, BlockWithin}

abbrev Widest : Statement → Type 0
Widest = DrawsWithin (2 ^ 63 - 1)

below_widest : (v : Value) → ValueFits v → by_value v (λ f. 0) (λ z. by_bound z 0 (λ m. m)) ≤ 2 ^ 63 - 1
below_widest (Ok (pos zero)) h = omega arith
below_widest (Ok (pos (suc m))) h = let lt = ltb-true (suc m) (2 ^ 63) h in omega arith
below_widest (Ok (negsuc m)) h = omega arith
below_widest (Err f) h = omega arith

draw_widest : (e : Expression) → ExpressionFits e → (s : State) → state_fits s ≡ true → numbers_at (value_of e) s ≤ 2 ^ 63 - 1
draw_widest e f s h = below_widest (value_of e s) (each_value_fits e s f h)

mutual
  statement_widest : (st : Statement) → StatementFits st → All Widest (statement_listed st)
  statement_widest Skip f = All-cons Widest Skip [] tt (All-nil Widest)
  statement_widest (Set x e) f = All-cons Widest (Set x e) [] tt (All-nil Widest)
  statement_widest (Observe e) f = All-cons Widest (Observe e) [] tt (All-nil Widest)
  statement_widest (Uniform x e) f = All-cons Widest (Uniform x e) [] (draw_widest e f) (All-nil Widest)
  statement_widest (If e a b) f = All-cons Widest (If e a b) (listed a ++ listed b) tt (All-append Widest (listed a) (listed b) (block_widest a f.1) (block_widest b f.2))
  statement_widest (Choice w a b) f = All-cons Widest (Choice w a b) (listed a ++ listed b) tt (All-append Widest (listed a) (listed b) (block_widest a f.0) (block_widest b f.1))
  statement_widest (Choose arms) f = All-cons Widest (Choose arms) (arms_listed arms) tt (arms_widest arms f)
  statement_widest (While e a) f = All-cons Widest (While e a) (listed a) tt (block_widest a f.1)

  pub block_widest : (b : Statements) → BlockFits b → BlockWithin (2 ^ 63 - 1) b
  block_widest done f = All-nil Widest
  block_widest (st ▸ b) f = All-append Widest (statement_listed st) (listed b) (statement_widest st f.0) (block_widest b f.1)

  arms_widest : (arms : ArmList) → ArmsFit arms → All Widest (arms_listed arms)
  arms_widest no_arm f = All-nil Widest
  arms_widest (arm q b arms) f = All-append Widest (listed b) (arms_listed arms) (block_widest b f.0) (arms_widest arms f.1)
