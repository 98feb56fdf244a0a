use Rattle.std.proofs.Common.{◌≡◌, ◌≢◌, ◌<◌, ◌≤◌, ◌+◌, ◌-◌, ℕ, List, map, get_or, length, sym, ap, subst, ◌∙◌, arith}
use Rattle.std.proofs.lemmas.List.{get_or_read}
use Rattle.std.specs.List.{All}
use Rattle.weighted_roll.specs.declared.columns.Column.{Column}
use Rattle.weighted_roll.specs.declared.columns.Column.TheVariants.{Leaf, Rest}
use Rattle.weighted_roll.specs.Columns.{next_of, column, IfRest}
use Rattle.weighted_roll.specs.inner.Tables.{after_flips}
use Rattle.weighted_roll.proofs.Tabled.{after_small, after_one, ends_fit, end_fits, start_is, end_is, column_found, column_passed_by}
use Rattle.weighted_roll.proofs.table.Table.step.Goals as goal
use Rattle.weighted_roll.proofs.table.Table.step.Goals.{then-read-self-2, else-read-self-2}

pub index-start-requires : goal.index-start-requires
index-start-requires c =
    let s = c.args.self.now in
    let f = ends_fit s.whole s.depth c.args.read s.weights.items s.labels.items s.ends.items s.columns s.places c.if-read-self.true in
    omega arith

pub index-requires : goal.index-requires
index-requires c =
    let s = c.args.self.now in
    let f = ends_fit s.whole s.depth c.args.read s.weights.items s.labels.items s.ends.items s.columns s.places c.if-read-self.true in
    omega arith

pub overflow_sub-leaves : goal.overflow_sub-leaves
overflow_sub-leaves c =
    let s = c.args.self.now in
    let f = ends_fit s.whole s.depth c.args.read s.weights.items s.labels.items s.ends.items s.columns s.places c.if-read-self.true in
    let l : c.args.read < length s.ends.items = omega arith in
    let a = get_or_read s.ends.items c.args.read c.index-start.result.now l c.index-start.ensures 0 in
    let z = get_or_read s.ends.items (c.args.read + 1) c.index.result.now f c.index.ensures 0 in
    let x = start_is s.whole s.depth c.args.read s.weights.items s.labels.items s.ends.items s.columns s.places c.if-read-self.true in
    let y = end_is s.whole s.depth c.args.read s.weights.items s.labels.items s.ends.items s.columns s.places c.if-read-self.true in
    omega arith

pub index-requires-then-number-leaves : goal.index-requires-then-number-leaves
index-requires-then-number-leaves c =
    let s = c.args.self.now in
    let f = ends_fit s.whole s.depth c.args.read s.weights.items s.labels.items s.ends.items s.columns s.places c.if-read-self.true in
    let z = get_or_read s.ends.items (c.args.read + 1) c.index.result.now f c.index.ensures 0 in
    let y = end_fits s.whole s.depth c.args.read s.weights.items s.labels.items s.ends.items s.columns s.places c.if-read-self.true in
    omega arith

pub returns-then-number-leaves-clause-column : goal.returns-then-number-leaves-clause-column
returns-then-number-leaves-clause-column c =
    let s = c.args.self.now in
    let f = ends_fit s.whole s.depth c.args.read s.weights.items s.labels.items s.ends.items s.columns s.places c.if-read-self.true in
    let l : c.args.read < length s.ends.items = omega arith in
    let a = get_or_read s.ends.items c.args.read c.index-start.result.now l c.index-start.ensures 0 in
    let z = get_or_read s.ends.items (c.args.read + 1) c.index.result.now f c.index.ensures 0 in
    let y = end_fits s.whole s.depth c.args.read s.weights.items s.labels.items s.ends.items s.columns s.places c.if-read-self.true in
    let k : c.args.number < get_or s.ends.items (c.args.read + 1) 0 - get_or s.ends.items c.args.read 0 = omega arith in
    let within : c.index-start.result.now + c.args.number < length s.labels.items = omega arith in
    let v = get_or_read s.labels.items (c.index-start.result.now + c.args.number) c.index-then-number-leaves.result.now within c.index-then-number-leaves.ensures 0 in
    ap Leaf (c.from.ensures ∙ v ∙ ap (λ n. get_or s.labels.items (n + c.args.number) 0) a)
    ∙ sym (column_found s.whole s.depth c.args.read s.weights.items s.labels.items s.ends.items s.columns s.places c.if-read-self.true c.args.number k)

pub returns-then-read-self-clause-column : goal.returns-then-read-self-clause-column
returns-then-read-self-clause-column c =
    let s = c.args.self.now in
    let f = ends_fit s.whole s.depth c.args.read s.weights.items s.labels.items s.ends.items s.columns s.places c.if-read-self.true in
    let l : c.args.read < length s.ends.items = omega arith in
    let a = get_or_read s.ends.items c.args.read c.index-start.result.now l c.index-start.ensures 0 in
    let z = get_or_read s.ends.items (c.args.read + 1) c.index.result.now f c.index.ensures 0 in
    let ge : get_or s.ends.items (c.args.read + 1) 0 - get_or s.ends.items c.args.read 0 ≤ c.args.number = omega arith in
    ap Rest (let e : c.args.number - (c.index.result.now - c.index-start.result.now) ≡ c.args.number - (get_or s.ends.items (c.args.read + 1) 0 - get_or s.ends.items c.args.read 0) = omega arith in e)
    ∙ sym (column_passed_by s.whole s.depth c.args.read s.weights.items s.labels.items s.ends.items s.columns s.places c.if-read-self.true c.args.number ge)

-- ---- behind the columns that are laid out

held_now : (b depth read : ℕ) (ws room old : List ℕ) → room ≡ old → (depth < read → old ≡ after_flips b read ws) → depth ≤ read → read ≢ depth → room ≡ after_flips b read ws
held_now b depth read ws room old e h le ne = e ∙ h (omega arith)

unrolled : (b depth read : ℕ) (ws room new : List ℕ) → room ≡ new → new ≡ after_flips b depth ws → read ≡ depth → room ≡ after_flips b read ws
unrolled b depth read ws room new e f g = e ∙ f ∙ ap (λ n. after_flips b n ws) (sym g)

pub pass_labels-requires-clause-below : goal.pass_labels-requires-clause-below
pass_labels-requires-clause-below c =
    let s = c.args.self.now in
    let small = after_small s.whole c.args.read s.weights.items s.below in
    elim c.if-read-self-2.branch [
      | then-read-self-2 w ↦ subst (λ x. All (λ r. r < s.whole) x) (sym (unrolled s.whole s.depth c.args.read s.weights.items _ _ w.room-is w.unroll.ensures w.if-read-self-2.true)) small
      | else-read-self-2 w ↦ subst (λ x. All (λ r. r < s.whole) x)
          (sym (held_now s.whole s.depth c.args.read s.weights.items _ _ w.room-is c.requires.held c.if-read-self.false w.if-read-self-2.false)) small
    ]

pub returns-clause-column : goal.returns-clause-column
returns-clause-column c =
    let s = c.args.self.now in
    c.pass_labels.ensures.column
    ∙ ap (λ x. column s.whole x 0 c.args.number) (elim c.if-read-self-2.branch [
      | then-read-self-2 w ↦ unrolled s.whole s.depth c.args.read s.weights.items _ _ w.room-is w.unroll.ensures w.if-read-self-2.true
      | else-read-self-2 w ↦ held_now s.whole s.depth c.args.read s.weights.items _ _ w.room-is c.requires.held c.if-read-self.false w.if-read-self-2.false
    ])

if_rest : (at : Column) (b depth read : ℕ) (ws room new : List ℕ) → room ≡ after_flips b read ws → IfRest at (new ≡ map (next_of b) room) → IfRest at (depth < read + 1 → new ≡ after_flips b (read + 1) ws)
if_rest (Leaf i) b depth read ws room new e h = tt
if_rest (Rest k) b depth read ws room new e h = λ lt. after_one b read ws room new e h

pub returns-clause-held : goal.returns-clause-held
returns-clause-held c =
    let s = c.args.self.now in
    if_rest c.pass_labels.result s.whole s.depth c.args.read s.weights.items c.if-read-self-2.room c.pass_labels.new.rests (elim c.if-read-self-2.branch [
      | then-read-self-2 w ↦ unrolled s.whole s.depth c.args.read s.weights.items _ _ w.room-is w.unroll.ensures w.if-read-self-2.true
      | else-read-self-2 w ↦ held_now s.whole s.depth c.args.read s.weights.items _ _ w.room-is c.requires.held c.if-read-self.false w.if-read-self-2.false
    ]) c.pass_labels.ensures.rests
