use Rattle.std.proofs.Common.{◌≡◌, ◌≢◌, List, [], ◌∷◌, ap, sym, ◌∙◌, arith, Some, None, Err, option_map}
use Rattle.gcl_core.specs.declared.words.Word.TheVariants as w
use Rattle.gcl_core.specs.declared.tokens.Key.TheVariants as k
use Rattle.gcl_core.specs.declared.tokens.Sym.TheVariants as y
use Rattle.gcl_core.specs.declared.levels.Level.TheVariants as l
use Rattle.gcl_core.specs.meaning.Views.{expression_of}
use Rattle.gcl_core.specs.text.Grammar as g
use Rattle.gcl_core.specs.text.Grammar.{ReadsPhrase, ReadsMore}
use Rattle.gcl_core.specs.text.Levels.{above}
use Rattle.gcl_parse.specs.inner.Pushdown.{Symbol, phrase, more, run}
use Rattle.gcl_parse.specs.inner.Fronts.{first}
use Rattle.gcl_parse.specs.inner.Parses.{operator_at, leaf_at}
use Rattle.gcl_parse.proofs.Steps as step
use Rattle.gcl_parse.proofs.parser.Parser.+phrase.Goals as goal

pub atom-returns-in-Some : goal.atom-returns-in-Some
atom-returns-in-Some t c =
    let ts = c.args.self.now in
    let h = sym c.leaf.ensures ∙ ap (option_map expression_of) c.in-Some.is in
    let p = step.leaf_on ts (expression_of c.in-Some.leaf) h in
    rw c.advance.ensures (p.0, p.1, step.leaf_shorter ts _ h)

pub atom-returns-in_err-sym : goal.atom-returns-in_err-sym
atom-returns-in_err-sym t c =
    let r : c.from_residual.result ≡ Err c.in_err-sym.field-0.0 = grind arith in
    let none : leaf_at (first c.args.self.now) ≡ None = grind arith in
    rw r (step.no_atom _ none c.in_err-sym.ensures)

pub atom-returns-in_err-inner : goal.atom-returns-in_err-inner
atom-returns-in_err-inner t c =
    let r : c.from_residual-in_err-inner.result ≡ Err c.in_err-inner.field-0.0 = grind arith in
    let o = c.in_ok-sym.ensures in
    rw r (step.bracket_fails o.0 (step.fails_here c.in_err-inner.ensures))

pub atom-returns-in_err-sym-2 : goal.atom-returns-in_err-sym-2
atom-returns-in_err-sym-2 t c =
    let r : c.from_residual-in_err-sym-2.result ≡ Err c.in_err-sym-2.field-0.0 = grind arith in
    let o = c.in_ok-sym.ensures in
    rw r (step.bracket_fails o.0 (step.fails_after c.in_ok-inner.ensures.1 c.in_err-sym-2.ensures))

pub atom-returns : goal.atom-returns
atom-returns t c =
    let o = c.in_ok-sym.ensures in
    let inner = c.in_ok-inner.ensures in
    let e = c.in_ok-sym-2.ensures in (
      rw o.0 (g.in_brackets (rw e.0 at inner.0)),
      step.bracket_passes o.0 (step.after inner.1 e.1),
      step.shorter_brackets o.0 inner.2 e.0,
    )

pub compare-returns-in_err-left : goal.compare-returns-in_err-left
compare-returns-in_err-left t c =
    let r : c.from_residual.result ≡ Err c.in_err-left.field-0.0 = grind arith in
    rw r (step.fails_through (phrase l.Compare ∷ []) (phrase l.Sum ∷ []) _ _ _ _ (λ s. (more l.Compare ∷ s, step.begins_compare _ s)) c.in_err-left.ensures)

pub compare-returns-in_default : goal.compare-returns-in_default
compare-returns-in_default t c =
    let left = c.in_ok-left.ensures in
    let none : operator_at l.Compare (first c.phrase.new.self) ≡ None = grind arith in
    (g.no_comparison left.0, record { runs = λ s. step.begins_compare _ s ∙ left.1.runs (more l.Compare ∷ s) ∙ step.ends l.Compare _ none s }, left.2)

pub compare-returns-in_err-right : goal.compare-returns-in_err-right
compare-returns-in_err-right t c =
    let r : c.from_residual-in_err-right.result ≡ Err c.in_err-right.field-0.0 = grind arith in
    let left = c.in_ok-left.ensures in
    let op = step.operator_here l.Compare c.phrase.new.self c.in-Some.op (grind arith) in
    let leads : (s : List Symbol) → run c.args.self.now (phrase l.Compare ∷ s) ≡ run c.advance.new.self (phrase l.Sum ∷ s) =
    λ s. step.begins_compare _ s ∙ left.1.runs (more l.Compare ∷ s) ∙ step.goes op s ∙ ap (λ x. run x (phrase l.Sum ∷ s)) (sym c.advance.ensures) in
    rw r (step.fails_through (phrase l.Compare ∷ []) (phrase l.Sum ∷ []) _ _ _ _ (λ s. (s, leads s)) c.in_err-right.ensures)

pub compare-returns : goal.compare-returns
compare-returns t c =
    let left = c.in_ok-left.ensures in
    let right = c.in_ok-right.ensures in
    let made = c.in_ok-binary.ensures in
    let op = step.operator_here l.Compare c.phrase.new.self c.in-Some.op (grind arith) in
    let front : c.phrase.new.self ≡ op.word ∷ c.advance.new.self = op.front ∙ ap (λ x. op.word ∷ x) (sym c.advance.ensures) in
    let leads : (s : List Symbol) → run c.args.self.now (phrase l.Compare ∷ s) ≡ run c.advance.new.self (phrase l.Sum ∷ s) =
    λ s. step.begins_compare _ s ∙ left.1.runs (more l.Compare ∷ s) ∙ step.goes op s ∙ ap (λ x. run x (phrase l.Sum ∷ s)) (sym c.advance.ensures) in (
      rw made (g.a_comparison (rw front at left.0) op.is op.level right.0),
      record { runs = λ s. leads s ∙ right.1.runs s },
      step.shorter_pair _ _ left.2 front right.2,
    )

pub not-returns-then-not-next_is : goal.not-returns-then-not-next_is
not-returns-then-not-next_is t c =
    let n : first c.args.self.now ≢ Some (w.Key k.Not) = grind arith in
    step.unnegated_parses _ _ _ n c.phrase.ensures

pub not-returns-in_err-operand : goal.not-returns-in_err-operand
not-returns-in_err-operand t c =
    let r : c.from_residual.result ≡ Err c.in_err-operand.field-0.0 = grind arith in
    let n : first c.args.self.now ≡ Some (w.Key k.Not) = grind arith in
    rw r (step.fails_through (phrase l.Not ∷ []) (phrase l.Not ∷ []) _ _ _ _ (λ s. (s, rw c.advance.ensures (step.negated_on _ n s))) c.in_err-operand.ensures)

pub not-returns : goal.not-returns
not-returns t c =
    let n : first c.args.self.now ≡ Some (w.Key k.Not) = grind arith in
    let made = c.in_ok-negation.ensures in
    let operand = rw c.advance.ensures at c.in_ok-operand.ensures in (
      rw (made, step.at_front _ n) (g.with_not operand.0),
      record { runs = λ s. step.negated_on _ n s ∙ operand.1.runs s },
      step.shorter_than _ _ n _ operand.2,
    )

pub row-returns-in_err-found : goal.row-returns-in_err-found
row-returns-in_err-found t c =
    let r : c.from_residual.result ≡ Err c.in_err-found.field-0.0 = grind arith in
    let row = step.row_of c.args.level c.requires in
    rw r (step.fails_through (phrase c.args.level ∷ []) (phrase (above c.args.level) ∷ []) _ _ _ _ (λ s. (more c.args.level ∷ s, step.row_begins row _ s)) (rw c.tighter.ensures at c.in_err-found.ensures))

pub row-loop-op-init : goal.row-loop-op-init
row-loop-op-init t c =
    let row = step.row_of c.args.level c.requires in
    let found = rw c.tighter.ensures at c.in_ok-found.ensures in
    (found.2, λ e rest more. g.a_row row found.0 more, λ s. step.row_begins row _ s ∙ found.1.runs (more c.args.level ∷ s))

pub row-returns-in_err-right : goal.row-returns-in_err-right
row-returns-in_err-right t c =
    let r : c.from_residual-in_err-right.result ≡ Err c.in_err-right.field-0.0 = grind arith in
    let v = c.args.level in
    let row = step.row_of v c.requires in
    let op = step.operator_here v c.loop-op.self c.in-Some.op (grind arith) in
    let right = rw c.tighter-in-Some.ensures at c.in_err-right.ensures in
    let leads : (s : List Symbol) → run c.args.self.now (phrase v ∷ s) ≡ run c.advance.new.self (phrase (above v) ∷ more v ∷ s) =
    λ s. c.loop-op.invariant.2 s ∙ step.row_goes row op s ∙ ap (λ x. run x (phrase (above v) ∷ more v ∷ s)) (sym c.advance.ensures) in
    rw r (step.fails_through (phrase v ∷ []) (phrase (above v) ∷ []) _ _ _ _ (λ s. (more v ∷ s, leads s)) right)

pub row-loop-op-preserved : goal.row-loop-op-preserved
row-loop-op-preserved t c =
    let v = c.args.level in
    let row = step.row_of v c.requires in
    let op = step.operator_here v c.loop-op.self c.in-Some.op (grind arith) in
    let right = rw c.tighter-in-Some.ensures at c.in_ok-right.ensures in
    let made = c.in_ok-found-2.ensures in
    let front : c.loop-op.self ≡ op.word ∷ c.advance.new.self = op.front ∙ ap (λ x. op.word ∷ x) (sym c.advance.ensures) in
    let leads : (s : List Symbol) → run c.args.self.now (phrase v ∷ s) ≡ run c.advance.new.self (phrase (above v) ∷ more v ∷ s) =
    λ s. c.loop-op.invariant.2 s ∙ step.row_goes row op s ∙ ap (λ x. run x (phrase (above v) ∷ more v ∷ s)) (sym c.advance.ensures) in (
      step.shorter_pair _ _ c.loop-op.invariant.0 front right.2,
      λ e rest after. c.loop-op.invariant.1 e rest (rw front (g.one_more op.is op.level right.0 (rw made at after))),
      λ s. leads s ∙ right.1.runs (more v ∷ s),
    )

pub row-returns : goal.row-returns
row-returns t c =
    let none : operator_at c.args.level (first c.loop-op.self) ≡ None = grind arith in
    (c.loop-op.invariant.1 _ _ g.no_more, record { runs = λ s. c.loop-op.invariant.2 s ∙ step.ends c.args.level _ none s }, c.loop-op.invariant.0)

pub sign-returns-then-not-next_is : goal.sign-returns-then-not-next_is
sign-returns-then-not-next_is t c =
    let n : first c.args.self.now ≢ Some (w.Sym y.Minus) = grind arith in
    step.unsigned_parses _ _ _ n c.phrase.ensures

pub sign-returns-in_err-operand : goal.sign-returns-in_err-operand
sign-returns-in_err-operand t c =
    let r : c.from_residual.result ≡ Err c.in_err-operand.field-0.0 = grind arith in
    let n : first c.args.self.now ≡ Some (w.Sym y.Minus) = grind arith in
    rw r (step.fails_through (phrase l.Sign ∷ []) (phrase l.Sign ∷ []) _ _ _ _ (λ s. (s, rw c.advance.ensures (step.signed_on _ n s))) c.in_err-operand.ensures)

pub sign-returns : goal.sign-returns
sign-returns t c =
    let n : first c.args.self.now ≡ Some (w.Sym y.Minus) = grind arith in
    let made = c.in_ok-minus.ensures in
    let operand = rw c.advance.ensures at c.in_ok-operand.ensures in (
      rw (made, step.at_front _ n) (g.with_sign operand.0),
      record { runs = λ s. step.signed_on _ n s ∙ operand.1.runs s },
      step.shorter_than _ _ n _ operand.2,
    )
