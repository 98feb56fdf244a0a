use Rattle.std.proofs.Common.{◌≤◌, ◌∙◌, Ok, length, ap, sym, subst, arith}
use Rattle.gcl_core.specs.meaning.Bounds.{ExpressionBelow}
use Rattle.formula.specs.Steps.{depth}
use Rattle.formula.specs.ReadBack.{expression_in}
use Rattle.gcl_core.specs.declared.syntax.BinOp.TheVariants.{Add, Lt, Eq}
use Rattle.formula.specs.declared.op.Atom.TheVariants.{Num, Var}
use Rattle.formula.specs.declared.op.Term.TheVariants.{One}
use Rattle.formula.specs.ShortTerms.{on, term_value, TermReads}
use Rattle.formula.specs.Chains.{chain_value, ChainReads}
use Rattle.formula.specs.Forms.{FormOf}
use Rattle.formula.proofs.Shapes.{deep, term_in, num_back, short_reads, short_value, joined_reads, joined_value_in, chain_reads, chain_value_in, stands}
use Rattle.formula.proofs.Slots.{small_back}
use Rattle.formula.proofs.formula.Formula.value.Goals as goal

pub atom_value-requires : goal.atom_value-requires
atom_value-requires c = short_reads c.self.inside.form c.self.invariant.tree c.self.invariant.form c.args.self.now c.self.view_is (One (Var c.in-Var.x)) (length c.args.vars.now) (ap term_in c.in-Var.is) c.requires.reads

pub value_of_term-requires : goal.value_of_term-requires
value_of_term-requires c =
    subst (λ t. TermReads t (length c.args.vars.now)) (sym c.on.ensures) (short_reads c.self.inside.form c.self.invariant.tree c.self.invariant.form c.args.self.now c.self.view_is (on c.in-On.op c.in-On.x c.in-On.a) (length c.args.vars.now) (ap term_in c.in-On.is) c.requires.reads)

pub value_of_joined-requires-clause-left : goal.value_of_joined-requires-clause-left
value_of_joined-requires-clause-left c = (joined_reads c.self.inside.form c.self.invariant.tree c.self.invariant.form c.args.self.now c.self.view_is c.in-Joined.op c.in-Joined.t c.in-Joined.u (length c.args.vars.now) c.in-Joined.is c.requires.reads).0

pub value_of_joined-requires-clause-right : goal.value_of_joined-requires-clause-right
value_of_joined-requires-clause-right c = (joined_reads c.self.inside.form c.self.invariant.tree c.self.invariant.form c.args.self.now c.self.view_is c.in-Joined.op c.in-Joined.t c.in-Joined.u (length c.args.vars.now) c.in-Joined.is c.requires.reads).1

pub value_of_joined-requires-clause-room : goal.value_of_joined-requires-clause-room
value_of_joined-requires-clause-room c =
    let some = deep (expression_in c.args.self.now) in
    let room = subst (λ n. depth (expression_in c.args.self.now) ≤ n) (sym c.stack.view_is ∙ ap length (sym c.deref_mut.ensures.value)) c.requires.room in
    omega (arith, some, room)

pub value-requires : goal.value-requires
value-requires c =
    let some = deep (expression_in c.args.self.now) in
    let s = stands c.self.inside.form c.self.invariant.tree c.self.invariant.form c.args.self.now c.self.view_is in
    let h = subst (λ f. FormOf f c.self.invariant.tree) c.in-Long.is c.self.invariant.form in
    let d = c.deref.ensures in
    let m = c.deref_mut-in-Long.ensures in
    let r = c.requires.room in
    let v = c.stack.view_is in
    let room = subst (λ n. depth (expression_in c.args.self.now) ≤ n) (sym v ∙ ap length (sym m.value)) r in
    record {
      room = omega (arith, some, room);
      stands = (
        c.self.invariant.tree,
        d.value ∙ h.0,
        subst (λ e. ExpressionBelow e (length c.args.vars.now)) s c.requires.reads,
        subst (λ e. depth e ≤ length c.deref_mut-in-Long.result.now) s (subst (λ n. depth (expression_in c.args.self.now) ≤ n) (sym v ∙ ap length (sym m.value)) r),
      );
    }

pub returns-in-Num-clause-value : goal.returns-in-Num-clause-value
returns-in-Num-clause-value c = ap Ok (num_back c.self.inside.form c.self.invariant.tree c.self.invariant.form c.args.self.now c.self.view_is c.in-Num.n c.in-Num.is)
    ∙ short_value c.self.inside.form c.self.invariant.tree c.self.invariant.form c.args.self.now c.self.view_is (One (Num c.in-Num.n)) c.args.vars.now (ap term_in c.in-Num.is)

pub returns-in-Var-clause-value : goal.returns-in-Var-clause-value
returns-in-Var-clause-value c =
    ap Ok (small_back _ c.atom_value.ensures.small ∙ c.atom_value.ensures.value) ∙ short_value c.self.inside.form c.self.invariant.tree c.self.invariant.form c.args.self.now c.self.view_is (One (Var c.in-Var.x)) c.args.vars.now (ap term_in c.in-Var.is)

pub returns-in-On-clause-value : goal.returns-in-On-clause-value
returns-in-On-clause-value c =
    c.value_of_term.ensures.value ∙ ap (λ t. term_value t c.args.vars.now) c.on.ensures ∙ short_value c.self.inside.form c.self.invariant.tree c.self.invariant.form c.args.self.now c.self.view_is (on c.in-On.op c.in-On.x c.in-On.a) c.args.vars.now (ap term_in c.in-On.is)

pub returns-in-Joined-clause-value : goal.returns-in-Joined-clause-value
returns-in-Joined-clause-value c =
    c.value_of_joined.ensures.value ∙ joined_value_in c.self.inside.form c.self.invariant.tree c.self.invariant.form c.args.self.now c.self.view_is c.in-Joined.op c.in-Joined.t c.in-Joined.u c.args.vars.now c.in-Joined.is

pub value_of_chain-requires-clause-reads : goal.value_of_chain-requires-clause-reads
value_of_chain-requires-clause-reads c =
    subst (λ l. ChainReads l (length c.args.vars.now)) (sym c.deref-in-Chain.ensures.value) (chain_reads c.self.inside.form c.self.invariant.tree c.self.invariant.form c.args.self.now c.self.view_is c.in-Chain.field-0 c.in-Chain.field-1 c.in-Chain.tests c.in-Chain.settled (length c.args.vars.now) c.in-Chain.is c.requires.reads)

pub value_of_chain-requires-clause-room : goal.value_of_chain-requires-clause-room
value_of_chain-requires-clause-room c =
    let some = deep (expression_in c.args.self.now) in
    let room = subst (λ n. depth (expression_in c.args.self.now) ≤ n) (sym c.stack.view_is ∙ ap length (sym c.deref_mut-in-Chain.ensures.value)) c.requires.room in
    omega (arith, some, room)

pub returns-in-Chain-clause-value : goal.returns-in-Chain-clause-value
returns-in-Chain-clause-value c =
    c.value_of_chain.ensures.value
    ∙ ap (λ l. chain_value c.in-Chain.settled l c.args.vars.now) c.deref-in-Chain.ensures.value
    ∙ chain_value_in c.self.inside.form c.self.invariant.tree c.self.invariant.form c.args.self.now c.self.view_is c.in-Chain.field-0 c.in-Chain.field-1 c.in-Chain.tests c.in-Chain.settled c.args.vars.now c.in-Chain.is

pub value_of_term-requires-in-Plus : goal.value_of_term-requires-in-Plus
value_of_term-requires-in-Plus c =
    subst (λ t. TermReads t (length c.args.vars.now)) (sym c.on-in-Plus.ensures) (short_reads c.self.inside.form c.self.invariant.tree c.self.invariant.form c.args.self.now c.self.view_is (on Add c.in-Plus.x c.in-Plus.a) (length c.args.vars.now) (ap term_in c.in-Plus.is) c.requires.reads)

pub returns-in-Plus-clause-value : goal.returns-in-Plus-clause-value
returns-in-Plus-clause-value c =
    c.value_of_term-in-Plus.ensures.value ∙ ap (λ t. term_value t c.args.vars.now) c.on-in-Plus.ensures ∙ short_value c.self.inside.form c.self.invariant.tree c.self.invariant.form c.args.self.now c.self.view_is (on Add c.in-Plus.x c.in-Plus.a) c.args.vars.now (ap term_in c.in-Plus.is)

pub value_of_term-requires-in-Less : goal.value_of_term-requires-in-Less
value_of_term-requires-in-Less c =
    subst (λ t. TermReads t (length c.args.vars.now)) (sym c.on-in-Less.ensures) (short_reads c.self.inside.form c.self.invariant.tree c.self.invariant.form c.args.self.now c.self.view_is (on Lt c.in-Less.x c.in-Less.a) (length c.args.vars.now) (ap term_in c.in-Less.is) c.requires.reads)

pub returns-in-Less-clause-value : goal.returns-in-Less-clause-value
returns-in-Less-clause-value c =
    c.value_of_term-in-Less.ensures.value ∙ ap (λ t. term_value t c.args.vars.now) c.on-in-Less.ensures ∙ short_value c.self.inside.form c.self.invariant.tree c.self.invariant.form c.args.self.now c.self.view_is (on Lt c.in-Less.x c.in-Less.a) c.args.vars.now (ap term_in c.in-Less.is)

pub value_of_term-requires-in-Equal : goal.value_of_term-requires-in-Equal
value_of_term-requires-in-Equal c =
    subst (λ t. TermReads t (length c.args.vars.now)) (sym c.on-in-Equal.ensures) (short_reads c.self.inside.form c.self.invariant.tree c.self.invariant.form c.args.self.now c.self.view_is (on Eq c.in-Equal.x c.in-Equal.a) (length c.args.vars.now) (ap term_in c.in-Equal.is) c.requires.reads)

pub returns-in-Equal-clause-value : goal.returns-in-Equal-clause-value
returns-in-Equal-clause-value c =
    c.value_of_term-in-Equal.ensures.value ∙ ap (λ t. term_value t c.args.vars.now) c.on-in-Equal.ensures ∙ short_value c.self.inside.form c.self.invariant.tree c.self.invariant.form c.args.self.now c.self.view_is (on Eq c.in-Equal.x c.in-Equal.a) c.args.vars.now (ap term_in c.in-Equal.is)
