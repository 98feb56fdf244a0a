use Rattle.std.proofs.Common.{◌≡◌, ◌++◌, ◌∙◌, ◌*◌, ℕ, Option, Err, arith, ap, subst}
use Rattle.gcl_core.specs.meaning.Blocks.{limit}
use Rattle.gcl_core.specs.declared.answers.Limit.TheVariants.{Attempts}
use Rattle.units_law.specs.Down.{share_of, rest_of}
use Rattle.units_law.specs.Merged.{merged}
use Rattle.units_law.specs.Units.{total}
use Rattle.units_law.proofs.UnitWords.{below_units}
use Rattle.enclose_fold.specs.inner.Refusals.{RefusedAt}
use Rattle.enclose_fold.proofs.Spreading.{state_within}
use Rattle.enclose_fold.proofs.Passing.{one_ended}
use Rattle.enclose_fold.proofs.fold.Fold.draw_state.Goals as goal

same_odds : (f : ℕ → Option ℕ → ℕ) (b b' : ℕ) (r r' : Option ℕ) (h : ℕ) → h ≡ f b r → b ≡ b' → r ≡ r' → h ≡ f b' r'
same_odds f b b' r r' h e p q = e ∙ ap (λ b. f b r) p ∙ ap (f b') q

pub least_share-requires : goal.least_share-requires
least_share-requires c = let e = c.of-odds.ensures.bound in omega (arith, c.requires.least, e)

pub spread-requires-clause-within : goal.spread-requires-clause-within
spread-requires-clause-within c =
    let a = c.args in
    let e = same_odds (λ b r. share_of b r 1 a.w) _ a.bound _ a.self.attempts _ c.least_share.ensures c.of-odds.ensures.bound c.of-odds.ensures.attempts in
    let k = ap (λ h. total (below_units a.x a.bound a.s.now h)) e in
    let s = state_within a.x a.self.attempts a.bound a.s.now a.w c.requires.least (omega (arith, c.requires.within)) in
    omega (arith, c.requires.within, k, s)

pub add_attempts-requires : goal.add_attempts-requires
add_attempts-requires c =
    let a = c.args in
    let e = same_odds (λ b r. rest_of b r a.w) _ a.bound _ a.self.attempts _ c.least_rest.ensures c.of-odds.ensures.bound c.of-odds.ensures.attempts in
    let s = state_within a.x a.self.attempts a.bound a.s.now a.w c.requires.least (omega (arith, c.requires.within)) in
    omega (arith, c.requires.within, e, s)

pub returns-clause-added : goal.returns-clause-added
returns-clause-added c =
    let a = c.args in
    let e = same_odds (λ b r. share_of b r 1 a.w) _ a.bound _ a.self.attempts _ c.least_share.ensures c.of-odds.ensures.bound c.of-odds.ensures.attempts in
    subst (λ h. c.spread.new.next.states.entries ≡ merged (a.next.now.states.entries ++ below_units a.x a.bound a.s.now h)) e c.in_ok-spread.ensures.ok

pub returns-clause-stopped : goal.returns-clause-stopped
returns-clause-stopped c =
    let a = c.args in
    let e = same_odds (λ b r. rest_of b r a.w) _ a.bound _ a.self.attempts _ c.least_rest.ensures c.of-odds.ensures.bound c.of-odds.ensures.attempts in
    λ G. one_ended a.ended.now _ _ c.least_rest.result c.add_attempts.ensures G _ (let k = ap (λ t. t * G (limit Attempts)) e in omega arith)

pub returns-in_err-spread-clause-cause : goal.returns-in_err-spread-clause-cause
returns-in_err-spread-clause-cause c =
    let a = c.args in
    let out : c.from_residual.result ≡ Err c.in_err-spread.field-0.0 = grind arith in
    let e = same_odds (λ b r. share_of b r 1 a.w) _ a.bound _ a.self.attempts _ c.least_share.ensures c.of-odds.ensures.bound c.of-odds.ensures.attempts in
    rw out (subst (λ h. RefusedAt (a.next.now.states.entries ++ below_units a.x a.bound a.s.now h) c.in_err-spread.field-0.0) e c.in_err-spread.ensures.cause)
