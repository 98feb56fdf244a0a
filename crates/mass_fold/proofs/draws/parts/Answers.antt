use Rattle.std.proofs.Common.{◌≡◌, ◌≤◌, ℕ, Option, Some, IfSome, refl, sym, subst, ◌∙◌, arith, None}
use Rattle.gcl_core.proofs.Classes.{bits_enough}
use Rattle.mass_fold.specs.inner.Steps.{IsParts, PartsBlame}
use Rattle.mass_fold.proofs.Powers.{parts_unlimited, parts_certain, parts_refused, parts_limited, part_refused, as_again, as_over, as_given, as_power}
use Rattle.mass_fold.proofs.draws.parts.Goals as goal

no_attempts : (o : Option ℕ) → ((r : ℕ) → o ≡ Some r → ⊥) → o ≡ None
no_attempts None h = refl
no_attempts (Some r) h = absurd (h r refl)

pub returns-in_default-clause-value : goal.returns-in_default-clause-value
returns-in_default-clause-value c =
    subst (λ r. IsParts c.args.bound r c.of-each.result c.of-nothing.result) (sym (no_attempts _ c.in_default.not-Some))
    (parts_unlimited c.args.bound c.requires.least _ _ c.of-each.ensures.lowest c.of-nothing.ensures.lowest (as_over c.args.bound _ _ c.from-wide.ensures c.of-each.ensures.equal) c.of-nothing.ensures.equal)

pub overflow_sub-all : goal.overflow_sub-all
overflow_sub-all c = let e = as_power c.args.bound _ c.bits_for.ensures.value _ c.pow-all.ensures in omega (arith, bits_enough c.args.bound, c.from-wide.ensures)

some_attempt : (o : Option ℕ) (r : ℕ) → o ≡ Some r → IfSome o (λ r. 1 ≤ r) → 1 ≤ r
some_attempt o r e h = subst (λ o. IfSome o (λ r. 1 ≤ r)) e h

pub returns-then-num-eq0-clause-value : goal.returns-then-num-eq0-clause-value
returns-then-num-eq0-clause-value c =
    let b = c.args.bound in
    let is = as_again b _ _ _ c.from-wide.ensures (as_power b _ c.bits_for.ensures.value _ c.pow-all.ensures) c.of-again.ensures.equal in
    subst (λ r. IsParts b r c.of-each.result c.of-nothing.result) (sym c.in-Some.is)
    (parts_certain b c.requires.least c.in-Some.limit (some_attempt _ _ c.in-Some.is c.args.attempts.some) c.of-again.result c.of-again.ensures.lowest is c.of-each.result c.of-nothing.result
    (sym c.num.ensures.value ∙ c.if-num-eq0.true) c.of-each.ensures.lowest c.of-nothing.ensures.lowest (as_over b _ _ c.from-wide.ensures c.of-each.ensures.equal) c.of-nothing.ensures.equal)

pub returns-in_err-rest-clause-cause : goal.returns-in_err-rest-clause-cause
returns-in_err-rest-clause-cause c =
    let b = c.args.bound in
    let is = as_again b _ _ _ c.from-wide.ensures (as_power b _ c.bits_for.ensures.value _ c.pow-all.ensures) c.of-again.ensures.equal in
    let all = parts_refused b c.requires.least c.in-Some.limit (some_attempt _ _ c.in-Some.is c.args.attempts.some) c.of-again.result c.of-again.ensures.lowest is c.in_err-rest.ensures.cause in
    let out : c.from_residual.result ≡ None = grind arith in
    rw out (subst (PartsBlame b) (sym c.in-Some.is) all)

pub returns-in_err-mul-clause-cause : goal.returns-in_err-mul-clause-cause
returns-in_err-mul-clause-cause c =
    let b = c.args.bound in
    let is = as_again b _ _ _ c.from-wide.ensures (as_power b _ c.bits_for.ensures.value _ c.pow-all.ensures) c.of-again.ensures.equal in
    let all = part_refused b c.requires.least c.in-Some.limit (some_attempt _ _ c.in-Some.is c.args.attempts.some) c.of-again.result c.of-again.ensures.lowest is c.in_ok-rest.rest c.of-given.result c.of-each.result
    c.in_ok-rest.ensures.value c.of-given.ensures.lowest c.of-each.ensures.lowest
    (as_given c.in_ok-rest.rest c.of-given.result _ _ _ c.den.ensures.value c.num-2.ensures.value c.den-2.ensures.value c.of-given.ensures.equal)
    (as_over b _ _ c.from-wide.ensures c.of-each.ensures.equal) (sym c.in_err-mul.ensures) in
    let out : c.from_residual-in_err-mul.result ≡ None = grind arith in
    rw out (subst (PartsBlame b) (sym c.in-Some.is) all)

pub returns-clause-value : goal.returns-clause-value
returns-clause-value c =
    let b = c.args.bound in
    let is = as_again b _ _ _ c.from-wide.ensures (as_power b _ c.bits_for.ensures.value _ c.pow-all.ensures) c.of-again.ensures.equal in
    subst (λ r. IsParts b r c.in_ok-mul.field-0 c.in_ok-rest.rest) (sym c.in-Some.is)
    (parts_limited b c.requires.least c.in-Some.limit (some_attempt _ _ c.in-Some.is c.args.attempts.some) c.of-again.result c.of-again.ensures.lowest is c.in_ok-rest.rest c.of-given.result c.of-each.result
    c.in_ok-rest.ensures.value c.of-given.ensures.lowest c.of-each.ensures.lowest
    (as_given c.in_ok-rest.rest c.of-given.result _ _ _ c.den.ensures.value c.num-2.ensures.value c.den-2.ensures.value c.of-given.ensures.equal)
    (as_over b _ _ c.from-wide.ensures c.of-each.ensures.equal) c.in_ok-mul.field-0 (sym c.in_ok-mul.ensures))
