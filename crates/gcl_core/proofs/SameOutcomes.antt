-- Outcomes that are the same are equal; and keys of a tally.
use Rattle.std.proofs.Common.{◌≡◌, true, refl, ap}
use Rattle.std.proofs.lemmas.Bool.Decides.{Decides-int_eq}
use Rattle.gcl_core.specs.declared.answers.Fault.{Fault}
use Rattle.gcl_core.specs.declared.answers.Fault.TheVariants.{Overflow, ZeroDivisor, BadBound}
use Rattle.gcl_core.specs.declared.answers.Limit.{Limit}
use Rattle.gcl_core.specs.declared.answers.Limit.TheVariants.{Turns, Attempts, Rounds}
use Rattle.gcl_core.specs.declared.answers.Outcome.{Outcome}
use Rattle.gcl_core.specs.declared.answers.Outcome.TheVariants as outcome
use Rattle.gcl_core.specs.declared.answers.TallyKey.{TallyKey}
use Rattle.gcl_core.specs.declared.answers.TallyKey.TheVariants as key
use Rattle.gcl_core.specs.meaning.Outcomes.{same_fault, same_limit, same_outcome}
use Rattle.gcl_core.specs.meaning.Order.{same_key}

same_faults : (f g : Fault) → same_fault f g ≡ true → f ≡ g
same_faults Overflow Overflow e = refl
same_faults Overflow ZeroDivisor e = cc
same_faults Overflow BadBound e = cc
same_faults ZeroDivisor Overflow e = cc
same_faults ZeroDivisor ZeroDivisor e = refl
same_faults ZeroDivisor BadBound e = cc
same_faults BadBound Overflow e = cc
same_faults BadBound ZeroDivisor e = cc
same_faults BadBound BadBound e = refl

same_limits : (f g : Limit) → same_limit f g ≡ true → f ≡ g
same_limits Turns Turns e = refl
same_limits Turns Attempts e = cc
same_limits Turns Rounds e = cc
same_limits Attempts Turns e = cc
same_limits Attempts Attempts e = refl
same_limits Attempts Rounds e = cc
same_limits Rounds Turns e = cc
same_limits Rounds Attempts e = cc
same_limits Rounds Rounds e = refl

pub same_outcomes : (x y : Outcome) → same_outcome x y ≡ true → x ≡ y
same_outcomes (outcome.Value v) (outcome.Value w) e = ap outcome.Value ((Decides-int_eq v w).0 e)
same_outcomes (outcome.Fault f) (outcome.Fault g) e = ap outcome.Fault (same_faults f g e)
same_outcomes (outcome.Limit k) (outcome.Limit l) e = ap outcome.Limit (same_limits k l e)
same_outcomes (outcome.Value v) (outcome.Fault g) e = cc
same_outcomes (outcome.Value v) (outcome.Limit l) e = cc
same_outcomes (outcome.Fault f) (outcome.Value w) e = cc
same_outcomes (outcome.Fault f) (outcome.Limit l) e = cc
same_outcomes (outcome.Limit k) (outcome.Value w) e = cc
same_outcomes (outcome.Limit k) (outcome.Fault g) e = cc

pub same_keys : (a b : TallyKey) → same_key a b ≡ true → a ≡ b
same_keys (key.Outcome x) (key.Outcome y) e = ap key.Outcome (same_outcomes x y e)
same_keys (key.Outcome x) key.MoreBits e = cc
same_keys key.MoreBits (key.Outcome y) e = cc
same_keys key.MoreBits key.MoreBits e = refl

pub outcome_itself : (x : Outcome) → same_outcome x x ≡ true
outcome_itself (outcome.Value v) = (Decides-int_eq v v).1 refl
outcome_itself (outcome.Fault Overflow) = refl
outcome_itself (outcome.Fault ZeroDivisor) = refl
outcome_itself (outcome.Fault BadBound) = refl
outcome_itself (outcome.Limit Turns) = refl
outcome_itself (outcome.Limit Attempts) = refl
outcome_itself (outcome.Limit Rounds) = refl

pub key_itself : (a : TallyKey) → same_key a a ≡ true
key_itself (key.Outcome x) = outcome_itself x
key_itself key.MoreBits = refl
