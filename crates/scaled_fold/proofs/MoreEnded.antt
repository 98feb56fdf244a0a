-- More of one way to end, and all of them.
use Rattle.std.proofs.Common.{◌≡◌, ◌*◌, [], ◌∷◌, sym, ap, subst, arith}
use Rattle.gcl_core.specs.declared.answers.Fault.{Fault}
use Rattle.gcl_core.specs.declared.answers.Fault.TheVariants.{Overflow, ZeroDivisor, BadBound}
use Rattle.gcl_core.specs.declared.answers.Limit.TheVariants.{Turns, Attempts}
use Rattle.gcl_core.specs.meaning.Blocks.{fault, limit}
use Rattle.scaled_law.specs.Pairs.{Pair, added}
use Rattle.scaled_fold.specs.declared.ended.Ended.{Ended}
use Rattle.scaled_fold.specs.inner.Ended.{EndsWith}

module _ (E F : Ended) (w : Pair) where
  pub of_fault : (f g : Fault) → f ≡ g → EndsWith E ((fault g, w) ∷ []) F → EndsWith E ((fault f, w) ∷ []) F
  of_fault f g e h = subst (λ f. EndsWith E ((fault f, w) ∷ []) F) (sym e) h

  pub overflow_more : F.overflow ≡ added E.overflow w → F.divisor ≡ E.divisor → F.bound ≡ E.bound → F.turns ≡ E.turns → F.attempts ≡ E.attempts → EndsWith E ((fault Overflow, w) ∷ []) F
  overflow_more p a b c d = record {
    least = λ G q. let o = ap (λ (v : Pair). v.0 * G (fault Overflow)) p in let z = ap (λ (v : Pair). v.0 * G (fault ZeroDivisor)) a in let e = ap (λ (v : Pair). v.0 * G (fault BadBound)) b in let t = ap (λ (v : Pair). v.0 * G (limit Turns)) c in let u = ap (λ (v : Pair). v.0 * G (limit Attempts)) d in omega arith;
    most = λ G q. let o = ap (λ (v : Pair). v.1 * G (fault Overflow)) p in let z = ap (λ (v : Pair). v.1 * G (fault ZeroDivisor)) a in let e = ap (λ (v : Pair). v.1 * G (fault BadBound)) b in let t = ap (λ (v : Pair). v.1 * G (limit Turns)) c in let u = ap (λ (v : Pair). v.1 * G (limit Attempts)) d in omega arith;
  }

  pub divisor_more : F.overflow ≡ E.overflow → F.divisor ≡ added E.divisor w → F.bound ≡ E.bound → F.turns ≡ E.turns → F.attempts ≡ E.attempts → EndsWith E ((fault ZeroDivisor, w) ∷ []) F
  divisor_more p a b c d = record {
    least = λ G q. let o = ap (λ (v : Pair). v.0 * G (fault Overflow)) p in let z = ap (λ (v : Pair). v.0 * G (fault ZeroDivisor)) a in let e = ap (λ (v : Pair). v.0 * G (fault BadBound)) b in let t = ap (λ (v : Pair). v.0 * G (limit Turns)) c in let u = ap (λ (v : Pair). v.0 * G (limit Attempts)) d in omega arith;
    most = λ G q. let o = ap (λ (v : Pair). v.1 * G (fault Overflow)) p in let z = ap (λ (v : Pair). v.1 * G (fault ZeroDivisor)) a in let e = ap (λ (v : Pair). v.1 * G (fault BadBound)) b in let t = ap (λ (v : Pair). v.1 * G (limit Turns)) c in let u = ap (λ (v : Pair). v.1 * G (limit Attempts)) d in omega arith;
  }

  pub bound_more : F.overflow ≡ E.overflow → F.divisor ≡ E.divisor → F.bound ≡ added E.bound w → F.turns ≡ E.turns → F.attempts ≡ E.attempts → EndsWith E ((fault BadBound, w) ∷ []) F
  bound_more p a b c d = record {
    least = λ G q. let o = ap (λ (v : Pair). v.0 * G (fault Overflow)) p in let z = ap (λ (v : Pair). v.0 * G (fault ZeroDivisor)) a in let e = ap (λ (v : Pair). v.0 * G (fault BadBound)) b in let t = ap (λ (v : Pair). v.0 * G (limit Turns)) c in let u = ap (λ (v : Pair). v.0 * G (limit Attempts)) d in omega arith;
    most = λ G q. let o = ap (λ (v : Pair). v.1 * G (fault Overflow)) p in let z = ap (λ (v : Pair). v.1 * G (fault ZeroDivisor)) a in let e = ap (λ (v : Pair). v.1 * G (fault BadBound)) b in let t = ap (λ (v : Pair). v.1 * G (limit Turns)) c in let u = ap (λ (v : Pair). v.1 * G (limit Attempts)) d in omega arith;
  }

  pub turns_more : F.overflow ≡ E.overflow → F.divisor ≡ E.divisor → F.bound ≡ E.bound → F.turns ≡ added E.turns w → F.attempts ≡ E.attempts → EndsWith E ((limit Turns, w) ∷ []) F
  turns_more p a b c d = record {
    least = λ G q. let o = ap (λ (v : Pair). v.0 * G (fault Overflow)) p in let z = ap (λ (v : Pair). v.0 * G (fault ZeroDivisor)) a in let e = ap (λ (v : Pair). v.0 * G (fault BadBound)) b in let t = ap (λ (v : Pair). v.0 * G (limit Turns)) c in let u = ap (λ (v : Pair). v.0 * G (limit Attempts)) d in omega arith;
    most = λ G q. let o = ap (λ (v : Pair). v.1 * G (fault Overflow)) p in let z = ap (λ (v : Pair). v.1 * G (fault ZeroDivisor)) a in let e = ap (λ (v : Pair). v.1 * G (fault BadBound)) b in let t = ap (λ (v : Pair). v.1 * G (limit Turns)) c in let u = ap (λ (v : Pair). v.1 * G (limit Attempts)) d in omega arith;
  }

  pub attempts_more : F.overflow ≡ E.overflow → F.divisor ≡ E.divisor → F.bound ≡ E.bound → F.turns ≡ E.turns → F.attempts ≡ added E.attempts w → EndsWith E ((limit Attempts, w) ∷ []) F
  attempts_more p a b c d = record {
    least = λ G q. let o = ap (λ (v : Pair). v.0 * G (fault Overflow)) p in let z = ap (λ (v : Pair). v.0 * G (fault ZeroDivisor)) a in let e = ap (λ (v : Pair). v.0 * G (fault BadBound)) b in let t = ap (λ (v : Pair). v.0 * G (limit Turns)) c in let u = ap (λ (v : Pair). v.0 * G (limit Attempts)) d in omega arith;
    most = λ G q. let o = ap (λ (v : Pair). v.1 * G (fault Overflow)) p in let z = ap (λ (v : Pair). v.1 * G (fault ZeroDivisor)) a in let e = ap (λ (v : Pair). v.1 * G (fault BadBound)) b in let t = ap (λ (v : Pair). v.1 * G (limit Turns)) c in let u = ap (λ (v : Pair). v.1 * G (limit Attempts)) d in omega arith;
  }
