-- A loop over the entries of a table: what it has put so far and what the rest gives is what all give.
use Rattle.std.proofs.Common.{◌≡◌, ◌+◌, [], ◌∷◌, ◌++◌, sym, ap, ◌∙◌, arith}
use Rattle.gcl_core.specs.meaning.Blocks.{End}
use Rattle.gcl_core.specs.meaning.Value.{State}
use Rattle.units_law.specs.Units.{held}
use Rattle.scaled_law.specs.Pairs.{Pair, Pairs, at_least, at_most, put_pair, put_pairs}
use Rattle.scaled_fold.specs.declared.ended.Ended.{Ended}
use Rattle.scaled_fold.specs.inner.Ended.{units_of, EndAlike, EndsWith}
use Rattle.scaled_fold.proofs.Merged.{put_further, least_append, most_append}

module _ (step : Pairs State → Pairs State) (begun J : Pairs State) where
  abbrev pub Puts : Pairs State → Pairs State → Type 0
  Puts es rest = put_pairs es (step rest) ≡ put_pairs begun (step J)

  pub puts_start : (es rest : Pairs State) → es ≡ begun → rest ≡ J → Puts es rest
  puts_start es rest p q = ap (λ es. put_pairs es (step rest)) p ∙ ap (λ r. put_pairs begun (step r)) q

  module _ (es rest : Pairs State) (h : Puts es rest) where
    pub puts_end : rest ≡ [] → step [] ≡ [] → es ≡ put_pairs begun (step J)
    puts_end p z = sym (ap (put_pairs es) (ap step p ∙ z)) ∙ h

    module _ (s : State) (w : Pair) (next : Pairs State) (p : rest ≡ (s, w) ∷ next) where
      pub puts_skip : step ((s, w) ∷ next) ≡ step next → Puts es next
      puts_skip z = sym (ap (put_pairs es) (ap step p ∙ z)) ∙ h

      pub puts_list : (K fs : Pairs State) → step ((s, w) ∷ next) ≡ K ++ step next → fs ≡ put_pairs es K → Puts fs next
      puts_list K fs z e = ap (λ es. put_pairs es (step next)) e ∙ sym (put_further es K (step next)) ∙ sym (ap (put_pairs es) (ap step p ∙ z)) ∙ h

      pub puts_one : (t : State) (v : Pair) (fs : Pairs State) → step ((s, w) ∷ next) ≡ (t, v) ∷ step next → fs ≡ put_pair es t v.0 v.1 → Puts fs next
      puts_one t v fs z e = puts_list ((t, v) ∷ []) fs z e

module _ (stop : Pairs State → Pairs End) (E : Ended) (J : Pairs State) where
  abbrev pub Stops : Ended → Pairs State → Type 0
  Stops F rest = EndAlike (units_of F) (stop rest) (units_of E) (stop J)

  pub stops_start : (rest : Pairs State) → rest ≡ J → Stops E rest
  stops_start rest p = record {
    least = λ G z. ap (λ r. held G (at_least (units_of E)) + held G (at_least (stop r))) p;
    most = λ G z. ap (λ r. held G (at_most (units_of E)) + held G (at_most (stop r))) p;
  }

  module _ (F : Ended) (rest : Pairs State) (h : Stops F rest) where
    pub stops_end : rest ≡ [] → stop [] ≡ [] → EndsWith E (stop J) F
    stops_end p z = record {
      least = λ G q. let a = h.least G q in let b = ap (λ r. held G (at_least r)) (ap stop p ∙ z) in omega arith;
      most = λ G q. let a = h.most G q in let b = ap (λ r. held G (at_most r)) (ap stop p ∙ z) in omega arith;
    }

    module _ (s : State) (w : Pair) (next : Pairs State) (p : rest ≡ (s, w) ∷ next) where
      pub stops_skip : stop ((s, w) ∷ next) ≡ stop next → Stops F next
      stops_skip z = record {
        least = λ G q. let a = h.least G q in let b = ap (λ r. held G (at_least r)) (ap stop p ∙ z) in omega arith;
        most = λ G q. let a = h.most G q in let b = ap (λ r. held G (at_most r)) (ap stop p ∙ z) in omega arith;
      }

      pub stops_list : (Z : Pairs End) (F' : Ended) → stop ((s, w) ∷ next) ≡ Z ++ stop next → EndsWith F Z F' → Stops F' next
      stops_list Z F' z e = record {
        least = λ G q. let a = h.least G q in let b = ap (λ r. held G (at_least r)) (ap stop p ∙ z) in let c = least_append G Z (stop next) in let d = e.least G q in omega arith;
        most = λ G q. let a = h.most G q in let b = ap (λ r. held G (at_most r)) (ap stop p ∙ z) in let c = most_append G Z (stop next) in let d = e.most G q in omega arith;
      }
