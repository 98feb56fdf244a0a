-- A choice among several of a fold, arm by arm.
use Rattle.std.proofs.Common.{◌≡◌, ℕ, ◌+◌, ◌≤◌, ◌<◌, [], ◌∷◌, ◌++◌, Option, refl, sym, subst, arith}
use Rattle.std.specs.List.{sum}
use Rattle.std.proofs.lemmas.List.Sums.{sum_by-cons}
use Rattle.gcl_core.specs.declared.answers.Limit.TheVariants as limit_kind
use Rattle.gcl_core.specs.meaning.Arms.{parts_of}
use Rattle.gcl_core.specs.meaning.Syntax.{Choose, Statements, ArmList, no_arm, arm}
use Rattle.gcl_core.specs.meaning.Bounds.{ArmsAreWeighed, AreParts}
use Rattle.gcl_core.specs.meaning.Value.{State}
use Rattle.gcl_core.specs.meaning.Blocks.{End, limit}
use Rattle.gcl_core.specs.weighing.Fractions.{Fraction}
use Rattle.gcl_core.specs.weighing.WeightedEnds.{Weighted, scaled, class_weight, no_class_weight}
use Rattle.numbers.specs.Fraction.{IsEqual}
use Rattle.table_flow.specs.Tables.{Table, Flow, all_end, statement_flow, block_flow, draws_each, draw_weights, states}
use Rattle.table_flow.specs.Scale.{Whole, Wholes, Within, amount, weight}
use Rattle.table_flow.specs.Counts.{none_stopped, all_kept}
use Rattle.table_flow.proofs.FlowWords.{arms_flow}
use Rattle.table_flow.proofs.Amounts.{ends_whole, amount_append, ends_first, all_first}
use Rattle.table_flow.proofs.InsideFlows.{choose_inside, first_arm, other_arms}
use Rattle.table_flow.proofs.Kept.{all_end_weight, arms_weight, arms_kept, kept_one, kept_arms}
use Rattle.table_flow.proofs.Draws.{class_pos}
use Rattle.mass_fold.specs.declared.error.MassError.{MassError}
use Rattle.mass_fold.specs.declared.ended.Ended.{Ended}
use Rattle.mass_fold.specs.inner.Amounts.{Entries}
use Rattle.mass_fold.specs.inner.Steps.{StepsTo, StepBlames}
use Rattle.mass_fold.specs.inner.Fold.{Stands, EndStands, FoldsTo, FoldBlames, Around, FoldsOne, OneBlames, UndecidedTo, UndecidedBlames, WeighedBy, WeighBlamesBy}
use Rattle.mass_fold.proofs.Folds.{stands_along, end_along, merged, merge_blamed, head_few}
use Rattle.mass_fold.proofs.Sides.{count_whole, count_small, count_equal, draws_head}

-- in the midst of the arms, begun on the table I where J had ended: what was collected and what the other arms give are together what all
-- of them give
pub record ArmsAt (whole rest : Table → Flow) (out : Entries) (E : Ended) (N L : ℕ) (I : Table) (J : Weighted End) : Type 0 where
  pub table : Table
  pub gone : Weighted End
  pub stands : Stands N out table
  pub stopped : EndStands N E gone
  pub inside : Within N L (rest I)
  pub going : (G : State → ℕ) → amount N G table + amount N G (rest I).next ≡ amount N G (whole I).next
  pub stopping : (G : End → ℕ) → amount N G gone + amount N G (rest I).ended ≡ amount N G J + amount N G (whole I).ended

abbrev pub ArmsOn : (Table → Flow) → (Table → Flow) → Entries → Ended → Entries → Ended → Type 0
ArmsOn whole rest es E out F = (N L : ℕ) (I : Table) (J : Weighted End) → 0 < N → Stands N es I → EndStands N E J → Around N L I (whole I) → ArmsAt whole rest out F N L I J

module _ (n : ℕ) (r : Option ℕ) (all : ArmList) (ps : AreParts (parts_of all)) (es : Entries) (E : Ended) where
  abbrev b : ℕ
  b = sum (parts_of all)

  abbrev whole : Table → Flow
  whole I = statement_flow n r (Choose all) I

  abbrev pub ends : Table → Weighted End
  ends I = all_end (limit limit_kind.Attempts) (scaled (no_class_weight b r) I)

  positive : 0 < b
  positive = let z = ps.positive in omega arith

  -- ---- before the arms
  none_whole : (N L : ℕ) (I : Table) → Around N L I (whole I) → Wholes N (scaled (no_class_weight b r) I)
  none_whole N L I h = ends_whole N (limit limit_kind.Attempts) (scaled (no_class_weight b r) I) (ends_first N (ends I) (arms_flow n r b all I).ended h.inside.ended)

  -- where there is a state, the weights of the draw are whole
  draw_whole : (N L : ℕ) (I : Table) → 0 < N → Stands N es I → (es ≡ [] → ⊥) → Around N L I (whole I) → Whole N (class_weight b r 1) × Whole N (no_class_weight b r)
  draw_whole N L I Np s some h =
      let d = draws_head N es I (draw_weights b r) Np s some (all_first N (draws_each (draw_weights b r) I) (arms_flow n r b all I).draws h.inside.draws) in
      (d.0, d.1.0)

  pub undecided_blames : (error : MassError) → (es ≡ [] → ⊥) → UndecidedBlames b r es E error → OneBlames whole es E error
  undecided_blames error some x N L I J Np s t h m =
      let d = draw_whole N L I Np s some h in
      let k = arms_kept n r N L all I ps h.before h.inside in
      let z = all_end_weight N (limit limit_kind.Attempts) (scaled (no_class_weight b r) I) in
      x N L I J Np d.0 d.1 h.before (none_whole N L I h) s t (omega arith)

  pub arms_start : (F : Ended) (out : Entries) → UndecidedTo b r es E F → out ≡ [] → ArmsOn whole (arms_flow n r b all) es E out F
  arms_start F out x e N L I J Np s t h =
      let f = arms_flow n r b all I in
      record {
        table = [];
        gone = J ++ ends I;
        stands = subst (λ out. Stands N out []) (sym e) (record { kept = tt; same = λ G. refl });
        stopped = x N I J Np h.before (none_whole N L I h) s t;
        inside = choose_inside n r N L all I h.inside;
        going = λ G. omega arith;
        stopping = λ G. let a = amount_append N G J (ends I) in let c = amount_append N G (ends I) f.ended in omega arith;
      }

  pub arms_as : (rest rest' : ArmList) (out : Entries) (F : Ended) → rest ≡ rest' → ArmsOn whole (arms_flow n r b rest) es E out F → ArmsOn whole (arms_flow n r b rest') es E out F
  arms_as rest rest' out F e l = subst (λ rest. ArmsOn whole (arms_flow n r b rest) es E out F) e l

  -- what stands of weight before the other arms
  weighs : (N L : ℕ) (I : Table) (J : Weighted End) (rest : ArmList) (out : Entries) (F : Ended) → ArmsAreWeighed all → ArmsAreWeighed rest → Around N L I (whole I) → (at : ArmsAt whole (arms_flow n r b rest) out F N L I J) →
      weight N at.table + (weight N at.gone + arms_weight N b r (parts_of rest) I) ≡ weight N I + weight N J
  weighs N L I J rest out F wa wr h at =
      let k = kept_one n r N L (Choose all) I (ps, wa) h.before h.after h.inside in
      let m = kept_arms n r N L b rest wr I at.inside in
      let x = at.going (λ s. 1) in
      let y = at.stopping (λ x. 1) in
      omega arith

  -- ---- one arm
  module _ (p : ℕ) (a : Statements) (rest : ArmList) (out : Entries) (F : Ended) (l : ArmsOn whole (arms_flow n r b (arm p a rest)) es E out F) where
    abbrev u : Fraction
    u = class_weight b r p

    side_whole : (N L : ℕ) (I : Table) (J : Weighted End) → ArmsAt whole (arms_flow n r b (arm p a rest)) out F N L I J → Wholes N (scaled u I) × (states (scaled u I) ≤ L)
    side_whole N L I J at = head_few n r N L a (scaled u I) (first_arm n r N L b p a rest I at.inside).tables

    module _ (part : Fraction) (is : IsEqual part (class_weight b r 1)) where
      pub weighed_blames : (error : MassError) → (es ≡ [] → ⊥) → ArmsAreWeighed all → ArmsAreWeighed (arm p a rest) → sum (p ∷ parts_of rest) ≤ b → WeighBlamesBy part p es error → OneBlames whole es E error
      weighed_blames error some wa wr few x N L I J Np s t h m =
          let at = l N L I J Np s t h in
          let k = weighs N L I J (arm p a rest) out F wa wr h at in
          let le : p ≤ b = let e = sum_by-cons (λ x. x) p (parts_of rest) in omega (arith, e, few) in
          let w = side_whole N L I J at in
          x u (class_pos b r p positive) (count_small b r p le) (count_equal b r p part is) N L I Np (count_whole N b r p positive (draw_whole N L I Np s some h).0) h.before w.0 s (omega arith) w.1

      module _ (side : Entries) (x : WeighedBy part p es side) where
        pub side_stands : (N L : ℕ) (I : Table) (J : Weighted End) → 0 < N → Stands N es I → Around N L I (whole I) → ArmsAt whole (arms_flow n r b (arm p a rest)) out F N L I J → Stands N side (scaled u I)
        side_stands N L I J Np s h at = x u (class_pos b r p positive) (count_equal b r p part is) N I Np h.before (side_whole N L I J at).0 s

        pub block_blames : (error : MassError) → ArmsAreWeighed all → ArmsAreWeighed (arm p a rest) → FoldBlames (block_flow n r a) side F error → OneBlames whole es E error
        block_blames error wa wr y N L I J Np s t h m =
            let at = l N L I J Np s t h in
            let k = weighs N L I J (arm p a rest) out F wa wr h at in
            y N L (scaled u I) at.gone Np (side_stands N L I J Np s h at) at.stopped (first_arm n r N L b p a rest I at.inside) (omega arith)

        module _ (left : Entries) (G : Ended) (y : FoldsTo (block_flow n r a) side F left G) where
          pub arm_blames : (error : MassError) → ArmsAreWeighed all → ((E : Ended) → StepBlames all_kept none_stopped out left E error) → OneBlames whole es E error
          arm_blames error wa z N L I J Np s t h m =
              let at = l N L I J Np s t h in
              let f = block_flow n r a (scaled u I) in
              let q = y N L (scaled u I) at.gone Np (side_stands N L I J Np s h at) at.stopped (first_arm n r N L b p a rest I at.inside) in
              let k = kept_one n r N L (Choose all) I (ps, wa) h.before h.after h.inside in
              merge_blamed N L out left E error at.table f.next (whole I).next J Np (z E) t at.stands q.0
              (λ U. let i = at.going U in let o = amount_append N U f.next (arms_flow n r b rest I).next in omega arith) (omega arith) h.few_after (omega arith)

          pub arm_turn : (out' : Entries) → ((E : Ended) → StepsTo all_kept none_stopped out left E out' E) → ArmsOn whole (arms_flow n r b rest) es E out' G
          arm_turn out' z N L I J Np s t h =
              let at = l N L I J Np s t h in
              let f = block_flow n r a (scaled u I) in
              let g = arms_flow n r b rest I in
              let q = y N L (scaled u I) at.gone Np (side_stands N L I J Np s h at) at.stopped (first_arm n r N L b p a rest I at.inside) in
              record {
                table = at.table ++ f.next;
                gone = at.gone ++ f.ended;
                stands = merged N out left out' G at.table f.next Np (z G) q.1.kept at.stands q.0;
                stopped = q.1;
                inside = other_arms n r N L b p a rest I at.inside;
                going = λ U. let i = at.going U in let o = amount_append N U at.table f.next in let c = amount_append N U f.next g.next in omega arith;
                stopping = λ U. let i = at.stopping U in let o = amount_append N U at.gone f.ended in let c = amount_append N U f.ended g.ended in omega arith;
              }

  -- ---- after the arms
  pub arms_end : (out : Entries) (F : Ended) → ArmsOn whole (arms_flow n r b no_arm) es E out F → FoldsOne whole es E out F
  arms_end out F l N L I J Np s t h =
      let at = l N L I J Np s t h in (
        stands_along N out at.table (whole I).next (λ U. let i = at.going U in omega arith) at.stands,
        end_along N F at.gone (J ++ (whole I).ended) (λ U. let i = at.stopping U in let o = amount_append N U J (whole I).ended in omega arith) at.stopped,
      )
