-- Each step of the board keeps its rule.
use Rattle.std.proofs.Common.{◌≡◌, ℕ, ◌+◌, ◌%◌, ◌^◌, ◌<◌, ◌≤◌, ◌≢◌, Bool, true, false, cond, min, List, [], ◌∷◌, ◌++◌, length, get_or, set, sym, refl, ap, ◌∙◌, subst, arith, length-set, length-append, append_assoc, append-nil, get_or-set_same, get_or-set_other}
use Rattle.std.proofs.lemmas.List.{length-replicate}
use mathlib.Core.Logic.{dite}
use mathlib.Core.Option.{none, some}
use native.Mathlib.Decide.{dec_le}
use lib.ListN.{get_elem?}
use Rattle.atomic_table.specs.Table.{Me, step, keeps, stepped, Allows, Splits, Joins}
use Rattle.claim_board.specs.declared.hand.Hand.{Hand}
use Rattle.claim_board.specs.declared.hand.Terms.{Terms}
use Rattle.claim_board.specs.declared.pass.TheConstants.{MOST_BLOCKS, MOST_PASSES}
use Rattle.passes.specs.declared.view.Numbering.{Numbering}
use Rattle.passes.specs.Total.{total}
use Rattle.passes.specs.Numbers.{times, once_below, is_above}
use Rattle.passes.specs.Numbering.{EachView, made}
use Rattle.claim_board.specs.Deal.{Worker, Deal, fresh, start, worker_at, after_draw, Runs}
use Rattle.claim_board.specs.Views.{passes_of, first_hand, spent_hand, makes, made_by, joined, took, closes, drawing}
use Rattle.claim_board.specs.Rule.{dealt_of, ended_of, Shows, Kept, Holds}
use Rattle.passes.proofs.Totals.{total_set, total_snoc, total_at, total_only, total_le}
use Rattle.passes.proofs.Times.{times-append, once_more, once_inside, once_outside, above_all, times_here}
use Rattle.passes.proofs.Views.{each_set, each_split, each_joined, each_alone, other_there, total_joined}
use Rattle.passes.proofs.Numbered.{numbered_first, made_play, numbered_play, next_number, made_split, numbered_split, made_join, numbered_join, is_made, not_there, no_other}
use Rattle.claim_board.proofs.FairDeal.{min_inside, min_outside, draws_inside, draws_outside, fresh_at, runs_snoc}

test_other : (p q : ℕ) (ps : List ℕ) → times p (q ∷ ps) ≡ 0 → (q ≢ p) × (times p ps ≡ 0)
test_other p q ps h = ((λ same. let here = times_here q ps in let there : 0 < times p (q ∷ ps) = subst (λ (z : ℕ). 0 < times z (q ∷ ps)) same here in omega arith), omega arith)

dealt_else : (ws : List Worker) (p : ℕ) (k : Worker) (ps : List ℕ) → times p ps ≡ 0 → dealt_of (set ws p k) ps ≡ dealt_of ws ps
dealt_else ws p k [] h = refl
dealt_else ws p k (q ∷ qs) h = let o = test_other p q qs h in let r = dealt_else ws p k qs o.1 in
    rw (get_or-set_other ws p q k fresh o.0, r) refl

ended_else : (ws : List Worker) (p : ℕ) (k : Worker) (ps : List ℕ) → times p ps ≡ 0 → ended_of (set ws p k) ps ≡ ended_of ws ps
ended_else ws p k [] h = refl
ended_else ws p k (q ∷ qs) h = let o = test_other p q qs h in let r = ended_else ws p k qs o.1 in
    rw (get_or-set_other ws p q k fresh o.0, r) refl

pub dealt_append : (ws : List Worker) (ps qs : List ℕ) → dealt_of ws (ps ++ qs) ≡ dealt_of ws ps ++ dealt_of ws qs
dealt_append ws [] qs = refl
dealt_append ws (p ∷ ps) qs = let r = dealt_append ws ps qs in rw r (sym (append_assoc (worker_at ws p).dealt (dealt_of ws ps) (dealt_of ws qs)))

pub ended_append : (ws : List Worker) (ps qs : List ℕ) → ended_of ws (ps ++ qs) ≡ ended_of ws ps ++ ended_of ws qs
ended_append ws [] qs = refl
ended_append ws (p ∷ ps) qs = let r = ended_append ws ps qs in rw r (sym (append_assoc (cond (worker_at ws p).ended (p ∷ []) []) (ended_of ws ps) (ended_of ws qs)))

not_ended : (b : Bool) (p : ℕ) → [] ≡ cond b (p ∷ []) [] ++ [] → b ≡ false
not_ended true p e = absurd (cc)
not_ended false p e = refl

-- The pass of the number p draws n: the dealing goes on by one claim of p
pub runs_on : (blocks workers n : ℕ) (views : List Hand) (id p : ℕ) (v w : Hand) (kept : Kept blocks workers n views) → get_elem? views id ≡ some v → v.passes.numbers ≡ p ∷ [] → v.ended ≡ []
    → w.passes ≡ v.passes
    → ((k : Worker) → v.dealt ≡ k.dealt → k.ended ≡ false → (w.dealt ≡ (after_draw blocks n k).dealt) × (w.ended ≡ cond (after_draw blocks n k).ended (p ∷ []) []))
    → (events : List ℕ) × (d : Deal) × Runs blocks (start workers) events d × (length events ≡ n + 1) × (d.next ≡ n + 1) × (length d.workers ≡ workers)
    × EachView (Shows d.workers) (set views id w)
    × ((q : ℕ) → made passes_of (set views id w) ≤ q → worker_at d.workers q ≡ fresh)
runs_on blocks workers n views id p v w kept at one no_end same_passes steps =
    let d : Deal = kept.run.1 in
    let ws : List Worker = d.workers in
    let k : Worker = worker_at ws p in
    let k' : Worker = after_draw blocks d.next k in
    let shows : Shows ws v = kept.run.6 id v at in
    let below : p < made passes_of views = is_made passes_of workers views kept.passes id p v at one in
    let inside : p < length ws = let few = kept.passes.few in let count = kept.run.5 in omega arith in
    let idle : k.ended ≡ false = not_ended k.ended p (sym no_end ∙ shows.ended ∙ ap (ended_of ws) one) in
    let dealt : v.dealt ≡ k.dealt = shows.dealt ∙ ap (dealt_of ws) one ∙ append-nil k.dealt in
    let alone : w.passes.numbers ≡ p ∷ [] = ap (λ (q : Numbering). q.numbers) same_passes ∙ one in
    let made_same = made_play passes_of workers views kept.passes id v w at same_passes in
    let at_next : d.next ≡ n = kept.run.4 in
    let there : worker_at (set ws p k') p ≡ k' = get_or-set_same ws p k' fresh inside in
    let s = subst (λ (m : ℕ). (w.dealt ≡ (after_draw blocks m k).dealt) × (w.ended ≡ cond (after_draw blocks m k).ended (p ∷ []) [])) (sym at_next) (steps k dealt idle) in (
      kept.run.0 ++ p ∷ [],
      record { next = d.next + 1; workers = set ws p k' },
      runs_snoc blocks (start workers) kept.run.0 d p _ kept.run.2 (inside, idle, refl),
      (let l = kept.run.3 in omega (arith, length-append kept.run.0 (p ∷ []))),
      omega arith,
      length-set ws p k' ∙ kept.run.5,
      each_set (Shows (set ws p k')) views id w
          (record {
            dealt = s.0 ∙ sym (ap (dealt_of (set ws p k')) alone ∙ append-nil _ ∙ ap (λ (z : Worker). z.dealt) there);
            ended = s.1 ∙ sym (ap (ended_of (set ws p k')) alone ∙ append-nil _ ∙ ap (λ (z : Worker). cond z.ended (p ∷ []) []) there);
          })
          (λ j u ne e. let apart = not_there passes_of workers views kept.passes id p v at one j u ne e in let su : Shows ws u = kept.run.6 j u e in record {
            dealt = su.dealt ∙ sym (dealt_else ws p k' u.passes.numbers apart);
            ended = su.ended ∙ sym (ended_else ws p k' u.passes.numbers apart);
          }),
      (λ q h. let ne : q ≢ p = λ (e : q ≡ p). omega arith in get_or-set_other ws p q k' fresh ne ∙ kept.run.7 q (omega arith)),
    )

took_step : (blocks n p : ℕ) (v : Hand) → v.ended ≡ [] → n < blocks → (k : Worker) → v.dealt ≡ k.dealt → k.ended ≡ false
    → ((took n v).dealt ≡ (after_draw blocks n k).dealt) × ((took n v).ended ≡ cond (after_draw blocks n k).ended (p ∷ []) [])
took_step blocks n p v no_end inside k same idle = let is = draws_inside blocks n k inside in (
  ap (λ (xs : List ℕ). xs ++ n ∷ []) same ∙ sym (ap (λ (z : Worker). z.dealt) is),
  no_end ∙ sym (ap (λ (b : Bool). cond b (p ∷ []) []) (ap (λ (z : Worker). z.ended) is ∙ idle)),
)

closes_step : (blocks n p : ℕ) (v : Hand) → v.passes.numbers ≡ p ∷ [] → v.ended ≡ [] → blocks ≤ n → (k : Worker) → v.dealt ≡ k.dealt → k.ended ≡ false
    → ((closes v).dealt ≡ (after_draw blocks n k).dealt) × ((closes v).ended ≡ cond (after_draw blocks n k).ended (p ∷ []) [])
closes_step blocks n p v one no_end out k same idle = let is = draws_outside blocks n k out in (
  same ∙ sym (ap (λ (z : Worker). z.dealt) is),
  (λ i. no_end i ++ one i) ∙ sym (ap (λ (b : Bool). cond b (p ∷ []) []) (ap (λ (z : Worker). z.ended) is)),
)

pub kept_took : (blocks workers n : ℕ) (views : List Hand) (id p : ℕ) (v : Hand) → Kept blocks workers n views → get_elem? views id ≡ some v → v.passes.numbers ≡ p ∷ [] → v.ended ≡ [] → n < blocks
    → Kept blocks workers (n + 1) (set views id (took n v))
kept_took blocks workers n views id p v kept at one no_end inside = let w : Hand = took n v in let m = min_inside n blocks inside in
    record {
      passes = numbered_play passes_of workers views kept.passes id v w at refl;
      dealt = λ x. let t = total_set (λ (u : Hand). times x u.dealt) views id v w at in let all : total (λ (u : Hand). times x u.dealt) views ≡ once_below x n = subst (λ (z : ℕ). total (λ (u : Hand). times x u.dealt) views ≡ once_below x z) m.0 (kept.dealt x) in
          rw m.1 (omega (arith, times-append x v.dealt (n ∷ []), once_more x n));
      word = let t = total_set (λ (u : Hand). length u.ended) views id v w at in let all = kept.word in omega arith;
      run = runs_on blocks workers n views id p v w kept at one no_end refl (took_step blocks n p v no_end inside);
    }

pub kept_closes : (blocks workers n : ℕ) (views : List Hand) (id p : ℕ) (v : Hand) → Kept blocks workers n views → get_elem? views id ≡ some v → v.passes.numbers ≡ p ∷ [] → v.ended ≡ [] → blocks ≤ n
    → Kept blocks workers (n + 1) (set views id (closes v))
kept_closes blocks workers n views id p v kept at one no_end out = let w : Hand = closes v in let m = min_outside n blocks out in
    let one_more : length w.ended ≡ length v.ended + 1 = length-append v.ended v.passes.numbers ∙ ap (λ (xs : List ℕ). length v.ended + length xs) one in
    record {
      passes = numbered_play passes_of workers views kept.passes id v w at refl;
      dealt = λ x. let t = total_set (λ (u : Hand). times x u.dealt) views id v w at in let all : total (λ (u : Hand). times x u.dealt) views ≡ once_below x blocks = subst (λ (z : ℕ). total (λ (u : Hand). times x u.dealt) views ≡ once_below x z) m.0 (kept.dealt x) in
          rw m.1 (omega arith);
      word = let t = total_set (λ (u : Hand). length u.ended) views id v w at in let all = kept.word in omega arith;
      run = runs_on blocks workers n views id p v w kept at one no_end refl (closes_step blocks n p v one no_end out);
    }

ended_short : (ws : List Worker) (ps : List ℕ) → length (ended_of ws ps) ≤ length ps
ended_short ws [] = omega arith
ended_short ws (p ∷ ps) = go (worker_at ws p).ended (ended_short ws ps)
  where
    go : (b : Bool) → length (ended_of ws ps) ≤ length ps → length (cond b (p ∷ []) [] ++ ended_of ws ps) ≤ length (p ∷ ps)
    go true h = omega arith
    go false h = omega arith

-- the word is never more than this, so it does not wrap
pub word_small : (blocks workers n : ℕ) (views : List Hand) → Kept blocks workers n views → n ≤ blocks + workers
word_small blocks workers n views kept = let w = kept.word in let few = kept.passes.few in let c = kept.passes.counted in
    let le = total_le (λ (u : Hand). length u.ended) (λ (u : Hand). length u.passes.numbers) views
    (λ j u e. let s : Shows kept.run.1.workers u = kept.run.6 j u e in subst (λ (xs : List ℕ). length xs ≤ length u.passes.numbers) (sym s.ended) (ended_short kept.run.1.workers u.passes.numbers)) in omega arith

-- what was dealt to one pass is below the word and the blocks
pub dealt_below : (blocks workers n : ℕ) (views : List Hand) (id : ℕ) (v : Hand) → Kept blocks workers n views → get_elem? views id ≡ some v → is_above n v.dealt ≡ true
dealt_below blocks workers n views id v kept at = above_all v.dealt n (λ x p. let all = kept.dealt x in let le = total_at (λ (u : Hand). times x u.dealt) views id v at in
    let inside : x < min n blocks = once_inside x (min n blocks) (omega arith) in omega arith)

pub kept_makes : (blocks workers n : ℕ) (views : List Hand) (id : ℕ) (v : Hand) → Kept blocks workers n views → get_elem? views id ≡ some v → v.passes.numbers ≡ 0 ∷ [] → v.passes.made < workers
    → Kept blocks workers n (set views id (makes v) ++ made_by v ∷ [])
kept_makes blocks workers n views id v kept at one room =
    let l : List Hand = set views id (makes v) in
    let new : Hand = made_by v in
    let next = next_number passes_of workers views kept.passes id v (makes v) new at one refl refl in
    let more = made_split passes_of workers views kept.passes id v (makes v) new at one refl refl in
    record {
      passes = numbered_split passes_of workers views kept.passes id v (makes v) new at one refl refl room;
      dealt = λ x. let t = total_set (λ (u : Hand). times x u.dealt) views id v (makes v) at in let s = total_snoc (λ (u : Hand). times x u.dealt) l new in let all = kept.dealt x in omega arith;
      word = let t = total_set (λ (u : Hand). length u.ended) views id v (makes v) at in let s = total_snoc (λ (u : Hand). length u.ended) l new in let all = kept.word in omega arith;
      run = let d : Deal = kept.run.1 in let sv : Shows d.workers v = kept.run.6 id v at in
          let idle : worker_at d.workers v.passes.made ≡ fresh = kept.run.7 v.passes.made (omega arith) in (
            kept.run.0,
            d,
            kept.run.2,
            kept.run.3,
            kept.run.4,
            kept.run.5,
            each_split (Shows d.workers) views id (makes v) new (record { dealt = sv.dealt; ended = sv.ended })
                (record {
                  dealt = sym (append-nil _ ∙ ap (λ (z : Worker). z.dealt) idle);
                  ended = sym (append-nil _ ∙ ap (λ (z : Worker). cond z.ended (v.passes.made ∷ []) []) idle);
                })
                kept.run.6,
            (λ p h. kept.run.7 p (omega arith)),
          );
    }

pub kept_joined : (blocks workers n : ℕ) (views : List Hand) (id other : ℕ) (v w : Hand) → Kept blocks workers n views → get_elem? views id ≡ some v → ¬ (other ≡ id) → get_elem? (set views id (joined v w)) other ≡ some w
    → Kept blocks workers n (set (set views id (joined v w)) other spent_hand)
kept_joined blocks workers n views id other v w kept at ne there =
    let both : Hand = joined v w in
    let l : List Hand = set (set views id both) other spent_hand in
    let same_made = made_join passes_of workers views kept.passes id other v w both spent_hand at ne there refl refl in
    let d : Deal = kept.run.1 in
    let sv : Shows d.workers v = kept.run.6 id v at in
    let sw : Shows d.workers w = kept.run.6 other w (other_there views id other both w ne there) in
    record {
      passes = numbered_join passes_of workers views kept.passes id other v w both spent_hand at ne there refl refl;
      dealt = λ x. let t = total_joined (λ (u : Hand). times x u.dealt) views id other v w both spent_hand at there in let all = kept.dealt x in omega (arith, times-append x v.dealt w.dealt);
      word = let t = total_joined (λ (u : Hand). length u.ended) views id other v w both spent_hand at there in let all = kept.word in omega (arith, length-append v.ended w.ended);
      run = (
        kept.run.0,
        d,
        kept.run.2,
        kept.run.3,
        kept.run.4,
        kept.run.5,
        each_joined (Shows d.workers) views id other both spent_hand
            (record {
              dealt = (λ i. sv.dealt i ++ sw.dealt i) ∙ sym (dealt_append d.workers v.passes.numbers w.passes.numbers);
              ended = (λ i. sv.ended i ++ sw.ended i) ∙ sym (ended_append d.workers v.passes.numbers w.passes.numbers);
            })
            (record { dealt = refl; ended = refl }) kept.run.6,
        (λ p h. kept.run.7 p (omega arith)),
      );
    }

pub kept_first : (t : Terms) → 0 < t.workers → Kept t.blocks t.workers 0 (first_hand t ∷ [])
kept_first t some_worker = record {
  passes = numbered_first passes_of t.workers (first_hand t) refl some_worker;
  dealt = λ x. sym (once_outside x (min 0 t.blocks) (omega arith));
  word = omega arith;
  run = (
    [],
    start t.workers,
    refl,
    refl,
    refl,
    length-replicate t.workers fresh,
    each_alone (Shows (start t.workers).workers) (first_hand t) shows,
    (λ p h. fresh_at t.workers p),
  );
}
  where
    shows : Shows (start t.workers).workers (first_hand t)
    shows = record {
      dealt = sym (append-nil _ ∙ ap (λ (z : Worker). z.dealt) (fresh_at t.workers 0));
      ended = sym (append-nil _ ∙ ap (λ (z : Worker). cond z.ended (0 ∷ []) []) (fresh_at t.workers 0));
    }

-- where one view stands for all workers, all that was dealt was dealt to it
pub all_dealt : (blocks workers n : ℕ) (views : List Hand) (id : ℕ) (v : Hand) → Kept blocks workers n views → get_elem? views id ≡ some v → ((x : ℕ) → times x v.passes.numbers ≡ once_below x workers)
    → ((x : ℕ) → times x v.dealt ≡ once_below x (min n blocks)) × (0 < length v.ended → min n blocks ≡ blocks)
all_dealt blocks workers n views id v kept at whole =
    let d : Deal = kept.run.1 in
    let idle : (j : ℕ) (u : Hand) → j ≢ id → get_elem? views j ≡ some u → u.dealt ≡ []
    = λ j u ne e. let su : Shows d.workers u = kept.run.6 j u e in su.dealt ∙ ap (dealt_of d.workers) (no_other passes_of workers views kept.passes id v at whole j u ne e) in (
      (λ x. let only = total_only (λ (z : Hand). times x z.dealt) views id v at (λ j u ne e. ap (times x) (idle j u ne e)) in let all = kept.dealt x in omega arith),
      (λ some_none. let le = total_at (λ (z : Hand). length z.ended) views id v at in let w = kept.word in omega arith),
    )

pub claims : (t : Terms) (slots id : ℕ) (m : Me (Unit {0}) Hand) (p : ℕ) → t.blocks ≤ MOST_BLOCKS → t.workers ≤ MOST_PASSES → m.0.blocks ≡ t.blocks → m.0.passes.numbers ≡ p ∷ [] → m.0.ended ≡ []
    → Allows (Holds t) slots id m 0 (λ n. (n + 1) % 2 ^ 64) (drawing (step slots 0 1 0 none) m)
claims t slots id m p few_blocks few_workers blocks_is one no_end s h _ at _ =
    let n : ℕ = get_or s.words 0 0 in
    let v : Hand = m.0 in
    let kept : Kept t.blocks t.workers n s.views = h.1 in
    let small = word_small t.blocks t.workers n s.views kept in
    let above = dealt_below t.blocks t.workers n s.views id v kept at in
    let wide : length s.words ≡ 1 = h.0 in
    let up : (n + 1) % 18446744073709551616 ≡ n + 1 = omega arith in
    let placed : (w : Hand) → Kept t.blocks t.workers (n + 1) (set s.views id w) → Holds t (stepped s 0 ((n + 1) % 18446744073709551616) id m.1 w keeps) = λ w k. (
      length-set s.words 0 ((n + 1) % 18446744073709551616) ∙ wide,
      subst (λ (z : ℕ). Kept t.blocks t.workers z (set s.views id w)) (sym (get_or-set_same s.words 0 ((n + 1) % 18446744073709551616) 0 (omega arith) ∙ up)) k,
    ) in
    dite (dec_le t.blocks n)
    (λ out. (closes v, keeps, tt, placed (closes v) (kept_closes t.blocks t.workers n s.views id p v kept at one no_end out), ((above, (λ q. absurd (omega arith)), (λ q. refl)), refl)))
    (λ not. (took n v, keeps, tt, placed (took n v) (kept_took t.blocks t.workers n s.views id p v kept at one no_end (omega arith)), ((above, (λ q. refl), (λ q. absurd (omega arith))), refl)))

pub splits : (t : Terms) (id : ℕ) (v : Hand) → v.passes.numbers ≡ 0 ∷ [] → v.passes.made < t.workers → Splits (Holds t) id v (makes v) (made_by v)
splits t id v one room s h at = (h.0, kept_makes t.blocks t.workers (get_or s.words 0 0) s.views id v h.1 at one room)

pub joins : (t : Terms) (id other : ℕ) (v w : Hand) → Joins (Holds t) id v other w (joined v w) spent_hand
joins t id other v w s h at ne there = (h.0, kept_joined t.blocks t.workers (get_or s.words 0 0) s.views id other v w h.1 at ne there)
