-- Lists of passes, while a board is made and closed.
use Rattle.std.proofs.Common.{◌≡◌, ℕ, ◌<◌, Bool, true, false, cond, min, List, [], ◌∷◌, length, length-append, map, get_or, set, All, Any, sym, refl, ap, ◌∙◌, subst, arith}
use mathlib.Core.Option.{some}
use lib.ListN.{get_elem?}
use Rattle.std.proofs.lemmas.List.Elements.{All-set, AllZip-get_or}
use Rattle.std.proofs.lemmas.Slice.Zip.{AllZip-long}
use Rattle.std.specs.List.{AllZip}
use Rattle.claim_board.specs.declared.pass.Pass.{Pass}
use Rattle.claim_board.specs.declared.hand.Hand.{Hand}
use Rattle.passes.specs.Total.{total}
use Rattle.passes.specs.Numbers.{times, once_below, EachOnce}
use Rattle.passes.specs.Views.{views_joined}
use Rattle.claim_board.specs.Rule.{Kept}
use Rattle.claim_board.specs.declared.hand.Terms.{Terms}
use Rattle.claim_board.specs.declared.pass.Board.{Board}
use Rattle.claim_board.specs.Views.{joined, spent_hand}
use Rattle.claim_board.specs.Board.{view_of, numbers_of, dealt_to, had_none, IsPassOf, IsSamePass, AreAllPasses, AreDealtTo}
use Rattle.claim_board.proofs.Keeps.{all_dealt}
use Rattle.passes.proofs.Totals.{total_put, total_get}
use Rattle.passes.proofs.Times.{times-append, once_there}
use Rattle.passes.proofs.Made.{total_joined_all}

-- a pass that had None has one number in the list of the ended
pub ended_once : (p : Pass) → had_none p ≡ true → 0 < length p.seat.me.0.ended
ended_once p h = subst (λ (xs : List ℕ). 0 < length xs) (sym (p.ended ∙ ap (λ (b : Bool). cond b p.seat.me.0.passes.numbers []) h ∙ p.single)) (omega arith)

-- where one of the passes had None, some number stands in their lists of the ended
pub some_ended : (items : List Pass) → Any (λ (p : Pass). had_none p ≡ true) items → 0 < total (λ (p : Pass). length p.seat.me.0.ended) items
some_ended items any = let p : Pass = any.1 in let one = ended_once p any.4 in let le = total_get (λ (q : Pass). length q.seat.me.0.ended) items any.0 p any.2 in
    let same : length (get_or items any.0 p).seat.me.0.ended ≡ length p.seat.me.0.ended = ap (λ (q : Pass). length q.seat.me.0.ended) any.3 in omega arith

-- a board has at least one pass
pub some_pass : (b : Board) (ps : List Pass) → AreAllPasses b ps → 0 < length ps
some_pass b [] all = let one = once_there 0 b.workers (let f = b.few in omega arith) in let none_there = all.1 0 in absurd (omega arith)
some_pass b (p ∷ ps) all = omega arith

-- a pass that has no number in the list of the ended had no None
pub had_no_none : (p : Pass) → p.seat.me.0.ended ≡ [] → had_none p ≡ false
had_no_none p nothing = go (had_none p) refl
  where
    go : (b : Bool) → had_none p ≡ b → b ≡ false
    go true e = let some_number = ended_once p e in let no_number : length p.seat.me.0.ended ≡ 0 = ap length nothing in absurd (omega arith)
    go false e = refl

-- What is known of the last view. It stands for all passes, so that what was dealt to it was dealt to all
pub gathered : (t : Terms) (n : ℕ) (views : List Hand) (id : ℕ) (passes : List Pass) → 0 < length passes → Kept t.blocks t.workers n views
    → get_elem? views id ≡ some (views_joined joined spent_hand (map view_of passes)) → EachOnce numbers_of passes t.workers
    → AreDealtTo (min n t.blocks) passes × (Any (λ (p : Pass). had_none p ≡ true) passes → min n t.blocks ≡ t.blocks)
gathered t n views id passes some_one kept at once =
    let v : Hand = views_joined joined spent_hand (map view_of passes) in
    let sum = total_joined_all joined spent_hand view_of in
    let numbers : (x : ℕ) → times x v.passes.numbers ≡ once_below x t.workers
    = λ x. sum (λ (u : Hand). times x u.passes.numbers) (λ u w. times-append x u.passes.numbers w.passes.numbers) passes some_one ∙ once x in
    let dealt : (x : ℕ) → times x v.dealt ≡ total (λ (p : Pass). times x (dealt_to p)) passes
    = λ x. sum (λ (u : Hand). times x u.dealt) (λ u w. times-append x u.dealt w.dealt) passes some_one in
    let ended = sum (λ (u : Hand). length u.ended) (λ u w. length-append u.ended w.ended) passes some_one in
    let all = all_dealt t.blocks t.workers n views id v kept at numbers in (
      (λ x. sym (dealt x) ∙ all.0 x),
      (λ any. all.1 (subst (λ (k : ℕ). 0 < k) (sym ended) (some_ended passes any))),
    )

-- after a step of one pass they are all passes still
pub all_passes_set : (b : Board) (ps : List Pass) (i : ℕ) (d q : Pass) → i < length ps → AreAllPasses b ps → IsPassOf b q → numbers_of q ≡ numbers_of (get_or ps i d) → AreAllPasses b (set ps i q)
all_passes_set b ps i d q inside all is same = (
  All-set (IsPassOf b) ps i q is all.0,
  (λ x. let t = total_put (λ (p : Pass). times x (numbers_of p)) ps i d q inside in let now = all.1 x in let e : times x (numbers_of q) ≡ times x (numbers_of (get_or ps i d)) = ap (times x) same in omega arith),
)

-- after steps of several passes they are all passes still
pub all_passes_same : (b : Board) (ps qs : List Pass) → AreAllPasses b ps → AllZip IsSamePass ps qs → AreAllPasses b qs
all_passes_same b ps qs all same = (all_of ps qs all.0 same, λ x. sym (as_many x ps qs same) ∙ all.1 x)
  where
    all_of : (ps qs : List Pass) → All (IsPassOf b) ps → AllZip IsSamePass ps qs → All (IsPassOf b) qs
    all_of ps qs h z k d inside = let long = AllZip-long IsSamePass ps qs z in let here : k < length ps = omega arith in
        let pair = AllZip-get_or IsSamePass ps qs k d d z here in let is = h k d here in (pair.0 ∙ is.0, pair.1 ∙ is.1)

    as_many : (x : ℕ) (ps qs : List Pass) → AllZip IsSamePass ps qs → total (λ (p : Pass). times x (numbers_of p)) ps ≡ total (λ (p : Pass). times x (numbers_of p)) qs
    as_many x [] [] z = refl
    as_many x [] (q ∷ qs) z = absurd z
    as_many x (p ∷ ps) [] z = absurd z
    as_many x (p ∷ ps) (q ∷ qs) z = let r = as_many x ps qs z.1 in let here : times x (numbers_of q) ≡ times x (numbers_of p) = ap (times x) z.0.2 in omega arith
