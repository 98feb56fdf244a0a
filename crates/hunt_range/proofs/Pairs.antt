-- Hunters made of two lists of passes, and taken apart again.
use Rattle.std.proofs.Common.{◌≡◌, ℕ, ◌+◌, ◌<◌, Ok, List, [], ◌∷◌, ◌++◌, length, All, sym, refl, ap, ◌∙◌, subst, arith}
use Rattle.std.specs.List.{AllZip}
use Rattle.std.proofs.lemmas.List.Elements.{All-nil, All-cons, All-head, All-tail}
use Rattle.passes.specs.Total.{total}
use Rattle.passes.specs.Numbers.{times, once_below}
use Rattle.passes.proofs.Totals.{total_empty, total_pop}
use Rattle.passes.proofs.Times.{once_there}
use Rattle.passes.proofs.Elements.{all_push, all_pop, length_push}
use Rattle.claim_board.specs.declared.pass.Board.{Board}
use Rattle.claim_board.specs.declared.pass.Pass.{Pass}
use Rattle.claim_board.specs.Board as claim
use Rattle.least_board.specs.declared.pass.LeastBoard.{LeastBoard}
use Rattle.least_board.specs.declared.pass.LeastPass.{LeastPass}
use Rattle.least_board.specs.Board as least
use Rattle.hunt_range.specs.declared.hunter.Hunter.{Hunter}
use Rattle.zar_io.specs.declared.visits.Visits.{Visits}
use Rattle.hunt_range.specs.inner.Hunters.{IsReadyHunter, HasWorked, AreAll}

-- how often x is the number of a pass, and of a hunter's
abbrev pub in_passes : ℕ → List Pass → ℕ
in_passes x ps = total (λ (p : Pass). times x (claim.numbers_of p)) ps

abbrev pub in_bids : ℕ → List LeastPass → ℕ
in_bids x qs = total (λ (q : LeastPass). times x (least.numbers_of q)) qs

abbrev pub passes_in : ℕ → List Hunter → ℕ
passes_in x hs = total (λ (h : Hunter). times x (claim.numbers_of h.pass)) hs

abbrev pub bids_in : ℕ → List Hunter → ℕ
bids_in x hs = total (λ (h : Hunter). times x (least.numbers_of h.bid)) hs

-- the passes that are left, and the hunters made of the others
pub record Pairing (b : Board) (l : LeastBoard) (ps : List Pass) (qs : List LeastPass) (hs : List Hunter) : Type 0 where
  pub count : length qs ≡ length ps
  pub passes : All (claim.IsPassOf b) ps
  pub new_passes : All claim.IsNew ps
  pub bids : All (least.IsPassOf l) qs
  pub new_bids : All (least.IsNew (least.top_of l)) qs
  pub ready : All (IsReadyHunter b l) hs
  pub each_pass : (x : ℕ) → in_passes x ps + passes_in x hs ≡ once_below x (claim.workers_of b)
  pub each_bid : (x : ℕ) → in_bids x qs + bids_in x hs ≡ once_below x (least.workers_of l)

module _ (b : Board) (l : LeastBoard) where
  pub pairing_more : (ps ps' : List Pass) (qs qs' : List LeastPass) (hs hs' : List Hunter) (p : Pass) (q : LeastPass) (v : Visits) → Pairing b l ps qs hs → ps ≡ ps' ++ p ∷ [] → qs ≡ qs' ++ q ∷ [] →
      hs' ≡ hs ++ record { pass = p; bid = q; visits = v; done = Ok tt } ∷ [] → Pairing b l ps' qs' hs'
  pairing_more ps ps' qs qs' hs hs' p q v i pp qq hh =
      let h : Hunter = record { pass = p; bid = q; visits = v; done = Ok tt } in
      let a = all_pop (claim.IsPassOf b) ps ps' p pp i.passes in
      let n = all_pop claim.IsNew ps ps' p pp i.new_passes in
      let c = all_pop (least.IsPassOf l) qs qs' q qq i.bids in
      let m = all_pop (least.IsNew (least.top_of l)) qs qs' q qq i.new_bids in
      record {
        count = let m = length_push ps' ps p pp in let k = length_push qs' qs q qq in let same = i.count in omega arith;
        passes = a.0;
        new_passes = n.0;
        bids = c.0;
        new_bids = m.0;
        ready = all_push (IsReadyHunter b l) hs hs' h hh i.ready (record { pass = a.1; bid = c.1; new = n.1; no_offer = m.1.0 });
        each_pass = λ x. let t = total_pop (λ (p : Pass). times x (claim.numbers_of p)) ps ps' p pp in let u = total_pop (λ (h : Hunter). times x (claim.numbers_of h.pass)) hs' hs h hh in let all = i.each_pass x in omega arith;
        each_bid = λ x. let t = total_pop (λ (q : LeastPass). times x (least.numbers_of q)) qs qs' q qq in let u = total_pop (λ (h : Hunter). times x (least.numbers_of h.bid)) hs' hs h hh in let all = i.each_bid x in omega arith;
      }

-- the hunters that are left, and the passes of the others
pub record Parting (b : Board) (l : LeastBoard) (Hunted : Pass → LeastPass → Type 0) (ps : List Pass) (qs : List LeastPass) (hs : List Hunter) : Type 0 where
  pub passes : All (claim.IsPassOf b) ps
  pub bids : All (least.IsPassOf l) qs
  pub hunted : AllZip Hunted ps qs
  pub left_passes : All (λ (h : Hunter). claim.IsPassOf b h.pass) hs
  pub left_bids : All (λ (h : Hunter). least.IsPassOf l h.bid) hs
  pub left_hunted : All (λ (h : Hunter). h.done ≡ Ok tt → Hunted h.pass h.bid) hs
  pub each_pass : (x : ℕ) → in_passes x ps + passes_in x hs ≡ once_below x (claim.workers_of b)
  pub each_bid : (x : ℕ) → in_bids x qs + bids_in x hs ≡ once_below x (least.workers_of l)

zip_push : (R : Pass → LeastPass → Type 0) (ps ps' : List Pass) (qs qs' : List LeastPass) (p : Pass) (q : LeastPass) → ps' ≡ ps ++ p ∷ [] → qs' ≡ qs ++ q ∷ [] → AllZip R ps qs → R p q → AllZip R ps' qs'
zip_push R ps ps' qs qs' p q pp qq z r = subst (λ xs. AllZip R xs qs') (sym pp) (subst (λ ys. AllZip R (ps ++ p ∷ []) ys) (sym qq) (go ps qs z))
  where
    go : (xs : List Pass) (ys : List LeastPass) → AllZip R xs ys → AllZip R (xs ++ p ∷ []) (ys ++ q ∷ [])
    go [] [] z = (r, tt)
    go [] (y ∷ ys) z = absurd z
    go (x ∷ xs) [] z = absurd z
    go (x ∷ xs) (y ∷ ys) z = (z.0, go xs ys z.1)

module _ (b : Board) (l : LeastBoard) (Hunted : Pass → LeastPass → Type 0) where
  pub parting_more : (ps ps' : List Pass) (qs qs' : List LeastPass) (hs hs' : List Hunter) (h : Hunter) → Parting b l Hunted ps qs hs → ps' ≡ ps ++ h.pass ∷ [] → qs' ≡ qs ++ h.bid ∷ [] →
      hs ≡ hs' ++ h ∷ [] → h.done ≡ Ok tt → Parting b l Hunted ps' qs' hs'
  parting_more ps ps' qs qs' hs hs' h i pp qq hh fine =
      let a = all_pop (λ (h : Hunter). claim.IsPassOf b h.pass) hs hs' h hh i.left_passes in
      let c = all_pop (λ (h : Hunter). least.IsPassOf l h.bid) hs hs' h hh i.left_bids in
      let w = all_pop (λ (h : Hunter). h.done ≡ Ok tt → Hunted h.pass h.bid) hs hs' h hh i.left_hunted in
      record {
        passes = all_push (claim.IsPassOf b) ps ps' h.pass pp i.passes a.1;
        bids = all_push (least.IsPassOf l) qs qs' h.bid qq i.bids c.1;
        hunted = zip_push Hunted ps ps' qs qs' h.pass h.bid pp qq i.hunted (w.1 fine);
        left_passes = a.0;
        left_bids = c.0;
        left_hunted = w.0;
        each_pass = λ x. let t = total_pop (λ (p : Pass). times x (claim.numbers_of p)) ps' ps h.pass pp in let u = total_pop (λ (h : Hunter). times x (claim.numbers_of h.pass)) hs hs' h hh in let all = i.each_pass x in omega arith;
        each_bid = λ x. let t = total_pop (λ (q : LeastPass). times x (least.numbers_of q)) qs' qs h.bid qq in let u = total_pop (λ (h : Hunter). times x (least.numbers_of h.bid)) hs hs' h hh in let all = i.each_bid x in omega arith;
      }

  pub all_passes : (ps : List Pass) (qs : List LeastPass) (hs : List Hunter) → Parting b l Hunted ps qs hs → length hs ≡ 0 → claim.AreAllPasses b ps
  all_passes ps qs hs i none = (i.passes, λ x. let z = total_empty (λ (h : Hunter). times x (claim.numbers_of h.pass)) hs none in let all = i.each_pass x in omega arith)

  -- there is a pass, since there is a worker
  pub some_passes : (ps : List Pass) → claim.AreAllPasses b ps → 0 < length ps
  some_passes ps all =
      let few = b.few in
      let one = once_there 0 (claim.workers_of b) (omega arith) in
      let each = all.1 0 in
      by_length ps each one
    where
      by_length : (ps : List Pass) → in_passes 0 ps ≡ once_below 0 (claim.workers_of b) → once_below 0 (claim.workers_of b) ≡ 1 → 0 < length ps
      by_length [] e o = absurd (omega arith)
      by_length (p ∷ ps) e o = omega arith

  -- after the work they are the same passes, and all have hunted
  pub all_worked : (hs ks : List Hunter) → AllZip (HasWorked Hunted) hs ks → AreAll b l hs → AreAll b l ks
  all_worked hs ks z all = record {
    passes = passes_kept hs ks z all.passes;
    bids = bids_kept hs ks z all.bids;
    each_pass = λ x. sym (pass_numbers x hs ks z) ∙ all.each_pass x;
    each_bid = λ x. sym (bid_numbers x hs ks z) ∙ all.each_bid x;
  }
    where
      passes_kept : (hs ks : List Hunter) → AllZip (HasWorked Hunted) hs ks → All (λ (h : Hunter). claim.IsPassOf b h.pass) hs → All (λ (h : Hunter). claim.IsPassOf b h.pass) ks
      passes_kept [] [] z all = All-nil (λ (h : Hunter). claim.IsPassOf b h.pass)
      passes_kept [] (k ∷ ks) z all = absurd z
      passes_kept (h ∷ hs) [] z all = absurd z
      passes_kept (h ∷ hs) (k ∷ ks) z all =
          let here : claim.IsPassOf b h.pass = All-head (λ (h : Hunter). claim.IsPassOf b h.pass) h hs all in
          All-cons (λ (h : Hunter). claim.IsPassOf b h.pass) k ks (z.0.same.0.0 ∙ here.0, z.0.same.0.1 ∙ here.1) (passes_kept hs ks z.1 (All-tail (λ (h : Hunter). claim.IsPassOf b h.pass) h hs all))

      bids_kept : (hs ks : List Hunter) → AllZip (HasWorked Hunted) hs ks → All (λ (h : Hunter). least.IsPassOf l h.bid) hs → All (λ (h : Hunter). least.IsPassOf l h.bid) ks
      bids_kept [] [] z all = All-nil (λ (h : Hunter). least.IsPassOf l h.bid)
      bids_kept [] (k ∷ ks) z all = absurd z
      bids_kept (h ∷ hs) [] z all = absurd z
      bids_kept (h ∷ hs) (k ∷ ks) z all =
          let here : least.IsPassOf l h.bid = All-head (λ (h : Hunter). least.IsPassOf l h.bid) h hs all in
          All-cons (λ (h : Hunter). least.IsPassOf l h.bid) k ks (z.0.same.1.0 ∙ here) (bids_kept hs ks z.1 (All-tail (λ (h : Hunter). least.IsPassOf l h.bid) h hs all))

      pass_numbers : (x : ℕ) (hs ks : List Hunter) → AllZip (HasWorked Hunted) hs ks → passes_in x hs ≡ passes_in x ks
      pass_numbers x [] [] z = refl
      pass_numbers x [] (k ∷ ks) z = absurd z
      pass_numbers x (h ∷ hs) [] z = absurd z
      pass_numbers x (h ∷ hs) (k ∷ ks) z = let r = pass_numbers x hs ks z.1 in let here : times x (claim.numbers_of k.pass) ≡ times x (claim.numbers_of h.pass) = ap (times x) z.0.same.0.2 in omega arith

      bid_numbers : (x : ℕ) (hs ks : List Hunter) → AllZip (HasWorked Hunted) hs ks → bids_in x hs ≡ bids_in x ks
      bid_numbers x [] [] z = refl
      bid_numbers x [] (k ∷ ks) z = absurd z
      bid_numbers x (h ∷ hs) [] z = absurd z
      bid_numbers x (h ∷ hs) (k ∷ ks) z = let r = bid_numbers x hs ks z.1 in let here : times x (least.numbers_of k.bid) ≡ times x (least.numbers_of h.bid) = ap (times x) z.0.same.1.1 in omega arith

pub all_hunted : (Hunted : Pass → LeastPass → Type 0) (hs ks : List Hunter) → AllZip (HasWorked Hunted) hs ks → All (λ (h : Hunter). h.done ≡ Ok tt → Hunted h.pass h.bid) ks
all_hunted Hunted [] [] z = All-nil (λ (h : Hunter). h.done ≡ Ok tt → Hunted h.pass h.bid)
all_hunted Hunted [] (k ∷ ks) z = absurd z
all_hunted Hunted (h ∷ hs) [] z = absurd z
all_hunted Hunted (h ∷ hs) (k ∷ ks) z = All-cons (λ (h : Hunter). h.done ≡ Ok tt → Hunted h.pass h.bid) k ks z.0.hunted (all_hunted Hunted hs ks z.1)
