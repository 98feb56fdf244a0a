-- More units of a state.
use Rattle.std.proofs.Common.{◌≡◌, ℕ, zero, suc, ◌<◌, sym, ap, ◌∙◌, refl, arith}
use Rattle.std.specs.BTreeMap.{insert_entry}
use Rattle.gcl_core.specs.meaning.Value.{State}
use Rattle.units_law.specs.Merged.{order}
use Rattle.scaled_law.specs.Pairs.{Pair, Pairs, added, pair_at, put_pair}
use Rattle.scaled_fold.specs.inner.Sums.{sum_of}

-- of a state that gets some at most
pub put_some : (es : Pairs State) (s : State) (l h : ℕ) → 0 < h → put_pair es s l h ≡ insert_entry order es s (added (pair_at es s) (l, h))
put_some es s l zero p = absurd (omega (arith, p))
put_some es s l (suc h) p = refl

pub put_is : (es fs : Pairs State) (s : State) (w v : Pair) → 0 < w.1 → v ≡ sum_of order es s w → fs ≡ insert_entry order es s v → fs ≡ put_pair es s w.0 w.1
put_is es fs s w v p e q = q ∙ ap (insert_entry order es s) e ∙ sym (put_some es s w.0 w.1 p)

pub put_none : (es : Pairs State) (s : State) (w : Pair) → w.1 ≡ 0 → es ≡ put_pair es s w.0 w.1
put_none es s w e = sym (ap (put_pair es s w.0) e)
