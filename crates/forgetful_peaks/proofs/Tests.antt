-- Tests joined by `and` and `or`.
use Rattle.std.proofs.Common.{◌≡◌, Bool, true, false, ◌&&◌, ◌||◌, refl, sym, true≢false}
use Rattle.std.specs.Prelude.{not, if◌then◌else◌}

pub set_agree : (k r q : Bool) → q ≡ false → (k || (q || r)) ≡ true → (r || (not q && k)) ≡ true
set_agree k true q e h = refl
set_agree k false true e h = absurd (true≢false e)
set_agree true false false e h = refl
set_agree false false false e h = h

pub set_left : (k r q f g : Bool) → q ≡ false → (r || (not q && k)) ≡ true → f ≡ true → ((k || (q || r)) && (if g then not q && f else q || f)) ≡ true
set_left k r true f g e h l = absurd (true≢false e)
set_left k r false false g e h l = absurd (true≢false (sym l))
set_left true r false true true e h l = refl
set_left true r false true false e h l = refl
set_left false true false true true e h l = refl
set_left false true false true false e h l = refl
set_left false false false true g e h l = absurd (true≢false (sym h))

pub set_there : (k r q f g : Bool) → q ≡ true → ((k || (q || r)) && (if g then not q && f else q || f)) ≡ false → g ≡ true
set_there k r q f true e h = refl
set_there k r false f false e h = absurd (true≢false (sym e))
set_there true r true f false e h = absurd (true≢false h)
set_there false r true f false e h = absurd (true≢false h)

pub or_none : (a : Bool) → (a || false) ≡ true → a ≡ true
or_none true h = refl
or_none false h = h

pub or_swap : (a b : Bool) → (a || b) ≡ true → (b || a) ≡ true
or_swap a true h = refl
or_swap true false h = refl
or_swap false false h = h

pub the_other : (a b : Bool) → (a || b) ≡ true → a ≡ false → b ≡ true
the_other true b h e = absurd (true≢false e)
the_other false b h e = h

pub and_not : (a b : Bool) → (a && not b) ≡ true → b ≡ false
and_not true true e = absurd (true≢false (sym e))
and_not true false e = refl
and_not false b e = absurd (true≢false (sym e))
