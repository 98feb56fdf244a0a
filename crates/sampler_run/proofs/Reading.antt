-- The bits of an attempt that are read at once.
use Rattle.std.proofs.Common.{◌≡◌, ℕ, suc, ◌+◌, ◌*◌, ◌^◌, ◌/◌, ◌%◌, ◌-◌, ◌<◌, ◌≤◌, sym, ap, ◌∙◌, subst, arith, pow-add, ⊎_elim}
use Rattle.std.proofs.lemmas.Bool.{cases_lt}
use Rattle.std.proofs.lemmas.Nat.{mul-le, pow_pos, div-mul-add}
use Rattle.std.proofs.Math.Arith.{mod-mul}
use Rattle.std.proofs.Math.Nat.{div-div-eq-div-mul, div-mul-le_self, mul-div_cancel}
use Rattle.sampler_run.specs.declared.trials.Trial.{Trial}
use Rattle.sampler_run.specs.inner.Tried.{low_at, SpellsOut}
use Rattle.sampler_run.proofs.Attempts.{pow_sum}
use Rattle.sampler_run.proofs.Differing.{power_le}

-- of j + r bits the first j
first_spelled : (n j r : ℕ) → n % 2 ^ (j + r) / 2 ^ r ≡ n / 2 ^ r % 2 ^ j
first_spelled n j r =
    let p : 2 ^ (j + r) ≡ 2 ^ j * 2 ^ r = pow-add 2 j r in
    ap (λ p. n % p / 2 ^ r) p
    ∙ ap (λ m. m / 2 ^ r) (mod-mul n {m = 2 ^ j} {c = 2 ^ r} (pow_pos j) (pow_pos r))
    ∙ div-mul-add (n / 2 ^ r % 2 ^ j) (2 ^ r) (n % 2 ^ r) (let q = pow_pos r in omega (arith, q))

-- ---- bits behind those before, and zeros for those that are missing

-- a number with zeros behind it, and without d bits more
shifted : (n d k : ℕ) → n * 2 ^ k / 2 ^ (d + k) ≡ n / 2 ^ d
shifted n d k =
    let all : n * 2 ^ k / 2 ^ k ≡ n = mul-div_cancel n (pow_pos k) in
    ap (λ p. n * 2 ^ k / p) (sym (pow_sum d k)) ∙ sym (div-div-eq-div-mul (n * 2 ^ k) (2 ^ k) (2 ^ d)) ∙ ap (λ m. m / 2 ^ d) all

ends_in_zeros : (n m missing : ℕ) → n ≡ m * 2 ^ missing → n / 2 ^ missing * 2 ^ missing ≡ n
ends_in_zeros n m missing is =
    let whole : n / 2 ^ missing ≡ m = ap (λ n. n / 2 ^ missing) is ∙ mul-div_cancel m (pow_pos missing) in
    ap (λ q. q * 2 ^ missing) whole ∙ sym is

begins_with : (n low bits ready missing : ℕ) → n ≡ (low * 2 ^ ready + bits) * 2 ^ missing → bits < 2 ^ ready → n / 2 ^ (ready + missing) ≡ low
begins_with n low bits ready missing is lt =
    ap (λ n. n / 2 ^ (ready + missing)) is ∙ shifted (low * 2 ^ ready + bits) ready missing ∙ div-mul-add low (2 ^ ready) bits lt

pub spelled_fits : (low bits ready missing : ℕ) → bits < 2 ^ ready → ready + missing < 64 → low * 2 ^ (ready + missing) < 2 ^ 63 → (low * 2 ^ ready < 2 ^ 63) × (low * 2 ^ ready + bits < 2 ^ 64) × ((low * 2 ^ ready + bits) * 2 ^ missing < 2 ^ 64)
spelled_fits low bits ready missing lt few small =
    let all : low * 2 ^ (ready + missing) ≡ low * 2 ^ ready * 2 ^ missing = ap (λ p. low * p) (sym (pow_sum ready missing)) ∙ (omega arith) in
    let some = pow_pos missing in
    let least = mul-le (low * 2 ^ ready) 1 (low * 2 ^ ready) (2 ^ missing) (omega arith) (omega (arith, some)) in
    let p = pow_sum ready missing in
    let less = mul-le (bits + 1) (2 ^ missing) (2 ^ ready) (2 ^ missing) (omega (arith, lt)) (omega arith) in
    let power = power_le (ready + missing) 63 (omega (arith, few)) in
    let fewer = power_le ready 63 (omega (arith, few)) in
    let shifted_low : low * 2 ^ ready < 2 ^ 63 = omega (arith, all, least, small) in
    (shifted_low, omega (arith, shifted_low, fewer, lt), omega (arith, all, small, p, less, power, some))

-- ---- where it is known that an attempt is not below its bound

zeros_are_left : (bound n missing rest : ℕ) → n / 2 ^ missing * 2 ^ missing ≡ n → bound ≤ n → n / 2 ^ (rest + 1) * 2 ^ (rest + 1) < bound → missing ≤ rest
zeros_are_left bound n missing rest zeros over before =
    ⊎_elim
    (λ (early : rest < missing).
    let d = missing - (rest + 1) in
    let q = n / 2 ^ missing in
    let all : missing ≡ d + (rest + 1) = omega (arith, early) in
    let power : 2 ^ missing ≡ 2 ^ (rest + 1) * 2 ^ d = ap (λ i. 2 ^ i) all ∙ sym (pow_sum d (rest + 1)) in
    let e : q * 2 ^ d * 2 ^ (rest + 1) ≡ n = (let f : q * 2 ^ d * 2 ^ (rest + 1) ≡ q * (2 ^ (rest + 1) * 2 ^ d) = omega arith in f) ∙ ap (λ p. q * p) (sym power) ∙ zeros in
    let whole : n / 2 ^ (rest + 1) ≡ q * 2 ^ d =
    ap (λ n. n / 2 ^ (rest + 1)) (sym e) ∙ mul-div_cancel (q * 2 ^ d) (pow_pos (rest + 1)) in
    let same = ap (λ q. q * 2 ^ (rest + 1)) whole ∙ e in
    absurd (omega (arith, same, over, before)))
    (λ (late : missing ≤ rest). late)
    (cases_lt rest missing)

-- one bit less
pub half : (n r : ℕ) → n / 2 ^ r / 2 ≡ n / 2 ^ (r + 1)
half n r =
    let next : suc r ≡ r + 1 = omega arith in
    let two : 2 ^ r * 2 ≡ 2 ^ suc r = omega arith in
    div-div-eq-div-mul n (2 ^ r) 2 ∙ ap (λ p. n / p) (two ∙ ap (λ i. 2 ^ i) next)

-- ---- what the bits spell that are read, where d of those that lie ready are not

read_low : (n word low ready missing left d : ℕ) → ready ≤ left → d ≤ ready → n ≡ (low * 2 ^ ready + word / 2 ^ (left - ready) % 2 ^ ready) * 2 ^ missing →
    n / 2 ^ (d + missing) ≡ low * 2 ^ (ready - d) + word / 2 ^ (left - (ready - d)) % 2 ^ (ready - d)
read_low n word low ready missing left d enough few is =
    let j = ready - d in
    let high = word / 2 ^ (left - ready) in
    let bits = high % 2 ^ ready in
    let parts : ready ≡ j + d = omega (arith, few) in
    let behind : d + (left - ready) ≡ left - j = omega (arith, enough, few) in
    let first : bits / 2 ^ d ≡ word / 2 ^ (left - j) % 2 ^ j =
    ap (λ i. high % 2 ^ i / 2 ^ d) parts ∙ first_spelled high j d ∙ ap (λ m. m % 2 ^ j) (div-div-eq-div-mul word (2 ^ (left - ready)) (2 ^ d) ∙ ap (λ p. word / p) (pow_sum d (left - ready)) ∙ ap (λ i. word / 2 ^ i) behind) in
    let power : low * 2 ^ ready ≡ low * 2 ^ j * 2 ^ d =
    ap (λ p. low * p) (ap (λ i. 2 ^ i) parts ∙ pow-add 2 j d) ∙ (omega arith) in
    let split : bits ≡ bits / 2 ^ d * 2 ^ d + bits % 2 ^ d = (let p = pow_pos d in omega (arith, p)) in
    let all : low * 2 ^ ready + bits ≡ (low * 2 ^ j + bits / 2 ^ d) * 2 ^ d + bits % 2 ^ d = omega (arith, power, split) in
    ap (λ n. n / 2 ^ (d + missing)) is
    ∙ shifted (low * 2 ^ ready + bits) d missing
    ∙ ap (λ n. n / 2 ^ d) all
    ∙ div-mul-add (low * 2 ^ j + bits / 2 ^ d) (2 ^ d) (bits % 2 ^ d) (let p = pow_pos d in omega (arith, p))
    ∙ ap (λ r. low * 2 ^ j + r) first

-- ---- an attempt that spells a number with the bits that are not missing, and 0 for each that is

module _ (n word : ℕ) (t : Trial) (missing : ℕ) (s : SpellsOut word t n missing) where
  -- what it spells where it needs so many more
  pub spelled_to : (rest : ℕ) → missing ≤ rest → rest ≤ t.need → n / 2 ^ rest ≡ low_at word t rest
  spelled_to rest more fewer =
      let d = rest - missing in
      let parts : rest ≡ d + missing = omega (arith, more) in
      let read : t.need - missing - d ≡ t.need - rest = omega (arith, more, fewer) in
      subst (λ j. n / 2 ^ rest ≡ t.low * 2 ^ j + word / 2 ^ (t.left - j) % 2 ^ j) read
      (ap (λ i. n / 2 ^ i) parts ∙ read_low n word t.low (t.need - missing) missing t.left d s.enough (omega (arith, fewer)) s.is)

  pub spelled_behind : (b : ℕ) → t.low * 2 ^ t.need < b → n / 2 ^ t.need * 2 ^ t.need < b
  spelled_behind b under =
      let few = s.few in
      let parts : t.need - missing + missing ≡ t.need = omega (arith, few) in
      let small = pow_pos (t.need - missing) in
      let first = begins_with n t.low _ (t.need - missing) missing s.is (omega (arith, small)) in
      subst (λ q. q * 2 ^ t.need < b) (sym (ap (λ i. n / 2 ^ i) (sym parts) ∙ first)) under

  -- that it is not below a bound is known from bits that are not missing
  pub spelled_over : (b rest : ℕ) → b ≤ n → n / 2 ^ (rest + 1) * 2 ^ (rest + 1) < b → missing ≤ rest
  spelled_over b rest over before = zeros_are_left b n missing rest (ends_in_zeros n _ missing s.is) over before

-- a part of a number that is below a bound
pub part_below : (b n r : ℕ) → n < b → n / 2 ^ r * 2 ^ r < b
part_below b n r lt = let part = div-mul-le_self n (2 ^ r) in omega (arith, part, lt)
