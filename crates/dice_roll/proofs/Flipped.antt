-- Flips of a roll that is under way, one after another.
use Rattle.std.proofs.Common.{◌≡◌, ⊎_elim, ℕ, zero, suc, ◌+◌, ◌-◌, ◌/◌, ◌%◌, ◌^◌, ◌==◌, ◌≤◌, ◌<◌, Bool, Option, Some, None, List, [], ◌∷◌, ◌++◌, length, length-append, append_assoc, take, drop, refl, sym, ap, ◌∙◌, arith}
use Rattle.std.proofs.lemmas.Bool.{cases_lt}
use Rattle.std.proofs.lemmas.List.{take-append-le}
use Rattle.std.proofs.Math.Seq.{take-append-add, drop-append_seam}
use Rattle.zar_io.specs.Bits.{BeginsWith}
use Rattle.zar_io.specs.FileBits.{low_bits}
use Rattle.dice_roll.specs.declared.answers.Roll.{Roll}
use Rattle.dice_roll.specs.declared.answers.Roll.TheVariants.{Label, Limit, MoreBits}
use Rattle.dice_roll.specs.FastRoll.{label_or}
use Rattle.dice_roll.specs.Rolled.{flips_made, TookEach}
use Rattle.dice_roll.specs.inner.Flipped.{HasFlipped, FlippedOn}

low_bits_from : (past made word : ℕ) → made < past → low_bits (past - made) word ≡ (word / 2 ^ (past - made - 1) % 2 == 1) ∷ low_bits (past - (made + 1)) word
unfolding low_bits
low_bits_from past made word more =
    let one : past - made ≡ suc (past - (made + 1)) = omega arith in
    let place : past - (made + 1) ≡ past - made - 1 = omega arith in
    ap (λ n. low_bits n word) one ∙ ap (λ n. (word / 2 ^ n % 2 == 1) ∷ low_bits (past - (made + 1)) word) place

module _ {P : Type 0} (rolls : P → ℕ → ℕ → List Bool → Roll) (flips : ℕ) where
  -- no flip
  pub not_flipped : (here : P) (read : ℕ) → HasFlipped rolls flips here here read read None []
  not_flipped here read = record { counted = omega arith; rolled = λ rest. refl; needed = λ k few. absurd (omega arith) }

  -- one flip
  pub flipped_once : (old new : P) (read : ℕ) (bit : Bool) (label : Option ℕ) → ((h n : ℕ) → rolls old (suc h) n [] ≡ MoreBits n) → read < flips
      → ((h : ℕ) (rest : List Bool) → rolls old (suc h) read (bit ∷ rest) ≡ label_or label (read + 1) (rolls new h (read + 1) rest))
      → HasFlipped rolls flips old new read (read + 1) label (bit ∷ [])
  flipped_once old new read bit label no_bit_left more flip =
      let one_more : flips - read ≡ suc (flips - (read + 1)) = omega arith in
      record {
        counted = omega arith;
        rolled = λ rest. ap (λ h. rolls old h read (bit ∷ rest)) one_more ∙ flip (flips - (read + 1)) rest;
        needed = at_first one_more;
      }
    where
      at_first : flips - read ≡ suc (flips - (read + 1)) → (k : ℕ) → k < length (bit ∷ []) → rolls old (flips - read) read (take k (bit ∷ [])) ≡ MoreBits (read + k)
      at_first one_more zero few = ap (λ h. rolls old h read []) one_more ∙ no_bit_left (flips - (read + 1)) read ∙ ap MoreBits (let e : read ≡ read + 0 = omega arith in e)
      at_first one_more (suc k) few = absurd (omega arith)

  -- flips, and then more
  pub flipped_more : (old now new : P) (read made after : ℕ) (label : Option ℕ) (front more : List Bool) → HasFlipped rolls flips old now read made None front
      → HasFlipped rolls flips now new made after label more → HasFlipped rolls flips old new read after label (front ++ more)
  flipped_more old now new read made after label front more before then = record {
    counted = omega (arith, before.counted, then.counted, length-append front more);
    rolled = λ rest. ap (rolls old (flips - read) read) (append_assoc front more rest) ∙ before.rolled (more ++ rest) ∙ then.rolled rest;
    needed = λ k few. ⊎_elim
        (λ (early : k < length front).
        let within : k ≤ length front = omega arith in
        ap (rolls old (flips - read) read) (take-append-le k front more within) ∙ before.needed k early)
        (λ (late : length front ≤ k).
        let j = k - length front in
        let sum : k ≡ length front + j = omega arith in
        let fewer : j < length more = omega (arith, few, length-append front more) in
        let count : made + j ≡ read + k = omega (arith, before.counted) in
        ap (λ n. rolls old (flips - read) read (take n (front ++ more))) sum
        ∙ ap (rolls old (flips - read) read) (take-append-add front more j)
        ∙ before.rolled (take j more) ∙ then.needed j fewer ∙ ap MoreBits count)
        (cases_lt k (length front));
  }

  pub flipped_then : (old now new : P) (read made after : ℕ) (label : Option ℕ) (bits between left : List Bool) → FlippedOn rolls flips old now read made None bits between
      → FlippedOn rolls flips now new made after label between left → FlippedOn rolls flips old new read after label bits left
  flipped_then old now new read made after label bits between left (front, before, there) (more, then, there_too) = (
    front ++ more,
    flipped_more old now new read made after label front more before then,
    there ∙ ap (λ w. front ++ w) there_too ∙ sym (append_assoc front more left),
  )

  -- ---- what a roll gives where it ends, and that it needed each bit that it took
  module _ (first last : P) (made : ℕ) (bits left : List Bool) where
    all_flips : (w : List Bool) → rolls first flips 0 w ≡ rolls first (flips - 0) 0 w
    all_flips w = ap (λ h. rolls first h 0 w) (let e : flips ≡ flips - 0 = omega arith in e)

    ends : (label : Option ℕ) (r : Roll) → FlippedOn rolls flips first last 0 made label bits left → label_or label made (rolls last (flips - made) made left) ≡ r
        → flips_made r ≡ made → (rolls first flips 0 bits ≡ r) × TookEach (rolls first flips 0) r bits left
    ends label r (front, flipped, there) end count =
        let long : flips_made r ≡ length front = omega (arith, count, flipped.counted) in (
          all_flips bits ∙ ap (rolls first (flips - 0) 0) there ∙ flipped.rolled left ∙ end,
          record {
            enough = omega (arith, long, ap length there, length-append front left);
            left_is = sym (ap (λ n. drop n bits) long ∙ ap (drop (length front)) there ∙ drop-append_seam front left);
            needed = λ k few.
                let fewer : k < length front = omega (arith, few, long) in
                let within : k ≤ length front = omega arith in
                all_flips (take k bits) ∙ ap (λ w. rolls first (flips - 0) 0 (take k w)) there ∙ ap (rolls first (flips - 0) 0) (take-append-le k front left within)
                ∙ flipped.needed k fewer ∙ ap MoreBits (let e : 0 + k ≡ k = omega arith in e);
          },
        )

    pub ends_at_label : (c : ℕ) → FlippedOn rolls flips first last 0 made (Some c) bits left
        → (rolls first flips 0 bits ≡ Label c made) × TookEach (rolls first flips 0) (Label c made) bits left
    ends_at_label c flipped = ends (Some c) (Label c made) flipped refl refl

    pub ends_at_limit : FlippedOn rolls flips first last 0 made None bits left → ((n : ℕ) (w : List Bool) → rolls last 0 n w ≡ Limit n) → made ≡ flips
        → (rolls first flips 0 bits ≡ Limit flips) × TookEach (rolls first flips 0) (Limit flips) bits left
    ends_at_limit flipped no_flip_left all =
        let none_left : flips - made ≡ 0 = omega arith in
        ends None (Limit flips) flipped (ap (λ h. rolls last h made left) none_left ∙ no_flip_left made left ∙ ap Limit all) (sym all)

    pub ends_without_bits : (between : List Bool) → FlippedOn rolls flips first last 0 made None bits between → (between ≡ []) × (left ≡ [])
        → ((h n : ℕ) → rolls last (suc h) n [] ≡ MoreBits n) → made < flips
        → (rolls first flips 0 bits ≡ MoreBits made) × TookEach (rolls first flips 0) (MoreBits made) bits left
    ends_without_bits between (front, flipped, there) none no_bit_left more =
        let one_more : flips - made ≡ suc (flips - (made + 1)) = omega arith in
        ends None (MoreBits made) (front, flipped, there ∙ ap (λ w. front ++ w) (none.0 ∙ sym none.1))
        (ap (rolls last (flips - made) made) none.1 ∙ ap (λ h. rolls last h made []) one_more ∙ no_bit_left (flips - (made + 1)) made) refl

  -- ---- the bits of a word

  -- one flip more, by the bit of this place
  pub word_flipped : (old now new : P) (read made past count word : ℕ) (label : Option ℕ) → ((h n : ℕ) → rolls now (suc h) n [] ≡ MoreBits n) → made < past → made < flips
      → ((h : ℕ) (rest : List Bool) → rolls now (suc h) made ((word / 2 ^ (past - made - 1) % 2 == 1) ∷ rest) ≡ label_or label (made + 1) (rolls new h (made + 1) rest))
      → FlippedOn rolls flips old now read made None (low_bits count word) (low_bits (past - made) word)
      → FlippedOn rolls flips old new read (made + 1) label (low_bits count word) (low_bits (past - (made + 1)) word)
  word_flipped old now new read made past count word label no_bit_left further more flip before =
      let bit = word / 2 ^ (past - made - 1) % 2 == 1 in
      flipped_then old now new read made (made + 1) label (low_bits count word) (low_bits (past - made) word) (low_bits (past - (made + 1)) word) before
      (bit ∷ [], flipped_once now new made bit label no_bit_left more flip, low_bits_from past made word further)

  -- by bits that lay ready, of which as many were taken
  pub ready_flipped : (old new : P) (read after : ℕ) (label : Option ℕ) (ready rest bits left : List Bool) → FlippedOn rolls flips old new read after label ready rest
      → BeginsWith ready bits → left ≡ drop (after - read) bits → FlippedOn rolls flips old new read after label bits left
  ready_flipped old new read after label ready rest bits left (front, flipped, split) begins gone =
      let whole : bits ≡ front ++ (rest ++ begins.0) = begins.1 ∙ ap (λ w. w ++ begins.0) split ∙ append_assoc front rest begins.0 in
      let count : after - read ≡ length front = omega (arith, flipped.counted) in (
        front,
        flipped,
        whole ∙ ap (λ w. front ++ w) (sym (gone ∙ ap (λ n. drop n bits) count ∙ ap (drop (length front)) whole ∙ drop-append_seam front (rest ++ begins.0))),
      )
