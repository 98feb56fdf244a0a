-- The greatest depth of a list that is walked.
use Rattle.std.proofs.Common.{◌≡◌, ℕ, ◌+◌, ◌<◌, ◌≤◌, max, zero, suc, Some, List, [], ◌∷◌, length, drop, get_or, sym, ap, ◌∙◌, arith}
use Rattle.std.specs.Prelude.{slice_get}
use Rattle.std.proofs.lemmas.List.{at_drop_more, at_drop_all}
use Rattle.sampler_code.specs.declared.instructions.Instr.{Instr}
use Rattle.sampler_code.specs.Instruction.{Instruction}
use Rattle.sampler_code.specs.Depths.{greatest_depth, depth_of}
use Rattle.sampler_code.specs.Views.{instruction_of, instructions_of}

pub greatest_more : (xs : List Instr) (i d d' n : ℕ) (x : Instr) → i < length xs → x ≡ get_or xs i x → n ≡ depth_of (instruction_of x) → d' ≡ max n d →
    max d (greatest_depth (instructions_of (drop i xs))) ≡ greatest_depth (instructions_of xs) → max d' (greatest_depth (instructions_of (drop (i + 1) xs))) ≡ greatest_depth (instructions_of xs)
greatest_more xs i d d' n x lt is en ed h =
    let rest = greatest_depth (instructions_of (drop (i + 1) xs)) in
    let m = at_drop_more (λ l. greatest_depth (instructions_of l)) xs i x lt in
    let k : depth_of (instruction_of (get_or xs i x)) ≡ n = ap (λ y. depth_of (instruction_of y)) (sym is) ∙ sym en in
    let all : max d (max n rest) ≡ greatest_depth (instructions_of xs) = ap (λ n. max d (max n rest)) (sym k) ∙ ap (λ r. max d r) (sym m) ∙ h in
    omega (arith, all, ed)

pub greatest_all : (xs : List Instr) (i d : ℕ) → length xs ≤ i → max d (greatest_depth (instructions_of (drop i xs))) ≡ greatest_depth (instructions_of xs) → d ≡ greatest_depth (instructions_of xs)
greatest_all xs i d le h =
    let m = at_drop_all (λ l. greatest_depth (instructions_of l)) xs i le in
    let z : greatest_depth (instructions_of (drop i xs)) ≡ 0 = m in
    omega (arith, z, h)

-- each instruction is within it
pub within_greatest : (code : List Instruction) (pc : ℕ) (i : Instruction) → slice_get code pc ≡ Some i → depth_of i ≤ greatest_depth code
within_greatest [] pc i e = absurd (cc)
within_greatest (x ∷ xs) zero i e = let s : x ≡ i = cc in let d : depth_of x ≡ depth_of i = ap depth_of s in omega (arith, d)
within_greatest (x ∷ xs) (suc pc) i e = let h = within_greatest xs pc i e in omega (arith, h)
