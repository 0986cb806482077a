-- The values that a U32 field can have.
use Rattle.std.proofs.Common.{◌≡◌, ℕ, ◌^◌, ◌<◌, ◌≤◌, List, Bool, true, false, Result, Ok, Err, IfOk, arith}
use Rattle.std.specs.Prelude.{◌==◌}
use Rattle.jxlm_bits.proofs.BitsLemmas.{bits_at-bound}
use Rattle.jxlm_bits.proofs.GrammarLaws.{exact-u32}
use Rattle.jxlm_bits.specs.Decoding.{Found}
use Rattle.jxlm_bits.specs.Grammar.{Grammar, Reads, either, part, u32}
use Rattle.jxlm_bits.specs.declared.bits.BitstreamError.{BitstreamError}
use Rattle.jxlm_bits.specs.declared.bits.U32Spec.{U32Spec}
use Rattle.jxlm_bits.specs.declared.bits.U32Spec.TheVariants.{Const, Offset}
use Rattle.jxlm_bits.specs.FieldRanges.{min_value, max_value, min_of, max_of}

part-between : (d : U32Spec) (bytes : List ℕ) (p v q : ℕ) → (part d).Stands bytes p v q → (min_value d ≤ v) × (v ≤ max_value d)
part-between (Const n) bytes p v q s = (omega (arith, s.0), omega (arith, s.0))
part-between (Offset base n) bytes p v q s =
    let below : s.0 < 2 ^ n = rw s.2.1 (bits_at-bound bytes p n) in
    (omega (arith, s.3.0), omega (arith, s.3.0))

either-between : (b : Bool) (f g : Grammar ℕ) (bytes : List ℕ) (p v q low high : ℕ) →
    (f.Stands bytes p v q → (low ≤ v) × (v ≤ high)) → (g.Stands bytes p v q → (low ≤ v) × (v ≤ high)) → (either b f g).Stands bytes p v q → (low ≤ v) × (v ≤ high)
either-between true f g bytes p v q low high one two s = one s
either-between false f g bytes p v q low high one two s = two s

-- A U32 that is read lies between the minimum and the maximum of its parts.
pub u32-between : (d0 d1 d2 d3 : U32Spec) (bytes : List ℕ) (p : ℕ) (found : Found ℕ) → (u32 d0 d1 d2 d3).read bytes p ≡ Ok found →
    (min_of d0 d1 d2 d3 ≤ found.value) × (found.value ≤ max_of d0 d1 d2 d3)
u32-between d0 d1 d2 d3 bytes p found e =
    let stands = (exact-u32 d0 d1 d2 d3).read_stands bytes p found e in
    let (s, m, number, chosen) = stands in
    let low : ℕ = min_of d0 d1 d2 d3 in
    let high : ℕ = max_of d0 d1 d2 d3 in
    let v : ℕ = found.value in
    let q : ℕ = found.position in
    either-between (s == 0) (part d0) (either (s == 1) (part d1) (either (s == 2) (part d2) (part d3))) bytes m v q low high
    (λ t. let r = part-between d0 bytes m v q t in (omega arith, omega arith))
    (λ t. either-between (s == 1) (part d1) (either (s == 2) (part d2) (part d3)) bytes m v q low high
    (λ u. let r = part-between d1 bytes m v q u in (omega arith, omega arith))
    (λ u. either-between (s == 2) (part d2) (part d3) bytes m v q low high
    (λ w. let r = part-between d2 bytes m v q w in (omega arith, omega arith))
    (λ w. let r = part-between d3 bytes m v q w in (omega arith, omega arith)) u) t) chosen

-- so what a call that reads one returns is at least the minimum and at most the maximum
pub at_least : (d0 d1 d2 d3 : U32Spec) (bytes : List ℕ) (p q : ℕ) (r : Result ℕ BitstreamError) → Reads (λ (v : ℕ). v) r q ((u32 d0 d1 d2 d3).read bytes p) → IfOk r (λ v. min_of d0 d1 d2 d3 ≤ v)
at_least d0 d1 d2 d3 bytes p q (Ok v) reads = (u32-between d0 d1 d2 d3 bytes p (record { value = v; position = q }) reads).0
at_least d0 d1 d2 d3 bytes p q (Err e) reads = tt

pub at_most : (d0 d1 d2 d3 : U32Spec) (bytes : List ℕ) (p q : ℕ) (r : Result ℕ BitstreamError) → Reads (λ (v : ℕ). v) r q ((u32 d0 d1 d2 d3).read bytes p) → IfOk r (λ v. v ≤ max_of d0 d1 d2 d3)
at_most d0 d1 d2 d3 bytes p q (Ok v) reads = (u32-between d0 d1 d2 d3 bytes p (record { value = v; position = q }) reads).1
at_most d0 d1 d2 d3 bytes p q (Err e) reads = tt
