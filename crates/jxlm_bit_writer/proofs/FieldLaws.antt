-- Fields that were written stand where their bits stand.
use Rattle.std.proofs.Common.{◌≡◌, ℕ, ◌+◌, ◌-◌, ◌^◌, ◌<◌, ◌≤◌, List, length, Bool, true, false, refl, sym, ◌∙◌, arith}
use Rattle.std.specs.Prelude.{nat_lt, nat_le, ◌||◌, if◌then◌else◌}
use Rattle.std.proofs.lemmas.Bool.{false≢true, ltb-true, leb-true, eqb-true, and_parts}
use Rattle.std.proofs.lemmas.List.{length-append}
use Rattle.std.proofs.Math.Nat.{mod-eq_of_lt}
use Rattle.jxlm_bits.specs.Grammar.{Grammar, number, part, flag, u32}
use Rattle.jxlm_bits.specs.declared.bits.U32Spec.{U32Spec}
use Rattle.jxlm_bits.specs.declared.bits.U32Spec.TheVariants.{Const, Offset}
use Rattle.jxlm_bit_writer.specs.Written.{digits, HasBits}
use Rattle.jxlm_bit_writer.specs.Fields.{holds, part_bits, is_spelled, u32_bits}
use Rattle.jxlm_bit_writer.proofs.BitLists.{length-digits, number_stands, has_first, has_rest, has_moved}

-- a field of bits of its own: it stands from where they begin to where they end
abbrev pub StandsAs : {X : Type 0} → Grammar X → X → List ℕ → Type 0
StandsAs field x bits = (bytes : List ℕ) (p q : ℕ) → HasBits bytes p bits → q ≡ p + length bits → field.Stands bytes p x q

-- u(n)
pub number_as : (n v : ℕ) → v < 2 ^ n → StandsAs (number n) v (digits n v)
number_as n v small bytes p q h e =
    let l = length-digits n v in
    let i = h.inside in
    (omega (arith, l, i), sym (number_stands bytes p n v h ∙ mod-eq_of_lt small), omega (arith, l, e))

-- a Bool
pub flag_as : (b : Bool) → StandsAs flag b (digits 1 (if b then 1 else 0))
flag_as true bytes p q h e = (1, q, number_as 1 1 (omega arith) bytes p q h e, (refl, refl))
flag_as false bytes p q h e = (0, q, number_as 1 0 (omega arith) bytes p q h e, (refl, refl))

-- the selector of a part, and then the part
part_as : (s : ℕ) (d : U32Spec) (v : ℕ) → s < 4 → holds d v ≡ true → (bytes : List ℕ) (p q : ℕ) → HasBits bytes p (part_bits s d v) → q ≡ p + length (part_bits s d v) →
    (number 2).Stands bytes p s (p + 2) × (part d).Stands bytes (p + 2) v q
part_as s (Const c) v few held bytes p q h e =
    let l = length-digits 2 s in
    (number_as 2 s (omega (arith, few)) bytes p (p + 2) h (omega (arith, l)), (sym (eqb-true c v held), omega (arith, l, e)))
part_as s (Offset least n) v few held bytes p q h e =
    let l = length-digits 2 s in
    let a = length-append (digits 2 s) (digits n (v - least)) in
    let both = and_parts (nat_le least v) (nat_lt (v - least) (2 ^ n)) held in
    let low : least ≤ v = leb-true least v both.0 in
    let first = has_first bytes p (digits 2 s) (digits n (v - least)) h in
    let rest = has_moved bytes (p + length (digits 2 s)) (p + 2) (digits n (v - least)) (omega (arith, l)) (has_rest bytes p (digits 2 s) (digits n (v - least)) h) in (
      number_as 2 s (omega (arith, few)) bytes p (p + 2) first (omega (arith, l)),
      (v - least, q, number_as n (v - least) (ltb-true (v - least) (2 ^ n) both.1) bytes (p + 2) q rest (omega (arith, l, a, e)), (omega (arith, low), refl)),
    )

chosen : (d0 d1 d2 d3 : U32Spec) (v : ℕ) (b0 b1 b2 b3 : Bool) → holds d0 v ≡ b0 → holds d1 v ≡ b1 → holds d2 v ≡ b2 → holds d3 v ≡ b3 → (b0 || b1 || b2 || b3) ≡ true →
    StandsAs (u32 d0 d1 d2 d3) v (if b0 then part_bits 0 d0 v else if b1 then part_bits 1 d1 v else if b2 then part_bits 2 d2 v else part_bits 3 d3 v)
chosen d0 d1 d2 d3 v true b1 b2 b3 e0 e1 e2 e3 some bytes p q h e = let s = part_as 0 d0 v (omega arith) e0 bytes p q h e in (0, p + 2, s.0, s.1)
chosen d0 d1 d2 d3 v false true b2 b3 e0 e1 e2 e3 some bytes p q h e = let s = part_as 1 d1 v (omega arith) e1 bytes p q h e in (1, p + 2, s.0, s.1)
chosen d0 d1 d2 d3 v false false true b3 e0 e1 e2 e3 some bytes p q h e = let s = part_as 2 d2 v (omega arith) e2 bytes p q h e in (2, p + 2, s.0, s.1)
chosen d0 d1 d2 d3 v false false false true e0 e1 e2 e3 some bytes p q h e = let s = part_as 3 d3 v (omega arith) e3 bytes p q h e in (3, p + 2, s.0, s.1)
chosen d0 d1 d2 d3 v false false false false e0 e1 e2 e3 some bytes p q h e = absurd (false≢true some)

-- a U32, by the first part that has the value
pub u32_as : (d0 d1 d2 d3 : U32Spec) (v : ℕ) → is_spelled d0 d1 d2 d3 v ≡ true → StandsAs (u32 d0 d1 d2 d3) v (u32_bits d0 d1 d2 d3 v)
u32_as d0 d1 d2 d3 v spelled = chosen d0 d1 d2 d3 v (holds d0 v) (holds d1 v) (holds d2 v) (holds d3 v) refl refl refl refl spelled
