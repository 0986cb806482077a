-- Which values the fields of a palette can spell.
use Rattle.std.proofs.Common.{◌≡◌, inl, inr, ℕ, zero, suc, ◌-◌, ◌^◌, ◌<◌, ◌≤◌, Bool, true, false, refl, arith}
use Rattle.std.specs.Prelude.{nat_lt, nat_le, ◌||◌}
use Rattle.std.proofs.lemmas.Bool.{cases_lt, and_from, le-leb, lt-ltb}
use Rattle.jxlm_bits.specs.declared.bits.U32Spec.TheVariants.{Const, Offset}
use Rattle.jxlm_bit_writer.specs.Fields.{holds, is_spelled}

held : (least n v : ℕ) → least ≤ v → v - least < 2 ^ n → holds (Offset least n) v ≡ true
held least n v a b = and_from (nat_le least v) (nat_lt (v - least) (2 ^ n)) (le-leb least v a) (lt-ltb (v - least) (2 ^ n) b)

-- one of two is true
or_first : (a b : Bool) → a ≡ true → (a || b) ≡ true
or_first true b h = refl
or_first false b h = cc

or_second : (a b : Bool) → b ≡ true → (a || b) ≡ true
or_second true b h = refl
or_second false true h = refl
or_second false false h = cc

pub channels_spelled : (v : ℕ) → 1 ≤ v → v ≤ 8192 → is_spelled (Const 1) (Const 3) (Const 4) (Offset 1 13) v ≡ true
channels_spelled v some few =
    or_second (holds (Const 1) v || holds (Const 3) v || holds (Const 4) v) (holds (Offset 1 13) v) (held 1 13 v some (omega (arith, few)))

pub colours_spelled : (v : ℕ) → v ≤ 70911 → is_spelled (Offset 0 8) (Offset 256 10) (Offset 1280 12) (Offset 5376 16) v ≡ true
colours_spelled v few =
    let a : Bool = holds (Offset 0 8) v in
    let b : Bool = holds (Offset 256 10) v in
    let c : Bool = holds (Offset 1280 12) v in
    let d : Bool = holds (Offset 5376 16) v in
    elim (cases_lt v 256) [
      | inl lt ↦ or_first (a || b || c) d (or_first (a || b) c (or_first a b (held 0 8 v (omega arith) (omega (arith, lt)))))
      | inr ge ↦ elim (cases_lt v 1280) [
        | inl lt ↦ or_first (a || b || c) d (or_first (a || b) c (or_second a b (held 256 10 v ge (omega (arith, lt)))))
        | inr more ↦ elim (cases_lt v 5376) [
          | inl lt ↦ or_first (a || b || c) d (or_second (a || b) c (held 1280 12 v more (omega (arith, lt))))
          | inr most ↦ or_second (a || b || c) d (held 5376 16 v most (omega (arith, few)))
        ]
      ]
    ]

pub count_spelled : (v : ℕ) → v ≤ 273 → is_spelled (Const 0) (Const 1) (Offset 2 4) (Offset 18 8) v ≡ true
count_spelled zero few = refl
count_spelled (suc zero) few = refl
count_spelled (suc (suc v)) few =
    let n : ℕ = suc (suc v) in
    let c : Bool = holds (Offset 2 4) n in
    let d : Bool = holds (Offset 18 8) n in
    elim (cases_lt n 18) [
      | inl lt ↦ or_first (holds (Const 0) n || holds (Const 1) n || c) d (or_second (holds (Const 0) n || holds (Const 1) n) c (held 2 4 n (omega arith) (omega (arith, lt))))
      | inr ge ↦ or_second (holds (Const 0) n || holds (Const 1) n || c) d (held 18 8 n ge (omega (arith, few)))
    ]
