-- How many groups there are.
use Rattle.std.proofs.Common.{◌≡◌, ℕ, suc, ◌+◌, ◌-◌, ◌*◌, ◌/◌, ◌<◌, ◌≤◌, Bool, true, false, refl, ap, ◌∙◌, arith}
use Rattle.std.specs.Prelude.{◌==◌, ◌&&◌, if◌then◌else◌}
use Rattle.std.proofs.lemmas.Bool.{eqb-true}
use Rattle.std.proofs.Math.Nat.{div-lt_iff_lt-mul, lt-div-mul-add, suc-mul, mul_assoc, mul_comm}
use Rattle.std.proofs.lemmas.Nat.{mul-le}
use Rattle.jxl_image_header.specs.declared.size.Size.{Size}
use Rattle.jxl_codestream.specs.Layouts.{Layout, groups_of, section_count_of, max_sections}

abbrev along : ℕ → ℕ → ℕ
along side dim = (side + dim - 1) / dim

abbrev lf_groups_of : Size → ℕ → ℕ
lf_groups_of size dim = groups_of size (8 * dim)

first_true : (a b : Bool) → (a && b) ≡ true → a ≡ true
first_true true b e = refl
first_true false b e = e

-- at most as many as there are columns, or rows
pub along_most : (side dim : ℕ) → 0 < dim → along side dim ≤ side
along_most side dim pos =
    let s = suc-mul side dim in
    let one = mul-le side 1 side dim (omega arith) (omega (arith, pos)) in
    let bound : side + dim - 1 < suc side * dim = omega (arith, s, one, pos) in
    let below : along side dim < suc side = (div-lt_iff_lt-mul pos).1 bound in
    omega (arith, below)

-- groups cover a side
covers : (side dim : ℕ) → 0 < dim → side ≤ along side dim * dim
covers side dim pos = let h = lt-div-mul-add {a = side + dim - 1} pos in omega (arith, h, pos)

-- wider groups are not more
pub along_lf : (side dim : ℕ) → 0 < dim → along side (8 * dim) ≤ along side dim
along_lf side dim pos =
    let c = covers side dim pos in
    let s = suc-mul (along side dim) (8 * dim) in
    let wide : along side dim * (8 * dim) ≡ 8 * (along side dim * dim) = mul_comm (along side dim) (8 * dim) ∙ mul_assoc 8 dim (along side dim) ∙ ap (λ (n : ℕ). 8 * n) (mul_comm dim (along side dim)) in
    let wide_some : 0 < 8 * dim = omega (arith, pos) in
    let bound : side + 8 * dim - 1 < suc (along side dim) * (8 * dim) = omega (arith, c, s, wide, pos) in
    let below : along side (8 * dim) < suc (along side dim) = (div-lt_iff_lt-mul wide_some).1 bound in
    omega (arith, below)

pub lf_most : (size : Size) (dim : ℕ) → 0 < dim → lf_groups_of size dim ≤ groups_of size dim
lf_most size dim pos = mul-le (along size.width (8 * dim)) (along size.height (8 * dim)) (along size.width dim) (along size.height dim) (along_lf size.width dim pos) (along_lf size.height dim pos)

-- What is few sections: few groups.
few_groups : (l : Layout) (b : Bool) → ((l.groups == 1) && (l.passes == 1)) ≡ b → 0 < l.passes → (if b then 1 else 2 + l.lf_groups + l.passes * l.groups) ≤ max_sections → l.groups ≤ max_sections
few_groups l true e some h = let one = eqb-true l.groups 1 (first_true (l.groups == 1) (l.passes == 1) e) in omega (arith, one)
few_groups l false e some h = let m = mul-le 1 l.groups l.passes l.groups (omega (arith, some)) (omega arith) in omega (arith, m, h)

pub few : (l : Layout) → 0 < l.passes → section_count_of l ≤ max_sections → l.groups ≤ max_sections
few l some h = few_groups l ((l.groups == 1) && (l.passes == 1)) refl some h

-- and many groups are many sections
many_count : (l : Layout) (b : Bool) → ((l.groups == 1) && (l.passes == 1)) ≡ b → 0 < l.passes → max_sections < l.groups → max_sections < (if b then 1 else 2 + l.lf_groups + l.passes * l.groups)
many_count l true e some h = let one = eqb-true l.groups 1 (first_true (l.groups == 1) (l.passes == 1) e) in absurd (omega (arith, one, h))
many_count l false e some h = let m = mul-le 1 l.groups l.passes l.groups (omega (arith, some)) (omega arith) in omega (arith, m, h)

pub many : (l : Layout) → 0 < l.passes → max_sections < l.groups → max_sections < section_count_of l
many l some h = many_count l ((l.groups == 1) && (l.passes == 1)) refl some h
