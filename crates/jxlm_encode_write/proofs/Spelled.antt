-- Which values a header's fields can spell.
use Rattle.std.proofs.Common.{◌≡◌, ◌↔◌, inl, inr, subst, List, length, map, ℕ, ◌-◌, ◌^◌, ◌<◌, ◌≤◌, Bool, true, false, refl, arith}
use Rattle.std.specs.Prelude.{nat_lt, nat_le, ◌||◌}
use Rattle.std.proofs.lemmas.Bool.{cases_lt, and_from, le-leb, lt-ltb, eq-eqb}
use Rattle.jxlm_bits.specs.declared.bits.U32Spec.TheVariants.{Const, Offset}
use Rattle.std.specs.List.{All}
use Rattle.std.proofs.lemmas.List.{length-map, get_or-map}
use Rattle.std.proofs.lemmas.List.Elements.{All-map}
use Rattle.jxlm_transform.specs.Transforms.{IsSqueeze, IsSqueezeParams}
use Rattle.jxlm_bit_writer.specs.Fields.{holds, is_spelled}
use Rattle.jxlm_encode_write.specs.Headers.{params_of}
use Rattle.jxlm_encode_write.specs.declared.header.SqueezeStep.{SqueezeStep}

held : (least n v : ℕ) → least ≤ v → v - least < 2 ^ n → holds (Offset least n) v ≡ true
held least n v a b = and_from (nat_le least v) (nat_lt (v - least) (2 ^ n)) (le-leb least v a) (lt-ltb (v - least) (2 ^ n) b)

-- one of four is true
first : (a b c d : Bool) → a ≡ true → (a || b || c || d) ≡ true
first true b c d h = refl
first false b c d h = cc

second : (a b c d : Bool) → b ≡ true → (a || b || c || d) ≡ true
second true b c d h = refl
second false true c d h = refl
second false false c d h = cc

third : (a b c d : Bool) → c ≡ true → (a || b || c || d) ≡ true
third true b c d h = refl
third false true c d h = refl
third false false true d h = refl
third false false false d h = cc

fourth : (a b c d : Bool) → d ≡ true → (a || b || c || d) ≡ true
fourth true b c d h = refl
fourth false true c d h = refl
fourth false false true d h = refl
fourth false false false true h = refl
fourth false false false false h = cc

pub begin_spelled : (v : ℕ) → v ≤ 9287 → is_spelled (Offset 0 3) (Offset 8 6) (Offset 72 10) (Offset 1096 13) v ≡ true
begin_spelled v h = elim (cases_lt v 8) [
  | inl a ↦ first (holds (Offset 0 3) v) (holds (Offset 8 6) v) (holds (Offset 72 10) v) (holds (Offset 1096 13) v) (held 0 3 v (omega arith) (omega (arith, a)))
  | inr a ↦ elim (cases_lt v 72) [
    | inl b ↦ second (holds (Offset 0 3) v) (holds (Offset 8 6) v) (holds (Offset 72 10) v) (holds (Offset 1096 13) v) (held 8 6 v a (omega (arith, b)))
    | inr b ↦ elim (cases_lt v 1096) [
      | inl c ↦ third (holds (Offset 0 3) v) (holds (Offset 8 6) v) (holds (Offset 72 10) v) (holds (Offset 1096 13) v) (held 72 10 v b (omega (arith, c)))
      | inr c ↦ fourth (holds (Offset 0 3) v) (holds (Offset 8 6) v) (holds (Offset 72 10) v) (holds (Offset 1096 13) v) (held 1096 13 v c (omega (arith, h)))
    ]
  ]
]

pub kind_spelled : (v : ℕ) → v ≤ 73 → is_spelled (Const 6) (Offset 0 2) (Offset 2 4) (Offset 10 6) v ≡ true
kind_spelled v h = elim (cases_lt v 4) [
  | inl b ↦ second (holds (Const 6) v) (holds (Offset 0 2) v) (holds (Offset 2 4) v) (holds (Offset 10 6) v) (held 0 2 v (omega arith) (omega (arith, b)))
  | inr b ↦ elim (cases_lt v 18) [
    | inl c ↦ third (holds (Const 6) v) (holds (Offset 0 2) v) (holds (Offset 2 4) v) (holds (Offset 10 6) v) (held 2 4 v (omega (arith, b)) (omega (arith, c)))
    | inr c ↦ fourth (holds (Const 6) v) (holds (Offset 0 2) v) (holds (Offset 2 4) v) (holds (Offset 10 6) v) (held 10 6 v (omega (arith, c)) (omega (arith, h)))
  ]
]

pub count_spelled : (v : ℕ) → 1 ≤ v → v ≤ 19 → is_spelled (Const 1) (Const 2) (Const 3) (Offset 4 4) v ≡ true
count_spelled v some h = elim (cases_lt v 2) [
  | inl b ↦ first (holds (Const 1) v) (holds (Const 2) v) (holds (Const 3) v) (holds (Offset 4 4) v) (eq-eqb 1 v (omega (arith, some, b)))
  | inr b ↦ elim (cases_lt v 3) [
    | inl c ↦ second (holds (Const 1) v) (holds (Const 2) v) (holds (Const 3) v) (holds (Offset 4 4) v) (eq-eqb 2 v (omega (arith, b, c)))
    | inr c ↦ elim (cases_lt v 4) [
      | inl d ↦ third (holds (Const 1) v) (holds (Const 2) v) (holds (Const 3) v) (holds (Offset 4 4) v) (eq-eqb 3 v (omega (arith, c, d)))
      | inr d ↦ fourth (holds (Const 1) v) (holds (Const 2) v) (holds (Const 3) v) (holds (Offset 4 4) v) (held 4 4 v d (omega (arith, h)))
    ]
  ]
]

pub steps_spelled : (v : ℕ) → v ≤ 296 → is_spelled (Const 0) (Offset 1 4) (Offset 9 6) (Offset 41 8) v ≡ true
steps_spelled v h = elim (cases_lt v 1) [
  | inl b ↦ first (holds (Const 0) v) (holds (Offset 1 4) v) (holds (Offset 9 6) v) (holds (Offset 41 8) v) (eq-eqb 0 v (omega (arith, b)))
  | inr b ↦ elim (cases_lt v 17) [
    | inl c ↦ second (holds (Const 0) v) (holds (Offset 1 4) v) (holds (Offset 9 6) v) (holds (Offset 41 8) v) (held 1 4 v b (omega (arith, c)))
    | inr c ↦ elim (cases_lt v 73) [
      | inl d ↦ third (holds (Const 0) v) (holds (Offset 1 4) v) (holds (Offset 9 6) v) (holds (Offset 41 8) v) (held 9 6 v (omega (arith, c)) (omega (arith, d)))
      | inr d ↦ fourth (holds (Const 0) v) (holds (Offset 1 4) v) (holds (Offset 9 6) v) (holds (Offset 41 8) v) (held 41 8 v (omega (arith, d)) (omega (arith, h)))
    ]
  ]
]

pub transforms_spelled : (v : ℕ) → v ≤ 273 → is_spelled (Const 0) (Const 1) (Offset 2 4) (Offset 18 8) v ≡ true
transforms_spelled v h = elim (cases_lt v 1) [
  | inl b ↦ first (holds (Const 0) v) (holds (Const 1) v) (holds (Offset 2 4) v) (holds (Offset 18 8) v) (eq-eqb 0 v (omega (arith, b)))
  | inr b ↦ elim (cases_lt v 2) [
    | inl c ↦ second (holds (Const 0) v) (holds (Const 1) v) (holds (Offset 2 4) v) (holds (Offset 18 8) v) (eq-eqb 1 v (omega (arith, b, c)))
    | inr c ↦ elim (cases_lt v 18) [
      | inl d ↦ third (holds (Const 0) v) (holds (Const 1) v) (holds (Offset 2 4) v) (holds (Offset 18 8) v) (held 2 4 v c (omega (arith, d)))
      | inr d ↦ fourth (holds (Const 0) v) (holds (Const 1) v) (holds (Offset 2 4) v) (holds (Offset 18 8) v) (held 18 8 v d (omega (arith, h)))
    ]
  ]
]

-- what holds of each image holds of each by its image
pub each_of : {X Y : Type 0} (f : X → Y) (P : Y → Type 0) (xs : List X) → All P (map f xs) → All (λ x. P (f x)) xs
each_of f P xs h k d lt = subst P (get_or-map f xs k d (f d) lt) (h k (f d) (let l = length-map xs f in omega (arith, l, lt)))

-- steps that a header can spell, by their count and each of them
pub squeeze_iff : (xs : List SqueezeStep) → IsSqueeze (map params_of xs) ↔ ((length xs ≤ 296) × All (λ s. IsSqueezeParams (params_of s)) xs)
squeeze_iff xs = (
  (λ h. ((let l = length-map xs params_of in let c = h.count in omega (arith, l, c)), each_of params_of IsSqueezeParams xs h.each)),
  (λ h. record { count = (let l = length-map xs params_of in let c = h.0 in omega (arith, l, c)); each = All-map IsSqueezeParams params_of xs h.1 }),
)
