-- The groups of a U64, one after another.
use Rattle.std.proofs.Common.{◌≡◌, ℕ, zero, suc, ◌+◌, ◌-◌, ◌*◌, ◌<◌, ◌≤◌, Bool, true, false, List, Ok, Err, refl, ap, ◌∙◌, arith}
use Rattle.jxlm_bits.specs.ErrorKind.{ErrorAt}
use Rattle.jxlm_bits.specs.Grammar.{Grammar, number, flag, give, either, ◌>>=◌}
use Rattle.jxl_image_header.specs.Fields.{groups}
use Rattle.jxl_image_header.specs.Inner.Groups.{group_bound}

-- what comes of a field that is read, or is not
pub bind_ok : {X Y : Type 0} (field : Grammar X) (next : X → Grammar Y) (bytes : List ℕ) (p : ℕ) (x : X) (q : ℕ) → field.read bytes p ≡ Ok (record { value = x; position = q }) →
    (field >>= next).read bytes p ≡ (next x).read bytes q
bind_ok field next bytes p x q h = rw h refl

pub bind_err : {X Y : Type 0} (field : Grammar X) (next : X → Grammar Y) (bytes : List ℕ) (p : ℕ) (e : ErrorAt) → field.read bytes p ≡ Err e → (field >>= next).read bytes p ≡ Err e
bind_err field next bytes p e h = rw h refl

abbrev pub after_group : ℕ → ℕ → Grammar ℕ
after_group n v = groups n >>= λ rest. give (v + 256 * rest)

abbrev pub group : ℕ → Grammar ℕ
group n = number 8 >>= after_group n

abbrev pub last_or : ℕ → Bool → Grammar ℕ
last_or n more = either more (group n) (give 0)

-- a group that is not the last
groups_before : (n : ℕ) → (n ≡ 0 → ⊥) → groups n ≡ (flag >>= last_or (n - 1))
unfolding groups
groups_before zero h = absurd (h refl)
groups_before (suc n) h = let e : suc n - 1 ≡ n = omega arith in rw e refl

module _ (bytes : List ℕ) (n p a : ℕ) (some : n ≡ 0 → ⊥) (there : flag.read bytes p ≡ Ok (record { value = true; position = a })) where
  first : (groups n).read bytes p ≡ (group (n - 1)).read bytes a
  first = ap (λ (g : Grammar ℕ). g.read bytes p) (groups_before n some) ∙ bind_ok flag (last_or (n - 1)) bytes p true a there

  pub no_group : (e : ErrorAt) → (number 8).read bytes a ≡ Err e → (groups n).read bytes p ≡ Err e
  no_group e h = first ∙ bind_err (number 8) (after_group (n - 1)) bytes a e h

  module _ (v b : ℕ) (read : (number 8).read bytes a ≡ Ok (record { value = v; position = b })) where
    second : (groups n).read bytes p ≡ (after_group (n - 1) v).read bytes b
    second = first ∙ bind_ok (number 8) (after_group (n - 1)) bytes a v b read

    pub no_rest : (e : ErrorAt) → (groups (n - 1)).read bytes b ≡ Err e → (groups n).read bytes p ≡ Err e
    no_rest e h = second ∙ bind_err (groups (n - 1)) (λ rest. give (v + 256 * rest)) bytes b e h

    pub all_groups : (rest q : ℕ) → (groups (n - 1)).read bytes b ≡ Ok (record { value = rest; position = q }) →
        (groups n).read bytes p ≡ Ok (record { value = v + 256 * rest; position = q })
    all_groups rest q h = second ∙ bind_ok (groups (n - 1)) (λ rest. give (v + 256 * rest)) bytes b rest q h

-- where there is none, the number is 0
pub none_there : (bytes : List ℕ) (n p a : ℕ) → flag.read bytes p ≡ Ok (record { value = false; position = a }) → (groups n).read bytes p ≡ Ok (record { value = 0; position = a })
unfolding groups
none_there bytes zero p a h = bind_ok flag (λ more. either more (number 4) (give 0)) bytes p false a h
none_there bytes (suc n) p a h = bind_ok flag (last_or n) bytes p false a h

pub no_flag : (bytes : List ℕ) (n p : ℕ) (e : ErrorAt) → flag.read bytes p ≡ Err e → (groups n).read bytes p ≡ Err e
unfolding groups
no_flag bytes zero p e h = bind_err flag (λ more. either more (number 4) (give 0)) bytes p e h
no_flag bytes (suc n) p e h = bind_err flag (last_or n) bytes p e h

pub last_group : (bytes : List ℕ) (n p a : ℕ) → n ≡ 0 → flag.read bytes p ≡ Ok (record { value = true; position = a }) → (groups n).read bytes p ≡ (number 4).read bytes a
unfolding groups
last_group bytes zero p a e h = bind_ok flag (λ more. either more (number 4) (give 0)) bytes p true a h
last_group bytes (suc n) p a e h = absurd (omega arith)

pub bound_some : (n : ℕ) → 0 < group_bound n
bound_some zero = omega arith
bound_some (suc n) = let h = bound_some n in omega arith

pub bound_before : (n : ℕ) → (n ≡ 0 → ⊥) → group_bound n ≡ 256 * group_bound (n - 1)
bound_before zero h = absurd (h refl)
bound_before (suc n) h = let e : suc n - 1 ≡ n = omega arith in rw e refl

pub bound_most : (n : ℕ) → n ≤ 6 → group_bound n ≤ 4503599627370496
bound_most zero h = omega arith
bound_most (suc zero) h = omega arith
bound_most (suc (suc zero)) h = omega arith
bound_most (suc (suc (suc zero))) h = omega arith
bound_most (suc (suc (suc (suc zero)))) h = omega arith
bound_most (suc (suc (suc (suc (suc zero))))) h = omega arith
bound_most (suc (suc (suc (suc (suc (suc zero)))))) h = omega arith
bound_most (suc (suc (suc (suc (suc (suc (suc n))))))) h = absurd (omega arith)
