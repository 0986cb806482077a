-- The passes of a frame (ISO/IEC 18181-1, frame header: Passes).
use Rattle.std.specs.Prelude.{ℕ, zero, suc, ◌-◌, ◌<◌, ◌≤◌, ◌==◌, ◌&&◌, not, nat_lt, nat_le, ℤ, pos, List, [], ◌∷◌, map, Bool, true, if◌then◌else◌, Option, Some, None, codes}
use Rattle.std.specs.List.{find, range_with_len, zip}
use Rattle.std.specs.Option.{option_map_or}
use Rattle.jxlm_bits.specs.Grammar.{Grammar, u32, give, repeated, ◌>>=◌}
use Rattle.jxlm_bits.specs.declared.bits.U32Spec.TheVariants.{Const, Offset}
use Rattle.jxl_image_header.specs.Fields.{number_where, when}
use Rattle.jxl_frame_header.specs.Codings.{factor}
use Rattle.jxl_frame_header.specs.declared.passes.Passes.{Passes as PassesInMemory}

-- how many passes there are, by how many bits each but the last is shifted, resolutions, and the passes that end them
pub record Passes : Type 0 where
  pub num_passes : ℕ
  pub shift : List ℕ
  pub downsample : List ℕ
  pub last_pass : List ℕ

abbrev pub passes_of : PassesInMemory → Passes
passes_of p = record { num_passes = p.num_passes; shift = p.shift.items; downsample = p.downsample.items; last_pass = p.last_pass.items }

-- n fields, each of which may depend on the number before it
abbrev pub in_turn : ℕ → (Option ℕ → Grammar ℕ) → Option ℕ → Grammar (List ℕ)
in_turn zero field before = give []
in_turn (suc n) field before = field before >>= λ v. in_turn n field (Some v) >>= λ vs. give (v ∷ vs)

-- The passes of a frame, with no more resolutions than passes; frames that others use have one pass. The factor of a
-- resolution is finer than the one before, and its last pass, which is one of this number, a later one.
unfoldable pub passes : Bool → Grammar Passes
passes there = do
  count ← when there (u32 (Const 1) (Const 2) (Const 3) (Offset 4 3)) 1
  n ← when (not (count == 1)) (number_where (codes "num_downsample") (λ n. nat_le n count) (u32 (Const 0) (Const 1) (Const 2) (Offset 3 1))) 0
  shifts ← repeated (count - 1) (u32 (Const 0) (Const 1) (Const 2) (Const 3))
  factors ← in_turn n (λ before. number_where (codes "downsample") (λ v. option_map_or (λ b. nat_lt v b) before true) factor) None
  lasts ← in_turn n (λ before. number_where (codes "last_pass") (λ v. option_map_or (λ b. nat_lt b v) before true && nat_lt v count)
      (u32 (Const 0) (Const 1) (Const 2) (Offset 0 3))) None
  give (record { num_passes = count; shift = shifts; downsample = factors; last_pass = lasts })

-- there are from 1 to 11
pub record IsPassCount (n : ℕ) : Type 0 where
  pub some : 0 < n
  pub few : n ≤ 11

-- the shift of a channel that has the sides of the frame by this factor
abbrev pub shift_of : ℕ → ℕ
shift_of d = if d == 1 then 0 else if d == 2 then 1 else if d == 4 then 2 else 3

-- The least shift that the first n passes hold, of those below 3: after the last pass it is 0; after one that ends a
-- resolution, that of its factor; else the one of the passes before, and of none 3.
abbrev pub least_shift : Passes → ℕ → ℕ
least_shift x zero = 3
least_shift x (suc p) =
    if suc p == x.num_passes then 0 else option_map_or (λ e. shift_of e.0) (find (λ e. e.1 == p) (zip x.downsample x.last_pass)) (least_shift x p)

-- The passes by their numbers: each holds the shifts from the least one that is held after it, below that before it
-- (Modular: the shifts of a pass).
abbrev pub pass_shifts : Passes → List (ℕ × (ℤ × ℤ))
pass_shifts x = map (λ p. (p, (pos (least_shift x (suc p)), pos (least_shift x p)))) (range_with_len 0 x.num_passes)
