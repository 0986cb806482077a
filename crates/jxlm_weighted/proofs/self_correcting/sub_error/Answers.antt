use Rattle.std.proofs.Common.{◌≡◌, ℕ, ℤ, pos, ◌-ℤ◌, ◌*ℤ◌, ◌+◌, ◌*◌, ◌/◌, ◌%◌, ◌<◌, ◌≤◌, ◌^◌, unsigned_abs, FitsSigned, ap, ◌∙◌, refl, arith, to_z, of_z}
use Rattle.std.specs.Int.{w32, w64}
use Rattle.std.proofs.lemmas.Int.{to_z-of_z, fits_signed_from_abs}
use Rattle.jxlm_weighted.proofs.Ranges.{abs_fits, abs_mul, abs_sub}
use Rattle.jxlm_weighted.proofs.self_correcting.sub_error.Goals as goal

-- a sample times 8, and how far a sub-prediction is from it, in 64 bits
module _ (p s : ℤ) (small : unsigned_abs p < 2 ^ 37) (fits : FitsSigned w32 s) where
  eightfold_small : unsigned_abs (s *ℤ pos 8) ≤ 2 ^ 31 * 8
  eightfold_small = abs_mul s 8 (2 ^ 31) 8 (abs_fits s fits) (omega arith)

  away_small : unsigned_abs (p -ℤ s *ℤ pos 8) < 2 ^ 38
  away_small = let a = abs_sub p (s *ℤ pos 8) in let e = eightfold_small in omega (arith, a, e, small)

  sample_kept : to_z w64 (of_z w64 (to_z w32 (of_z w32 s))) ≡ s
  sample_kept = rw (to_z-of_z w32 s fits) (to_z-of_z w64 s (fits_signed_from_abs w64 s (let a = abs_fits s fits in omega (arith, a))))

  eightfold_fits : FitsSigned w64 (to_z w64 (of_z w64 (to_z w32 (of_z w32 s))) *ℤ pos 8)
  eightfold_fits = rw sample_kept (fits_signed_from_abs w64 (s *ℤ pos 8) (let e = eightfold_small in omega (arith, e)))

  away : to_z w64 (of_z w64 p) -ℤ to_z w64 (of_z w64 (to_z w64 (of_z w64 (to_z w32 (of_z w32 s))) *ℤ pos 8)) ≡ p -ℤ s *ℤ pos 8
  away = rw (to_z-of_z w64 _ eightfold_fits, sample_kept, to_z-of_z w64 p (fits_signed_from_abs w64 p (omega (arith, small)))) refl

  away_fits : FitsSigned w64 (p -ℤ s *ℤ pos 8)
  away_fits = fits_signed_from_abs w64 (p -ℤ s *ℤ pos 8) (let a = away_small in omega (arith, a))

  distance_is : (d : ℕ) → d ≡ unsigned_abs (to_z w64 (of_z w64 (to_z w64 (of_z w64 p) -ℤ to_z w64 (of_z w64 (to_z w64 (of_z w64 (to_z w32 (of_z w32 s))) *ℤ pos 8))))) → d ≡ unsigned_abs (p -ℤ s *ℤ pos 8)
  distance_is d is = is ∙ rw (away, to_z-of_z w64 (p -ℤ s *ℤ pos 8) away_fits) refl

pub overflow_mul-sample : goal.overflow_mul-sample
overflow_mul-sample c = eightfold_fits c.args.sub_prediction c.args.sample c.requires c.ranges.sample

pub overflow_sub-sub_prediction : goal.overflow_sub-sub_prediction
overflow_sub-sub_prediction c = rw (away c.args.sub_prediction c.args.sample c.requires c.ranges.sample) (away_fits c.args.sub_prediction c.args.sample c.requires c.ranges.sample)

pub overflow_add-result : goal.overflow_add-result
overflow_add-result c =
    let d = distance_is c.args.sub_prediction c.args.sample c.requires c.ranges.sample c.unsigned_abs-distance.result c.unsigned_abs-distance.ensures.value in
    let small = away_small c.args.sub_prediction c.args.sample c.requires c.ranges.sample in
    omega (arith, d, small)

pub returns : goal.returns
returns c = ap (λ d. (d + 3) / 8 % 4294967296) (distance_is c.args.sub_prediction c.args.sample c.requires c.ranges.sample c.unsigned_abs-distance.result c.unsigned_abs-distance.ensures.value)
