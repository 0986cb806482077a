use Rattle.std.proofs.Common.{◌≡◌, ℕ, [], sym, subst, arith}
use Rattle.jxlm_bit_writer.specs.Writes.{Writes}
use Rattle.jxlm_bit_writer.specs.Written.{digits}
use Rattle.jxl_coding_codes.specs.Distributions.{signalled_at}
use Rattle.jxl_coding_fields_write.proofs.WidthCodes.{width_0, width_1, width_2, width_3, width_4, width_5, width_6, width_7, width_8, width_9, width_10, width_11, width_12}
use Rattle.jxl_coding_fields_write.proofs.counts.code_of.Goals as goal

pub returns-in-0-clause-stands : goal.returns-in-0-clause-stands
returns-in-0-clause-stands c = let e : c.args.width ≡ 0 = omega arith in subst (λ (w : ℕ). Writes [] (digits 5 17) signalled_at w) (sym e) width_0

pub returns-in-1-clause-stands : goal.returns-in-1-clause-stands
returns-in-1-clause-stands c = let e : c.args.width ≡ 1 = omega arith in subst (λ (w : ℕ). Writes [] (digits 4 11) signalled_at w) (sym e) width_1

pub returns-in-2-clause-stands : goal.returns-in-2-clause-stands
returns-in-2-clause-stands c = let e : c.args.width ≡ 2 = omega arith in subst (λ (w : ℕ). Writes [] (digits 4 15) signalled_at w) (sym e) width_2

pub returns-in-3-clause-stands : goal.returns-in-3-clause-stands
returns-in-3-clause-stands c = let e : c.args.width ≡ 3 = omega arith in subst (λ (w : ℕ). Writes [] (digits 4 3) signalled_at w) (sym e) width_3

pub returns-in-4-clause-stands : goal.returns-in-4-clause-stands
returns-in-4-clause-stands c = let e : c.args.width ≡ 4 = omega arith in subst (λ (w : ℕ). Writes [] (digits 4 9) signalled_at w) (sym e) width_4

pub returns-in-5-clause-stands : goal.returns-in-5-clause-stands
returns-in-5-clause-stands c = let e : c.args.width ≡ 5 = omega arith in subst (λ (w : ℕ). Writes [] (digits 4 7) signalled_at w) (sym e) width_5

pub returns-in-6-clause-stands : goal.returns-in-6-clause-stands
returns-in-6-clause-stands c = let e : c.args.width ≡ 6 = omega arith in subst (λ (w : ℕ). Writes [] (digits 3 4) signalled_at w) (sym e) width_6

pub returns-in-7-clause-stands : goal.returns-in-7-clause-stands
returns-in-7-clause-stands c = let e : c.args.width ≡ 7 = omega arith in subst (λ (w : ℕ). Writes [] (digits 3 2) signalled_at w) (sym e) width_7

pub returns-in-8-clause-stands : goal.returns-in-8-clause-stands
returns-in-8-clause-stands c = let e : c.args.width ≡ 8 = omega arith in subst (λ (w : ℕ). Writes [] (digits 3 5) signalled_at w) (sym e) width_8

pub returns-in-9-clause-stands : goal.returns-in-9-clause-stands
returns-in-9-clause-stands c = let e : c.args.width ≡ 9 = omega arith in subst (λ (w : ℕ). Writes [] (digits 3 6) signalled_at w) (sym e) width_9

pub returns-in-10-clause-stands : goal.returns-in-10-clause-stands
returns-in-10-clause-stands c = let e : c.args.width ≡ 10 = omega arith in subst (λ (w : ℕ). Writes [] (digits 3 0) signalled_at w) (sym e) width_10

pub returns-in-11-clause-stands : goal.returns-in-11-clause-stands
returns-in-11-clause-stands c = let e : c.args.width ≡ 11 = omega arith in subst (λ (w : ℕ). Writes [] (digits 6 33) signalled_at w) (sym e) width_11

pub returns-in_default-clause-stands : goal.returns-in_default-clause-stands
returns-in_default-clause-stands c = let e : c.args.width ≡ 12 = omega arith in subst (λ (w : ℕ). Writes [] (digits 7 1) signalled_at w) (sym e) width_12
