-- A header ends within the bytes.
use Rattle.std.proofs.Common.{ℕ, zero, suc, ◌*◌, ◌≤◌, Bool, true, false, List, length, Result, Ok, Err, arith}
use Rattle.std.specs.Prelude.{◌==◌, MatchBool}
use Rattle.jxlm_bits.specs.ErrorKind.{ErrorKind}
use Rattle.jxlm_bits.specs.Grammar.{from_result, number, part, repeated, u32}
use Rattle.jxlm_bits.specs.declared.bits.U32Spec.{U32Spec}
use Rattle.jxlm_bits.specs.declared.bits.U32Spec.TheVariants.{Const, Offset}
use Rattle.jxlm_header.specs.Header.{Header, header_by}
use Rattle.jxlm_predictor.specs.declared.predictor.Predictor.{Predictor}
use Rattle.jxlm_transform.specs.Transforms.{Transform, palette_by, rct, squeeze_params, transform_by}
use Rattle.jxlm_transform.proofs.TransformLaws.{rct_there}
use Rattle.jxlm_transform.specs.declared.param.PaletteTables.{PaletteTables}
use Rattle.jxlm_transform.specs.declared.transform.Palette.{Palette}
use Rattle.jxlm_transform.specs.declared.transform.Rct.{Rct}
use Rattle.jxlm_transform.specs.declared.transform.SqueezeParams.{SqueezeParams}
use Rattle.jxlm_weighted.specs.declared.weights.WpHeader.{WpHeader}

by_test : (R P Q : Type 0) (b : Bool) → (P → R) → (Q → R) → MatchBool b P Q → R
by_test R P Q true f g h = f h
by_test R P Q false f g h = g h

module _ (bytes : List ℕ) where
  abbrev Within : ℕ → Type 0
  Within p = p ≤ 8 * length bytes

  number_ends : (n p v q : ℕ) → (number n).Stands bytes p v q → Within q
  number_ends n p v q s = let fits = s.0 in let e = s.2 in omega (arith, fits, e)

  part_ends : (d : U32Spec) (p v q : ℕ) → Within p → (part d).Stands bytes p v q → Within q
  part_ends (Const n) p v q le s = let e = s.1 in omega (arith, le, e)
  part_ends (Offset least n) p v q le s = let le = number_ends n p s.0 s.1 s.2 in let e = s.3.1 in omega (arith, le, e)

  u32_ends : (d0 d1 d2 d3 : U32Spec) (p v q : ℕ) → (u32 d0 d1 d2 d3).Stands bytes p v q → Within q
  u32_ends d0 d1 d2 d3 p v q s =
      let (selector, m, chosen_by, chosen) = s in
      let le = number_ends 2 p selector m chosen_by in
      by_test (Within q) _ _ (selector == 0) (part_ends d0 m v q le) (by_test (Within q) _ _ (selector == 1) (part_ends d1 m v q le) (by_test (Within q) _ _ (selector == 2) (part_ends d2 m v q le) (part_ends d3 m v q le))) chosen

  rct_ends : (p : ℕ) (t : Rct) (q : ℕ) → rct.Stands bytes p t q → Within q
  rct_ends p t q s =
      let (begin, m, begins, rest) = s in
      let (kind, n, kinds, last) = rest in
      let le = u32_ends (Const 6) (Offset 0 2) (Offset 2 4) (Offset 10 6) m kind n kinds in
      let e = last.1 in
      omega (arith, le, e)

  checked_ends : (r : Result Predictor ErrorKind) (p : ℕ) (x : Predictor) (q : ℕ) → Within p → (from_result r).Stands bytes p x q → Within q
  checked_ends (Ok y) p x q le s = let e = s.1 in omega (arith, le, e)
  checked_ends (Err error) p x q le s = absurd s

  palette_ends : (tables : PaletteTables) (weights : WpHeader) (p : ℕ) (t : Palette) (q : ℕ) → (palette_by tables weights).Stands bytes p t q → Within q
  palette_ends tables weights p t q s =
      let (begin, a, first, after_begin) = s in
      let (channels, b, second, after_channels) = after_begin in
      let (colours, c, third, after_colours) = after_channels in
      let (deltas, e, fourth, after_deltas) = after_colours in
      let (kind, f, fifth, last) = after_deltas in
      let (n, g, numbered, checked) = fifth in
      let le = checked_ends _ g kind f (number_ends 4 e n g numbered) checked in
      let same = last.1 in
      omega (arith, le, same)

  params_ends : (p : ℕ) (t : SqueezeParams) (q : ℕ) → squeeze_params.Stands bytes p t q → Within q
  params_ends p t q s =
      let (horizontal, a, first, after_horizontal) = s in
      let (in_place, b, second, after_place) = after_horizontal in
      let (begin, c, third, after_begin) = after_place in
      let (channels, e, fourth, last) = after_begin in
      let le = u32_ends (Const 1) (Const 2) (Const 3) (Offset 4 4) c channels e fourth in
      let same = last.1 in
      omega (arith, le, same)

  steps_end : (n p : ℕ) (ts : List SqueezeParams) (q : ℕ) → Within p → (repeated n squeeze_params).Stands bytes p ts q → Within q
  steps_end zero p ts q le s = let e = s.1 in omega (arith, le, e)
  steps_end (suc n) p ts q le s =
      let (t, m, first, rest) = s in
      let (us, r, others, last) = rest in
      let le = steps_end n m us r (params_ends p t m first) others in
      let e = last.1 in
      omega (arith, le, e)

  transform_ends : (tables : PaletteTables) (weights : WpHeader) (p : ℕ) (t : Transform) (q : ℕ) → (transform_by tables weights).Stands bytes p t q → Within q
  transform_ends tables weights p t q s =
      let (kind, m, numbered, chosen) = s in
      by_test (Within q) _ _ (kind == 0) (λ h. let le = rct_ends m h.0 h.1 (rct_there tables bytes m h.0 h.1 h.2) in let e = h.3.1 in omega (arith, le, e))
      (by_test (Within q) _ _ (kind == 1) (λ h. let le = palette_ends tables weights m h.0 h.1 h.2 in let e = h.3.1 in omega (arith, le, e))
      (by_test (Within q) _ _ (kind == 2) (λ h.
      let (count, n, counted, listed) = h.2 in
      let le = steps_end count n h.0 h.1 (u32_ends (Const 0) (Offset 1 4) (Offset 9 6) (Offset 41 8) m count n counted) listed in
      let e = h.3.1 in
      omega (arith, le, e)) (λ h. absurd h))) chosen

  transforms_end : (tables : PaletteTables) (weights : WpHeader) (n p : ℕ) (ts : List Transform) (q : ℕ) → Within p → (repeated n (transform_by tables weights)).Stands bytes p ts q → Within q
  transforms_end tables weights zero p ts q le s = let e = s.1 in omega (arith, le, e)
  transforms_end tables weights (suc n) p ts q le s =
      let (t, m, first, rest) = s in
      let (us, r, others, last) = rest in
      let le = transforms_end tables weights n m us r (transform_ends tables weights p t m first) others in
      let e = last.1 in
      omega (arith, le, e)

  pub header_ends : (tables : PaletteTables) (p : ℕ) (h : Header) (q : ℕ) → (header_by tables).Stands bytes p h q → Within q
  header_ends tables p h q s =
      let (global, a, first, after_flag) = s in
      let (weights, b, second, after_weights) = after_flag in
      let (count, c, third, rest) = after_weights in
      let (ts, m, fourth, last) = rest in
      let le = transforms_end tables weights count c ts m (u32_ends (Const 0) (Const 1) (Offset 2 4) (Offset 18 8) b count c third) fourth in
      let e = last.1 in
      omega (arith, le, e)
