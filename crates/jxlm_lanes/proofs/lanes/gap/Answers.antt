use Rattle.std.proofs.Common.{◌≡◌, ◌∙◌, ap, sym, ℕ, ℤ, pos, map, length, get_or, FitsSigned, arith, cond, List, w16, of_z, to_z, int_lt, unsigned_abs, ◌-ℤ◌, ◌<◌}
use Rattle.std.proofs.lemmas.Simd.{Each1-get_or, length-zip2, get_or-zip2}
use Rattle.std.proofs.lemmas.List.{length-map, get_or-map}
use Rattle.std.proofs.lemmas.Int.{of_z-to_z}
use lib.Lanes.{Each1, zip2}
use mir.Syntax.{wrap_sub}
use borrow.Table.Row.{s_int}
use borrow.Rule.Simd.Lanes.{act2}
use Rattle.jxlm_lanes.specs.Inner.Lanes.{lane}
use Rattle.jxlm_lanes.proofs.Each.{picked, picked_len, picked_at, gap_of, Each1-signed, Each1-zip2_all}
use Rattle.jxlm_lanes.proofs.lanes.gap.Goals as goal

abbrev minus : ℕ → ℕ → ℕ
minus = act2 wrap_sub (s_int w16) (s_int w16) (s_int w16)

module _ (a b : List ℤ) (la : length a ≡ 8) (lb : length b ≡ 8) (fa : Each1 (FitsSigned w16) a) (fb : Each1 (FitsSigned w16) b) where
  abbrev xs : List ℕ
  xs = map (of_z w16) a

  abbrev ys : List ℕ
  ys = map (of_z w16) b

  abbrev greater : List ℕ
  greater = picked xs ys ys xs

  abbrev lesser : List ℕ
  lesser = picked xs ys xs ys

  xs_len : length xs ≡ 8
  xs_len = length-map a (of_z w16) ∙ la

  ys_len : length ys ≡ 8
  ys_len = length-map b (of_z w16) ∙ lb

  greater_len : length greater ≡ 8
  greater_len = picked_len xs ys ys xs xs_len ys_len ys_len xs_len

  lesser_len : length lesser ≡ 8
  lesser_len = picked_len xs ys xs ys xs_len ys_len xs_len ys_len

  apart_len : length (zip2 minus greater lesser) ≡ 8
  apart_len = length-zip2 minus greater lesser (greater_len ∙ sym lesser_len) ∙ greater_len

  apart_at : (j : ℕ) → j < 8 → get_or (zip2 minus greater lesser) j 0 ≡ unsigned_abs (lane a j -ℤ lane b j)
  apart_at j lt =
      let g = greater_len in
      let l = lesser_len in
      let x = lane a j in
      let y = lane b j in
      let fx : FitsSigned w16 x = Each1-get_or (FitsSigned w16) a j (pos 0) (omega arith) fa in
      let fy : FitsSigned w16 y = Each1-get_or (FitsSigned w16) b j (pos 0) (omega arith) fb in
      let at_a = get_or-map (of_z w16) a j (pos 0) 0 (omega arith) in
      let at_b = get_or-map (of_z w16) b j (pos 0) 0 (omega arith) in
      get_or-zip2 minus greater lesser j 0 0 0 (omega arith) (omega arith)
      ∙ ap (λ z. minus z (get_or lesser j 0)) (picked_at a b ys xs j la lb ys_len xs_len fa fb lt)
      ∙ ap (minus (cond (int_lt x y) (get_or ys j 0) (get_or xs j 0))) (picked_at a b xs ys j la lb xs_len ys_len fa fb lt)
      ∙ ap (λ z. minus (cond (int_lt x y) (get_or ys j 0) z) (cond (int_lt x y) z (get_or ys j 0))) at_a
      ∙ ap (λ z. minus (cond (int_lt x y) z (of_z w16 x)) (cond (int_lt x y) (of_z w16 x) z)) at_b
      ∙ gap_of x y fx fy

pub unsigned-requires-clause-len : goal.unsigned-requires-clause-len
unsigned-requires-clause-len c = length-map (zip2 minus (greater c.args.a c.args.b c.requires.a_len c.requires.b_len c.requires.a_fit c.requires.b_fit) (lesser c.args.a c.args.b c.requires.a_len c.requires.b_len c.requires.a_fit c.requires.b_fit)) (to_z w16) ∙ apart_len c.args.a c.args.b c.requires.a_len c.requires.b_len c.requires.a_fit c.requires.b_fit

pub unsigned-requires-clause-fit : goal.unsigned-requires-clause-fit
unsigned-requires-clause-fit c =
    let xs = greater c.args.a c.args.b c.requires.a_len c.requires.b_len c.requires.a_fit c.requires.b_fit in
    let ys = lesser c.args.a c.args.b c.requires.a_len c.requires.b_len c.requires.a_fit c.requires.b_fit in Each1-signed (zip2 minus xs ys) (Each1-zip2_all (λ x. x < 65536) minus (λ a b. omega arith) xs ys)

pub returns-clause-value : goal.returns-clause-value
returns-clause-value c j lt =
    let xs = greater c.args.a c.args.b c.requires.a_len c.requires.b_len c.requires.a_fit c.requires.b_fit in
    let ys = lesser c.args.a c.args.b c.requires.a_len c.requires.b_len c.requires.a_fit c.requires.b_fit in
    let ds = zip2 minus xs ys in
    let n = apart_len c.args.a c.args.b c.requires.a_len c.requires.b_len c.requires.a_fit c.requires.b_fit in
    let m = length-map ds (to_z w16) in
    let small : get_or ds j 0 < 65536 = Each1-get_or (λ x. x < 65536) ds j 0 (omega arith) (Each1-zip2_all (λ x. x < 65536) minus (λ a b. omega arith) xs ys) in
    ap (λ l. get_or l j 0) c.unsigned.ensures
    ∙ get_or-map (of_z w16) (map (to_z w16) ds) j (pos 0) 0 (omega arith)
    ∙ ap (of_z w16) (get_or-map (to_z w16) ds j 0 (pos 0) (omega arith))
    ∙ of_z-to_z w16 (get_or ds j 0) small
    ∙ apart_at c.args.a c.args.b c.requires.a_len c.requires.b_len c.requires.a_fit c.requires.b_fit j lt
