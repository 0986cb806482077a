use Rattle.std.proofs.Common.{◌≡◌, ◌<◌, ◌∙◌, ap, sym, ℕ, ℤ, List, pos, map, length, get_or, arith, int_div, FitsSigned, to_z, of_z, ◌+ℤ◌, subst}
use Rattle.std.specs.Int.{w16, int_wrapping_add}
use Rattle.std.proofs.lemmas.Simd.{Each1-get_or, length-zip2, get_or-zip2}
use Rattle.std.proofs.lemmas.List.{length-map, get_or-map}
use Rattle.std.proofs.lemmas.Int.{wrapping_add_is, SFits-int_wrap}
use Rattle.jxlm_lanes.specs.Squeeze.{tendency}
use Rattle.jxlm_lanes.proofs.Tendency.{first_is, second_is}
use Rattle.jxlm_lanes.specs.Inner.Lanes.{lane}
use Rattle.jxlm_lanes.proofs.Each.{lane_of_two, bits_of_two, same_numbers, Each1-numbers, Each1-signed, Each1-zip2_all}
use Rattle.jxlm_lanes.proofs.lanes.pairs.Goals as goal
use mir.Syntax.{wrap_add, wrap_sub}
use borrow.Table.Row.{s_int}
use borrow.Rule.Simd.Lanes.{act2}
use lib.Lanes.{zip2, Each1}

pub tendencies-requires-clause-a_fit : goal.tendencies-requires-clause-a_fit
tendencies-requires-clause-a_fit c = subst (Each1 (FitsSigned w16)) (sym (same_numbers w16 c.args.before c.requires.before_fit)) c.requires.before_fit

pub tendencies-requires-clause-b_fit : goal.tendencies-requires-clause-b_fit
tendencies-requires-clause-b_fit c = subst (Each1 (FitsSigned w16)) (sym (same_numbers w16 c.args.average c.requires.average_fit)) c.requires.average_fit

pub tendencies-requires-clause-c_fit : goal.tendencies-requires-clause-c_fit
tendencies-requires-clause-c_fit c = subst (Each1 (FitsSigned w16)) (sym (same_numbers w16 c.args.next c.requires.next_fit)) c.requires.next_fit

abbrev sums : List ℤ → List ℤ → List ℕ
sums xs ys = zip2 (act2 wrap_add (s_int w16) (s_int w16) (s_int w16)) (map (of_z w16) xs) (map (of_z w16) ys)

length-sums : (xs ys : List ℤ) → length xs ≡ 8 → length ys ≡ 8 → length (sums xs ys) ≡ 8
length-sums xs ys e f =
    let a = length-map xs (of_z w16) in
    let b = length-map ys (of_z w16) in
    length-zip2 (act2 wrap_add (s_int w16) (s_int w16) (s_int w16)) (map (of_z w16) xs) (map (of_z w16) ys) (omega arith) ∙ omega arith

pub half-requires-clause-len : goal.half-requires-clause-len
half-requires-clause-len c =
    let n = length-sums c.args.residual c.tendencies.result c.requires.residual_len c.tendencies.ensures.len in
    length-map (sums c.args.residual c.tendencies.result) (to_z w16) ∙ n

pub half-requires-clause-fit : goal.half-requires-clause-fit
half-requires-clause-fit c =
    Each1-numbers w16 (act2 wrap_add (s_int w16) (s_int w16) (s_int w16)) c.args.residual c.tendencies.result
    (λ a b fa fb. subst (FitsSigned w16) (sym (wrapping_add_is w16 a b fa fb)) (SFits-int_wrap w16 (a +ℤ b))) c.requires.residual_fit c.tendencies.ensures.fit

pub returns-clause-first : goal.returns-clause-first
returns-clause-first c j lt =
    let b = lane c.args.before j in
    let m = lane c.args.average j in
    let x = lane c.args.next j in
    let r = lane c.args.residual j in
    let t = lane c.tendencies.result j in
    let la = c.requires.average_len in
    let lr = c.requires.residual_len in
    let lt2 = c.tendencies.ensures.len in
    let lh = c.half.ensures.len in
    let fm : FitsSigned w16 m = Each1-get_or (FitsSigned w16) c.args.average j (pos 0) (omega arith) c.requires.average_fit in
    let fr : FitsSigned w16 r = Each1-get_or (FitsSigned w16) c.args.residual j (pos 0) (omega arith) c.requires.residual_fit in
    let ft : FitsSigned w16 t = Each1-get_or (FitsSigned w16) c.tendencies.result j (pos 0) (omega arith) c.tendencies.ensures.fit in
    let sum : lane (map (to_z w16) (zip2 (act2 wrap_add (s_int w16) (s_int w16) (s_int w16)) (map (of_z w16) c.args.residual) (map (of_z w16) c.tendencies.result))) j ≡ int_wrapping_add w16 r t =
    lane_of_two w16 (act2 wrap_add (s_int w16) (s_int w16) (s_int w16)) c.args.residual c.tendencies.result j (omega arith) (omega arith) in
    let back = same_numbers w16 in
    let is : t ≡ tendency b m x =
    c.tendencies.ensures.value j lt
    ∙ ap (λ l. tendency (lane l j) (lane (map (to_z w16) (map (of_z w16) c.args.average)) j) (lane (map (to_z w16) (map (of_z w16) c.args.next)) j)) (back c.args.before c.requires.before_fit)
    ∙ ap (λ l. tendency b (lane l j) (lane (map (to_z w16) (map (of_z w16) c.args.next)) j)) (back c.args.average c.requires.average_fit)
    ∙ ap (λ l. tendency b m (lane l j)) (back c.args.next c.requires.next_fit) in
    lane_of_two w16 (act2 wrap_add (s_int w16) (s_int w16) (s_int w16)) c.args.average c.half.result j (omega arith) (omega arith)
    ∙ ap (int_wrapping_add w16 m) (c.half.ensures.value j lt ∙ ap (λ d. int_div d (pos 2)) sum)
    ∙ first_is w16 b m x r t fm fr ft is

pub returns-clause-second : goal.returns-clause-second
returns-clause-second c j lt =
    let b = lane c.args.before j in
    let m = lane c.args.average j in
    let x = lane c.args.next j in
    let r = lane c.args.residual j in
    let t = lane c.tendencies.result j in
    let la = c.requires.average_len in
    let lr = c.requires.residual_len in
    let lt2 = c.tendencies.ensures.len in
    let lh = c.half.ensures.len in
    let fm : FitsSigned w16 m = Each1-get_or (FitsSigned w16) c.args.average j (pos 0) (omega arith) c.requires.average_fit in
    let fr : FitsSigned w16 r = Each1-get_or (FitsSigned w16) c.args.residual j (pos 0) (omega arith) c.requires.residual_fit in
    let ft : FitsSigned w16 t = Each1-get_or (FitsSigned w16) c.tendencies.result j (pos 0) (omega arith) c.tendencies.ensures.fit in
    let sum : lane (map (to_z w16) (zip2 (act2 wrap_add (s_int w16) (s_int w16) (s_int w16)) (map (of_z w16) c.args.residual) (map (of_z w16) c.tendencies.result))) j ≡ int_wrapping_add w16 r t =
    lane_of_two w16 (act2 wrap_add (s_int w16) (s_int w16) (s_int w16)) c.args.residual c.tendencies.result j (omega arith) (omega arith) in
    let back = same_numbers w16 in
    let is : t ≡ tendency b m x =
    c.tendencies.ensures.value j lt
    ∙ ap (λ l. tendency (lane l j) (lane (map (to_z w16) (map (of_z w16) c.args.average)) j) (lane (map (to_z w16) (map (of_z w16) c.args.next)) j)) (back c.args.before c.requires.before_fit)
    ∙ ap (λ l. tendency b (lane l j) (lane (map (to_z w16) (map (of_z w16) c.args.next)) j)) (back c.args.average c.requires.average_fit)
    ∙ ap (λ l. tendency b m (lane l j)) (back c.args.next c.requires.next_fit) in
    let plus = act2 wrap_add (s_int w16) (s_int w16) (s_int w16) in
    let minus = act2 wrap_sub (s_int w16) (s_int w16) (s_int w16) in
    let f = zip2 plus (map (of_z w16) c.args.average) (map (of_z w16) c.half.result) in
    let d = zip2 plus (map (of_z w16) c.args.residual) (map (of_z w16) c.tendencies.result) in
    let lf = length-sums c.args.average c.half.result la lh in
    let ld = length-sums c.args.residual c.tendencies.result lr lt2 in
    let n = length-zip2 minus f d (omega arith) in
    let half_is = c.half.ensures.value j lt ∙ ap (λ d. int_div d (pos 2)) sum in
    let at_f : get_or f j 0 ≡ plus (of_z w16 m) (of_z w16 (lane c.half.result j)) = bits_of_two w16 plus c.args.average c.half.result j (omega arith) (omega arith) in
    let at_d : get_or d j 0 ≡ plus (of_z w16 r) (of_z w16 t) = bits_of_two w16 plus c.args.residual c.tendencies.result j (omega arith) (omega arith) in
    get_or-map (to_z w16) (zip2 minus f d) j 0 (pos 0) (omega arith)
    ∙ ap (to_z w16) (get_or-zip2 minus f d j 0 0 0 (omega arith) (omega arith))
    ∙ ap (λ z. to_z w16 (minus z (get_or d j 0))) (at_f ∙ ap (λ h. plus (of_z w16 m) (of_z w16 h)) half_is)
    ∙ ap (λ z. to_z w16 (minus (plus (of_z w16 m) (of_z w16 (int_div (int_wrapping_add w16 r t) (pos 2)))) z)) at_d
    ∙ second_is b m x r t fm fr ft is

abbrev differences : List ℕ → List ℕ → List ℕ
differences xs ys = zip2 (act2 wrap_sub (s_int w16) (s_int w16) (s_int w16)) xs ys

pub returns-clause-first_len : goal.returns-clause-first_len
returns-clause-first_len c = length-map (sums c.args.average c.half.result) (to_z w16) ∙ length-sums c.args.average c.half.result c.requires.average_len c.half.ensures.len

pub returns-clause-second_len : goal.returns-clause-second_len
returns-clause-second_len c =
    let xs = sums c.args.average c.half.result in
    let ys = sums c.args.residual c.tendencies.result in
    let a = length-sums c.args.average c.half.result c.requires.average_len c.half.ensures.len in
    let b = length-sums c.args.residual c.tendencies.result c.requires.residual_len c.tendencies.ensures.len in
    let n = length-zip2 (act2 wrap_sub (s_int w16) (s_int w16) (s_int w16)) xs ys (omega arith) in
    length-map (differences xs ys) (to_z w16) ∙ omega arith

pub returns-clause-first_fits : goal.returns-clause-first_fits
returns-clause-first_fits c =
    Each1-signed (sums c.args.average c.half.result) (Each1-zip2_all (λ x. x < 65536) (act2 wrap_add (s_int w16) (s_int w16) (s_int w16)) (λ a b. omega arith) (map (of_z w16) c.args.average) (map (of_z w16) c.half.result))

pub returns-clause-second_fits : goal.returns-clause-second_fits
returns-clause-second_fits c =
    let xs = sums c.args.average c.half.result in
    let ys = sums c.args.residual c.tendencies.result in
    Each1-signed (differences xs ys) (Each1-zip2_all (λ x. x < 65536) (act2 wrap_sub (s_int w16) (s_int w16) (s_int w16)) (λ a b. omega arith) xs ys)
