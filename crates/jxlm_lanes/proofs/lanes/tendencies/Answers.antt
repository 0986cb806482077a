use Rattle.std.proofs.Common.{◌≡◌, ◌∙◌, ap, sym, subst, ℕ, ℤ, pos, List, map, get_or, FitsSigned, arith, cond, w16, of_z, to_z, int_le, unsigned_abs, ◌-ℤ◌, ◌<◌, ◌+◌}
use Rattle.std.proofs.lemmas.Simd.{Each1-get_or, length-zip2}
use Rattle.std.proofs.lemmas.List.{length-map, get_or-map}
use lib.Lanes.{Each1, zip2}
use mir.Syntax.{wrap_sub}
use borrow.Table.Row.{s_int}
use borrow.Rule.Simd.Lanes.{act2}
use Rattle.jxlm_lanes.specs.Squeeze.{slope}
use Rattle.jxlm_lanes.specs.Inner.Lanes.{lane}
use Rattle.jxlm_lanes.proofs.Each.{same_numbers, Each1-signed, Each1-zip2_all, lane_of_two}
use Rattle.jxlm_lanes.proofs.Tendencies.{tendency_by}
use Rattle.jxlm_lanes.proofs.lanes.tendencies.Goals as goal

abbrev minus : ℕ → ℕ → ℕ
minus = act2 wrap_sub (s_int w16) (s_int w16) (s_int w16)

again : (xs : List ℤ) → Each1 (FitsSigned w16) xs → Each1 (FitsSigned w16) (map (to_z w16) (map (of_z w16) xs))
again xs h = subst (Each1 (FitsSigned w16)) (sym (same_numbers w16 xs h)) h

pub gap-requires-clause-a_fit : goal.gap-requires-clause-a_fit
gap-requires-clause-a_fit c = again c.args.a c.requires.a_fit

pub gap-requires-clause-b_fit : goal.gap-requires-clause-b_fit
gap-requires-clause-b_fit c = again c.args.b c.requires.b_fit

pub gap-requires-2-clause-a_fit : goal.gap-requires-2-clause-a_fit
gap-requires-2-clause-a_fit c = again c.args.b c.requires.b_fit

pub gap-requires-2-clause-b_fit : goal.gap-requires-2-clause-b_fit
gap-requires-2-clause-b_fit c = again c.args.c c.requires.c_fit

pub none_below-requires-clause-a_fit : goal.none_below-requires-clause-a_fit
none_below-requires-clause-a_fit c = again c.args.b c.requires.b_fit

pub none_below-requires-clause-b_fit : goal.none_below-requires-clause-b_fit
none_below-requires-clause-b_fit c = again c.args.c c.requires.c_fit

pub none_below-fall-requires-clause-a_fit : goal.none_below-fall-requires-clause-a_fit
none_below-fall-requires-clause-a_fit c = again c.args.a c.requires.a_fit

pub none_below-fall-requires-clause-b_fit : goal.none_below-fall-requires-clause-b_fit
none_below-fall-requires-clause-b_fit c = again c.args.b c.requires.b_fit

pub none_below-requires-2-clause-a_fit : goal.none_below-requires-2-clause-a_fit
none_below-requires-2-clause-a_fit c = again c.args.c c.requires.c_fit

pub none_below-requires-2-clause-b_fit : goal.none_below-requires-2-clause-b_fit
none_below-requires-2-clause-b_fit c = again c.args.b c.requires.b_fit

pub none_below-rise-requires-clause-a_fit : goal.none_below-rise-requires-clause-a_fit
none_below-rise-requires-clause-a_fit c = again c.args.b c.requires.b_fit

pub none_below-rise-requires-clause-b_fit : goal.none_below-rise-requires-clause-b_fit
none_below-rise-requires-clause-b_fit c = again c.args.a c.requires.a_fit

pub none_below-requires-clause-kept_fit : goal.none_below-requires-clause-kept_fit
none_below-requires-clause-kept_fit c = again c.signed-slope.result c.signed-slope.ensures.fit

pub none_below-fall-requires-clause-kept_fit : goal.none_below-fall-requires-clause-kept_fit
none_below-fall-requires-clause-kept_fit c = again c.none_below.result c.none_below.ensures.fit

pub none_below-requires-2-clause-kept_fit : goal.none_below-requires-2-clause-kept_fit
none_below-requires-2-clause-kept_fit c = again c.signed-slope.result c.signed-slope.ensures.fit

pub none_below-rise-requires-clause-kept_fit : goal.none_below-rise-requires-clause-kept_fit
none_below-rise-requires-clause-kept_fit c = again c.none_below-2.result c.none_below-2.ensures.fit

abbrev back : List ℤ → List ℤ
back xs = map (to_z w16) (map (of_z w16) xs)

pub returns-clause-value : goal.returns-clause-value
returns-clause-value c j lt =
    let la = c.requires.a_len in
    let lb = c.requires.b_len in
    let ld = c.requires.c_len in
    let ls = c.slopes.ensures.len in
    let lf = c.none_below-fall.ensures.len in
    let lr = c.none_below-rise.ensures.len in
    let a = lane c.args.a j in
    let b = lane c.args.b j in
    let d = lane c.args.c j in
    let n = get_or c.slopes.result j 0 in
    let s = lane c.signed-slope.result j in
    let fa : FitsSigned w16 a = Each1-get_or (FitsSigned w16) c.args.a j (pos 0) (omega arith) c.requires.a_fit in
    let fb : FitsSigned w16 b = Each1-get_or (FitsSigned w16) c.args.b j (pos 0) (omega arith) c.requires.b_fit in
    let fd : FitsSigned w16 d = Each1-get_or (FitsSigned w16) c.args.c j (pos 0) (omega arith) c.requires.c_fit in
    let at_a : lane (back c.args.a) j ≡ a = ap (λ l. lane l j) (same_numbers w16 c.args.a c.requires.a_fit) in
    let at_b : lane (back c.args.b) j ≡ b = ap (λ l. lane l j) (same_numbers w16 c.args.b c.requires.b_fit) in
    let at_d : lane (back c.args.c) j ≡ d = ap (λ l. lane l j) (same_numbers w16 c.args.c c.requires.c_fit) in
    let at_s : lane (back c.signed-slope.result) j ≡ s = ap (λ l. lane l j) (same_numbers w16 c.signed-slope.result c.signed-slope.ensures.fit) in
    let s_is : s ≡ to_z w16 n = ap (λ l. lane l j) c.signed-slope.ensures.value ∙ get_or-map (to_z w16) c.slopes.result j 0 (pos 0) (omega arith) in
    let p_is : get_or c.gap.result j 0 ≡ unsigned_abs (a -ℤ b) = c.gap.ensures.value j lt ∙ ap (λ z. unsigned_abs (z -ℤ lane (back c.args.b) j)) at_a ∙ ap (λ z. unsigned_abs (a -ℤ z)) at_b in
    let q_is : get_or c.gap-2.result j 0 ≡ unsigned_abs (b -ℤ d) = c.gap-2.ensures.value j lt ∙ ap (λ z. unsigned_abs (z -ℤ lane (back c.args.c) j)) at_b ∙ ap (λ z. unsigned_abs (b -ℤ z)) at_d in
    let n_is : unsigned_abs (a -ℤ b) + unsigned_abs (b -ℤ d) < 65536 → n ≡ slope (unsigned_abs (a -ℤ b)) (unsigned_abs (b -ℤ d)) = λ h.
    c.slopes.ensures.value j lt (omega (arith, h, p_is, q_is)) ∙ ap (λ p. slope p (get_or c.gap-2.result j 0)) p_is ∙ ap (slope (unsigned_abs (a -ℤ b))) q_is in
    let f1 : lane c.none_below.result j ≡ cond (int_le d b) s (pos 0) =
    c.none_below.ensures.value j lt
    ∙ ap (λ z. cond (int_le z (lane (back c.args.b) j)) (lane (back c.signed-slope.result) j) (pos 0)) at_d
    ∙ ap (λ z. cond (int_le d z) (lane (back c.signed-slope.result) j) (pos 0)) at_b
    ∙ ap (λ z. cond (int_le d b) z (pos 0)) at_s in
    let f2 : lane c.none_below-fall.result j ≡ cond (int_le b a) (cond (int_le d b) s (pos 0)) (pos 0) =
    c.none_below-fall.ensures.value j lt
    ∙ ap (λ z. cond (int_le z (lane (back c.args.a) j)) (lane (back c.none_below.result) j) (pos 0)) at_b
    ∙ ap (λ z. cond (int_le b z) (lane (back c.none_below.result) j) (pos 0)) at_a
    ∙ ap (λ z. cond (int_le b a) z (pos 0)) (ap (λ l. lane l j) (same_numbers w16 c.none_below.result c.none_below.ensures.fit) ∙ f1) in
    let r1 : lane c.none_below-2.result j ≡ cond (int_le b d) s (pos 0) =
    c.none_below-2.ensures.value j lt
    ∙ ap (λ z. cond (int_le z (lane (back c.args.c) j)) (lane (back c.signed-slope.result) j) (pos 0)) at_b
    ∙ ap (λ z. cond (int_le b z) (lane (back c.signed-slope.result) j) (pos 0)) at_d
    ∙ ap (λ z. cond (int_le b d) z (pos 0)) at_s in
    let r2 : lane c.none_below-rise.result j ≡ cond (int_le a b) (cond (int_le b d) s (pos 0)) (pos 0) =
    c.none_below-rise.ensures.value j lt
    ∙ ap (λ z. cond (int_le z (lane (back c.args.b) j)) (lane (back c.none_below-2.result) j) (pos 0)) at_a
    ∙ ap (λ z. cond (int_le a z) (lane (back c.none_below-2.result) j) (pos 0)) at_b
    ∙ ap (λ z. cond (int_le a b) z (pos 0)) (ap (λ l. lane l j) (same_numbers w16 c.none_below-2.result c.none_below-2.ensures.fit) ∙ r1) in
    lane_of_two w16 minus c.none_below-fall.result c.none_below-rise.result j (omega arith) (omega arith)
    ∙ ap (λ z. to_z w16 (minus (of_z w16 z) (of_z w16 (lane c.none_below-rise.result j)))) f2
    ∙ ap (λ z. to_z w16 (minus (of_z w16 (cond (int_le b a) (cond (int_le d b) s (pos 0)) (pos 0))) (of_z w16 z))) r2
    ∙ tendency_by a b d fa fb fd n s n_is s_is

pub returns-clause-len : goal.returns-clause-len
returns-clause-len c =
    let lf = c.none_below-fall.ensures.len in
    let lr = c.none_below-rise.ensures.len in
    let mf = length-map c.none_below-fall.result (of_z w16) in
    let mr = length-map c.none_below-rise.result (of_z w16) in
    let n = length-zip2 minus (map (of_z w16) c.none_below-fall.result) (map (of_z w16) c.none_below-rise.result) (omega arith) in
    length-map (zip2 minus (map (of_z w16) c.none_below-fall.result) (map (of_z w16) c.none_below-rise.result)) (to_z w16) ∙ omega arith

pub returns-clause-fit : goal.returns-clause-fit
returns-clause-fit c =
    Each1-signed (zip2 minus (map (of_z w16) c.none_below-fall.result) (map (of_z w16) c.none_below-rise.result))
    (Each1-zip2_all (λ x. x < 65536) minus (λ a b. omega arith) (map (of_z w16) c.none_below-fall.result) (map (of_z w16) c.none_below-rise.result))
