use Rattle.std.proofs.Common.{◌≡◌, ◌+◌, ◌<◌, ◌∙◌, arith, length, map, refl, rules, ap, w32, FitsSigned}
use Rattle.std.proofs.lemmas.Int.{to_z-of_z}
use Rattle.std.proofs.lemmas.List.{length-map}
use Rattle.jxlm_weighted.specs.Neighbours.{Neighbours}
use Rattle.jxlm_samples.proofs.LeafCells.{leaf_sample, left_written}
use Rattle.jxlm_samples.proofs.Stretches.{cells_more}
use Rattle.jxlm_samples.proofs.one_leaf.leaf_samples.Goals as goal

pub loop-k-init : goal.loop-k-init
loop-k-init g c =
    let here : c.args.from ≡ c.args.from + 0 = omega arith in
    record { len = refl; made = record { before = refl; cells = λ k l. absurd (omega arith) }; left = rw here at c.of-left.ensures }

pub loop-k-preserved : goal.loop-k-preserved
loop-k-preserved g c =
    let to_int = g.S.Sealed.to_int in
    let h = c.loop-k.invariant in
    let same = h.len in
    let inside : c.args.from + c.loop-k.k < length c.loop-k.row = omega (arith, same, c.loop-k-test.true, c.requires.inside) in
    let in_row : c.args.from + c.loop-k.k < length (map to_int c.loop-k.row) = let m = length-map c.loop-k.row to_int in omega (arith, m, inside) in
    let next : c.args.from + c.loop-k.k + 1 ≡ c.args.from + (c.loop-k.k + 1) = omega arith in
    let around = c.around-around.ensures (map to_int c.loop-k.row) h.left in
    let fp : FitsSigned w32 c.predict_around-predicted.result = search rules in
    let fn : FitsSigned w32 c.around-around.result.n = search rules in
    let fv : FitsSigned w32 c.to_i32.result = search rules in
    let predicted = to_z-of_z w32 c.predict_around-predicted.result fp ∙ c.predict_around-predicted.ensures in
    let up = to_z-of_z w32 c.around-around.result.n fn ∙ ap (λ (a : Neighbours). a.n) around in
    let value = to_z-of_z w32 c.to_i32.result fv ∙ c.to_i32.ensures.value in
    record {
      len = search rules;
      made = cells_more _ _ _ _ _ _ _ _ inside h.made
          (leaf_sample _ _ _ to_int g.S.Sealed.from_int g.met.S.Sealed.to_int_from_int g.S.Sealed.width c.args.leaf _ in_row _ around c.args.predictor c.requires.same _ predicted _ _ c.sample_from-value.ensures);
      left = rw next at (left_written to_int _ c.loop-k.row _ _ _ _ value (c.next-left.ensures (map to_int c.loop-k.row) in_row h.left up));
    }

pub returns : goal.returns
returns g c =
    let end = c.loop-k.auto.k-end in
    let all : c.loop-k.k ≡ c.args.count = omega (arith, end, c.loop-k-test.false) in
    rw all at c.loop-k.invariant.made
