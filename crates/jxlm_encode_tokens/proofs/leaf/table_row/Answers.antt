use Rattle.std.proofs.Common.{rules, ◌≡◌, ◌==◌, ◌+ℤ◌, ◌-ℤ◌, Bool, not, map, pos, get_or, arith, refl, sym, ap, ◌∙◌, subst, w32, to_z, of_z, FitsSigned}
use Rattle.jxlm_bits.specs.Numbers.{clamped_gradient}
use Rattle.std.proofs.lemmas.Int.{to_z-of_z}
use Rattle.jxlm_encode_tokens.specs.Inner.Forms.{IsLeafToken}
use Rattle.jxlm_samples.specs.RowNeighbours.{gradient_in, north_west_in, property_9_in, sum_by, west_in}
use Rattle.jxlm_tree.specs.ClusterTables.{table_leaf}
use Rattle.jxlm_ma_tree.specs.declared.leaf.Leaf.{Leaf}
use Rattle.jxlm_encode_tokens.proofs.GradientRows.{above_is, gradient_value, next_north_west, next_west}
use Rattle.jxlm_encode_tokens.proofs.Lists.{mapped_at, written}
use Rattle.jxlm_encode_tokens.proofs.leaf.table_row.Goals as goal

pub kept_token-requires-after_bounds : goal.kept_token-requires-after_bounds
kept_token-requires-after_bounds g c κs within = ap (λ (l : Leaf). l.multiplier) c.leaf_in-leaf.ensures ∙ c.requires.table.1.1.1

pub loop-x-preserved : goal.loop-x-preserved
loop-x-preserved g c =
    let to_int = g.S.Sealed.to_int in
    let w = g.S.Sealed.width in
    let form = g.T.TokenForm.form in
    let A = map to_int c.args.above.now in
    let R = map to_int c.args.row.now in
    let x = c.loop-x.x in
    let v = c.index-row-x.result in
    let row_is = mapped_at to_int c.args.row.now x v (pos 0) c.index-row-x.is c.loop-x-test.true in
    let same = c.loop-x.auto.out in
    let north = above_is to_int c.args.above.now x c.sample_above-n.result c.loop-x.w (west_in A R x) c.sample_above-n.ensures c.loop-x.invariant.w_is in
    let gradient = ap to_int c.grad_clamped.ensures ∙ g.met.S.Sealed.to_int_from_int (clamped_gradient (to_int c.sample_above-n.result) (to_int c.loop-x.w) (to_int c.loop-x.nw)) in
    let fits : FitsSigned w32 c.to_i32.result = search rules in
    let value = gradient_value A R x (to_int c.sample_above-n.result) (to_int c.loop-x.w) (to_int c.loop-x.nw) c.to_i32.result north c.loop-x.invariant.w_is c.loop-x.invariant.nw_is
    (c.to_i32.ensures.value ∙ gradient) fits in
    let t = c.args.table.now in
    let clamped : Bool = not (g.row.CLAMPED == 0) in
    let leaf_is : c.leaf_in-leaf.result ≡ table_leaf t (property_9_in A R clamped x) =
    c.leaf_in-leaf.ensures ∙ ap (λ z. table_leaf t (sum_by clamped (z -ℤ to_int c.loop-x.nw +ℤ to_int c.sample_above-n.result))) c.loop-x.invariant.w_is
    ∙ ap (λ z. table_leaf t (sum_by clamped (west_in A R x -ℤ z +ℤ to_int c.sample_above-n.result))) c.loop-x.invariant.nw_is
    ∙ ap (λ z. table_leaf t (sum_by clamped (west_in A R x -ℤ north_west_in A R x +ℤ z))) north in
    let at_leaf = subst (λ z. IsLeafToken form w c.leaf_in-leaf.result z (get_or R x (pos 0)) c.kept_token.result) (to_z-of_z w32 c.to_i32.result fits ∙ value)
    (subst (λ z. IsLeafToken form w c.leaf_in-leaf.result (to_z w32 (of_z w32 c.to_i32.result)) z c.kept_token.result) (sym row_is) c.kept_token.ensures) in
    let here = subst (λ (l : Leaf). IsLeafToken form w l (gradient_in A R x) (get_or R x (pos 0)) c.kept_token.result) leaf_is at_leaf in
    record {
      tokens = written (λ k u. IsLeafToken form w (table_leaf t (property_9_in A R clamped k)) (gradient_in A R k) (get_or R k (pos 0)) u) c.loop-x.out x c.kept_token.result
          (omega (arith, same, c.requires.long, c.loop-x-test.true)) c.loop-x.invariant.tokens here;
      w_is = next_west A R x (to_int v) row_is;
      nw_is = next_north_west A R x (to_int c.sample_above-nw.result) (to_int v)
          (above_is to_int c.args.above.now x c.sample_above-nw.result v (to_int v) c.sample_above-nw.ensures refl) row_is;
    }
