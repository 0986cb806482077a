use Rattle.std.proofs.Common.{rules, ◌≡◌, ◌∙◌, subst, w32, FitsSigned}
use Rattle.std.proofs.lemmas.Int.{to_z-of_z}
use Rattle.jxlm_base.specs.Regions.{store_meanings}
use Rattle.jxlm_ma_tree.specs.declared.leaf.Leaf.{Leaf}
use Rattle.jxlm_tree.proofs.FlatTrees.{standing_leaf}
use Rattle.jxlm_predictor.specs.Holding.{state_of}
use Rattle.jxlm_predictor.specs.Predictions.{prediction}
use Rattle.jxlm_predictor.specs.Standing.{StandsAt}
use Rattle.jxlm_samples.specs.CellLeaves.{leaf_at}
use Rattle.jxlm_encode_tokens.specs.Tokens.{MultipliesByOne}
use Rattle.jxlm_encode_tokens.specs.Inner.Forms.{IsLeafToken}
use Rattle.jxlm_encode_tokens.proofs.Cells.{room_so, stands_so}
use Rattle.jxlm_encode_tokens.proofs.rows.next_token.Goals as goal

pub kept_token-requires-after_bounds : goal.kept_token-requires-after_bounds
kept_token-requires-after_bounds g c κs within = standing_leaf MultipliesByOne c.args.flat.now.tree c.leaf_of-leaf.result c.requires.ones c.leaf_of-leaf.ensures.stands

pub returns-clause-token : goal.returns-clause-token
returns-clause-token g c s samples stands =
    let w = g.S.Sealed.width in
    let to_int = g.S.Sealed.to_int in
    let form = g.T.TokenForm.form in
    let properties = c.properties_by_rows-properties.result in
    let held : StandsAt (state_of properties) s samples = rw c.properties_by_rows-properties.ensures.unchanged stands in
    let leaf_there = c.leaf_of-leaf.ensures.leaf s samples held in
    let leaf_is : c.leaf_of-leaf.result ≡ leaf_at c.args.line.now.clamped c.args.flat.now s (store_meanings to_int c.args.line.now.store.now) samples =
    subst (λ st. c.leaf_of-leaf.result ≡ leaf_at c.args.line.now.clamped c.args.flat.now s (store_meanings to_int st) samples) c.properties_by_rows-properties.ensures.store leaf_there in
    let fits : FitsSigned w32 c.predict-predicted.result = search rules in
    let predicted_is = to_z-of_z w32 c.predict-predicted.result fits ∙ c.predict-predicted.ensures s samples held in
    subst (λ (k : Leaf). IsLeafToken form w k (prediction s.weights samples s.width k.predictor) (to_int c.args.sample) c.kept_token.result) leaf_is
    (subst (λ z. IsLeafToken form w c.leaf_of-leaf.result z (to_int c.args.sample) c.kept_token.result) predicted_is c.kept_token.ensures)

pub returns-clause-stands : goal.returns-clause-stands
returns-clause-stands g c s samples stands =
    let fits : FitsSigned w32 c.to_i32.result = search rules in
    let sample = to_z-of_z w32 c.to_i32.result fits ∙ c.to_i32.ensures.value in
    let after_it = rw sample at (c.record.ensures.stands s samples (rw c.properties_by_rows-properties.ensures.unchanged stands)) in
    stands_so s _ _ _ (search rules) after_it

pub returns-clause-room : goal.returns-clause-room
returns-clause-room g c =
    let same = rw c.properties_by_rows-properties.ensures.unchanged at c.record.ensures.room in
    room_so c.args.walk.now.state _ _ (search rules) same
