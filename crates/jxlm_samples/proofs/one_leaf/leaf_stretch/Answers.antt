use Rattle.std.proofs.Common.{◌+◌, ◌≤◌, arith, length, map, refl}
use Rattle.std.proofs.lemmas.List.{length-map}
use Rattle.jxlm_samples.specs.Inner.LeafRows.{rule_below}
use Rattle.jxlm_samples.proofs.Stretches.{stretch_fails, stretch_read}
use Rattle.jxlm_samples.proofs.one_leaf.leaf_stretch.Goals as goal

pub returns-in-Ok : goal.returns-in-Ok
returns-in-Ok g c =
    let d = g.D.Decoder.meaning in
    stretch_read d g.met.D.Decoder.lawful (λ bytes. rule_below g.S.Sealed.to_int g.S.Sealed.width c.args.leaf c.args.above d bytes c.args.widest) c.args.leaf.cluster c.args.widest (λ bytes r s p. refl) _ _ c.args.from _ c.args.source.now _ c.requires.cluster
    c.in-Ok.ensures.bytes refl _ c.read_varints_with_multiplier_clustered.auto.tokens (λ bytes. c.samples.ensures) c.in-Ok.ensures.gives

pub returns-in-Err : goal.returns-in-Err
returns-in-Err g c =
    let d = g.D.Decoder.meaning in
    let to_int = g.S.Sealed.to_int in
    let same = c.samples-in-Err.auto.row in
    let kept = c.read_varints_with_multiplier_clustered.auto.tokens in
    let inside : c.args.from + length c.read_varints_with_multiplier_clustered.new.tokens ≤ length (map to_int c.samples-in-Err.new.row) = omega (arith, same, kept, c.requires.inside, length-map c.samples-in-Err.new.row to_int) in
    stretch_fails d g.met.D.Decoder.lawful (λ bytes. rule_below to_int g.S.Sealed.width c.args.leaf c.args.above d bytes c.args.widest) c.args.leaf.cluster c.args.widest (λ bytes r s p. refl) _ _ c.args.from _ c.args.source.now _ c.requires.cluster
    c.in-Err.ensures.bytes refl (length c.args.tokens.now) _ c.in-Err.ended (λ bytes. c.samples-in-Err.ensures) inside c.in-Err.ensures.gives
