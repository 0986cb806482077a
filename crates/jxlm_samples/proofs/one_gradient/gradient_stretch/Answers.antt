use Rattle.std.proofs.Common.{false, ◌+◌, ◌≤◌, arith, length, map, refl}
use Rattle.std.proofs.lemmas.List.{length-map}
use Rattle.jxlm_samples.specs.Inner.Paths.{gradient_rule}
use Rattle.jxlm_samples.specs.declared.gradient.Leaves.TheVariants.{One}
use Rattle.jxlm_samples.proofs.Stretches.{stretch_fails, stretch_read}
use Rattle.jxlm_samples.proofs.one_gradient.gradient_stretch.Goals as goal

pub returns-in-Ok : goal.returns-in-Ok
returns-in-Ok g c =
    let d = g.D.Decoder.meaning in
    stretch_read d g.met.D.Decoder.lawful (λ bytes. gradient_rule d g.S.Sealed.width false bytes c.args.widest (One c.args.leaf) (map g.S.Sealed.to_int c.args.above.now)) c.args.leaf.cluster c.args.widest (λ bytes r s p. refl) _ _ c.args.from _ c.args.source.now _ c.requires.cluster
    c.in-Ok.ensures.bytes refl _ c.read_varints_with_multiplier_clustered.auto.tokens (λ bytes. c.gradient_samples.ensures c.args.leaf c.requires.plain) c.in-Ok.ensures.gives

pub returns-in-Err : goal.returns-in-Err
returns-in-Err g c =
    let d = g.D.Decoder.meaning in
    let same = c.gradient_samples-in-Err.auto.row in
    let kept = c.read_varints_with_multiplier_clustered.auto.tokens in
    let inside : c.args.from + length c.read_varints_with_multiplier_clustered.new.tokens ≤ length (map g.S.Sealed.to_int c.gradient_samples-in-Err.new.row) = omega (arith, same, kept, c.requires.inside, length-map c.gradient_samples-in-Err.new.row g.S.Sealed.to_int) in
    stretch_fails d g.met.D.Decoder.lawful (λ bytes. gradient_rule d g.S.Sealed.width false bytes c.args.widest (One c.args.leaf) (map g.S.Sealed.to_int c.args.above.now)) c.args.leaf.cluster c.args.widest (λ bytes r s p. refl) _ _ c.args.from _ c.args.source.now _ c.requires.cluster
    c.in-Err.ensures.bytes refl (length c.args.tokens.now) _ c.in-Err.ended (λ bytes. c.gradient_samples-in-Err.ensures c.args.leaf c.requires.plain) inside c.in-Err.ensures.gives
