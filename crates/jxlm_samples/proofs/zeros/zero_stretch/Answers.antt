use Rattle.std.proofs.Common.{◌+◌, ◌≤◌, arith, length, map, refl}
use Rattle.std.proofs.lemmas.List.{length-map}
use Rattle.jxlm_samples.specs.Inner.Paths.{zero_rule}
use Rattle.jxlm_samples.proofs.Stretches.{stretch_fails, stretch_read}
use Rattle.jxlm_samples.proofs.zeros.zero_stretch.Goals as goal

pub returns-in-Ok : goal.returns-in-Ok
returns-in-Ok g c =
    let d = g.D.Decoder.meaning in
    stretch_read d g.met.D.Decoder.lawful (λ bytes. zero_rule d g.S.Sealed.width bytes c.args.widest c.args.leaf) c.args.leaf.cluster c.args.widest (λ bytes r s p. refl) _ _ c.args.from _ c.args.source.now _ c.requires.cluster
    c.in-Ok.ensures.bytes refl _ c.read_varints_with_multiplier_clustered.auto.tokens (λ bytes. c.zero_samples.ensures) c.in-Ok.ensures.gives

pub returns-in-Err : goal.returns-in-Err
returns-in-Err g c =
    let d = g.D.Decoder.meaning in
    let same = c.zero_samples-in-Err.auto.row in
    let kept = c.read_varints_with_multiplier_clustered.auto.tokens in
    let inside : c.args.from + length c.read_varints_with_multiplier_clustered.new.tokens ≤ length (map g.S.Sealed.to_int c.zero_samples-in-Err.new.row) = omega (arith, same, kept, c.requires.inside, length-map c.zero_samples-in-Err.new.row g.S.Sealed.to_int) in
    stretch_fails d g.met.D.Decoder.lawful (λ bytes. zero_rule d g.S.Sealed.width bytes c.args.widest c.args.leaf) c.args.leaf.cluster c.args.widest (λ bytes r s p. refl) _ _ c.args.from _ c.args.source.now _ c.requires.cluster
    c.in-Err.ensures.bytes refl (length c.args.tokens.now) _ c.in-Err.ended (λ bytes. c.zero_samples-in-Err.ensures) inside c.in-Err.ensures.gives
