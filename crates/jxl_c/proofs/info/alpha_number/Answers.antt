use Rattle.std.proofs.Common.{◌≡◌, get_or, false, true, sym, ap, ◌∙◌, arith, rules}
use Rattle.jxl_image_header.specs.declared.channel.ExtraChannel.{ExtraChannel}
use Rattle.jxl_image_header.specs.declared.channel.ExtraChannelKind.TheVariants.{Alpha}
use Rattle.jxl_picture.specs.Pictures.{is_full_alpha}
use Rattle.jxl_c.specs.Infos.{alpha_among}
use Rattle.jxl_c.proofs.Alphas.{alpha_here, alpha_later, alpha_none}
use Rattle.jxl_c.proofs.info.alpha_number.Goals as goal

pub loop-k-init : goal.loop-k-init
loop-k-init c = ap (λ n. alpha_among n c.args.extra.now) (omega arith)

pub loop-k-preserved : goal.loop-k-preserved
loop-k-preserved c =
    let cs = c.args.extra.now in
    let k = c.loop-k.k in
    let usual : ExtraChannel = record { kind = Alpha; bit_depth = record { bits_per_sample = 0; exp_bits = 0 }; dim_shift = 0; name_len = 0; alpha_associated = false } in
    let other : is_full_alpha (get_or cs k usual) ≡ false = search rules in
    c.loop-k.invariant ∙ alpha_later c.args.colours cs k usual (omega arith) other

pub returns-then-is_full_alpha-clause-gives : goal.returns-then-is_full_alpha-clause-gives
returns-then-is_full_alpha-clause-gives c =
    let cs = c.args.extra.now in
    let k = c.loop-k.k in
    let usual : ExtraChannel = record { kind = Alpha; bit_depth = record { bits_per_sample = 0; exp_bits = 0 }; dim_shift = 0; name_len = 0; alpha_associated = false } in
    let here : is_full_alpha (get_or cs k usual) ≡ true = search rules in
    sym (c.loop-k.invariant ∙ alpha_here c.args.colours cs k usual (omega arith) here)

pub returns-clause-gives : goal.returns-clause-gives
returns-clause-gives c = sym (c.loop-k.invariant ∙ alpha_none c.args.colours c.args.extra.now c.loop-k.k c.loop-k-test.false)
