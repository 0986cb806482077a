use Rattle.std.proofs.Common.{◌∙◌, refl, rules}
use Rattle.std.proofs.lemmas.Result.{err_from_is_err_and}
use Rattle.jxl_image_header.specs.Channels.{extra_channel}
use Rattle.jxl_image_header.proofs.channel.ExtraChannel.parse.Goals as goal

pub returns : goal.returns
unfolding extra_channel
returns c =
    let b1 = c.read_bool.ensures.bytes in
    let b2 = c.parse.ensures.bytes ∙ b1 in
    let b3 = c.parse-2.ensures.bytes ∙ b2 in
    let b4 = c.read_u32.ensures.bytes ∙ b3 in
    let b5 = c.name.ensures.bytes ∙ b4 in
    let b6 = c.premultiplied.ensures.bytes ∙ b5 in
    let b7 = c.spot_colour.ensures.bytes ∙ b6 in
    record { gives = rw (c.in_ok-read_bool.ensures.gives, c.if-branch.false, (rw b1 at c.in_ok-kind.ensures.gives), (rw b2 at c.in_ok-depth.ensures.gives), (rw b3 at c.in_ok-shift.ensures.gives), (rw b4 at c.in_ok-name_bytes.ensures.gives), (rw b5 at c.in_ok-premultiplied.ensures.gives), (rw b6 at c.in_ok-spot_colour.ensures.gives), (rw b7 at c.in_ok-filter_channel.ensures.gives)) refl; bytes = search rules }

pub returns-in_err-filter_channel : goal.returns-in_err-filter_channel
unfolding extra_channel
returns-in_err-filter_channel c =
    let p = err_from_is_err_and c.from_residual-in_err-filter_channel.result c.from_residual-in_err-filter_channel.ensures.1 in
    let b1 = c.read_bool.ensures.bytes in
    let b2 = c.parse.ensures.bytes ∙ b1 in
    let b3 = c.parse-2.ensures.bytes ∙ b2 in
    let b4 = c.read_u32.ensures.bytes ∙ b3 in
    let b5 = c.name.ensures.bytes ∙ b4 in
    let b6 = c.premultiplied.ensures.bytes ∙ b5 in
    let b7 = c.spot_colour.ensures.bytes ∙ b6 in
    record { gives = rw (p.1, p.2, c.in_ok-read_bool.ensures.gives, c.if-branch.false, (rw b1 at c.in_ok-kind.ensures.gives), (rw b2 at c.in_ok-depth.ensures.gives), (rw b3 at c.in_ok-shift.ensures.gives), (rw b4 at c.in_ok-name_bytes.ensures.gives), (rw b5 at c.in_ok-premultiplied.ensures.gives), (rw b6 at c.in_ok-spot_colour.ensures.gives), (rw b7 at c.in_err-filter_channel.ensures.gives)) refl; bytes = search rules }
