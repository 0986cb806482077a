use Rattle.std.proofs.Common.{◌∙◌}
use Rattle.jxlmod_commands.proofs.Encodings.{encoded_text, sides_small}
use Rattle.jxlmod_commands.proofs.encoding.encode_text.Goals as goal

pub encode_image-requires-clause-sides : goal.encode_image-requires-clause-sides
encode_image-requires-clause-sides g c κs within =
    rw c.deref.ensures.value (sides_small g.S.Sealed.to_int g.S.Sealed.width c.args.text.now c.in_ok-channels.channels.items c.in_ok-channels.ensures.ok)

pub returns : goal.returns
returns g c =
    let none = c.in_ok-encode_image.ensures.none in
    let some = c.in_ok-encode_image.ensures.some in
    encoded_text g.S.Sealed.to_int g.S.Sealed.width c.args.text.now c.in_ok-channels.channels.items c.in_ok-channels.ensures.ok c.args.format c.in_ok-encode_image.field-0.items
    c.each_tree_is_read_exactly.ensures.exactly c.each_tree_is_read_exactly-2.ensures.exactly
    (λ e. (none (c.deref.ensures.value ∙ e)).1) (λ other. rw c.deref.ensures.value at (some (rw c.deref.ensures.value other)))
