use Rattle.std.proofs.Common.{◌≡◌, [], length, refl}
use Rattle.std.specs.Prelude.{◌≢◌, None}
use Rattle.std.specs.Option.{option_copied}
use Rattle.std.proofs.lemmas.Result.{err_from_is_err_and}
use Rattle.jxlm_bits.specs.Bits.{bytes_of, position_of}
use Rattle.jxlm_base.specs.Regions.{store_meanings}
use Rattle.jxlm_transform.specs.Channels.{image_list}
use Rattle.jxlm_encode.specs.Encoded.{given_list}
use Rattle.jxlm_encode_roundtrip.proofs.Decoding.{fails_to_decode}
use Rattle.jxlm_encode_roundtrip.proofs.roundtrip.decoded.Goals as goal

pub returns-in_err-image-clause-err : goal.returns-in_err-image-clause-err
returns-in_err-image-clause-err g c =
    let e = err_from_is_err_and c.from_residual-in_err-image.result c.from_residual-in_err-image.ensures.1 in
    let params = c.without_tree-params.result in
    let are : image_list params.channels.items ≡ given_list (store_meanings g.S.Sealed.to_int c.args.grids.now) = rw c.without_tree-params.ensures c.in_ok-list.ensures.list in
    let count : length params.channels.items ≡ length c.args.grids.now = rw c.without_tree-params.ensures c.in_ok-list.ensures.count in
    let some : params.channels.items ≢ [] = λ none. let wrong = c.in_err-image.ensures.none.1 none in cc in
    rw (e.1, e.2)
    (fails_to_decode g.D.Decoder.meaning g.S.Sealed.to_int g.S.Sealed.width c.args.grids.now c.args.bytes.now (bytes_of c.new-bits.result) (position_of c.new-bits.result) params.channels.items (image_list params.channels.items) (option_copied params.ma_config)
    c.new-bits.ensures.bytes c.new-bits.ensures.position count are (rw c.without_tree-params.ensures (refl {a = None})) _ (position_of c.decode_picture.new.bits) c.new.result c.decode_picture.new.steps some c.in_err-image.ensures.err)
