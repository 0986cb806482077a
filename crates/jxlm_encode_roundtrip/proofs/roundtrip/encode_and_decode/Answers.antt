use Rattle.std.proofs.Common.{ℕ, List, map, subst}
use Rattle.jxlm_bits.specs.ErrorKind.{kind_of}
use Rattle.jxlm_base.specs.Regions.{store_meanings}
use Rattle.jxlm_plain.specs.Plain.{plain}
use Rattle.jxlm_encode_write.specs.Headers.{transform_of}
use Rattle.jxlm_encode.specs.Bytes.{AreBytesOf}
use Rattle.jxlm_encode_roundtrip.specs.Inner.Decoded.{IsDecoded, IsNotDecoded}
use Rattle.jxlm_encode_roundtrip.proofs.Decoding.{memory_alone, read_back, same_again}
use Rattle.jxlm_encode_roundtrip.proofs.roundtrip.encode_and_decode.Goals as goal

pub returns-in-Ok-clause-same : goal.returns-in-Ok-clause-same
returns-in-Ok-clause-same g c =
    let image = store_meanings g.S.Sealed.to_int c.args.channels.now in
    same_again plain c.each_tree_is_read_exactly.ensures.exactly g.S.Sealed.to_int g.S.Sealed.from_int g.met.S.Sealed.from_int_to_int g.S.Sealed.width (map transform_of c.args.transforms.now) c.args.tree.now c.args.channels.now c.in_ok-bytes.bytes.items c.in_ok-bytes.ensures.ok c.args.bit_depth
    c.in-Ok.grids.items
    (subst (λ (bytes : List ℕ). IsDecoded plain g.S.Sealed.width bytes c.args.bit_depth image (store_meanings g.S.Sealed.to_int c.in-Ok.grids.items)) c.deref.ensures.value c.in-Ok.ensures.ok)

pub returns-in-Ok-clause-read : goal.returns-in-Ok-clause-read
returns-in-Ok-clause-read g c =
    let image = store_meanings g.S.Sealed.to_int c.args.channels.now in
    read_back plain (AreBytesOf (map transform_of c.args.transforms.now) c.args.tree.now image) g.S.Sealed.to_int g.S.Sealed.width c.args.channels.now c.in-Ok.grids.items c.in_ok-bytes.bytes.items c.args.bit_depth
    c.in_ok-bytes.ensures.bytes
    (subst (λ (bytes : List ℕ). IsDecoded plain g.S.Sealed.width bytes c.args.bit_depth image (store_meanings g.S.Sealed.to_int c.in-Ok.grids.items)) c.deref.ensures.value c.in-Ok.ensures.ok)

pub returns-clause-err : goal.returns-clause-err
returns-clause-err g c =
    let image = store_meanings g.S.Sealed.to_int c.args.channels.now in
    memory_alone plain c.each_tree_is_read_exactly.ensures.exactly g.S.Sealed.to_int g.S.Sealed.from_int g.met.S.Sealed.from_int_to_int g.S.Sealed.width (map transform_of c.args.transforms.now) c.args.tree.now c.args.channels.now c.in_ok-bytes.bytes.items c.in_ok-bytes.ensures.ok c.args.bit_depth
    (kind_of c.in-Err.error) (subst (λ (bytes : List ℕ). IsNotDecoded plain g.S.Sealed.width bytes image (kind_of c.in-Err.error)) c.deref.ensures.value c.in-Err.ensures.err)
