use Rattle.std.proofs.Common.{◌≡◌, ◌*◌, Ok, arith}
use Rattle.std.proofs.Math.Nat.{mul_comm}
use Rattle.jxlm_bits.specs.Bits.{bytes_of, position_of}
use Rattle.jxlm_bits.proofs.TokenLaws.{exact-chained}
use Rattle.jxlm_bits.specs.Tokens.{After}
use Rattle.jxlm_bits.specs.Turns.{chain}
use Rattle.jxl_patches.specs.Dictionaries.{patches_of}
use Rattle.jxl_patches.specs.Patches.{Patches, one_place}
use Rattle.jxl_patches.proofs.Bounding.{places_add}
use Rattle.jxl_patches.proofs.PatchLaws.{exact-one_place}
use Rattle.jxl_patches.proofs.dictionary.one_rectangle.Goals as goal

pub returns-clause-counted : goal.returns-clause-counted
returns-clause-counted g c =
    let d = g.D.Decoder.meaning in
    let size = c.args.frame.size in
    let kinds = c.args.frame.kinds in
    let a = patches_of c.args.growing.now in
    let r = c.in_ok-rectangle.rectangle in
    let first = c.len-done.result in
    let n = c.in_ok-counted.counted.places in
    let s = c.place_count.new.decoder in
    let bytes = bytes_of c.place_count.new.bits in
    let from = position_of c.place_count.new.bits in
    let b : After _ Patches = record { value = patches_of c.places.new.growing; state = c.places.new.decoder } in
    let q = position_of c.places.new.bits in
    let exact = exact-chained (one_place d size kinds first r) (exact-one_place d size kinds first r) n a s in
    let read : (chain (one_place d size kinds first r) n a s).read bytes from ≡ Ok (record { value = b; position = q }) = c.in_ok-places.ensures.gives in
    let adds = places_add d size kinds first r n a s b bytes from q (exact.read_stands bytes from (record { value = b; position = q }) read) in
    let turned = mul_comm n (r.width * r.height) in
    omega (arith, adds, turned, c.requires.counted, c.in_ok-counted.ensures.cells)
