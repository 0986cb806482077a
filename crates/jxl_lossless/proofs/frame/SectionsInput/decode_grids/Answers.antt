use Rattle.std.proofs.Common.{◌≡◌, ℤ, List, length, take, sym, ◌∙◌, subst}
use Rattle.std.specs.Int.{w32}
use Rattle.jxlm_bits.specs.Bits.{bytes_of, position_of}
use Rattle.jxlm_base.specs.Grid.{Grid}
use Rattle.jxlm_base.specs.Regions.{store_meanings}
use Rattle.jxlm_transform.specs.Channels.{AreGridsOf}
use Rattle.jxl_lossless.specs.Inner.Inputs.{CodedOf, given_of}
use Rattle.jxl_lossless.proofs.Channels.{same_grids}
use Rattle.jxl_lossless.proofs.frame.SectionsInput.decode_grids.Goals as goal

pub returns-clause-ok : goal.returns-clause-ok
returns-clause-ok g c =
    let held = take (length c.in_ok-decoded.decoded.given) c.in_ok-decoded.decoded.store in
    let are : store_meanings (λ (v : ℤ). v) held ≡ c.into_image_channels.result.items = same_grids held ∙ sym c.into_image_channels.ensures.grids in
    subst (λ (gs : List (Grid ℤ)). CodedOf g.D.Decoder.meaning w32 c.args.self (bytes_of c.args.bits) (position_of c.args.bits) gs c.args.steps.now c.decode_coded.new.steps) are
    c.in_ok-decoded.ensures.ok

pub returns-clause-sides : goal.returns-clause-sides
returns-clause-sides g c =
    let held = take (length c.in_ok-decoded.decoded.given) c.in_ok-decoded.decoded.store in
    let are : store_meanings (λ (v : ℤ). v) held ≡ c.into_image_channels.result.items = same_grids held ∙ sym c.into_image_channels.ensures.grids in
    subst (λ (gs : List (Grid ℤ)). AreGridsOf (given_of c.args.self.input).channels gs) are c.in_ok-decoded.ensures.sides
