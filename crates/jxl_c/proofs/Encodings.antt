-- Why a picture that a caller describes is not encoded, and how many channels it has.
use Rattle.std.proofs.Common.{◌≡◌, ℕ, ◌^◌, ◌≤◌, List, true, false, Bool, inr, sym, ◌∙◌, arith}
use Rattle.std.specs.Prelude.{IsTrue, ◌↔◌, if◌then◌else◌}
use Rattle.std.proofs.lemmas.Bool.{false≢true}
use Rattle.jxl_codestream.specs.FrontParts.{bytes_if}
use Rattle.jxl_encode.specs.Codable.{IsCodable}
use Rattle.jxl_encode.proofs.Given.{few_extra}
use Rattle.jxl_image_header.specs.Images.{image_of}
use Rattle.jxl_picture.specs.Limits.{channel_count}
use Rattle.jxl_picture.specs.Pictures.{colour_count, is_grey}
use Rattle.jxl_picture.specs.declared.picture.Picture.{Picture}
use Rattle.jxl_c_picture.specs.Described.{IsDescribed}
use Rattle.jxl_c_picture.specs.declared.channels.CChannel.{CChannel}
use Rattle.jxl_c_picture.specs.declared.info.CInfo.{CInfo}
use Rattle.jxl_c.specs.Encoded.{IsRefused, profile_if}

few_colours : (b : Bool) → (if b then 1 else 3) ≤ 3
few_colours true = omega arith
few_colours false = omega arith

-- a picture that a file can hold has few channels
pub few_channels : (p : Picture) → IsCodable p → channel_count (image_of p.header) ≤ 2 ^ 20
few_channels p codable =
    let extra = few_extra (image_of p.header) codable.writable in
    let colours : colour_count (image_of p.header) ≤ 3 = few_colours (is_grey (image_of p.header)) in
    omega (arith, extra, colours)

-- no file can hold this one
pub refused_by : (info : CInfo) (extra : List CChannel) (profile : List ℕ) (p : Picture) (r : Bool) → IsDescribed info extra (image_of p.header) → bytes_if p.profile ≡ profile_if profile → (IsTrue r ↔ IsCodable p) → r ≡ false →
    IsRefused info extra profile
refused_by info extra profile p r described icc tells refused = inr (record { picture = p; described = described; icc = icc; not = λ codable. false≢true (sym refused ∙ tells.1 codable) })
