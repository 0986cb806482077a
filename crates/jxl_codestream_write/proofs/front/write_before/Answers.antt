use Rattle.std.proofs.Common.{◌≡◌, ◌++◌, List, [], ℕ, true, subst, sym}
use Rattle.std.specs.Option.{option_map}
use Rattle.jxlm_bit_writer.specs.Writes.{Writes}
use Rattle.jxl_container.specs.Files.{is_bare}
use Rattle.jxl_image_header.specs.Images.{image_header, image_of}
use Rattle.jxl_codestream_write.specs.Inner.Parts.{BeginsWith}
use Rattle.jxl_codestream_write.proofs.Fronts.{front_before}
use Rattle.jxl_codestream_write.proofs.front.write_before.Goals as goal

pub begins_bare-requires : goal.begins_bare-requires
begins_bare-requires c =
    let f = front_before (image_of c.args.image.now) (option_map (λ s. s.now) c.args.profile) c.write_image_header.new.bits c.write_profile_if.new.bits c.in_ok-bytes.bytes.items
    (subst (λ (b : List ℕ). Writes b c.write_image_header.new.bits image_header.read (image_of c.args.image.now)) c.new-bits.ensures c.in_ok-write_image_header.ensures)
    c.in_ok-write_profile_if.ensures c.in_ok-bytes.ensures c.requires.asked in
    subst (λ (v : List ℕ). BeginsWith (image_of c.args.image.now) v) (sym c.deref.ensures.value) (f.end, f.header [])

pub returns-clause-front : goal.returns-clause-front
returns-clause-front c =
    front_before (image_of c.args.image.now) (option_map (λ s. s.now) c.args.profile) c.write_image_header.new.bits c.write_profile_if.new.bits c.in_ok-bytes.bytes.items
    (subst (λ (b : List ℕ). Writes b c.write_image_header.new.bits image_header.read (image_of c.args.image.now)) c.new-bits.ensures c.in_ok-write_image_header.ensures)
    c.in_ok-write_profile_if.ensures c.in_ok-bytes.ensures c.requires.asked

pub returns-clause-bare : goal.returns-clause-bare
returns-clause-bare c rest = subst (λ (v : List ℕ). is_bare (v ++ rest) ≡ true) c.deref.ensures.value (c.begins_bare.ensures rest)
