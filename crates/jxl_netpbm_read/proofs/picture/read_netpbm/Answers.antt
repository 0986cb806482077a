use Rattle.std.proofs.Common.{◌≡◌, ap, sym, subst, true, None, arith}
use Rattle.jxl_image_header.specs.Images.{Image, image_refusal}
use Rattle.jxl_image_header_write.specs.Writable.{is_writable}
use Rattle.jxl_picture.specs.Pictures.{IsWhole}
use Rattle.jxl_netpbm_read.proofs.Described.{are_whole, image_refusal-image_by, is_writable-image_by}
use Rattle.jxl_netpbm_read.proofs.Places.{side_most}
use Rattle.jxl_netpbm_read.proofs.picture.read_netpbm.Goals as goal

pub returns-clause-writable : goal.returns-clause-writable
returns-clause-writable c =
    subst (λ (i : Image). is_writable i ≡ true) (sym c.in_ok-image.ensures.ok) (is_writable-image_by c.in_ok-header.header c.in_ok-header.ensures.header)

pub returns-clause-supported : goal.returns-clause-supported
returns-clause-supported c =
    subst (λ (i : Image). image_refusal i ≡ None) (sym c.in_ok-image.ensures.ok) (image_refusal-image_by c.in_ok-header.header c.in_ok-header.ensures.header)

pub returns-clause-whole : goal.returns-clause-whole
returns-clause-whole c =
    subst (λ (i : Image). IsWhole i c.in_ok-channels.channels.items) (sym c.in_ok-image.ensures.ok)
    (are_whole c.in_ok-header.header c.args.file.now c.in_ok-channels.channels.items c.in_ok-channels.ensures.ok)

pub returns-clause-picture : goal.returns-clause-picture
returns-clause-picture c = record {
  header = c.in_ok-header.header;
  is_header = sym c.in_ok-header.ensures.value;
  image_is = c.in_ok-image.ensures.ok;
  long = omega (arith, c.in_ok-header.ensures.inside, c.if-file-header.false, c.samples_size.ensures);
  count = c.in_ok-channels.ensures.ok.count;
  samples = c.in_ok-channels.ensures.ok.samples;
}

pub returns-clause-upright : goal.returns-clause-upright
returns-clause-upright c = ap (λ (i : Image). i.orientation) c.in_ok-image.ensures.ok

pub returns-clause-plain : goal.returns-clause-plain
returns-clause-plain c = ap (λ (i : Image). i.colour_encoding.want_icc) c.in_ok-image.ensures.ok

pub returns-clause-wide : goal.returns-clause-wide
returns-clause-wide c =
    let same : c.in_ok-image.image.size.width ≡ c.in_ok-header.header.width = ap (λ (i : Image). i.size.width) c.in_ok-image.ensures.ok in
    rw same (side_most c.in_ok-header.header.width c.in_ok-header.ensures.header.wide)

pub returns-clause-high : goal.returns-clause-high
returns-clause-high c =
    let same : c.in_ok-image.image.size.height ≡ c.in_ok-header.header.height = ap (λ (i : Image). i.size.height) c.in_ok-image.ensures.ok in
    rw same (side_most c.in_ok-header.header.height c.in_ok-header.ensures.header.high)
