use Rattle.std.proofs.Common.{◌∙◌, ◌<◌, length, ap, arith, refl}
use Rattle.jxl_image_header.specs.Images.{image_of}
use Rattle.jxl_codestream.specs.Fronts.{layout_in}
use Rattle.jxl_codestream.specs.FrontParts.{frame_at}
use Rattle.jxl_patches.specs.SavedParts.{slots_of}
use Rattle.jxl_frame_header.specs.Passes.{passes_of}
use Rattle.jxl_lossless.proofs.FrameSections.{frame_made, not_made, some_listed}
use Rattle.jxl_lossless.proofs.PassShifts.{can_be_cut}
use Rattle.jxl_lossless.proofs.frame.FrameInput.decode.Goals as goal

pub index-requires : goal.index-requires
index-requires g c =
    let some : 0 < length c.in_ok-list.list.items = some_listed _ c.in_ok-list.list.items c.deref.result.now (layout_in (image_of c.args.self.image.now) (frame_at c.args.self.frame.now).header) c.in_ok-list.ensures.lie
    (ap length c.deref.ensures.value ∙ c.requires.ready.frame.count) in
    let same = c.in_ok-list.list.ok.0 in
    omega (arith, some, same)

pub decode_patched-requires : goal.decode_patched-requires
decode_patched-requires g c = record {
  ready = record {
    input = c.requires.ready;
    usable = can_be_cut (passes_of c.args.self.frame.now.header.passes) c.requires.ready.frame.passes c.in_ok-passes.passes.entries c.in_ok-passes.ensures;
  };
}

pub returns-clause-ok : goal.returns-clause-ok
returns-clause-ok g c =
    frame_made g.D.Decoder.meaning c.args.self.bytes.now (image_of c.args.self.image.now) (slots_of c.args.self.slots.now) c.args.self.frame.now c.in_ok-list.list.items c.deref.result.now c.index.result.now
    c.in_ok-list.ensures.lie c.deref.ensures.value c.index.ensures c.requires.ready.frame.cut c.requires.ready.frame.count
    _ (λ v. v.items) c.args.steps.now c.decode_patched.new.steps c.decode_patched.result c.decode_patched.ensures.ok refl c.deref-2.ensures.value c.in_ok-passes.ensures

pub returns-clause-err : goal.returns-clause-err
returns-clause-err g c =
    not_made g.D.Decoder.meaning c.args.self.bytes.now (image_of c.args.self.image.now) (slots_of c.args.self.slots.now) c.args.self.frame.now c.in_ok-list.list.items c.deref.result.now c.index.result.now
    c.in_ok-list.ensures.lie c.deref.ensures.value c.index.ensures c.requires.ready.frame.cut c.requires.ready.frame.count
    _ c.decode_patched.result c.decode_patched.ensures.err refl c.deref-2.ensures.value c.in_ok-passes.ensures
