-- The header of the only frame of a still picture.
use Rattle.std.specs.Prelude.{ℕ, ◌*◌, ◌^◌, [], length, replicate, true, false, None}
use Rattle.jxl_image_header.specs.Images.{Image}
use Rattle.jxl_frame_header.specs.Codings.{flags_of}
use Rattle.jxl_frame_header.specs.Passes.{Passes}
use Rattle.jxl_frame_header.specs.Frames.{Frame}
use Rattle.jxl_frame_header.specs.declared.coding.FrameCoding.{FrameCoding}
use Rattle.jxl_frame_header.specs.declared.coding.FrameType.TheVariants.{Regular}
use Rattle.jxl_frame_header.specs.declared.coding.Encoding.TheVariants.{Modular}
use Rattle.jxl_frame_header.specs.declared.blending.BlendingInfo.{BlendingInfo}
use Rattle.jxl_frame_header.specs.declared.blending.BlendMode.TheVariants.{Replace}
use Rattle.jxl_frame_header.specs.declared.blending.FrameUse.{FrameUse}
use Rattle.jxl_frame_header.specs.declared.filter.RestorationFilter.{RestorationFilter}

-- a frame that is shown, Modular, without noise, patches, splines, YCbCr and upsampling
abbrev pub still_coding : FrameCoding
still_coding = record { frame_type = Regular; encoding = Modular; flags = flags_of 0; do_ycbcr = false; upsampling = 1 }

abbrev pub one_pass : Passes
one_pass = record { num_passes = 1; shift = []; downsample = []; last_pass = [] }

-- it replaces what was there
abbrev pub replaces : BlendingInfo
replaces = record { mode = Replace; alpha_channel = 0; clamp = false; source = 0 }

-- it is the last, and not saved
abbrev pub last_use : FrameUse
last_use = record { duration = 0; timecode = 0; is_last = true; save_as_reference = 0; save_before_ct = false }

abbrev pub no_filter : RestorationFilter
no_filter = record { gab = false; epf_iters = 0; extensions = 0 }

-- The frame of a still picture: it covers the picture, in one pass, has groups with sides of 128 times 2 to the power of
-- this, and no filter, name or extension.
abbrev pub still_frame : Image → ℕ → Frame
still_frame image shift = record {
  coding = still_coding;
  ec_upsampling = replicate (length image.ec_info) 1;
  group_dim = 128 * 2 ^ shift;
  passes = one_pass;
  place = record { lf_level = 0; crop = None };
  blending_info = replaces;
  ec_blending_info = replicate (length image.ec_info) replaces;
  frame_use = last_use;
  name_len = 0;
  restoration_filter = no_filter;
  extensions = 0;
}
