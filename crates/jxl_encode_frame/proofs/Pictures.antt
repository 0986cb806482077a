-- The frame of a file, decoded to its picture.
use Rattle.std.proofs.Common.{List, refl, sym, subst}
use Rattle.jxl_coding.specs.Parse.{decoder_at}
use Rattle.jxl_coding.specs.Tokens.{entropy}
use Rattle.jxl_codestream.specs.Fronts.{FrameAt}
use Rattle.jxl_patches.specs.Slots.{no_slots}
use Rattle.jxl_lossless.specs.Saved.{AreSaved}
use Rattle.jxl_encode_frame.specs.Laws.{CodingIsPicture}
use Rattle.jxl_encode_frame.proofs.Frames.{coding_frame}

pub coding_picture : CodingIsPicture
coding_picture limits file picture front coded alone fit c upright profile before =
    let (after, frame) = coding_frame (entropy decoder_at) front.image no_slots front.bytes front.shown coded fit c before in
    let none = subst (λ (fs : List FrameAt). AreSaved (entropy decoder_at) front.bytes front.image fs no_slots no_slots before before) (sym alone) (refl, refl) in
    (after, record { front = front; coded = coded; decoded = (no_slots, before, none, frame); upright = upright; profile = profile })
