use Rattle.std.proofs.Common.{◌++◌, ◌∙◌, Bool, None, ap}
use Rattle.jxl_frame_info.specs.Lines.{timeline_lines}
use Rattle.jxl_image_header.specs.Images.{image_of}
use Rattle.jxl_info.specs.Texts.{info_text, reason_line}
use Rattle.jxldec.proofs.listing.text_of_frames.Goals as goal

pub returns-in-Ok-clause-text : goal.returns-in-Ok-clause-text
returns-in-Ok-clause-text c =
    let image = image_of c.args.image.now in
    let t = c.in_ok-timeline.timeline in record {
      timeline = t;
      listed = c.in_ok-timeline.ensures.ok;
      printed = c.in_ok-timeline.ensures.printed;
      is = c.in-Ok.ensures ∙ ap (λ (b : Bool). info_text b image None ++ timeline_lines image.animation t.durations.items ++ reason_line t.reason) c.is_boxed.ensures;
    }
