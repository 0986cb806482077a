use Rattle.jxl_codestream.specs.FrontParts.{AreFramesOf}
use Rattle.jxl_info.proofs.headers.read_codestream.Goals as goal

pub returns-in-Ok-frames-clause-ok : goal.returns-in-Ok-frames-clause-ok
returns-in-Ok-frames-clause-ok g c =
    let front = c.in-Ok.ensures.ok in
    let frames : AreFramesOf g.D.Decoder.meaning c.args.limits.now c.args.bytes.now c.in-Ok.front.image c.in-Ok-frames.field-0 = rw c.in-Ok-frames.is at front.frames in
    record {
      end = front.end;
      header = front.header;
      is = record { saved = _; shown = _; stands = frames.stand };
    }
