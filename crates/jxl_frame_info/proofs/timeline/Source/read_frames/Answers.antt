use Rattle.std.proofs.Common.{◌≡◌, ◌≤◌, ◌+◌, ◌++◌, ◌∷◌, ◌∙◌, [], List, ℕ, true, false, arith, ap, refl, sym, subst}
use Rattle.std.specs.Prelude.{if◌then◌else◌}
use Rattle.jxl_image_header.specs.Images.{image_of}
use Rattle.jxl_codestream.specs.FrontParts.{frame_at}
use Rattle.jxl_codestream.specs.Fronts.{end_of}
use Rattle.jxl_layers.specs.Compositions.{is_displayed, is_final}
use Rattle.jxl_frame_info.specs.Timelines.{AreFrames, NoFrame}
use Rattle.jxl_frame_info.proofs.Frames.{durations_more, final_more, frames_more}
use Rattle.jxl_frame_info.proofs.timeline.Source.read_frames.Goals as goal

pub loop-init : goal.loop-init
loop-init c = record { frames = ([], NoFrame, c.new-durations.ensures.items, refl); inside = c.requires.inside; within = omega arith }

pub loop-preserved : goal.loop-preserved
loop-preserved c =
    let x = c.args.self in
    let l = c.loop.invariant in
    let fs = l.frames.0 in
    let f = frame_at c.in-Ok.front in
    let comes = c.in-Ok.ensures.ok in
    let final : is_final f.header ≡ false = sym c.is_final.ensures ∙ c.if-is_final.false in
    record {
      frames = (
        fs ++ f ∷ [],
        subst (λ (n : ℕ). AreFrames x.limits x.bytes.now (image_of x.image.now) c.args.first (fs ++ f ∷ []) n c.used_with-used.result) (sym c.end-start.ensures.end)
            (subst (λ (n : ℕ). AreFrames x.limits x.bytes.now (image_of x.image.now) c.args.first (fs ++ f ∷ []) (f.start + end_of f.entries) n) (sym c.used_with-used.ensures)
            (frames_more x.limits x.bytes.now (image_of x.image.now) c.args.first c.loop.start c.loop.used fs f l.frames.1 l.frames.3 comes)),
        c.in_ok-append_duration.ensures ∙ ap (λ (ds : List ℕ). ds ++ (if is_displayed f.header then f.header.frame_use.duration ∷ [] else [])) l.frames.2 ∙ sym (durations_more fs f),
        final_more fs f false l.frames.3 final,
      );
      inside = c.end-start.ensures.inside;
      within = subst (λ (n : ℕ). n ≤ x.limits.pixels) (sym c.used_with-used.ensures) comes.parts.allowed.2;
    }

pub returns-in-Err : goal.returns-in-Err
returns-in-Err c =
    let l = c.loop.invariant in record {
      frames = l.frames.0;
      next = c.loop.start;
      used = c.loop.used;
      are = l.frames.1;
      durations = l.frames.2;
      ends = (l.frames.3, c.in-Err.ensures.err);
    }

pub returns-then-is_final : goal.returns-then-is_final
returns-then-is_final c =
    let x = c.args.self in
    let l = c.loop.invariant in
    let fs = l.frames.0 in
    let f = frame_at c.in-Ok.front in
    let final : is_final f.header ≡ true = sym c.is_final.ensures ∙ c.if-is_final.true in
    record {
      frames = fs ++ f ∷ [];
      next = _;
      used = _;
      are = frames_more x.limits x.bytes.now (image_of x.image.now) c.args.first c.loop.start c.loop.used fs f l.frames.1 l.frames.3 c.in-Ok.ensures.ok;
      durations = c.in_ok-append_duration.ensures ∙ ap (λ (ds : List ℕ). ds ++ (if is_displayed f.header then f.header.frame_use.duration ∷ [] else [])) l.frames.2 ∙ sym (durations_more fs f);
      ends = final_more fs f true l.frames.3 final;
    }
