-- Frames one after another, and what fails there.
use Rattle.std.proofs.Common.{◌≡◌, ℕ, ◌+◌, ◌-◌, ◌<◌, ◌≤◌, Bool, true, false, List, [], ◌∷◌, ◌++◌, drop, map, refl, sym, ap, subst, ◌∙◌, arith, cond}
use Rattle.std.specs.Prelude.{if◌then◌else◌, ◌||◌}
use Rattle.std.specs.List.{filter}
use Rattle.std.proofs.lemmas.List.{map-append}
use Rattle.std.proofs.lemmas.List.Elements.{filter-append}
use Rattle.std.proofs.lemmas.List.Folds.{list_any-append}
use Rattle.jxlm_bits.specs.ErrorKind.{UnlessMemory, UnlessNoMemory, kind_of}
use Rattle.jxlm_bits.specs.Grammar.{IsErrorAt}
use Rattle.jxlm_bits.specs.declared.error.Error.{Error}
use Rattle.jxl_coding.specs.Parse.{decoder_at}
use Rattle.jxl_coding.specs.Tokens.{entropy}
use Rattle.jxl_image_header.specs.Images.{Image}
use Rattle.jxl_frame_header.specs.Frames.{Frame, frame_header, frame_size}
use Rattle.jxl_picture.specs.Limits.{cells_of}
use Rattle.jxl_picture.specs.declared.limits.Limits.{Limits}
use Rattle.jxl_codestream.specs.Fronts.{FailsAt, FrameAt, PartsFail, PartsStand, end_of}
use Rattle.jxl_codestream.specs.declared.error.FrontError.{FrontError}
use Rattle.jxl_codestream.specs.declared.error.FrontError.TheVariants as fronts
use Rattle.jxl_codestream.proofs.Fronts.{fails_at}
use Rattle.jxl_layers.specs.Compositions.{is_displayed, is_final}
use Rattle.jxl_frame_info.specs.Timelines.{AreFrames, ComesAt, HasHeader, NextFails, OneMore, durations_of, has_final, spare}

module _ (limits : Limits) (bytes : List ℕ) (image : Image) (start used : ℕ) where
  -- the header of the next frame has an error
  pub header_fails : (here : List ℕ) (p q : ℕ) (e : Error) → here ≡ drop start bytes → p ≡ 0 → UnlessNoMemory (kind_of e) (IsErrorAt ((frame_header image).read here p) (kind_of e) q) →
      NextFails limits bytes image start used (fronts.FrameHeader e)
  header_fails here p q e lies begin h =
      subst (λ (b : List ℕ). UnlessMemory (kind_of e) (FailsAt (frame_header image) b 0 (kind_of e))) lies (fails_at (frame_header image) here p 0 q (kind_of e) begin h)

  -- what follows its header has one
  pub parts_fail : (h : Frame) (p count : ℕ) (e : FrontError) → count ≡ used + spare image.size h → HasHeader bytes image start h p → PartsFail (entropy decoder_at) limits (drop start bytes) image count h p e →
      NextFails limits bytes image start used e
  parts_fail h p count e is header fails = by e (subst (λ (n : ℕ). PartsFail (entropy decoder_at) limits (drop start bytes) image n h p e) is fails) where
    by : (e : FrontError) → PartsFail (entropy decoder_at) limits (drop start bytes) image (used + spare image.size h) h p e → NextFails limits bytes image start used e
    by (fronts.FrameHeader e) f = absurd f
    by (fronts.Frame r) f = absurd f
    by e f = (h, p, header, f)

  -- the frame comes next
  pub comes_at : (h : Frame) (p count : ℕ) (f : FrameAt) → f.start ≡ start → f.header ≡ h → count ≡ used + spare image.size h → HasHeader bytes image start h p →
      PartsStand (entropy decoder_at) limits bytes image count f p → ComesAt limits bytes image start used f
  comes_at h p count f begin is counted header parts = record {
    begin = begin;
    end = p;
    header = subst (λ (x : Frame). HasHeader bytes image start x p) (sym is) header;
    parts = subst (λ (n : ℕ). PartsStand (entropy decoder_at) limits bytes image n f p) (counted ∙ ap (λ (x : Frame). used + spare image.size x) (sym is)) parts;
  }

  -- with the next frame the frames are above the limits
  pub too_large : (h : Frame) (p more : ℕ) → more ≡ spare image.size h → limits.pixels - used < more → used ≤ limits.pixels → HasHeader bytes image start h p → NextFails limits bytes image start used fronts.FramesTooLarge
  too_large h p more is above within header = (h, p, header, λ allow. absurd (beyond (cells_of image.size) (cells_of (frame_size image.size h)) is allow.2)) where
    beyond : (a b : ℕ) → more ≡ a - b → used + (a - b) + b ≤ limits.pixels → ⊥
    beyond a b same le = omega (arith, le, same, above, within)

-- one frame more
one_duration : (b : Bool) (f : FrameAt) → map (λ (g : FrameAt). g.header.frame_use.duration) (cond b (f ∷ []) []) ≡ (if b then f.header.frame_use.duration ∷ [] else [])
one_duration true f = refl
one_duration false f = refl

pub durations_more : (fs : List FrameAt) (f : FrameAt) → durations_of (fs ++ f ∷ []) ≡ durations_of fs ++ (if is_displayed f.header then f.header.frame_use.duration ∷ [] else [])
durations_more fs f =
    let shown = λ (g : FrameAt). is_displayed g.header in
    let time = λ (g : FrameAt). g.header.frame_use.duration in
    ap (map time) (filter-append shown fs (f ∷ [])) ∙ map-append time (filter shown fs) (filter shown (f ∷ [])) ∙ ap (λ ds. durations_of fs ++ ds) (one_duration (is_displayed f.header) f)

either : (x y b : Bool) → x ≡ false → y ≡ b → (x || (y || false)) ≡ b
either true y b none is = let bad : ⊥ = cc in absurd bad
either false true b none is = is
either false false b none is = is

pub final_more : (fs : List FrameAt) (f : FrameAt) (b : Bool) → has_final fs ≡ false → is_final f.header ≡ b → has_final (fs ++ f ∷ []) ≡ b
final_more fs f b none is = list_any-append (λ (g : FrameAt). is_final g.header) fs (f ∷ []) ∙ either (has_final fs) (is_final f.header) b none is

pub frames_more : (limits : Limits) (bytes : List ℕ) (image : Image) (first start used : ℕ) (fs : List FrameAt) (f : FrameAt) → AreFrames limits bytes image first fs start used → has_final fs ≡ false → ComesAt limits bytes image start used f →
    AreFrames limits bytes image first (fs ++ f ∷ []) (f.start + end_of f.entries) (used + spare image.size f.header + cells_of (frame_size image.size f.header))
frames_more limits bytes image first start used fs f are none comes = OneMore fs start used f are none comes
