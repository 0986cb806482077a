-- Files that have several pictures, or layers.
use Rattle.std.proofs.Common.{◌≡◌, ℕ, List, inr, true, Option, Result, Ok, Err}
use Rattle.std.specs.Prelude.{IfErr, IfOk, string_bytes}
use Rattle.jxl_lossless.specs.declared.error.FileError.TheVariants as files
use Rattle.jxl_picture.specs.declared.limits.Limits.{Limits}
use Rattle.jxldec.specs.Contents.{content_text}
use Rattle.jxldec.specs.Layers.{is_layered}
use Rattle.jxldec.specs.Texts.{CountsFrames, FrameTextFails, HasLayers, IsPictureText, IsTextOfFrame, PictureFails, TextFails}
use Rattle.jxldec_lines.specs.declared.failures.Failure.{Failure}
use Rattle.jxldec_lines.specs.declared.failures.Failure.TheVariants as failures
use Rattle.jxldec_lines.specs.declared.format.OutputFormat.{OutputFormat}
use Rattle.jxldec.specs.declared.content.Output.{Output}

-- a still picture is not made for this reason
pub has_layers : (limits : Limits) (file : List ℕ) (asked : Option OutputFormat) (failure : Failure) → TextFails limits file asked failure → is_layered failure ≡ true → HasLayers limits file
has_layers limits file asked (failures.File (files.Front e)) h l = record { reason = e; fails = h; layered = l }
has_layers limits file asked (failures.File (files.File e)) h l = let bad : ⊥ = cc in absurd bad
has_layers limits file asked (failures.File (files.Patches e)) h l = let bad : ⊥ = cc in absurd bad
has_layers limits file asked (failures.File (files.Start e)) h l = let bad : ⊥ = cc in absurd bad
has_layers limits file asked (failures.File (files.Tree e)) h l = let bad : ⊥ = cc in absurd bad
has_layers limits file asked (failures.File files.TooManyDecisions) h l = let bad : ⊥ = cc in absurd bad
has_layers limits file asked (failures.File (files.Samples e)) h l = let bad : ⊥ = cc in absurd bad
has_layers limits file asked (failures.File files.OutOfMemory) h l = let bad : ⊥ = cc in absurd bad
has_layers limits file asked (failures.TooLarge size extra most) h l = let bad : ⊥ = cc in absurd bad
has_layers limits file asked (failures.Missing extra) h l = absurd h
has_layers limits file asked failures.OutOfMemory h l = let bad : ⊥ = cc in absurd bad
has_layers limits file asked failures.NoFormat h l = let bad : ⊥ = cc in absurd bad
has_layers limits file asked (failures.Unreadable e) h l = absurd h
has_layers limits file asked (failures.Frames e) h l = absurd h
has_layers limits file asked (failures.NoFrame n) h l = absurd h
has_layers limits file asked failures.Ending h l = absurd h
has_layers limits file asked failures.Foreign h l = absurd h
has_layers limits file asked (failures.Unwritable e) h l = absurd h
has_layers limits file asked failures.Closed h l = absurd h
has_layers limits file asked (failures.Unsaved extra e) h l = absurd h

-- so its first picture is written, or is not made
module _ (limits : Limits) (file : List ℕ) (asked : Option OutputFormat) (has : HasLayers limits file) where
  pub first_text : (r : Result Output Failure) → IfOk r (λ o. IsTextOfFrame limits file 0 asked (content_text o.content) (string_bytes o.left_out.channels) o.left_out.loss) → IfOk r (λ o. CountsFrames limits file o.left_out.frames) →
      IfOk r (λ o. IsPictureText limits file asked (content_text o.content) (string_bytes o.left_out.channels) o.left_out.loss o.left_out.frames)
  first_text (Ok o) text frames = inr (has, text, frames)
  first_text (Err e) text frames = tt

  pub first_picture_fails : (r : Result Output Failure) → IfErr r (FrameTextFails limits file 0 asked) → IfErr r (PictureFails limits file asked)
  first_picture_fails (Ok o) h = tt
  first_picture_fails (Err e) h = inr (has, h)
