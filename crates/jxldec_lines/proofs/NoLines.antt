-- Where nothing is left out there is no line.
use Rattle.std.proofs.Common.{◌≡◌, ℕ, List, [], ◌++◌, ◌||◌, Bool, true, false, not, length, Option, Some, None, refl, ap, sym, ◌∙◌}
use Rattle.std.specs.Prelude.{◌==◌, if◌then◌else◌, is_some}
use Rattle.jxl_container.specs.declared.error.FileError.{FileError as BoxError}
use Rattle.jxl_png_write.specs.declared.losses.Losses.{Losses}
use Rattle.jxldec_lines.specs.Losses.{has_loss, has_rounding, line_if, loss_lines, rounded_lines, unsaid_lines}
use Rattle.jxldec_lines.specs.Warnings.{channel_line, frames_line, has_more, later_line, left_out_lines, warning_lines}
use Rattle.jxldec_lines.specs.declared.loss.Loss.{Loss}
use Rattle.jxldec_lines.specs.declared.loss.Loss.TheVariants.{Nothing, Profile, Unsaid}
use Rattle.jxldec_lines.specs.declared.warning.FrameCount.{FrameCount}

if_empty : (b : Bool) (xs : List ℕ) → b ≡ true → (if b then [] else xs) ≡ []
if_empty true xs e = refl
if_empty false xs e = let bad : ⊥ = cc in absurd bad

no_channels : (name others : List ℕ) → (length others == 0) ≡ true → channel_line name others ≡ []
unfolding channel_line
no_channels name others e = if_empty (length others == 0) _ e

none_before : (name a rest : List ℕ) (f more : Bool) → (f || more) ≡ false → (more ≡ false → rest ≡ []) → line_if name f a ++ rest ≡ []
unfolding line_if
none_before name a rest false more e none = none e
none_before name a rest true more e none = let bad : ⊥ = cc in absurd bad

one_line : (name a : List ℕ) (f : Bool) → f ≡ false → line_if name f a ≡ []
unfolding line_if
one_line name a false e = refl
one_line name a true e = let bad : ⊥ = cc in absurd bad

no_rounding : (name : List ℕ) (losses : Losses) → has_rounding losses ≡ false → rounded_lines name losses ≡ []
unfolding rounded_lines
no_rounding name losses e =
    none_before name _ _ losses.exponent _ e (λ e1. none_before name _ _ losses.digits _ e1 (λ e2. none_before name _ _ losses.tone _ e2 (λ e3. one_line name _ losses.alpha e3)))

no_loss : (name : List ℕ) (loss : Loss) → has_loss loss ≡ false → loss_lines name loss ≡ []
unfolding loss_lines unsaid_lines
no_loss name Nothing e = refl
no_loss name Profile e = let bad : ⊥ = cc in absurd bad
no_loss name (Unsaid losses) e =
    none_before name _ _ losses.function _ e (λ e1. none_before name _ _ losses.coordinates _ e1 (λ e2. none_before name _ _ losses.intent _ e2
    (λ e3. none_before name _ _ losses.multiplied _ e3 (λ e4. no_rounding name losses e4))))

if_none : (b : Bool) (xs : List ℕ) → b ≡ false → (if b then xs else []) ≡ []
if_none false xs e = refl
if_none true xs e = let bad : ⊥ = cc in absurd bad

no_frames : (name : List ℕ) (frames : FrameCount) → has_more frames ≡ false → frames_line name frames ≡ []
unfolding frames_line
no_frames name frames e = if_none (has_more frames) _ e

no_later : (name : List ℕ) (later : Option BoxError) → later ≡ None → later_line name later ≡ []
unfolding later_line
no_later name None e = refl
no_later name (Some error) e = let bad : ⊥ = cc in absurd bad

empty : (a b c d : List ℕ) → a ≡ [] → b ≡ [] → c ≡ [] → d ≡ [] → (a ++ b) ++ (c ++ d) ≡ []
empty a b c d ea eb ec ed = ap (λ (x : List ℕ). (x ++ b) ++ (c ++ d)) ea ∙ ap (λ (x : List ℕ). x ++ (c ++ d)) eb ∙ ap (λ (x : List ℕ). x ++ d) ec ∙ ed

pub no_lines : (name others : List ℕ) (loss : Loss) (frames : FrameCount) (later : Option BoxError) → (length others == 0) ≡ true → has_loss loss ≡ false → has_more frames ≡ false → later ≡ None → warning_lines name others loss frames later ≡ []
unfolding left_out_lines
no_lines name others loss frames later channels meant shown none =
    empty (channel_line name others) (loss_lines name loss) (frames_line name frames) (later_line name later)
    (no_channels name others channels) (no_loss name loss meant) (no_frames name frames shown) (no_later name later none)

none_so : (later : Option BoxError) (b : Bool) → is_some later ≡ not b → b ≡ true → later ≡ None
none_so None b is tested = refl
none_so (Some error) true is tested = let bad : ⊥ = cc in absurd bad
none_so (Some error) false is tested = let bad : ⊥ = cc in absurd bad

-- the same, by the tests of the four
pub no_lines_so : (name others channels : List ℕ) (loss : Loss) (frames : FrameCount) (later : Option BoxError) (empty line more none : Bool) → channels ≡ others → empty ≡ (length channels == 0) → empty ≡ true →
    line ≡ has_loss loss → line ≡ false → more ≡ has_more frames → more ≡ false → is_some later ≡ not none → none ≡ true → warning_lines name others loss frames later ≡ []
no_lines_so name others channels loss frames later empty line more none text is_empty tested is_line no_line is_more no_more is_none without =
    no_lines name others loss frames later (ap (λ (xs : List ℕ). length xs == 0) (sym text) ∙ sym is_empty ∙ tested) (sym is_line ∙ no_line) (sym is_more ∙ no_more) (none_so later none is_none without)
