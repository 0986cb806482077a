use Rattle.std.proofs.Common.{◌≡◌, ℕ, List, ◌++◌, length, take, drop, Option, Some, inl, inr, sym, ap, ◌∙◌, subst}
use Rattle.std.proofs.Math.Seq.{take-append_seam}
use Rattle.std.specs.Global.{Vec}
use Rattle.jxl_codestream.specs.FrontParts.{bytes_if}
use Rattle.jxl_exif.specs.Orientations.{IsOrientationOf, IsUprightOf}
use Rattle.jxlenc.specs.Encodings.{IsOrientedBy, IsTiffOf, KeepsUpright}
use Rattle.jxlenc.proofs.run.upright_exif.Goals as goal

-- data for an upright picture are as long
same_length : (old new : List ℕ) → IsUprightOf old new → length new ≡ length old
same_length old new (inl h) = h.4.long
same_length old new (inr h) = ap (λ (l : List ℕ). length l) h.1

-- written over the old ones they are all that there is
kept_whole : (exif old new : List ℕ) (n len : ℕ) → len ≡ length old → IsTiffOf exif old → IsOrientationOf old n → IsUprightOf old new → KeepsUpright exif n (Some (take len (new ++ drop (length new) old)))
kept_whole exif old new n len is begins says upright =
    let long : len ≡ length new = is ∙ sym (same_length old new upright) in
    let whole : take len (new ++ drop (length new) old) ≡ new = ap (λ (m : ℕ). take m (new ++ drop (length new) old)) long ∙ take-append_seam new (drop (length new) old) in
    record { tiff = old; begins = begins; says = says; bytes = new; upright = upright; are = ap (λ (l : List ℕ). Some l) whole }

pub returns-clause-value : goal.returns-clause-value
returns-clause-value c =
    let exif = c.in-Some.bytes.items in
    let tiff = c.in-Ok.tiff in
    let new : List ℕ = c.set_upright.new.exif in
    let n : ℕ = c.orientation_of-orientation.result in
    let from_head : IsTiffOf exif c.tiff_of.result.now = subst (λ (l : List ℕ). IsTiffOf l c.tiff_of.result.now) c.deref.ensures.value c.tiff_of.ensures in
    let begins : IsTiffOf exif tiff.items = subst (λ (l : List ℕ). IsTiffOf exif l) (sym c.in-Ok.ensures.items) from_head in
    let says : IsOrientationOf tiff.items n = subst (λ (l : List ℕ). IsOrientationOf l n) c.deref-2.ensures.value c.orientation_of-orientation.ensures.value in
    let upright : IsUprightOf tiff.items new = subst (λ (l : List ℕ). IsUprightOf l new) c.deref_mut.ensures.value c.set_upright.ensures.upright in
    subst (λ (o : Option (Vec ℕ)). IsOrientedBy (bytes_if o) n (Some (take tiff.len (new ++ drop (length new) tiff.items)))) (sym c.in-Some.is) (kept_whole exif tiff.items new n tiff.len tiff.ok.0 begins says upright)
