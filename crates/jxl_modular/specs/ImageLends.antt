-- What holds an image ends as, once a `&mut` to the image has ended.
use Rattle.std.specs.Prelude.{Option, None, Some}
use Rattle.std.specs.Borrow.{Fml, RattleType, MutBor, LendsIf}
use Rattle.jxlm_bits.specs.declared.decoder.Decoder.{Ghosts}
use Rattle.jxl_modular.specs.Image.{Image}
use Rattle.jxl_modular.specs.declared.root.Modular.{Modular}
use Rattle.jxl_modular.specs.contracts.root.Modular as holders
use Rattle.jxl_modular.specs.contracts.image.ModularImageDestination as images

module _ (S D : RattleType) (decoder : Ghosts D.Denot) where
  -- the image is the last value written through r; where there was none, there is none
  abbrev pub LendsImage : MutBor (Modular S.Denot D.Denot) → Option (MutBor (Image S.Denot D.Denot)) → Fml
  LendsImage m r = LendsIf (holders.the_row S D decoder) (images.the_row S D decoder) m r (λ image. record { inner = Some image }) (record { inner = None })
