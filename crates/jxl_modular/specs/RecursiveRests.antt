-- What an image ends as, once a part by a header of its own has ended.
use mir.Syntax.{named}
use Rattle.std.specs.Prelude.{◌≡◌, [], Result}
use Rattle.std.specs.Borrow.{Fml, RattleType, MutBor, RestsIfErr, follows}
use Rattle.jxlm_bits.specs.declared.decoder.Decoder as decoders
use Rattle.jxl_modular.specs.Image.{Image}
use Rattle.jxl_modular.specs.declared.groups.TransformedGlobalModular.{TransformedGlobalModular}
use Rattle.jxl_modular.specs.declared.recursive.HoldsHeader as holders
use Rattle.jxl_modular.specs.declared.recursive.NestedSubimage.{NestedSubimage}
use Rattle.jxl_modular.specs.declared.recursive.RecursiveModularImage.{RecursiveModularImage}
use Rattle.jxl_modular.specs.contracts.groups.TransformedGlobalModular as groups
use Rattle.jxl_modular.specs.contracts.image.ModularImageDestination.{the_row}

-- The image ends as what is held of it leaves it. Where there is an error, it is as before.
abbrev pub RestsWithHeader : (S D : RattleType) (d : decoders.Ghosts D.Denot) {E : Type 0} → MutBor (Image S.Denot D.Denot) → Result (RecursiveModularImage S.Denot D.Denot d) E → Fml
RestsWithHeader S D d image made = RestsIfErr (the_row S D d) image (λ r. r.image.ghost_name) made (λ n. n ≡ image.now)

abbrev pub RestsWithNested : (S D : RattleType) (d : decoders.Ghosts D.Denot) {H : Type 0} {g : holders.Ghosts H S.Denot D.Denot} {E : Type 0} → MutBor (Image S.Denot D.Denot) → Result (NestedSubimage S.Denot D.Denot H d g) E → Fml
RestsWithNested S D d image made = RestsIfErr (the_row S D d) image (λ p. p.image.ghost_name) made (λ n. n ≡ image.now)

-- An image that is cut into groups ends with the image as a header that was entered leaves it. All else is as before: the
-- passes, and how far each part is decoded.
abbrev pub LendsToHeader : (S D : RattleType) (d : decoders.Ghosts D.Denot) → MutBor (TransformedGlobalModular S.Denot D.Denot) → RecursiveModularImage S.Denot D.Denot d → Fml
LendsToHeader S D d cut entered =
    follows (groups.the_row (record { mir = named 1; lft = [] }) S D d) (the_row S D d) cut.ghost_name entered.image.ghost_name (λ (x : Image S.Denot D.Denot). record cut.now { image = record cut.now.image { now = x } })
