-- What an image ends as, once a part of it has ended.
use Rattle.std.specs.Prelude.{◌≡◌, Result}
use Rattle.std.specs.Borrow.{Fml, RattleType, MutBor, RestsIfErr}
use Rattle.jxlm_bits.specs.declared.decoder.Decoder.{Ghosts}
use Rattle.jxl_modular.specs.Image.{Image}
use Rattle.jxl_modular.specs.declared.groups.TransformedGlobalModular.{TransformedGlobalModular}
use Rattle.jxl_modular.specs.declared.image.TransformedModularSubimage.{TransformedModularSubimage}
use Rattle.jxl_modular.specs.contracts.image.ModularImageDestination.{the_row}

-- The image ends as the part leaves it. Where no part was made, it is as before.
abbrev pub RestsWithPart : (S D : RattleType) (decoder : Ghosts D.Denot) {E : Type 0} → MutBor (Image S.Denot D.Denot) → Result (TransformedModularSubimage S.Denot D.Denot) E → Fml
RestsWithPart S D decoder image made = RestsIfErr (the_row S D decoder) image (λ p. p.image.ghost_name) made (λ n. n ≡ image.now)

-- the same of an image that is cut into groups
abbrev pub RestsWithGroups : (S D : RattleType) (decoder : Ghosts D.Denot) {E : Type 0} → MutBor (Image S.Denot D.Denot) → Result (TransformedGlobalModular S.Denot D.Denot) E → Fml
RestsWithGroups S D decoder image made = RestsIfErr (the_row S D decoder) image (λ g. g.image.ghost_name) made (λ n. n ≡ image.now)
