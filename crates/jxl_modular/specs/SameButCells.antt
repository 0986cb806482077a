-- What decoding and finishing change of an image.
use Rattle.std.specs.Prelude.{◌≡◌, List}
use Rattle.jxlm_base.specs.declared.subgrid.Region.{Region}
use Rattle.jxlm_chain.specs.Shape.{SameShape}
use Rattle.jxl_modular.specs.Image.{Image}
use Rattle.jxlm_samples.specs.Progress.{KeepsOutside}

module _ {S D : Type 0} where
  -- Only cells of the buffers may differ: all else of the image is as before, and so are the buffers' sizes.
  pub record SameButCells (old new : Image S D) : Type 0 where
    pub rest : new ≡ record old { store = new.store }
    pub shape : SameShape old.store new.store

  -- Only cells of these regions may differ: all else is as before.
  pub record SameButIn (regions : List Region) (old new : Image S D) : Type 0 where
    pub cells : SameButCells old new
    pub outside : KeepsOutside regions old.store new.store
