-- What an image keeps beside what callers see of it.
use Rattle.std.specs.Prelude.{◌≡◌, List}
use Rattle.jxlm_transform.specs.Layout.{first_layout}
use Rattle.jxlm_chain.specs.Undo.{undo_of_all}
use Rattle.jxlm_chain.specs.Undoings.{undos_of}
use Rattle.jxlm_chain.specs.declared.undo.Undoing.{Undoing}
use Rattle.jxl_modular.specs.Image.{Image, given_list}
use Rattle.jxl_modular.specs.Inner.Laid.{IsLaidOut}

-- an image that is laid out, and what undoes its steps, in their order
pub record IsKept {S D : Type 0} (undoings : List Undoing) (x : Image S D) : Type 0 where
  pub laid : IsLaidOut x
  pub undos : undos_of undoings ≡ undo_of_all x.steps (first_layout (given_list x).channels)
