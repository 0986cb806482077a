-- The turn of a part that has a header of its own, with transforms and a tree
-- (ISO/IEC 18181-1, Modular: group sub-bitstreams).
use Rattle.std.specs.Prelude.{◌≡◌, ℕ, ◌*◌, ℤ, List, not, Bool, Option, Result, Ok, Err}
use Rattle.std.specs.Int.{Width}
use Rattle.jxlm_bits.specs.Decoding.{Meaning}
use Rattle.jxlm_base.specs.Grid.{Grid}
use Rattle.jxlm_bits.specs.declared.error.Error.{Error}
use Rattle.jxlm_groups.specs.declared.pass.Pass.{Pass}
use Rattle.jxlm_groups.specs.declared.part.SectionPart.{SectionPart}
use Rattle.jxlm_samples.specs.Decode.{MovesWithin}
use Rattle.jxlm_tree.specs.Steps.{most_steps}
use Rattle.jxlm_tree.specs.Tree.{Config}
use Rattle.jxl_modular.specs.Groups.{held_in}
use Rattle.jxl_modular.specs.Image.{Image}
use Rattle.jxlm_nested.specs.Nested.{NestedTurn, Turn}
use Rattle.jxl_modular.specs.Sections.{list_in}

-- a part that begins at bit position p
module _ {S D : Type 0} (d : Meaning D) (w : Width) (to_int : S → ℤ) (zero : S) (x : Image S D) (passes : List Pass)
    (global : Option (Config D)) (bytes : List ℕ) (p : ℕ) (part : SectionPart) (stream : ℕ) (partly : Bool) where
  -- what decoding it returns, with what the turn shows, and the store before and after
  abbrev pub Turns : Result (Unit {0}) Error → Turn → List (Grid S) → List (Grid S) → Type 0
  Turns result t old new =
      NestedTurn d w to_int zero x.bit_depth global bytes p (list_in x passes part) (held_in x passes part) stream
      partly result t old new

  -- the same, and whether all samples were decoded
  abbrev pub NestedTurns : Result Bool Error → Turn → List (Grid S) → List (Grid S) → Type 0
  NestedTurns (Ok whole) t old new = Turns (Ok tt) t old new × (whole ≡ not t.partial)
  NestedTurns (Err e) t old new = Turns (Err e) t old new

  -- with the reader's position afterwards, and what it took of steps: for each sample whose read was tried, no more than
  -- `most_steps` of the tree
  abbrev pub NestedGives : Result Bool Error → List (Grid S) → List (Grid S) → ℕ → ℕ → ℕ → Type 0
  NestedGives result old new q before after =
      (t : Turn) × NestedTurns result t old new × (t.position ≡ q) × MovesWithin before after (t.tried * most_steps t.tree)
