-- The turn of one section, and the turns of several.
use Rattle.std.specs.Prelude.{◌≡◌, ◌↔◌, ℕ, ◌+◌, ℤ, List, ◌++◌, ◌∷◌, map, sum, not, Bool, false, IsTrue, Option, Result, Ok, Err}
use Rattle.std.specs.List.{All}
use Rattle.std.specs.Int.{Width}
use Rattle.jxlm_bits.specs.Bits.{bytes_of, position_of}
use Rattle.jxlm_bits.specs.Decoding.{Meaning}
use Rattle.jxlm_base.specs.Grid.{Grid}
use Rattle.jxlm_bits.specs.declared.error.Error.{Error}
use Rattle.jxlm_groups.specs.declared.pass.Pass.{Pass}
use Rattle.jxlm_samples.specs.Decode.{MovesWithin}
use Rattle.jxlm_tree.specs.Tree.{Config}
use Rattle.jxl_modular.specs.Image.{Image}
use Rattle.jxlm_nested.specs.Nested.{PartTurn}
use Rattle.jxl_modular.specs.Groups.{held_in, part_in}
use Rattle.jxl_modular.specs.Sections.{AllTurn, Section, Turn, SectionTurn, most}

module _ {S D : Type 0} (d : Meaning D) (w : Width) (to_int : S → ℤ) (zero : S) (x : Image S D) (passes : List Pass)
    (global : Option (Config D)) (partly : Bool) where
  -- a section's turn: its samples were decoded, all of them or not, or there was an error
  abbrev pub Turns : Section → Result Bool Error → Turn → List (Grid S) → List (Grid S) → Type 0
  Turns s (Ok whole) t old new = SectionTurn d w to_int zero x passes global partly s (Ok tt) t old new × (whole ≡ not t.partial)
  Turns s (Err e) t old new = SectionTurn d w to_int zero x passes global partly s (Err e) t old new

  -- and what it took of steps
  abbrev pub TurnGives : Section → Result Bool Error → List (Grid S) → List (Grid S) → ℕ → ℕ → Type 0
  TurnGives s result old new before after = (t : Turn) × Turns s result t old new × MovesWithin before after (most t)

  -- all sections had their turn, and whether all samples were decoded
  pub record HasTurned (sections : List Section) (whole : Bool) (old new : List (Grid S)) (before after : ℕ) : Type 0 where
    pub turns : List Turn
    pub left : AllTurn d w to_int zero x passes global partly sections turns old new
    pub says : IsTrue whole ↔ All (λ t. t.partial ≡ false) turns
    pub counted : MovesWithin before after (sum (map most turns))

  -- the first sections had their turn, and the next one ends with an error
  pub record HasStopped (sections : List Section) (e : Error) (old new : List (Grid S)) (before after : ℕ) : Type 0 where
    pub done : List Section
    pub next : Section
    pub rest : List Section
    pub in_order : sections ≡ done ++ next ∷ rest
    pub turns : List Turn
    pub between : List (Grid S)
    pub left : AllTurn d w to_int zero x passes global partly done turns old between
    pub last : Turn
    pub ends : SectionTurn d w to_int zero x passes global partly next (Err e) last between new
    pub counted : MovesWithin before after (sum (map most turns) + most last)

-- what decoding a section without a header of its own returns, with what it took of steps
module _ {S D : Type 0} (d : Meaning D) (w : Width) (to_int : S → ℤ) (x : Image S D) (passes : List Pass)
    (partly : Bool) where
  abbrev pub PlainTurn : Section → Result (Unit {0}) Error → Turn → List (Grid S) → List (Grid S) → Type 0
  PlainTurn s = PartTurn d w to_int (part_in x passes s.part s.stream_index) (bytes_of s.bits) x.config.decoder
      (position_of s.bits) (held_in x passes s.part) partly

  abbrev pub PlainTurns : Section → Result Bool Error → Turn → List (Grid S) → List (Grid S) → Type 0
  PlainTurns s (Ok whole) t old new = PlainTurn s (Ok tt) t old new × (whole ≡ not t.partial)
  PlainTurns s (Err e) t old new = PlainTurn s (Err e) t old new

  abbrev pub PlainGives : Section → Result Bool Error → List (Grid S) → List (Grid S) → ℕ → ℕ → Type 0
  PlainGives s result old new before after = (t : Turn) × PlainTurns s result t old new × MovesWithin before after (most t)
