-- What the sections of an image are decoded to has nothing to do with its store.
use Rattle.std.proofs.Common.{ℕ, pos, ℤ, Bool, true, false, List, [], ◌∷◌, map}
use Rattle.std.specs.Prelude.{MatchBool, Option}
use Rattle.std.specs.Int.{Width}
use Rattle.std.specs.List.{AllZip}
use Rattle.jxlm_bits.specs.Bits.{bytes_of, position_of}
use Rattle.jxlm_bits.specs.Decoding.{Meaning}
use Rattle.jxlm_base.specs.Grid.{Grid}
use Rattle.jxlm_base.specs.Regions.{grid_of}
use Rattle.jxlm_tree.specs.Tree.{Config}
use Rattle.jxlm_groups.specs.declared.pass.Pass.{Pass}
use Rattle.jxl_modular.specs.Groups.{part_in, pieces_of}
use Rattle.jxl_modular.specs.Image.{Image}
use Rattle.jxl_modular.specs.Sections.{AreDecoded, CodesNested, CodesPart, CodesWhole}
use Rattle.jxl_modular.specs.declared.sections.Section.{Section}

-- the image as far as it is known without its store
abbrev pub storeless : {S D : Type 0} → Image S D → Image ℤ D
storeless x = record {
  has_palette = x.has_palette;
  has_squeeze = x.has_squeeze;
  weights = x.weights;
  steps = x.steps;
  config = x.config;
  group_dim = x.group_dim;
  bit_depth = x.bit_depth;
  given = x.given;
  channels = x.channels;
  nb_meta = x.nb_meta;
  store = [];
  coded = [];
}

first_as : {P R : Type 0} (b : Bool) (Q : Type 0) → (P → R) → MatchBool b P Q → MatchBool b R Q
first_as true Q f h = f h
first_as false Q f h = h

module _ {S D : Type 0} (d : Meaning D) (w : Width) (to_int : S → ℤ) (zero : S) (x : Image S D) (passes : List Pass) (global : Option (Config D)) where
  abbrev Nested : Section → List (Grid ℤ) → ℕ → Type 0
  Nested s grids nodes = CodesNested d w to_int zero x passes global s grids nodes

  abbrev NestedAlone : Section → List (Grid ℤ) → ℕ → Type 0
  NestedAlone s grids nodes = CodesNested {S = ℤ} d w (λ v. v) (pos 0) (storeless x) passes global s grids nodes

  nested_alone : (s : Section) (grids : List (Grid ℤ)) (nodes : ℕ) → Nested s grids nodes → NestedAlone s grids nodes
  nested_alone s grids nodes h = record { start = h.start; samples = h.samples; coded = h.coded; only = h.only }

  part_alone : (s : Section) (grids : List (Grid ℤ)) (nodes : ℕ) → CodesPart d w to_int zero x passes global s grids nodes →
      CodesPart {S = ℤ} d w (λ v. v) (pos 0) (storeless x) passes global s grids nodes
  part_alone s grids nodes h =
      first_as s.nested (CodesWhole d w (part_in x passes s.part s.stream_index) (bytes_of s.bits) x.config.decoder (position_of s.bits) grids nodes)
      (λ (n : Nested s grids nodes). nested_alone s grids nodes n) h

  parts_alone : (coded : List (Grid ℤ)) (sections : List Section) (costs : List ℕ) → AllZip (λ s n. CodesPart d w to_int zero x passes global s (map (grid_of coded) (pieces_of x passes s.part)) n) sections costs →
      AllZip (λ s n. CodesPart {S = ℤ} d w (λ v. v) (pos 0) (storeless x) passes global s (map (grid_of coded) (pieces_of x passes s.part)) n) sections costs
  parts_alone coded [] [] h = tt
  parts_alone coded [] (n ∷ ns) h = absurd h
  parts_alone coded (s ∷ ss) [] h = absurd h
  parts_alone coded (s ∷ ss) (n ∷ ns) h = (part_alone s (map (grid_of coded) (pieces_of x passes s.part)) n h.0, parts_alone coded ss ns h.1)

  pub decoded_alone : (sections : List Section) (grids : List (Grid ℤ)) (before after : ℕ) → AreDecoded d w to_int zero x passes global sections grids before after →
      AreDecoded {S = ℤ} d w (λ v. v) (pos 0) (storeless x) passes global sections grids before after
  decoded_alone sections grids before after h = record {
    coded = h.coded;
    sizes = h.sizes;
    complete = h.complete;
    costs = h.costs;
    parts = parts_alone h.coded sections h.costs h.parts;
    only = h.only;
    counted = h.counted;
  }
