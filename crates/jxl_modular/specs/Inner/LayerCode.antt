-- A part's own header as a program keeps it, and a code by which a proof distinguishes what is seen of it.
use Rattle.std.specs.Prelude.{◌≡◌, ℕ, ◌+◌, ◌<◌, Bool, List, ◌++◌, length, refl}
use Rattle.std.specs.List.{All}
use Rattle.std.specs.Coded.{Coded, code_by, coded×, coded_bool, coded_list, coded_ℕ}
use Rattle.jxlm_base.specs.Grid.{Grid, grid_code}
use Rattle.jxlm_base.specs.Regions.{AllLie, LieApart}
use Rattle.jxlm_base.specs.declared.subgrid.Region.{Region}
use Rattle.jxlm_chain.specs.Lying.{HasTables}
use Rattle.jxlm_chain.specs.Placed.{IsPlacedBy}
use Rattle.jxlm_chain.specs.Steps.{IsNarrowStore}
use Rattle.jxlm_transform.specs.Channels.{AreRegionsOf, Channel, IsNarrow, infos, regions}
use Rattle.jxlm_transform.specs.declared.channels.PlacedChannel.{PlacedChannel}
use Rattle.jxlm_transform.specs.ChannelSteps.{Step}
use Rattle.jxlm_tree.specs.Tree.{Config}
use Rattle.jxlm_weighted.specs.declared.weights.WpHeader.{WpHeader}
use Rattle.jxlm_nested.specs.NestedParts.{head_of, nested_list, nested_places, regions_in}
use Rattle.jxlm_nested.specs.Opened.{IsOpened, steps_of_header}
use Rattle.jxl_modular.specs.Layers.{Layer}
use Rattle.jxlm_nested.specs.declared.nested.NestedPart.{NestedPart}

-- what is seen of these fields
abbrev pub layer_kept : {S D : Type 0} → NestedPart D → List PlacedChannel → List (Grid S) → Layer S D
layer_kept part given tables = record {
  head = head_of part;
  config = part.config;
  given = infos given;
  held = regions given;
  coded = regions_in part;
  buffers = part.placed.channels.buffers;
  tables = tables;
}

-- The header suits the part's channels, which have the sides of their regions; these share no cell, and lie in buffers
-- before the header's own tables, which are the last.
pub record IsLayer {S D : Type 0} (part : NestedPart D) (given : List PlacedChannel) (tables : List (Grid S)) : Type 0 where
  pub base : ℕ
  pub outer : ℕ
  pub count : part.placed.channels.buffers ≡ base + length tables
  pub opened : IsOpened (nested_list (infos given)) (part.header, part.placed)
  pub placed : IsPlacedBy (steps_of_header part.header) (nested_places (regions given) (base + outer)) part.placed
  pub own : HasTables (steps_of_header part.header) outer tables
  pub narrow_tables : IsNarrowStore tables
  pub sizes : AreRegionsOf (infos given) (regions given)
  pub taken : All (λ r. r.buffer < base + outer) (regions given)
  pub apart : LieApart (regions given)

-- the code of what is seen, from those of its parts
abbrev pub layer_code : {S D : Type 0} → Coded WpHeader → Coded Step → Coded (Config D) → Coded Channel → Coded Region → Coded S → Coded (Layer S D)
layer_code {S} {D} w t c i r s =
    code_by (Bool × (Bool × (Bool × (WpHeader × (List Step × (List Channel × (ℕ × (Config D × (List Channel × (List Region × (List Region × (ℕ × List (Grid S)))))))))))))
    (coded× coded_bool (coded× coded_bool (coded× coded_bool (coded× w (coded× (coded_list t) (coded× (coded_list i) (coded× coded_ℕ (coded× c (coded× (coded_list i) (coded× (coded_list r) (coded× (coded_list r) (coded× coded_ℕ (coded_list (grid_code s))))))))))))))
    (λ l. (l.head.uses_global, (l.head.has_palette, (l.head.has_squeeze, (l.head.weights, (l.head.coded.steps, (l.head.coded.list.channels, (l.head.coded.list.nb_meta, (l.config, (l.given, (l.held, (l.coded, (l.buffers, l.tables)))))))))))))
    (λ p. record {
      head = record {
        uses_global = p.0;
        has_palette = p.1.0;
        has_squeeze = p.1.1.0;
        weights = p.1.1.1.0;
        coded = record { steps = p.1.1.1.1.0; list = record { channels = p.1.1.1.1.1.0; nb_meta = p.1.1.1.1.1.1.0 } };
      };
      config = p.1.1.1.1.1.1.1.0;
      given = p.1.1.1.1.1.1.1.1.0;
      held = p.1.1.1.1.1.1.1.1.1.0;
      coded = p.1.1.1.1.1.1.1.1.1.1.0;
      buffers = p.1.1.1.1.1.1.1.1.1.1.1.0;
      tables = p.1.1.1.1.1.1.1.1.1.1.1.1;
    })
    (λ _. refl)

-- Some channels of a part lie in the store and in tables after it, so that a header of their own can be read for them: they
-- are narrow, have the sides of their regions, and these share no cell.
pub record CanNest {X : Type 0} (pieces : List PlacedChannel) (store tables : List (Grid X)) : Type 0 where
  pub sizes : AreRegionsOf (infos pieces) (regions pieces)
  pub narrow : All IsNarrow (infos pieces)
  pub lie : AllLie (regions pieces) (store ++ tables)
  pub apart : LieApart (regions pieces)
  pub narrow_tables : IsNarrowStore tables
