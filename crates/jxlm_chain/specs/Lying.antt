-- What a store must have for channels that lie in it by a layout.
use Rattle.std.specs.Prelude.{◌≡◌, ℕ, suc, ◌<◌, List, [], ◌∷◌, length}
use Rattle.std.specs.List.{All}
use Rattle.jxlm_base.specs.Grid.{Grid}
use Rattle.jxlm_base.specs.Outside.{buffer_at}
use Rattle.jxlm_base.specs.Regions.{AllLie, LieApart}
use Rattle.jxlm_transform.specs.Channels.{AreRegionsOf, Channel, HasSides}
use Rattle.jxlm_transform.specs.ChannelSteps.{Step, RctStep, PaletteStep, SqueezeStep}
use Rattle.jxlm_transform.specs.Layout.{Layout}

module _ {S : Type 0} where
  -- from buffer b on the store has the tables of these steps, and nothing else
  abbrev pub HasTables : List Step → ℕ → List (Grid S) → Type 0
  HasTables [] b store = length store ≡ b
  HasTables (RctStep t ∷ ss) b store = HasTables ss b store
  HasTables (PaletteStep t ∷ ss) b store = HasSides t.nb_colours t.num_c (buffer_at store b) × HasTables ss (suc b) store
  HasTables (SqueezeStep t ∷ ss) b store = HasTables ss b store

  -- the channels lie in buffers of the store that are taken, in regions of their sides, no two of which share a cell
  pub record LieIn (cs : List Channel) (l : Layout) (store : List (Grid S)) : Type 0 where
    pub sizes : AreRegionsOf cs l.regions
    pub lie : AllLie l.regions store
    pub taken : All (λ r. r.buffer < l.buffers) l.regions
    pub apart : LieApart l.regions
