-- One transform more of a coded image.
use Rattle.std.proofs.Common.{◌≡◌, ℕ, suc, ◌≤◌, ℤ, List, [], ◌∷◌, ◌++◌, length, Ok, sym, ap, subst, arith}
use Rattle.std.specs.Int.{Width}
use Rattle.std.specs.List.{All}
use Rattle.std.proofs.lemmas.List.{length-append, length-map, map-append}
use Rattle.std.proofs.lemmas.List.Elements.{All-cons, All-nil}
use Rattle.jxlm_base.specs.Grid.{Grid, IsFull}
use Rattle.jxlm_base.specs.Regions.{grids_in, store_meanings}
use Rattle.jxlm_chain.specs.Chain.{Chain}
use Rattle.jxlm_chain.specs.Lying.{HasTables, LieIn}
use Rattle.jxlm_chain.specs.Placed.{IsPlacedBy}
use Rattle.jxlm_chain.specs.Shape.{SameShape}
use Rattle.jxlm_chain.specs.Undo.{UndoesAll, undo_of_all}
use Rattle.jxlm_chain.specs.declared.placed.PlacedChannels.{PlacedChannels}
use Rattle.jxlm_chain.proofs.LayoutLaws.{lie_after_all}
use Rattle.jxlm_chain.proofs.ShapeLaws.{lie_in_kept, tables_kept}
use Rattle.jxlm_chain.proofs.Undone.{chain_of}
use Rattle.jxlm_encode_transform.proofs.Forward.{full_kept}
use Rattle.jxlm_transform.specs.Channels.{ChannelList}
use Rattle.jxlm_transform.specs.ChannelSteps.{CodedList, PaletteStep, RctStep, Step, coded_list, list_after_all}
use Rattle.jxlm_transform.specs.Layout.{Layout, layout_after_all}
use Rattle.jxlm_transform.specs.Lists.{layout_of, list_of}
use Rattle.jxlm_transform.specs.Steps.{HasChannels}
use Rattle.jxlm_transform.specs.Transforms as transforms
use Rattle.jxlm_transform.specs.Transforms.{OfPalette, OfRct}
use Rattle.jxlm_transform.specs.declared.channels.ModularChannels.{ModularChannels}
use Rattle.jxlm_transform.proofs.SideBounds.{came, narrow_coded}
use Rattle.jxlm_transform.proofs.StepLaws.{steps_list}
use Rattle.jxl_encode_image.specs.Images.{IsCodedImage, LieCoded, samples_in}
use Rattle.jxl_encode_image.specs.Preparations.{IsSpelled, image_transforms, transform_listed}
use Rattle.jxl_encode_image.specs.Inner.Placing.{GoesOnTo, IsPlacedFor, LieAlone}
use Rattle.jxl_encode_image.specs.declared.transform.ImageTransform.{ImageTransform}
use Rattle.jxl_encode_image.specs.declared.transform.ImageTransform.TheVariants as images
use Rattle.jxl_encode_image.proofs.Joined.{goes_on, same_coded}
use Rattle.jxl_encode_image.proofs.Spelled.{are_transforms}

-- the one step of a transform
abbrev pub step_of : ImageTransform → Step
step_of (images.Colour t) = RctStep t
step_of (images.Palette t) = PaletteStep t

one_step : (t : ImageTransform) (l : ChannelList) (c : CodedList) → coded_list (transform_listed t ∷ []) l ≡ Ok c → c.steps ≡ step_of t ∷ []
one_step (images.Colour t) l c e =
    let (m, found, rest) = came (list_after_all (RctStep t ∷ []) l) _ c e in
    sym (ap (λ (x : CodedList). x.steps) (same_coded (record { steps = RctStep t ∷ []; list = m }) c rest))
one_step (images.Palette t) l c e =
    let (m, found, rest) = came (list_after_all (PaletteStep t ∷ []) l) _ c e in
    sym (ap (λ (x : CodedList). x.steps) (same_coded (record { steps = PaletteStep t ∷ []; list = m }) c rest))

has_channels : (t : ImageTransform) → IsSpelled (transform_listed t) → HasChannels (step_of t)
has_channels (images.Colour t) h = tt
has_channels (images.Palette t) h = h.ranges.some_channels

-- the transforms of an image and one more
pub one_more : (ts : List ImageTransform) (t : ImageTransform) → image_transforms (ts ++ t ∷ []) ≡ image_transforms ts ++ transform_listed t ∷ []
one_more ts t = map-append transform_listed ts (t ∷ [])

pub few_more : (ts : List ImageTransform) (t : ImageTransform) → suc (length ts) ≤ 273 → length (image_transforms ts ++ transform_listed t ∷ []) ≤ 273
few_more ts t few =
    let both = length-append (image_transforms ts) (transform_listed t ∷ []) in
    let same = length-map ts transform_listed in
    omega (arith, both, same, few)

module _ (t : ImageTransform) (spelled : IsSpelled (transform_listed t)) (old : ModularChannels) (p : PlacedChannels) (placed : IsPlacedFor (transform_listed t ∷ []) old p) where
  abbrev ss : List Step
  ss = step_of t ∷ []

  steps_are : placed.steps ≡ ss
  steps_are = one_step t (list_of old) (record { steps = placed.steps; list = list_of p.channels }) placed.come

  pub by_step : IsPlacedBy ss (layout_of old) p
  by_step = subst (λ (steps : List Step). IsPlacedBy steps (layout_of old) p) steps_are placed.by

  pub step_come : coded_list (transform_listed t ∷ []) (list_of old) ≡ Ok (record { steps = ss; list = list_of p.channels })
  step_come = subst (λ (steps : List Step). coded_list (transform_listed t ∷ []) (list_of old) ≡ Ok (record { steps = steps; list = list_of p.channels })) steps_are placed.come

  pub step_leaves : list_after_all ss (list_of old) ≡ Ok (list_of p.channels)
  step_leaves = steps_list (transform_listed t ∷ []) (list_of old) (record { steps = ss; list = list_of p.channels }) step_come

  pub step_has : All HasChannels ss
  step_has = All-cons HasChannels (step_of t) [] (has_channels t spelled) (All-nil HasChannels)

  all_spelled : All IsSpelled (transform_listed t ∷ [])
  all_spelled = All-cons IsSpelled (transform_listed t) [] spelled (All-nil IsSpelled)

  -- the store with the tables of the step, before it, and the store after it
  module _ {S : Type 0} (store start next : List (Grid S)) (alone : LieAlone old store) (first : LieIn (list_of old).channels (layout_of old) start) (tables : HasTables ss (layout_of old).buffers start)
      (full : All IsFull start) (shape : SameShape start next) where
    first_there : LieIn (list_of old).channels (layout_of old) next
    first_there = lie_in_kept start next shape (list_of old).channels (layout_of old) first

    tables_there : HasTables ss (layout_of old).buffers next
    tables_there = tables_kept start next shape ss (layout_of old).buffers tables

    after : LieIn (list_of p.channels).channels (layout_after_all ss (layout_of old)) next × HasTables [] (layout_after_all ss (layout_of old)).buffers next
    after = lie_after_all ss (list_of old) (list_of p.channels) (layout_of old) next step_leaves step_has first_there tables_there

    lie_coded : LieCoded p.channels next
    lie_coded = record {
      few = placed.count;
      narrow = narrow_coded (transform_listed t ∷ []) (list_of old) (record { steps = ss; list = list_of p.channels }) (are_transforms (transform_listed t ∷ []) all_spelled) alone.lie.narrow step_come;
      lie = subst (λ (l : Layout). LieIn (list_of p.channels).channels l next) (sym by_step.layout) after.0;
    }

    pub lie_next : LieAlone p.channels next
    lie_next = record {
      lie = lie_coded;
      meta = placed.meta;
      all = subst (λ (l : Layout). length next ≡ l.buffers) (sym by_step.layout) after.1;
      full = full_kept start next shape full;
    }

    module _ (to_int : S → ℤ) (w : Width) (same : grids_in (layout_of old).regions (store_meanings to_int start) ≡ samples_in to_int old store)
        (undone : (depth : ℕ) → UndoesAll to_int w depth (undo_of_all ss (layout_of old)) next start) where
      chain : (depth : ℕ) → Chain w depth placed.steps (list_of old) (samples_in to_int old store) (samples_in to_int p.channels next)
      chain depth =
          let made = chain_of to_int w depth ss (list_of old) (list_of p.channels) (layout_of old) next start step_leaves step_has first_there tables_there (undone depth) in
          let there = subst (λ (l : Layout). Chain w depth ss (list_of old) (grids_in (layout_of old).regions (store_meanings to_int start)) (grids_in l.regions (store_meanings to_int next))) (sym by_step.layout) made in
          subst (λ (steps : List Step). Chain w depth steps (list_of old) (samples_in to_int old store) (samples_in to_int p.channels next)) (sym steps_are)
          (subst (λ (gs : List (Grid ℤ)). Chain w depth ss (list_of old) gs (samples_in to_int p.channels next)) same there)

      pub goes_next : (ts : List ImageTransform) → suc (length ts) ≤ 273 → GoesOnTo to_int w old store ts p.channels next (ts ++ t ∷ [])
      goes_next ts few = λ given image coded.
          subst (λ us. IsCodedImage to_int w us given image p.channels next) (sym (one_more ts t))
          (goes_on to_int w given image (image_transforms ts) (transform_listed t ∷ []) old store coded all_spelled (few_more ts t few) p placed next lie_coded chain)

-- a palette of a header has a channel
pub listed_channels : (t : ImageTransform) → IsSpelled (transform_listed t) → All transforms.HasChannels (transform_listed t ∷ [])
listed_channels (images.Colour t) h = All-cons transforms.HasChannels (OfRct t) [] tt (All-nil transforms.HasChannels)
listed_channels (images.Palette t) h = All-cons transforms.HasChannels (OfPalette t) [] h.ranges.some_channels (All-nil transforms.HasChannels)
