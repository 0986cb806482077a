-- The palettes of an image have no weights, or the image's: so it is of what undoes them.
use Rattle.std.proofs.Common.{List, [], ◌∷◌, Some}
use Rattle.std.specs.List.{All}
use Rattle.std.proofs.lemmas.List.Elements.{All-append, All-cons, All-head, All-map, All-nil, All-tail}
use Rattle.jxlm_transform.specs.Layout.{Layout, layout_after}
use Rattle.jxlm_transform.specs.Steps.{HasWeights}
use Rattle.jxlm_chain.specs.Undo.{UndoSqueeze, undo_of, undo_of_all}
use Rattle.jxlm_chain.specs.Undoings.{SuitsWeights}
use Rattle.jxlm_transform.specs.ChannelSteps.{Step, RctStep, PaletteStep, SqueezeStep, range}
use Rattle.jxlm_weighted.specs.declared.weights.WpHeader.{WpHeader}

module _ (weights : WpHeader) where
  step_suits : (s : Step) (places : Layout) → HasWeights weights s → All (SuitsWeights (Some weights)) (undo_of s places)
  step_suits (RctStep t) places has = All-cons (SuitsWeights (Some weights)) _ [] tt (All-nil (SuitsWeights (Some weights)))
  step_suits (PaletteStep t) places has = All-cons (SuitsWeights (Some weights)) _ [] has (All-nil (SuitsWeights (Some weights)))
  step_suits (SqueezeStep t) places has = All-map (SuitsWeights (Some weights)) (UndoSqueeze t.horizontal) (range t.begin_c t.num_c places.regions) (λ i d l. tt)

  -- what undoes the steps suits the weights
  pub steps_suit : (ss : List Step) (places : Layout) → All (HasWeights weights) ss → All (SuitsWeights (Some weights)) (undo_of_all ss places)
  steps_suit [] places has = All-nil (SuitsWeights (Some weights))
  steps_suit (s ∷ ss) places has =
      All-append (SuitsWeights (Some weights)) (undo_of s places) (undo_of_all ss (layout_after s places)) (step_suits s places (All-head (HasWeights weights) s ss has))
      (steps_suit ss (layout_after s places) (All-tail (HasWeights weights) s ss has))
