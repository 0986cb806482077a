-- Steps undone: what one of them leaves is coded as what was there, and all of them together make a chain.
use Rattle.std.proofs.Common.{◌≡◌, ℕ, suc, List, [], ◌∷◌, ◌++◌, ℤ, refl, sym, ap, subst, arith}
use Rattle.std.specs.Prelude.{Ok}
use Rattle.std.specs.List.{All}
use Rattle.std.specs.Int.{Width}
use Rattle.jxlm_base.specs.Grid.{Grid}
use Rattle.jxlm_base.specs.Regions.{store_meanings, grids_in}
use Rattle.jxlm_transform.specs.Channels.{Channel, ChannelList}
use Rattle.jxlm_transform.specs.ChannelSteps.{Step, RctStep, PaletteStep, SqueezeStep, list_after_all}
use Rattle.jxlm_chain.specs.Chain.{Codes, Chain}
use Rattle.jxlm_transform.specs.Layout.{Layout, layout_after, layout_after_all}
use Rattle.jxlm_chain.specs.Lying.{LieIn, HasTables}
use Rattle.jxlm_transform.specs.Steps.{HasChannels}
use Rattle.jxlm_chain.specs.Undo.{Undo, UndoesAll, undo_of, undo_of_all}
use Rattle.jxlm_chain.proofs.KeptGrids.{grids_of_lying}
use Rattle.jxlm_chain.proofs.LayoutLaws.{lie_after}
use Rattle.jxlm_chain.proofs.ShapeLaws.{shape_all_undone, lie_in_kept}
use Rattle.jxlm_transform.proofs.StepFacts.{first_step}
use Rattle.jxlm_chain.proofs.UndoneColour.{colour_codes}
use Rattle.jxlm_chain.proofs.UndonePalette.{palette_codes}
use Rattle.jxlm_chain.proofs.UndoneSqueeze.{squeeze_codes}

module _ {S : Type 0} (to_int : S → ℤ) (w : Width) (depth : ℕ) where
  -- the store between some undoings and those after them
  pub undone_split : (us vs : List Undo) (old new : List (Grid S)) → UndoesAll to_int w depth (us ++ vs) old new →
      (between : List (Grid S)) × UndoesAll to_int w depth vs old between × UndoesAll to_int w depth us between new
  undone_split [] vs old new h = (new, h, refl)
  undone_split (u ∷ us) vs old new h =
      let rest = undone_split us vs old h.0 h.1 in
      (rest.0, rest.1, (h.0, rest.2, h.2))

  -- what a step's undoings leave is coded as what was there
  pub codes_of : (s : Step) (cs : List Channel) (places : Layout) (old new : List (Grid S)) → LieIn cs places old → UndoesAll to_int w depth (undo_of s places) old new →
      Codes w depth s (grids_in places.regions (store_meanings to_int new)) (grids_in (layout_after s places).regions (store_meanings to_int old))
  codes_of (RctStep t) cs places old new lies h = colour_codes to_int w depth t places cs old new lies h
  codes_of (PaletteStep t) cs places old new lies h = palette_codes to_int w depth t places cs old new lies h
  codes_of (SqueezeStep t) cs places old new lies h = squeeze_codes to_int w depth t places cs old new lies h

module _ {S : Type 0} (to_int : S → ℤ) (w : Width) (depth : ℕ) where
  -- The steps undone: the grids before them become those that were after them.
  pub chain_of : (ss : List Step) (l m : ChannelList) (places : Layout) (old new : List (Grid S)) → list_after_all ss l ≡ Ok m → All HasChannels ss → LieIn l.channels places old → HasTables ss places.buffers old →
      UndoesAll to_int w depth (undo_of_all ss places) old new →
      Chain w depth ss l (grids_in places.regions (store_meanings to_int new)) (grids_in (layout_after_all ss places).regions (store_meanings to_int old))
  chain_of [] l m places old new is has lies tables undone =
      (grids_of_lying to_int new l.channels places (subst (LieIn l.channels places) (sym undone) lies), ap (λ store. grids_in places.regions (store_meanings to_int store)) (sym undone))
  chain_of (s ∷ ss) l m places old new is has lies tables undone =
      let (next, first, others) = first_step s ss l m is in
      let split = undone_split to_int w depth (undo_of s places) (undo_of_all ss (layout_after s places)) old new undone in
      let between : List (Grid S) = split.0 in
      let after = lie_after s l next places ss old first (has 0 s (omega arith)) lies tables in (
        grids_of_lying to_int new l.channels places (lie_in_kept old new (shape_all_undone to_int w depth (undo_of s places ++ undo_of_all ss (layout_after s places)) old new undone) l.channels places lies),
        next,
        grids_in (layout_after s places).regions (store_meanings to_int between),
        first,
        codes_of to_int w depth s l.channels places between new
            (lie_in_kept old between (shape_all_undone to_int w depth (undo_of_all ss (layout_after s places)) old between split.1) l.channels places lies) split.2,
        chain_of ss next m (layout_after s places) old between others (λ k d h. has (suc k) d (omega arith)) after.0 after.1 split.1,
      )
