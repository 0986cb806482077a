-- What decoding a part by its own header returns, from what its calls return.
use Rattle.std.proofs.Common.{sym, ◌≡◌, ℕ, Bool, not, ◌*◌, ◌<◌, inl, inr, List, take, length, Ok, Err, Result, ℤ, refl, ap, ◌∙◌, subst, arith}
use Rattle.std.specs.Prelude.{IsTrue, ◌↔◌}
use Rattle.std.specs.Int.{Width}
use Rattle.jxlm_bits.specs.Decoding.{Meaning}
use Rattle.jxlm_bits.specs.ErrorKind.{NoMemory, kind_of}
use Rattle.jxlm_base.specs.Grid.{Grid}
use Rattle.jxlm_base.specs.Outside.{KeepsOutside}
use Rattle.jxlm_bits.specs.declared.error.Error.{Error}
use Rattle.jxlm_base.specs.declared.subgrid.Region.{Region}
use Rattle.jxlm_chain.specs.Shape.{SameShape}
use Rattle.jxlm_chain.specs.Undoings.{undos_of}
use Rattle.jxlm_chain.proofs.ShapeLaws.{all_lie_kept, narrow_kept, shape_kept, undos_kept}
use Rattle.jxlm_samples.specs.Decode.{DecodeGives, MovesWithin}
use Rattle.jxlm_samples.specs.Part.{Part, cell_count}
use Rattle.jxlm_samples.specs.Placed.{PartLies, standing_in}
use Rattle.jxlm_samples.specs.declared.part.PlacedPart.{PlacedPart}
use Rattle.jxlm_base.specs.Regions.{AllLie, LieApart}
use Rattle.std.proofs.lemmas.List.{length-map}
use Rattle.std.specs.List.{All}
use Rattle.jxlm_transform.specs.Channels.{AreRegionsOf, Channel, IsNarrow, infos, regions}
use Rattle.jxlm_transform.specs.declared.channels.PlacedChannel.{PlacedChannel}
use Rattle.jxlm_tree.specs.Steps.{most_steps}
use Rattle.jxlm_nested.specs.NestedParts.{CanFill, Decodes, DecodesTo, Fills, FillsIn, WithSteps, nested_channels, regions_in, with_own_tables}
use Rattle.jxlm_nested.specs.Nested.{Turn}
use Rattle.jxlm_nested.specs.declared.nested.NestedPart.{NestedPart}
use Rattle.jxlm_nested.proofs.PartFacts.{as_test}

module _ {D X : Type 0} (n : NestedPart D) where
  -- where it can be filled, its coded channels can be decoded
  pub nested_lies : (store : List (Grid X)) (p : PlacedPart D) → CanFill n store → p.channels.now ≡ n.placed.channels.placed.items → p.weights ≡ n.header.wp_params → PartLies p store
  nested_lies store p can same weights = record {
    sizes = subst (λ (ps : List PlacedChannel). AreRegionsOf (infos ps) (regions ps)) (sym same) can.sizes;
    narrow = subst (λ (ps : List PlacedChannel). All IsNarrow (infos ps)) (sym same) can.narrow;
    few = rw (same, ← length-map n.placed.channels.placed.items (λ (c : PlacedChannel). c.info)) can.few;
    weights = rw weights can.weights;
    lie = subst (λ (ps : List PlacedChannel). AllLie (regions ps) store) (sym same) can.lie;
    apart = subst (λ (ps : List PlacedChannel). LieApart (regions ps)) (sym same) can.apart;
  }

  -- it still can where only cells changed
  pub can_fill_kept : (old new : List (Grid X)) → SameShape old new → CanFill n old → CanFill n new
  can_fill_kept old new same can = record {
    sizes = can.sizes;
    narrow = can.narrow;
    few = can.few;
    weights = can.weights;
    lie = all_lie_kept old new same (regions_in n) can.lie;
    apart = can.apart;
    undo = undos_kept old new same (undos_of n.placed.undoings.items) can.undo;
    suits = can.suits;
    narrow_store = narrow_kept old new same can.narrow_store;
  }

module _ {S D : Type 0} (d : Meaning D) (w : Width) (to_int : S → ℤ) (bytes : List ℕ) (stream p : ℕ) (n : NestedPart D) (partly : Bool) (q before after : ℕ) where
  abbrev pub Decoded : Result Bool Error → List (Grid S) → List (Grid S) → Type 0
  Decoded r old now = WithSteps (λ t. DecodesTo d w to_int bytes stream p n partly r t old now) q before after

  abbrev pub Filled : ℕ → Result Bool Error → List (Grid S) → List (Grid S) → Type 0
  Filled bit_depth r old new = WithSteps (λ t. Fills d w to_int bytes stream p n partly bit_depth r t old new) q before after

  abbrev pub FilledIn : S → ℕ → Result Bool Error → List (Grid S) → List (Grid S) → Type 0
  FilledIn zero bit_depth r old new = WithSteps (λ t. FillsIn d w to_int bytes stream p n partly zero bit_depth r t old new) q before after

  -- what decoding these channels in these regions gives is what decoding its samples gives, where they are its own
  module _ (cs : List Channel) (rs : List Region) (channels : cs ≡ nested_channels n) (lie : rs ≡ regions_in n) (old now : List (Grid S)) (begins still : Bool)
      (there : IsTrue begins ↔ (0 < cell_count cs)) (outside : KeepsOutside rs old now) where
    abbrev part : Part
    part = record { channels = cs; weights = n.header.wp_params; tree = n.config.tree; stream = stream }

    abbrev Gives : Result (Unit {0}) Error → Type 0
    Gives r =
        (tried : ℕ) × DecodeGives d w part bytes n.config.decoder (standing_in to_int rs old p begins) (standing_in to_int rs now q still) partly r tried
        × MovesWithin before after (tried * most_steps n.config.tree)

    abbrev turn_with : ℕ → Turn
    turn_with tried = record { position = q; partial = still; tried = tried; tree = n.config.tree }

    decodes_of : (r : Result (Unit {0}) Error) (gives : Gives r) → Decodes d w to_int bytes stream p n partly r (turn_with gives.0) old now
    decodes_of r gives =
        let own : IsTrue begins ↔ (0 < cell_count (nested_channels n)) = subst (λ (cs : List Channel). IsTrue begins ↔ (0 < cell_count cs)) channels there in
        record {
          answers = rw (channels, lie, as_test begins (cell_count (nested_channels n)) own) at gives.1;
          outside = subst (λ (rs : List Region). KeepsOutside rs old now) lie outside;
          tree = refl;
        }

    pub decoded_ok : Gives (Ok tt) → Decoded (Ok (not still)) old now
    decoded_ok gives = (turn_with gives.0, (decodes_of (Ok tt) gives, refl), refl, gives.2)

    pub decoded_err : (e : Error) → Gives (Err e) → Decoded (Err e) old now
    decoded_err e gives = (turn_with gives.0, decodes_of (Err e) gives, refl, gives.2)

  -- decoding its samples changed cells alone
  pub shape_decoded : (old now : List (Grid S)) (whole : Bool) → Decoded (Ok whole) old now → SameShape old now
  shape_decoded old now whole (t, (decodes, says), at, moves) = shape_kept (regions_in n) old now decodes.outside

  module _ (zero : S) (bit_depth : ℕ) (old new : List (Grid S)) where
    -- filled where its tables were added, which are cut off again
    pub filled_in : (r : Result Bool Error) (begun last store : List (Grid S)) → begun ≡ with_own_tables zero n old → Filled bit_depth r begun last → store ≡ last → new ≡ take (length old) store → FilledIn zero bit_depth r old new
    filled_in r begun last store tables fills same cut =
        in_it r (subst (λ (s : List (Grid S)). Filled bit_depth r s last) tables fills) (cut ∙ ap (λ (s : List (Grid S)). take (length old) s) same) where
          in_it : (r : Result Bool Error) → Filled bit_depth r (with_own_tables zero n old) last → new ≡ take (length old) last → FilledIn zero bit_depth r old new
          in_it (Ok whole) (t, fills, at, moves) cut = (t, (last, fills, cut), at, moves)
          in_it (Err e) (t, fills, at, moves) cut = (t, inr (last, fills, cut), at, moves)

    -- out of memory for its tables
    pub no_tables : (e : Error) → kind_of e ≡ NoMemory → new ≡ old → after ≡ before → FilledIn zero bit_depth (Err e) old new
    no_tables e memory same steps = (record { position = q; partial = partly; tried = 0; tree = n.config.tree }, inl (memory, same, refl), refl, (omega (arith, steps), omega (arith, steps)))
