-- A part of an image, read by a header of its own: it lies in the image's store as reading and decoding ask, and what
-- these return is its turn.
use Rattle.std.proofs.Common.{◌≡◌, ℕ, Bool, false, ◌^◌, ◌≤◌, inl, inr, List, [], length, get_or, Ok, Err, Result, Option, ℤ, refl, sym, subst, arith}
use Rattle.std.specs.Prelude.{◌⊎◌}
use Rattle.std.specs.List.{All}
use Rattle.std.specs.Int.{Width}
use Rattle.std.proofs.lemmas.List.Elements.{All-append, All-map}
use Rattle.jxlm_bits.specs.Decoding.{Meaning}
use Rattle.jxlm_bits.specs.ErrorKind.{UnlessMemory, kind_of}
use Rattle.jxlm_bits.specs.Grammar.{IsErrorAt}
use Rattle.jxlm_base.specs.Grid.{Grid, filled, grid}
use Rattle.jxlm_base.specs.Outside.{KeepsOutside}
use Rattle.jxlm_base.specs.Regions.{LieApart}
use Rattle.jxlm_bits.specs.declared.error.Error.{Error}
use Rattle.jxlm_base.specs.declared.subgrid.Region.{Region}
use Rattle.jxlm_base.proofs.Outside.{keeps_all}
use Rattle.jxlm_transform.specs.Ends.{HasEnds}
use Rattle.jxlm_chain.specs.Steps.{IsNarrowStore}
use Rattle.jxlm_groups.specs.declared.part.SectionPart.{SectionPart}
use Rattle.jxlm_groups.specs.declared.pass.Pass.{Pass}
use Rattle.jxlm_groups.proofs.HeldCells.{unlike_buffers}
use Rattle.jxlm_groups.proofs.PartChannels.{narrow_channels}
use Rattle.jxlm_groups.proofs.PieceFacts.{channels_sides, held_apart}
use Rattle.jxlm_samples.proofs.Loops.{same_count}
use Rattle.jxlm_transform.specs.Channels.{AreRegionsOf, Channel, IsNarrow}
use Rattle.jxlm_transform.specs.Steps.{Sides, tables_of}
use Rattle.jxlm_tree.specs.Tree.{Config}
use Rattle.jxlm_nested.specs.Zeros.{zeros}
use Rattle.jxl_modular.specs.Groups.{channels_in, held_in, pieces_of}
use Rattle.jxl_modular.specs.Image.{Image, coded_list}
use Rattle.jxl_modular.specs.Inner.Laid.{IsLaidOut}
use Rattle.jxlm_nested.specs.NestedParts.{CanFill, FillsIn, IsNested, WithSteps, nested_list, nested_places, with_own_tables}
use Rattle.jxlm_nested.specs.Opened.{steps_of_header}
use Rattle.jxl_modular.specs.NestedTurns.{NestedGives}
use Rattle.jxlm_nested.specs.Nested.{with_tables}
use Rattle.jxlm_nested.specs.Starts.{IsTreeErrorAt, opening_at}
use Rattle.jxlm_nested.specs.declared.nested.NestedPart.{NestedPart}
use Rattle.jxl_modular.proofs.Laid.{coded_apart}
use Rattle.jxl_modular.proofs.NestedLaws.{can_fill, stops_outside, turned_err, turned_ok}
use Rattle.jxl_modular.proofs.PieceLies.{held_inside, held_lie}

module _ {S D : Type 0} (x : Image S D) (laid : IsLaidOut x) (passes : List Pass) (part : SectionPart) where
  abbrev its_channels : List Channel
  its_channels = channels_in x passes part

  abbrev its_regions : List Region
  its_regions = held_in x passes part

  its_sizes : AreRegionsOf its_channels its_regions
  its_sizes = channels_sides x.group_dim passes (coded_list x) x.coded part

  its_apart : LieApart its_regions
  its_apart = held_apart x.coded (pieces_of x passes part) (coded_apart x laid) (held_inside x laid passes part) (unlike_buffers x.group_dim passes (coded_list x) part)

  -- what reading a header for it asks for
  pub nested_even : length its_regions ≡ length its_channels
  nested_even = sym (same_count its_channels its_regions its_sizes)

  pub nested_narrow : All IsNarrow its_channels
  nested_narrow = narrow_channels x.group_dim passes (coded_list x) part laid.narrow

  pub nested_ends : All HasEnds its_regions
  nested_ends = λ k e lt.
      let r : Region = get_or its_regions k e in
      let lies = held_lie x laid passes part k e lt in
      let sides = laid.narrow_store r.buffer (grid 0 0 []) lies.there in
      let wide = sides.0 in
      let high = sides.1 in
      let columns = lies.columns in
      let rows = lies.rows in
      record { column = omega (arith, wide, columns); row = omega (arith, high, rows) }

  module _ (d : Meaning D) (w : Width) (to_int : S → ℤ) (zero : S) (global : Option (Config D)) (bytes : List ℕ) (p stream : ℕ) (partly : Bool) where
    abbrev Gives : Result Bool Error → List (Grid S) → ℕ → ℕ → ℕ → Type 0
    Gives result new until before after = NestedGives d w to_int zero x passes global bytes p part stream partly result x.store new until before after

    -- an error before the first sample
    pub not_begun : (e : Error) (q n : ℕ) →
        UnlessMemory (kind_of e) (IsErrorAt (opening_at global bytes (nested_list its_channels) p) (kind_of e) q ⊎ IsTreeErrorAt d global bytes (nested_list its_channels) p (kind_of e) q) →
        Gives (Err e) x.store q n n
    not_begun e q n fails = (
      record { position = q; partial = false; tried = 0; tree = x.config.tree },
      inl (record { because = fails; unchanged = refl; tries = refl }),
      refl,
      (omega arith, omega arith),
    )

    -- whatever it returns, it changes the part alone
    pub nested_outside : (result : Result Bool Error) (new : List (Grid S)) (until before after : ℕ) → Gives result new until before after → KeepsOutside its_regions x.store new
    nested_outside (Ok whole) new until before after (t, turn, at, moves) = turn.0.outside
    nested_outside (Err e) new until before after (t, inl none, at, moves) = subst (KeepsOutside its_regions x.store) (sym none.unchanged) (keeps_all its_regions x.store)
    nested_outside (Err e) new until before after (t, inr stops, at, moves) =
        stops_outside d w to_int zero x.bit_depth global bytes p (nested_list its_channels) its_regions stream x.store partly e t new stops

    module _ (n : NestedPart D) (q : ℕ) (is : IsNested d global bytes (nested_list its_channels) (nested_places its_regions (length x.store)) p n q) where
      narrow_begun : IsNarrowStore (with_tables zero (steps_of_header n.header) x.store)
      narrow_begun =
          let P : Grid S → Type 0 = λ g. (g.width ≤ 2 ^ 30) × (g.height ≤ 2 ^ 30) in
          All-append P x.store (zeros zero (tables_of (steps_of_header n.header))) laid.narrow_store
          (All-map P (λ (s : Sides). filled s.width s.height zero) (tables_of (steps_of_header n.header)) is.opened.tables)

      -- its samples can be decoded
      pub nested_fills : CanFill n (with_own_tables zero n x.store)
      nested_fills =
          can_fill d w to_int zero x.bit_depth global bytes p (nested_list its_channels) its_regions stream x.store
          its_sizes (held_lie x laid passes part) its_apart n q is narrow_begun

      -- and what decoding them returns is its turn
      pub nested_gives : (result : Result Bool Error) (new : List (Grid S)) (until before after : ℕ) →
          WithSteps (λ t. FillsIn d w to_int bytes stream q n partly zero x.bit_depth result t x.store new) until before after → Gives result new until before after
      nested_gives (Ok whole) new until before after (t, fills, at, moves) =
          (t, turned_ok d w to_int zero x.bit_depth global bytes p (nested_list its_channels) its_regions stream x.store its_sizes (held_lie x laid passes part) its_apart n q is partly whole t new fills, at, moves)
      nested_gives (Err e) new until before after (t, fills, at, moves) =
          (t, turned_err d w to_int zero x.bit_depth global bytes p (nested_list its_channels) its_regions stream x.store its_sizes (held_lie x laid passes part) its_apart n q is partly e t new fills, at, moves)
