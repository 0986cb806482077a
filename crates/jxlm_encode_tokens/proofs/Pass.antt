-- The tokens of a part, row by row and channel by channel.
use Rattle.std.proofs.Common.{◌≡◌, ◌⊎◌, ℕ, ◌+◌, ◌*◌, ◌<◌, List, [], ◌++◌, length, get_or, refl, sym, ap, ◌∙◌, subst, arith, ℤ, inl, inr}
use Rattle.std.specs.Int.{Width}
use Rattle.std.specs.Prelude.{OnOk, Result, Ok, Err}
use Rattle.std.proofs.lemmas.List.{length-append, length-map}
use Rattle.jxlm_base.specs.Grid.{Grid}
use Rattle.jxlm_base.specs.Regions.{grids_in, store_meanings}
use Rattle.jxlm_tree.specs.Tree.{AllLeaves}
use Rattle.jxlm_samples.specs.ChannelSettings.{region_at}
use Rattle.jxlm_transform.specs.Channels.{infos}
use Rattle.jxlm_samples.specs.Part.{Part, cells_before, cells_of, channel, max_width}
use Rattle.jxlm_samples.specs.Placed.{PartLies}
use Rattle.jxlm_samples.specs.Reading.{HasFlats, HasRoom, IsCodingOf, IsRoomyFor, part_of, regions_of, row_width, sampled_width}
use Rattle.jxlm_samples.specs.declared.coding.PartCoding.{PartCoding}
use Rattle.jxlm_samples.specs.declared.coding.PartState.{PartState}
use Rattle.jxlm_samples.specs.declared.part.PlacedPart.{PlacedPart}
use Rattle.jxlm_samples.proofs.Loops.{all_cells, all_done, channel_done, channel_empty, channel_flat, fits_in, same_size}
use Rattle.jxlm_samples.proofs.Starting.{as_many_channels, roomy_for, walked_within}
use Rattle.jxlm_encode_tokens.specs.Inner.Walks.{AreFirstTokens, AreRowTokens, IsWalked}
use Rattle.jxlm_encode_tokens.specs.Tokens.{AreClusteredTokensOf, AreTokensOf, IsTokenOfCell, MultipliesByOne}
use Rattle.jxlm_encode_tokens.specs.Inner.Forms.{AreCellTokens, Form, IsCellToken, token_form, value_form}
use Rattle.jxlm_bit_writer.specs.declared.token.Token.{Token}
use Rattle.std.proofs.Math.ListN.{get_or-map}
use Rattle.jxlm_encode_tokens.proofs.Lists.{joined}

module _ {D X T : Type 0} (c : PartCoding D) (w : Width) (to_int : X → ℤ) (store : List (Grid X)) (form : Form T) where
  abbrev all : List ℤ
  all = cells_of (grids_in (regions_of c) (store_meanings to_int store))

  abbrev IsToken : ℕ → T → Type 0
  IsToken = IsCellToken form w (part_of c) all

  -- a row more
  pub row_added : (i y : ℕ) (tokens out new : List T) → length out ≡ (region_at (regions_of c) i).width → new ≡ tokens ++ out →
      AreFirstTokens c w to_int store form (cells_before (part_of c).channels i + y * (region_at (regions_of c) i).width) tokens →
      AreRowTokens c w to_int store form i y (region_at (regions_of c) i).width out →
      AreFirstTokens c w to_int store form (cells_before (part_of c).channels i + (y + 1) * (region_at (regions_of c) i).width) new
  row_added i y tokens out new long is before row =
      let n : ℕ = (region_at (regions_of c) i).width in
      let a : ℕ = cells_before (part_of c).channels i in
      let both = length-append tokens out in
      let count = before.0 in
      let end : a + y * n + n ≡ a + (y + 1) * n = omega arith in
      subst (AreFirstTokens c w to_int store form (a + (y + 1) * n)) (sym is) (
        omega (arith, both, count, long),
        subst (λ k. (j : ℕ) (d : T) → j < k → IsToken j (get_or (tokens ++ out) j d)) end
            (joined IsToken tokens out (a + y * n) n count before.1 (λ k d less. subst (λ j. IsToken j (get_or out k d)) (let e : a + (y * n + k) ≡ a + y * n + k = omega arith in e) (row k d less))),
      )

  -- no row yet
  pub no_row : (i : ℕ) (tokens : List T) → AreFirstTokens c w to_int store form (cells_before (part_of c).channels i) tokens →
      AreFirstTokens c w to_int store form (cells_before (part_of c).channels i + 0 * (region_at (regions_of c) i).width) tokens
  no_row i tokens h = subst (λ n. AreFirstTokens c w to_int store form n tokens) (let e : cells_before (part_of c).channels i ≡ cells_before (part_of c).channels i + 0 * (region_at (regions_of c) i).width = omega arith in e) h

  -- all rows
  pub all_rows : (coding : IsCodingOf c) (i : ℕ) → i < length (regions_of c) → (tokens : List T) →
      AreFirstTokens c w to_int store form (cells_before (part_of c).channels i + (region_at (regions_of c) i).height * (region_at (regions_of c) i).width) tokens →
      AreFirstTokens c w to_int store form (cells_before (part_of c).channels (i + 1)) tokens
  all_rows coding i li tokens h =
      let same = (same_size (part_of c).channels (regions_of c) i coding.sizes li).0 in
      let end : cells_before (part_of c).channels i + (region_at (regions_of c) i).height * (region_at (regions_of c) i).width ≡ cells_before (part_of c).channels (i + 1) =
      ap (λ n. cells_before (part_of c).channels i + (region_at (regions_of c) i).height * n) same
      ∙ (let e : cells_before (part_of c).channels i + (region_at (regions_of c) i).height * (channel (part_of c).channels i).width
      ≡ cells_before (part_of c).channels i + ((region_at (regions_of c) i).height * (channel (part_of c).channels i).width + 0) = omega arith in e)
      ∙ channel_done (part_of c) (regions_of c) coding.sizes i li in
      subst (λ n. AreFirstTokens c w to_int store form n tokens) end h

  -- a channel without cells
  pub no_cells : (coding : IsCodingOf c) (i : ℕ) → i < length (regions_of c) → (tokens : List T) → ((region_at (regions_of c) i).width ≡ 0) ⊎ ((region_at (regions_of c) i).height ≡ 0) →
      AreFirstTokens c w to_int store form (cells_before (part_of c).channels i) tokens → AreFirstTokens c w to_int store form (cells_before (part_of c).channels (i + 1)) tokens
  no_cells coding i li tokens (inl none) h = subst (λ n. AreFirstTokens c w to_int store form n tokens) (channel_empty (part_of c) (regions_of c) coding.sizes i li none) h
  no_cells coding i li tokens (inr none) h = subst (λ n. AreFirstTokens c w to_int store form n tokens) (channel_flat (part_of c) (regions_of c) coding.sizes i li none) h

  -- no channel yet
  pub no_channel : AreFirstTokens c w to_int store form 0 []
  no_channel = (refl, λ k d less. absurd (omega (arith, less)))

  -- all channels
  pub all_channels : (coding : IsCodingOf c) (tokens : List T) → AreFirstTokens c w to_int store form (cells_before (part_of c).channels (length (regions_of c))) tokens →
      AreCellTokens form w (part_of c) all tokens
  all_channels coding tokens h =
      let end : cells_before (part_of c).channels (length (regions_of c)) ≡ length all =
      all_done (part_of c) (regions_of c) coding.sizes
      ∙ sym (all_cells (part_of c).channels (grids_in (regions_of c) (store_meanings to_int store)) (fits_in (part_of c).channels (regions_of c) (store_meanings to_int store) coding.sizes)) in
      record { count = h.0 ∙ end; each = λ k d less. h.1 k d (subst (λ n. k < n) (sym end) less) }

-- a part that lies in a store, and what is made ready for it
module _ {D X : Type 0} (p : PlacedPart D) (store : List (Grid X)) (lies : PartLies p store) (c : PartCoding D)
    (channels : c.channels.now ≡ p.channels.now) (config : c.config.now ≡ p.config.now) (weights : c.weights ≡ p.weights)
    (stream : c.stream_index ≡ p.stream_index) (widest : c.widest ≡ max_width (infos p.channels.now)) (flats : HasFlats p.config.now.tree p.stream_index (length p.channels.now) c.flats.now) where
  count_is : length p.channels.now ≡ length (regions_of c)
  count_is = ap length (sym channels) ∙ as_many_channels c

  pub placed_coding : IsCodingOf c
  placed_coding = record {
    sizes = rw channels lies.sizes;
    narrow = rw channels lies.narrow;
    widest = rw channels widest;
    flats = rw (config, stream, ← count_is) flats;
    weights = rw weights lies.weights;
  }

  pub placed_walk : AllLeaves MultipliesByOne p.config.now.tree → IsWalked c store
  placed_walk ones = record { coding = placed_coding; lie = rw channels lies.lie; ones = rw config ones }

  pub placed_room : (state : PartState X) → IsRoomyFor (sampled_width (infos p.channels.now)) (sampled_width (infos p.channels.now)) p.weights c.flats.now state → HasRoom c state.predictor
  placed_room state h =
      let room = (roomy_for c (row_width c) state placed_coding (rw (channels, weights) h)).predictor in
      let most = walked_within (part_of c).channels c.flats.now (length (part_of c).channels) (omega arith) in
      let wide = room.widest in
      record { widest = omega (arith, most, wide); earlier = room.earlier; weights = room.weights }

-- ---- what was kept

-- values alone are the tokens
pub values_kept : (w : Width) (part : Part) (cells : List ℤ) (tokens : List ℕ) → AreCellTokens value_form w part cells tokens → AreTokensOf w part cells tokens
values_kept w part cells tokens h = record { count = h.count; each = λ k less. (h.each k 0 less).value }

-- values and clusters are the tokens with their clusters
pub tokens_kept : (w : Width) (part : Part) (cells : List ℤ) (tokens : List Token) → AreCellTokens token_form w part cells tokens → AreClusteredTokensOf w part cells tokens
tokens_kept w part cells tokens h =
    let none : Token = record { cluster = 0; value = 0 } in
    record {
      values = record {
        count = length-map tokens (λ t. t.value) ∙ h.count;
        each = λ k less. subst (IsTokenOfCell w part cells k) (sym (get_or-map (λ (t : Token). t.value) tokens k none)) (h.each k none less).value;
      };
      clusters = λ k d less. (h.each k d less).cluster refl;
    }

-- what holds anyway holds where there is no error
pub on_ok : {A E : Type 0} (r : Result A E) (P : Type 0) → P → OnOk r P
on_ok (Ok a) P h = h
on_ok (Err e) P h = tt
