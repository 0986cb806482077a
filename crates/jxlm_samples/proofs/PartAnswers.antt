-- What decoding a part that lies in a store returns.
use Rattle.std.proofs.Common.{◌≡◌, ◌≢◌, ℕ, zero, suc, ◌+◌, ◌*◌, ◌<◌, ◌≤◌, List, length, Bool, false, refl, ap, ◌∙◌, sym, subst, arith, ℤ, inl, inr, Result, Ok, Err}
use Rattle.std.specs.Int.{Width}
use Rattle.std.proofs.lemmas.List.{length-map}
use Rattle.jxlm_bits.specs.Bits.{bytes_of, position_of}
use Rattle.jxlm_bits.specs.Decoding.{Meaning}
use Rattle.jxlm_base.specs.Grid.{Grid}
use Rattle.jxlm_base.specs.Regions.{store_meanings}
use Rattle.jxlm_bits.specs.declared.decoder.DecoderError.{DecoderError}
use Rattle.jxlm_bits.specs.declared.decoder.DecoderError.TheVariants.{UnexpectedEof, Invalid, OutOfMemory}
use Rattle.jxlm_bits.specs.declared.error.Error.{Error}
use Rattle.jxlm_bits.specs.declared.error.Error.TheVariants.{Decoder}
use Rattle.jxlm_base.specs.declared.subgrid.Region.{Region}
use Rattle.jxlm_transform.specs.Channels.{AreRegionsOf, infos}
use Rattle.jxlm_tree.specs.Steps.{most_steps}
use Rattle.jxlm_samples.specs.Decode.{DecodeGives, MovesWithin}
use Rattle.jxlm_samples.specs.Inner.Ended.{IsAnswered}
use Rattle.jxlm_samples.specs.Inner.Levels.{HasRooms}
use Rattle.jxlm_samples.specs.Inner.Progress.{Moment, PartGives}
use Rattle.jxlm_samples.specs.Inner.Ready.{IsReadyFor}
use Rattle.jxlm_samples.specs.Part.{Part, cell_count, max_width}
use Rattle.jxlm_samples.specs.Placed.{PartLies, standing_in}
use Rattle.jxlm_samples.specs.Progress.{DecodesAll, DecodesSome, KeepsOutside}
use Rattle.jxlm_samples.specs.Reading.{IsCodingOf, part_of, regions_of, state_width}
use Rattle.jxlm_samples.specs.declared.coding.PartCoding.{PartCoding}
use Rattle.jxlm_samples.specs.declared.coding.Ready.{Ready}
use Rattle.jxlm_samples.specs.declared.part.PlacedPart.{PlacedPart}
use Rattle.jxlm_samples.proofs.Loops.{fits_in}
use Rattle.jxlm_samples.proofs.Starting.{as_many_channels, roomy_for}

-- a part that lies in a store, made ready, can be decoded
module _ {D S : Type 0} (p : PlacedPart D) (store : List (Grid S)) (lies : PartLies p store) (r : Ready S D) (ready : IsReadyFor p r) (c : PartCoding D)
    (channels : c.channels.now ≡ p.channels.now) (config : c.config.now ≡ p.config.now)
    (flats : c.flats.now ≡ r.flats.items) (weights : c.weights ≡ p.weights) (stream : c.stream_index ≡ p.stream_index) (widest : c.widest ≡ max_width (infos p.channels.now)) where
  count_is : length p.channels.now ≡ length (regions_of c)
  count_is = ap length (sym channels) ∙ as_many_channels c

  pub placed_coding : IsCodingOf c
  placed_coding = record {
    sizes = rw channels lies.sizes;
    narrow = rw channels lies.narrow;
    widest = rw channels widest;
    flats = rw (config, stream, flats, ← count_is) ready.flats_are;
    weights = rw weights lies.weights;
  }

  -- the state has room for its samples
  pub placed_roomy : HasRooms c r.state.predictor r.state.row.items
  placed_roomy = let room = roomy_for c (state_width c) r.state placed_coding (rw (channels, weights, flats, length-map p.channels.now (λ q. q.info)) ready.roomy) in record { predictor = room.predictor; row = room.row }

none_is : (n : ℕ) → (0 < n → ⊥) → n ≡ 0
none_is zero h = refl
none_is (suc n) h = absurd (h (omega arith))

module _ {S D : Type 0} (d : Meaning D) (w : Width) (to_int : S → ℤ) (bytes : List ℕ) (part : Part) (regions : List Region) (decoder : D)
    (old : List (Grid S)) (p : ℕ) where
  abbrev cost : ℕ
  cost = most_steps part.tree

  -- how the decode ended
  abbrev Ends : List (Grid S) → ℕ → ℕ → ℕ → Result (Unit {0}) DecoderError → Type 0
  Ends new q before after (Ok u) =
      DecodesAll d w part bytes regions decoder (store_meanings to_int old) p (store_meanings to_int new) q × (before ≤ after) × (after ≤ before + cell_count part.channels * cost)
  Ends new q before after (Err e) =
      DecodesSome d w part bytes regions decoder (store_meanings to_int old) p (store_meanings to_int new) q cost before after e × (before ≤ after) × (e ≢ OutOfMemory)

  module _ (partial : Bool) where
    -- what is returned, and how many steps were taken
    abbrev Answers : Bool → List (Grid S) → ℕ → Bool → Result (Unit {0}) Error → ℕ → ℕ → Type 0
    Answers allow new q still result before after =
        (tried : ℕ) × DecodeGives d w part bytes decoder (standing_in to_int regions old p partial) (standing_in to_int regions new q still) allow result tried
        × MovesWithin before after (tried * cost)

    -- there are no samples
    pub answers_empty : (allow : Bool) (before : ℕ) → AreRegionsOf part.channels regions → (0 < cell_count part.channels → ⊥) → Answers allow old p false (Ok tt) before before
    answers_empty allow before sizes none = (
      cell_count part.channels,
      inl (record {
        coded = inr (none_is (cell_count part.channels) none, refl);
        fits = fits_in part.channels regions (store_meanings to_int old) sizes;
        whole = refl;
        tries = refl;
      }),
      (omega arith, omega arith),
    )

    module _ (new : List (Grid S)) (q before after : ℕ) (cells : 0 < cell_count part.channels) (allow still : Bool) where
      -- the decoder returned an error
      refused : (e : DecoderError) → (e ≡ UnexpectedEof → allow ≡ false) → Ends new q before after (Err e) → Answers allow new q partial (Err (Decoder e)) before after
      refused UnexpectedEof denied (some, more, memory) = let f = some partial cells in (f.0, (denied refl, f.1), (more, f.2))
      refused (Invalid k) denied (some, more, memory) = let f = some partial cells in (f.0, f.1, (more, f.2))
      refused OutOfMemory denied (some, more, memory) = absurd (memory refl)

      -- what is answered, by how the decode ended
      pub answers : (decoded : Result (Unit {0}) DecoderError) (result : Result (Unit {0}) Error) → IsAnswered decoded allow partial still result → Ends new q before after decoded → Answers allow new q still result before after
      answers (Ok u) (Ok v) is (all, more, work) = rw is (cell_count part.channels, inl (record { coded = inl (cells, all.0); fits = all.1; whole = refl; tries = refl }), (more, work))
      answers (Err e) (Ok v) (kept, allowed, eof) (some, more, memory) = rw (kept, allowed) (let f = (rw eof at some) partial cells in (f.0, inr (refl, f.1), (more, f.2)))
      answers (Err e) (Err (Decoder given)) (kept, same, denied) ends =
          subst (λ b. Answers allow new q b (Err (Decoder given)) before after) (sym kept)
          (subst (λ x. Answers allow new q partial (Err (Decoder x)) before after) (sym same) (refused e denied ends))
      answers (Ok u) (Err e) is ends = absurd is
      answers (Err e) (Err other) is ends = absurd is

-- what the loops leave, by what they returned
module _ {D X : Type 0} (c : PartCoding D) (d : Meaning D) (w : Width) (to_int : X → ℤ) (old new : Moment D X) where
  pub ends_of : (decoded : Result (Unit {0}) DecoderError) → PartGives c d w to_int old new decoded →
      Ends d w to_int (bytes_of old.source.bits) (part_of c) (regions_of c) old.source.decoder old.store (position_of old.source.bits) new.store (position_of new.source.bits) old.source.steps new.source.steps decoded
  ends_of (Ok u) gives = (gives.decodes, gives.more, gives.work)
  ends_of (Err e) gives = (gives.decodes, gives.more, gives.memory)

  pub keeps_of : (decoded : Result (Unit {0}) DecoderError) → PartGives c d w to_int old new decoded → KeepsOutside (regions_of c) old.store new.store
  keeps_of (Ok u) gives = gives.keeps
  keeps_of (Err e) gives = gives.keeps

  pub bytes_kept : (decoded : Result (Unit {0}) DecoderError) → PartGives c d w to_int old new decoded → bytes_of new.source.bits ≡ bytes_of old.source.bits
  bytes_kept (Ok u) gives = gives.bytes
  bytes_kept (Err e) gives = gives.bytes
