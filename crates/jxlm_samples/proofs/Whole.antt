-- A part from its beginning to its end.
use Rattle.std.proofs.Common.{◌≡◌, ℕ, suc, ◌+◌, ◌*◌, ◌≤◌, Result, Ok, Err, refl, ap, ◌∙◌, ℤ, inl, inr, arith}
use Rattle.std.specs.Int.{Width}
use Rattle.jxlm_bits.specs.Bits.{bytes_of, position_of}
use Rattle.jxlm_bits.specs.Decoding.{Found, IsLawful, Meaning}
use Rattle.jxlm_bits.specs.declared.bits.Bitstream.{Bitstream}
use Rattle.jxlm_bits.specs.declared.decoder.DecoderError.{DecoderError}
use Rattle.jxlm_base.specs.Regions.{store_meanings}
use Rattle.jxlm_base.proofs.Outside.{keeps_all}
use Rattle.jxlm_transform.specs.Channels.{AreRegionsOf}
use Rattle.jxlm_samples.specs.Part.{cell_count}
use Rattle.jxlm_samples.specs.Progress.{grids_in}
use Rattle.jxlm_samples.specs.Inner.Progress.{DecodesCells, FailsInCells, FailsInPart, IsPartDecoded, Moment, Reached, TakesSteps, moment}
use Rattle.jxlm_samples.specs.declared.source.Source.{Source}
use Rattle.jxlm_samples.specs.Reading.{cost_of, part_of, regions_of}
use Rattle.jxlm_samples.specs.declared.coding.PartCoding.{PartCoding}
use Rattle.jxlm_samples.proofs.Loops.{fits_in}

steps_from : (cost to before after : ℕ) → TakesSteps cost 0 to before after → after ≤ before + to * cost
steps_from cost to before after h = omega (arith, h)

module _ {D X : Type 0} (c : PartCoding D) (d : Meaning D) (law : IsLawful d) (w : Width) (to_int : X → ℤ) (old : Moment D X) where
  abbrev begin_here : Result (Found D) DecoderError
  begin_here = d.begin old.source.decoder (bytes_of old.source.bits) (position_of old.source.bits)

  abbrev after : D → Bitstream → Source D
  after decoder bits = record { decoder = decoder; bits = bits; steps = old.source.steps }

  pub part_not_begun : (decoder : D) (bits : Bitstream) (e : DecoderError) → begin_here ≡ Err e → position_of bits ≡ position_of old.source.bits → bytes_of bits ≡ bytes_of old.source.bits →
      FailsInPart c d w to_int old (moment (after decoder bits) old.store) e
  part_not_begun decoder bits e error place same = record {
    decodes = λ partial some. (0, (some, inl (record { error = error; unchanged = rw place refl; tries = refl })), omega arith);
    more = omega arith;
    keeps = keeps_all (regions_of c) old.store;
    memory = λ out. law.begin_memory old.source.decoder (bytes_of old.source.bits) (position_of old.source.bits) (error ∙ ap Err out);
    bytes = same;
  }

  module _ (sizes : AreRegionsOf (part_of c).channels (regions_of c)) (decoder : D) (bits : Bitstream) (begins : begin_here ≡ Ok (record { value = decoder; position = position_of bits }))
      (same : bytes_of bits ≡ bytes_of old.source.bits) (new : Moment D X) where
    abbrev Comes : ℕ → Moment D X → Type 0
    Comes k now =
        Reached d w (part_of c) (bytes_of old.source.bits) old.source.decoder (position_of old.source.bits) (grids_in (regions_of c) (store_meanings to_int old.store))
        k (grids_in (regions_of c) (store_meanings to_int now.store)) now.source.decoder (position_of now.source.bits)

    -- no cell is read yet
    begun : Comes 0 (moment (after decoder bits) old.store)
    begun = record {
      coded = record { start = record { value = decoder; position = position_of bits }; begins = begins; joined = (refl, refl) };
      rest = refl;
      fits = fits_in (part_of c).channels (regions_of c) (store_meanings to_int old.store) sizes;
    }

    pub part_fails : (e : DecoderError) → FailsInCells c d w to_int 0 (moment (after decoder bits) old.store) new e → FailsInPart c d w to_int old new e
    part_fails e f =
        let at = (simp same at f.stops) old.source.decoder (position_of old.source.bits) _ begun in
        let r = at.0 in
        record {
          decodes = λ partial some. (
            suc r.count,
            (
              some,
              inr (record {
                count = r.count;
                fails = record { state = r.state; coded = r.reached.coded; error = inl (r.within, refl, r.error) };
                rest = r.reached.rest;
                fits = r.reached.fits;
                as_partial = refl;
              }),
            ),
            steps_from (cost_of c) (suc r.count) old.source.steps new.source.steps at.1,
          );
          more = f.more;
          keeps = f.keeps;
          memory = f.memory;
          bytes = f.bytes ∙ same;
        }

    module _ (f : DecodesCells c d w to_int 0 (cell_count (part_of c).channels) (moment (after decoder bits) old.store) new) where
      all_read : Comes (cell_count (part_of c).channels) new
      all_read = (simp same at f.goes) old.source.decoder (position_of old.source.bits) _ begun

      few : new.source.steps ≤ old.source.steps + cell_count (part_of c).channels * cost_of c
      few = steps_from (cost_of c) (cell_count (part_of c).channels) old.source.steps new.source.steps f.work

      pub part_refused : (e : DecoderError) → d.finalize new.source.decoder ≡ Err e → FailsInPart c d w to_int old new e
      part_refused e error = record {
        decodes = λ partial some. (
          cell_count (part_of c).channels,
          (
            some,
            inr (record {
              count = cell_count (part_of c).channels;
              fails = record { state = new.source.decoder; coded = all_read.coded; error = inr (refl, refl, error) };
              rest = all_read.rest;
              fits = all_read.fits;
              as_partial = refl;
            }),
          ),
          few,
        );
        more = f.more;
        keeps = f.keeps;
        memory = λ out. law.finalize_memory new.source.decoder (error ∙ ap Err out);
        bytes = f.bytes ∙ same;
      }

      pub part_decoded : d.finalize new.source.decoder ≡ Ok tt → IsPartDecoded c d w to_int old new
      part_decoded accepts = record {
        decodes = (record { state = new.source.decoder; coded = all_read.coded; accepts = accepts }, all_read.fits);
        work = few;
        more = f.more;
        keeps = f.keeps;
        bytes = f.bytes ∙ same;
      }
