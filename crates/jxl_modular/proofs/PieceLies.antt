-- A part of an image that is cut lies in the image's store.
use Rattle.std.proofs.Common.{◌≡◌, List, ap, length, arith}
use Rattle.std.proofs.lemmas.List.{length-map}
use Rattle.std.specs.List.{All}
use Rattle.jxlm_base.specs.Regions.{AllLie}
use Rattle.jxlm_groups.specs.declared.part.SectionPart.{SectionPart}
use Rattle.jxlm_groups.specs.declared.pass.Pass.{Pass}
use Rattle.jxlm_groups.proofs.Apart.{IsInside}
use Rattle.jxlm_groups.proofs.HeldCells.{unlike_buffers}
use Rattle.jxlm_groups.proofs.PartChannels.{few_channels, narrow_channels}
use Rattle.jxlm_groups.proofs.PieceFacts.{channels_sides, each_inside, held_apart, pieces_lie}
use Rattle.jxlm_transform.specs.Channels.{infos, regions}
use Rattle.jxlm_samples.specs.Placed.{PartLies}
use Rattle.jxlm_samples.specs.declared.part.PlacedPart.{PlacedPart}
use Rattle.jxl_modular.specs.Groups.{channels_in, held_in, pieces_of}
use Rattle.jxl_modular.specs.Image.{Image, coded_list}
use Rattle.jxl_modular.specs.Inner.Laid.{IsLaidOut}
use Rattle.jxl_modular.proofs.Laid.{coded_apart, coded_lie, coded_sizes}

module _ {S D : Type 0} (x : Image S D) (laid : IsLaidOut x) where
  module _ (passes : List Pass) (part : SectionPart) where
    pub held_inside : All (IsInside x.coded) (pieces_of x passes part)
    held_inside = each_inside x.group_dim passes (coded_list x) x.coded (coded_sizes x laid) part

    pub held_lie : AllLie (held_in x passes part) x.store
    held_lie = pieces_lie x.store x.coded (pieces_of x passes part) (coded_lie x laid) held_inside

    -- the part, as one that lies in the store
    pub held_lies : (p : PlacedPart D) → infos p.channels.now ≡ channels_in x passes part → regions p.channels.now ≡ held_in x passes part → p.weights ≡ x.weights → PartLies p x.store
    held_lies p channels lie weights = record {
      sizes = rw (channels, lie) (channels_sides x.group_dim passes (coded_list x) x.coded part);
      narrow = rw channels (narrow_channels x.group_dim passes (coded_list x) part laid.narrow);
      few = let many : length (infos p.channels.now) ≡ length p.channels.now = length-map p.channels.now (λ c. c.info) in
          let l = few_channels x.group_dim passes (coded_list x) part in let f = laid.few in omega (arith, l, f, many, ap (λ cs. length cs) channels);
      weights = rw weights laid.weights;
      lie = rw lie held_lie;
      apart = rw lie (held_apart x.coded (pieces_of x passes part) (coded_apart x laid) held_inside (unlike_buffers x.group_dim passes (coded_list x) part));
    }
