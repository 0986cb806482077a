-- One section that has all samples of an image.
use Rattle.std.proofs.Common.{ℤ, List, sym, subst, arith}
use Rattle.jxlm_bits.specs.Decoding.{Meaning}
use Rattle.jxlm_base.specs.Grid.{Grid}
use Rattle.jxlm_base.specs.Regions.{grids_in}
use Rattle.jxlm_groups.specs.Pieces.{pieces}
use Rattle.jxlm_groups.specs.declared.part.SectionPart.TheVariants as parts
use Rattle.jxlm_samples.specs.Coded.{IsCodedWhole}
use Rattle.jxlm_transform.specs.Channels.{Channel, ChannelList, image_list}
use Rattle.jxl_encode_frame.specs.Codings.{part_by_tree}
use Rattle.jxl_encode_frame.specs.Laws.{OneSectionIsAll}
use Rattle.jxl_encode_frame.proofs.Codewords.{sum_none}
use Rattle.jxl_encode_frame.proofs.Ends.{prepared_sides}
use Rattle.jxl_encode_frame.proofs.WholePart.{no_cells, nothing_cut, whole_channels, whole_grids}

pub one_section : {D : Type 0} (d : Meaning D) → OneSectionIsAll d
one_section d w config given group_dim trees passes bytes p section_of image s =
    let list : ChannelList = s.ready.coded.list in
    let channels = whole_channels group_dim passes list s.one_part in
    let grids = whole_grids group_dim passes list s.one_part s.ready.samples (prepared_sides w (image_list given) image s.ready) in
    let own = subst (λ (gs : List (Grid ℤ)). IsCodedWhole d w (part_by_tree config list.channels 0) bytes config.decoder s.codes.samples_at gs s.codes.end) (sym grids) s.codes.coded in
    record {
      ready = s.ready;
      cut = nothing_cut group_dim passes list s.one_part;
      global = record {
        samples_at = s.codes.samples_at;
        header = s.codes.header;
        end = s.codes.end;
        coded = subst (λ (cs : List Channel). IsCodedWhole d w (part_by_tree config cs 0) bytes config.decoder s.codes.samples_at (grids_in (pieces group_dim passes list parts.Global) s.ready.samples) s.codes.end) (sym channels) own;
      };
      codewords = λ part. 0;
      few = λ listed once. let none = sum_none listed in omega (arith, none);
      groups = λ part other some. let none = no_cells group_dim passes list s.one_part part other in absurd (omega (arith, none, some));
    }
