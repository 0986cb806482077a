-- The groups with samples, of each kind and of each pass.
use Rattle.std.specs.Prelude.{ℕ, List, ◌++◌, map, nat_lt}
use Rattle.std.specs.List.{filter, flat_map, range_with_len}
use Rattle.jxlm_groups.specs.Counts.{group_count}
use Rattle.jxlm_groups.specs.declared.part.Kind.TheVariants as kinds
use Rattle.jxlm_groups.specs.declared.part.SectionPart.{SectionPart}
use Rattle.jxlm_groups.specs.declared.part.SectionPart.TheVariants as parts
use Rattle.jxlm_groups.specs.declared.pass.Pass.{Pass}
use Rattle.jxlm_samples.specs.Part.{cell_count}
use Rattle.jxl_modular.specs.GroupParts.{pass_count}
use Rattle.jxl_modular.specs.Groups.{channels_in}
use Rattle.jxl_modular.specs.Image.{Image, coded_list}
use Rattle.jxlm_section_split.specs.CutPicture.{lf_groups}

module _ {S D : Type 0} (x : Image S D) (passes : List Pass) where
  -- these parts as far as they have samples
  abbrev pub with_samples : List SectionPart → List SectionPart
  with_samples ps = filter (λ part. nat_lt 0 (cell_count (channels_in x passes part))) ps

  -- the LF groups with samples, and those of the groups of a pass, by number
  abbrev pub low_parts : List SectionPart
  low_parts = with_samples (lf_groups (group_count x.group_dim passes (coded_list x) kinds.Lf))

  abbrev pub first_of_pass : ℕ → ℕ → List SectionPart
  first_of_pass p n = with_samples (map (λ k. parts.Pass p k) (range_with_len 0 n))

  abbrev pub parts_of_pass : ℕ → List SectionPart
  parts_of_pass p = first_of_pass p (group_count x.group_dim passes (coded_list x) (kinds.Pass p))

  -- those of the first n passes, pass after pass
  abbrev pub parts_of_passes : ℕ → List SectionPart
  parts_of_passes n = flat_map parts_of_pass (range_with_len 0 n)

  -- the groups that have a section, those with samples, by number: LF groups before the others, and these pass after pass
  abbrev pub groups_in_order : List SectionPart
  groups_in_order = low_parts ++ parts_of_passes (pass_count passes)
