use Rattle.std.proofs.Common.{◌≡◌, ℕ, ◌∷◌, [], length, ◌<◌, true, false, nat_lt, ap, rules}
use Rattle.jxlm_groups.specs.declared.part.SectionPart.{SectionPart}
use Rattle.jxlm_groups.specs.declared.part.Kind.TheVariants as kinds
use Rattle.jxlm_groups.specs.declared.part.SectionPart.TheVariants as parts
use Rattle.jxlm_samples.specs.Part.{cell_count}
use Rattle.jxl_modular.specs.Groups.{channels_in}
use Rattle.jxl_modular.specs.GroupParts.{groups_of, image_of}
use Rattle.jxlm_section_split.specs.CutPicture.{pass_groups, one_pass, with_samples}
use Rattle.jxlm_section_split.specs.Inner.Added.{AddingFails}
use Rattle.jxlm_section_split.proofs.SectionRows.{added_then, counts_more, ends_later, has_none, has_some, none_added, passed_over, taken}
use Rattle.jxlm_section_split.proofs.reading.Sections.add_pass.Goals as goal
use Rattle.jxlm_section_split.proofs.reading.Sections.add_pass.Goals.{then-not-is_empty+in_ok-add, else-not-is_empty}

pub loop-group-init : goal.loop-group-init
loop-group-init g c = none_added c.args.self.now.list.items c.args.self.now.rest.now

pub loop-group-preserved : goal.loop-group-preserved
loop-group-preserved g c =
    let x = image_of c.args.groups.now in
    let name = λ (k : ℕ). parts.Pass 0 k in
    let here = λ (part : SectionPart). nat_lt 0 (cell_count (channels_in x one_pass part)) in
    let count = cell_count (channels_in x one_pass (name c.loop-group.group)) in
    let same = ap (λ ps. cell_count (channels_in x ps (name c.loop-group.group))) c.requires in
    elim c.if-not-is_empty.branch [
      | then-not-is_empty+in_ok-add w ↦
          let some : here (name c.loop-group.group) ≡ true = has_some c.is_empty.result _ count c.is_empty.ensures same w.if-not-is_empty.true in
          rw (w.self-is, taken here name c.loop-group.group some)
          (added_then (with_samples x (pass_groups c.loop-group.group)) (name c.loop-group.group ∷ []) c.args.self.now.list.items c.args.self.now.rest.now
          c.loop-group.self.list.items c.loop-group.self.rest.now w.add.new.self.list.items w.add.new.self.rest.now c.loop-group.invariant w.in_ok-add.ensures.ok)
      | else-not-is_empty w ↦
          let none : here (name c.loop-group.group) ≡ false = has_none c.is_empty.result _ count c.is_empty.ensures same w.if-not-is_empty.false in
          rw (w.self-is, passed_over here name c.loop-group.group none) c.loop-group.invariant
    ]

pub returns-in_err-add-clause-err : goal.returns-in_err-add-clause-err
returns-in_err-add-clause-err g c =
    let x = image_of c.args.groups.now in
    let name = λ (k : ℕ). parts.Pass 0 k in
    let here = λ (part : SectionPart). nat_lt 0 (cell_count (channels_in x one_pass part)) in
    let k = c.loop-group.group in
    let n = groups_of c.args.groups.now (kinds.Pass 0) in
    let count = cell_count (channels_in x one_pass (name k)) in
    let same = ap (λ ps. cell_count (channels_in x ps (name k))) c.requires in
    let some : here (name k) ≡ true = has_some c.is_empty.result _ count c.is_empty.ensures same c.if-not-is_empty.true in
    let below : k < n = search rules in
    let e = c.in_err-add.field-0.0 in
    let fails : AddingFails (length (with_samples x (pass_groups n))) c.args.self.now.rest.now e =
    ends_later (with_samples x (pass_groups k)) c.args.self.now.list.items c.args.self.now.rest.now c.loop-group.self.list.items c.loop-group.self.rest.now 1
    (length (with_samples x (pass_groups n))) e c.loop-group.invariant (counts_more here name k n below some) c.in_err-add.ensures.err in
    search rules
