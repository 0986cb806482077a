use Rattle.std.proofs.Common.{◌≡◌, ℕ, ◌∷◌, [], ◌<◌, true, false, nat_lt, refl, rules}
use Rattle.jxlm_groups.specs.declared.part.SectionPart.{SectionPart}
use Rattle.jxlm_groups.specs.declared.part.Kind.TheVariants as kinds
use Rattle.jxlm_groups.specs.declared.part.SectionPart.TheVariants as parts
use Rattle.jxlm_samples.specs.Part.{cell_count}
use Rattle.jxl_modular.specs.Groups.{channels_in}
use Rattle.jxl_modular.specs.GroupParts.{groups_of, image_of, passes_in}
use Rattle.jxlm_section_split.proofs.SectionRows.{has_none, has_some, passed_over, taken}
use Rattle.jxl_lossless.specs.Parts.{first_of_pass}
use Rattle.jxl_lossless.specs.Inner.Listing.{AddingFails}
use Rattle.jxl_lossless.proofs.Adding.{added_then, among_first, fails_among, none_added}
use Rattle.jxl_lossless.proofs.still.places.Places.add_pass.Goals as goal
use Rattle.jxl_lossless.proofs.still.places.Places.add_pass.Goals.{then-not-is_empty+in_ok-add, else-not-is_empty}

pub loop-group-init : goal.loop-group-init
loop-group-init g c = none_added c.args.self.now c.args.list.now.items

pub loop-group-preserved : goal.loop-group-preserved
loop-group-preserved g c =
    let x = image_of c.args.groups.now in
    let name = λ (k : ℕ). parts.Pass c.args.pass k in
    let here = λ (part : SectionPart). nat_lt 0 (cell_count (channels_in x (passes_in c.args.groups.now) part)) in
    let count = cell_count (channels_in x (passes_in c.args.groups.now) (name c.loop-group.group)) in
    elim c.if-not-is_empty.branch [
      | then-not-is_empty+in_ok-add w ↦
          let some : here (name c.loop-group.group) ≡ true = has_some c.is_empty.result _ count c.is_empty.ensures refl w.if-not-is_empty.true in
          rw (w.list-is, taken here name c.loop-group.group some)
          (added_then c.args.self.now (first_of_pass x (passes_in c.args.groups.now) c.args.pass c.loop-group.group) (name c.loop-group.group ∷ []) c.args.list.now.items
          c.loop-group.list.items w.add.new.list.items c.loop-group.invariant w.in_ok-add.ensures.ok)
      | else-not-is_empty w ↦
          let none : here (name c.loop-group.group) ≡ false = has_none c.is_empty.result _ count c.is_empty.ensures refl w.if-not-is_empty.false in
          rw (w.list-is, passed_over here name c.loop-group.group none) c.loop-group.invariant
    ]

pub returns-in_err-add-clause-err : goal.returns-in_err-add-clause-err
returns-in_err-add-clause-err g c =
    let x = image_of c.args.groups.now in
    let name = λ (k : ℕ). parts.Pass c.args.pass k in
    let here = λ (part : SectionPart). nat_lt 0 (cell_count (channels_in x (passes_in c.args.groups.now) part)) in
    let k = c.loop-group.group in
    let n = groups_of c.args.groups.now (kinds.Pass c.args.pass) in
    let count = cell_count (channels_in x (passes_in c.args.groups.now) (name k)) in
    let some : here (name k) ≡ true = has_some c.is_empty.result _ count c.is_empty.ensures refl c.if-not-is_empty.true in
    let below : k < n = search rules in
    let e = c.in_err-add.field-0.0 in
    let fails : AddingFails c.args.self.now (first_of_pass x (passes_in c.args.groups.now) c.args.pass n) e =
    fails_among c.args.self.now (name k) (first_of_pass x (passes_in c.args.groups.now) c.args.pass n) (among_first here name n k below some) e c.in_err-add.ensures.err in
    search rules
