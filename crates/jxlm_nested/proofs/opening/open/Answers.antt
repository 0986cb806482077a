use Rattle.std.proofs.Common.{◌≡◌, ◌∙◌, ap, List, map, refl, Ok}
use Rattle.std.proofs.lemmas.Result.{err_from_is_err_and}
use Rattle.jxlm_bits.specs.Bits.{bytes_of, position_of}
use Rattle.jxlm_bits.specs.ErrorKind.{kind_of}
use Rattle.jxlm_transform.proofs.Failures.{unless_no_memory}
use Rattle.jxlm_transform.proofs.SideBounds.{narrow_coded}
use Rattle.jxlm_transform.specs.Channels.{infos, tables_for}
use Rattle.jxlm_transform.specs.declared.channels.PlacedChannel.{PlacedChannel}
use Rattle.jxlm_transform.specs.Lists.{list_of}
use Rattle.jxlm_transform.specs.ChannelSteps.{CodedList, coded_list}
use Rattle.jxlm_transform.specs.Kinds.{is_palette, is_squeeze}
use Rattle.jxlm_transform.specs.Transforms.{transform_of}
use Rattle.jxlm_transform.proofs.StepLaws.{narrow_tables, steps_channels, steps_list, steps_weights}
use Rattle.jxlm_header.specs.Header.{header_of}
use Rattle.jxlm_transform.specs.Steps.{steps_in}
use Rattle.jxlm_header.proofs.OpeningLaws.{condition_fails, few_channels, global_there, have_channels, header_fails, is_opened, transforms_fail}
use Rattle.jxlm_header.proofs.SeenTransforms.{any_alike}
use Rattle.jxlm_nested.proofs.opening.open.Goals as goal

pub apply-requires-clause-some_channels : goal.apply-requires-clause-some_channels
apply-requires-clause-some_channels c = have_channels _ c.in_ok-header.ensures.ranges.transforms

pub returns-in_err-header-clause-gives : goal.returns-in_err-header-clause-gives
returns-in_err-header-clause-gives c =
    let p = err_from_is_err_and c.from_residual.result c.from_residual.ensures.1 in
    let tables = c.tables_for-tables.ensures ∙ ap (λ (ps : List PlacedChannel). tables_for (infos ps)) c.deref.ensures.value in
    rw (p.1, p.2)
    (header_fails c.args.has_global (list_of c.args.placed.channels) (bytes_of c.args.bits.now) (position_of c.args.bits.now) (kind_of c.in_err-header.field-0.0) (position_of c.parse_by.new.bits)
    (rw tables at c.in_err-header.ensures.gives))

pub returns-in_err-apply-clause-gives : goal.returns-in_err-apply-clause-gives
returns-in_err-apply-clause-gives c =
    let p = err_from_is_err_and c.from_residual-in_err-apply.result c.from_residual-in_err-apply.ensures.1 in
    let h = header_of c.in_ok-header.header in
    let tables = c.tables_for-tables.ensures ∙ ap (λ (ps : List PlacedChannel). tables_for (infos ps)) c.deref.ensures.value in
    rw (p.1, p.2)
    (transforms_fail c.args.has_global (list_of c.args.placed.channels) (bytes_of c.args.bits.now) (position_of c.args.bits.now) h (position_of c.parse_by.new.bits) (rw tables at c.in_ok-header.ensures.gives)
    (kind_of c.in_err-apply.field-0.0) c.in_err-apply.ensures.gives)

pub returns-in_err-check-clause-gives : goal.returns-in_err-check-clause-gives
returns-in_err-check-clause-gives c =
    let p = err_from_is_err_and c.from_residual-in_err-check.result c.from_residual-in_err-check.ensures.1 in
    let h = header_of c.in_ok-header.header in
    let ts = c.apply.new.transforms.items in
    let k = record h { transform = map transform_of ts } in
    let coded : CodedList = record { steps = steps_in (map transform_of ts); list = list_of c.apply.new.self.channels } in
    let found : coded_list h.transform (list_of c.args.placed.channels) ≡ Ok coded = c.in_ok-apply.ensures.gives in
    let error = kind_of c.in_err-check.field-0.0 in
    let tables = c.tables_for-tables.ensures ∙ ap (λ (ps : List PlacedChannel). tables_for (infos ps)) c.deref.ensures.value in
    let refused = condition_fails c.args.has_global (list_of c.args.placed.channels) (bytes_of c.args.bits.now) (position_of c.args.bits.now) h (position_of c.parse_by.new.bits) (rw tables at c.in_ok-header.ensures.gives) coded found k error refl
    c.in_err-check.ensures in
    rw (p.1, p.2) (unless_no_memory error _ refused)

pub returns-clause-gives : goal.returns-clause-gives
returns-clause-gives c =
    let h = header_of c.in_ok-header.header in
    let ts = c.apply.new.transforms.items in
    let k = record h { transform = map transform_of ts } in
    let coded : CodedList = record { steps = steps_in (map transform_of ts); list = list_of c.apply.new.self.channels } in
    let found : coded_list h.transform (list_of c.args.placed.channels) ≡ Ok coded = c.in_ok-apply.ensures.gives in
    let tables = c.tables_for-tables.ensures ∙ ap (λ (ps : List PlacedChannel). tables_for (infos ps)) c.deref.ensures.value in
    let opens = is_opened c.args.has_global (list_of c.args.placed.channels) (bytes_of c.args.bits.now) (position_of c.args.bits.now) h (position_of c.parse_by.new.bits) (rw tables at c.in_ok-header.ensures.gives) coded found k refl c.in_ok-check.ensures in
    let kinds = c.in_ok-apply.ensures.kinds in
    rw (any_alike is_palette (map transform_of ts) h.transform kinds.palettes, any_alike is_squeeze (map transform_of ts) h.transform kinds.squeezes) opens

pub returns-clause-opened : goal.returns-clause-opened
returns-clause-opened c =
    let h = header_of c.in_ok-header.header in
    let l = list_of c.args.placed.channels in
    let coded : CodedList = record { steps = steps_in (map transform_of c.apply.new.transforms.items); list = list_of c.apply.new.self.channels } in
    let found : coded_list h.transform l ≡ Ok coded = c.in_ok-apply.ensures.gives in
    let k = record h { transform = map transform_of c.apply.new.transforms.items } in
    let read = c.in_ok-header.ensures.ranges in
    record {
      leaves = steps_list h.transform l coded found;
      narrow = narrow_coded h.transform l coded read.transforms c.requires.narrow found;
      few = few_channels c.args.has_global coded.list k c.in_ok-check.ensures;
      weights = read.weights;
      steps = steps_channels h.transform l coded read.transforms found;
      palettes = steps_weights h.wp_params h.transform l coded read.palettes found;
      tables = narrow_tables h.transform l coded read.transforms found;
    }

pub returns-clause-global : goal.returns-clause-global
returns-clause-global c used =
    let h = header_of c.in_ok-header.header in
    let k = record h { transform = map transform_of c.apply.new.transforms.items } in
    global_there c.args.has_global (list_of c.apply.new.self.channels) k c.in_ok-check.ensures used
