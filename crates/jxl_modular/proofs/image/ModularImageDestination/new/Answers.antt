use Rattle.std.proofs.Common.{List, ◌≡◌, pos, sym, ap, subst, map, refl}
use Rattle.jxlm_transform.specs.Layout.{HasBuffers, Layout, buffers_of, first_layout, layout_after_all}
use Rattle.jxlm_transform.specs.Steps.{steps_in}
use Rattle.jxlm_chain.specs.Steps.{IsNarrowStore}
use Rattle.jxlm_transform.specs.Lists.{layout_of}
use Rattle.jxlm_transform.specs.ChannelSteps.{Step}
use Rattle.jxlm_transform.specs.Transforms.{transform_of}
use Rattle.jxlm_transform.proofs.SideBounds.{narrow_image}
use Rattle.jxlm_nested.specs.Zeros.{zeros}
use Rattle.jxl_modular.proofs.FreshLaws.{buffers_zeros, zeros_fit, zeros_narrow}
use Rattle.jxl_modular.proofs.image.ModularImageDestination.new.Goals as goal

pub invariant_of-result : goal.invariant_of-result
invariant_of-result g c =
    let zero = g.S.Sealed.from_int (pos 0) in
    let cs = c.args.given.items in
    let ss : List Step = steps_in (map transform_of c.args.header.transform.items) in
    let store : c.in_ok-store.store.items ≡ zeros zero (buffers_of cs ss) =
    buffers_zeros zero cs c.deref.result.now ss c.args.placed.tables.items c.deref-2.result.now c.in_ok-grids.grids.items c.in_ok-store.store.items
    c.deref.ensures.value c.in_ok-grids.ensures.ok c.deref-2.ensures.value c.in_ok-store.ensures.ok c.requires.placed.tables in
    let coded : (layout_of c.args.placed.channels).regions ≡ (layout_after_all ss (first_layout cs)).regions = ap (λ (l : Layout). l.regions) c.requires.placed.layout in
    record {
      laid = record {
        list = c.requires.opened.leaves;
        regions = coded;
        buffers = subst (HasBuffers (buffers_of cs ss)) (sym store) (zeros_fit zero (buffers_of cs ss));
        narrow_store = subst IsNarrowStore (sym store) (zeros_narrow zero cs ss (rw c.requires.asked.are (narrow_image c.requires.asked.params c.requires.asked.valid)) c.requires.opened.tables);
        narrow = c.requires.opened.narrow;
        few = c.requires.opened.few;
        weights = c.requires.opened.weights;
        steps = c.requires.opened.steps;
        palettes = c.requires.opened.palettes;
        deep = c.requires.deep;
        groups = c.requires.groups;
        asked = c.requires.asked;
      };
      undos = c.requires.placed.undos;
    }

pub returns-clause-ok : goal.returns-clause-ok
returns-clause-ok g c =
    let zero = g.S.Sealed.from_int (pos 0) in
    let cs = c.args.given.items in
    let ss : List Step = steps_in (map transform_of c.args.header.transform.items) in
    let store : c.in_ok-store.store.items ≡ zeros zero (buffers_of cs ss) =
    buffers_zeros zero cs c.deref.result.now ss c.args.placed.tables.items c.deref-2.result.now c.in_ok-grids.grids.items c.in_ok-store.store.items
    c.deref.ensures.value c.in_ok-grids.ensures.ok c.deref-2.ensures.value c.in_ok-store.ensures.ok c.requires.placed.tables in
    let coded : (layout_of c.args.placed.channels).regions ≡ (layout_after_all ss (first_layout cs)).regions = ap (λ (l : Layout). l.regions) c.requires.placed.layout in
    rw (store, coded) refl
