use Rattle.std.proofs.Common.{rules, to_z, of_z, tests, ◌≡◌, w32, ap, sym, ◌∙◌, arith, SFits, Ok, List, subst}
use Rattle.std.specs.List.{list_any}
use Rattle.std.proofs.lemmas.Int.{to_z-of_z}
use Rattle.std.proofs.lemmas.Grind.{common_steps}
use Rattle.std.proofs.lemmas.Iterator.{YieldsList-from_slice}
use Rattle.std.proofs.lemmas.Iterator.Search.{any_from_yields_List}
use Rattle.jxlm_tree.specs.Inner.FlatNodes.{most_channels, sees_error}
use Rattle.jxlm_tree.specs.Inner.Tables.{TableAt}
use Rattle.jxlm_ma_tree.specs.TreeShape.{shape_of}
use Rattle.jxlm_tree.specs.declared.flat.FlatNode.{FlatNode}
use Rattle.jxlm_tree.proofs.FlatMade.{alike-up-to, known_by, marked-room, marked-of, compiles-as, ok_at, made_of, is_compiled}
use Rattle.jxlm_tree.proofs.NextChannels.{ends-by}
use Rattle.jxlm_tree.proofs.flat.CompiledTree.new.Goals as goal

pub compile-requires : goal.compile-requires
compile-requires c =
    let kept : c.mark.result ≡ Ok c.in_ok-marks.marks = c.in_ok-marks.was in
    let same = ok_at _ _ _ kept c.mark.ensures.tree in
    record {
      marked = marked-of _ (ok_at _ _ _ kept c.mark.ensures.marks);
      room = marked-room (shape_of c.args.tree.now.root) (known_by (to_z w32 (of_z w32 c.read_as_signed.result)) (to_z w32 (of_z w32 c.read_as_signed-2.result)) c.args.prev_channels) _ _ same c.new-nodes.ensures.items c.requires.few;
    }

pub returns-clause-compiled : goal.returns-clause-compiled
returns-clause-compiled c =
    let channel_fits : SFits w32 c.read_as_signed.result = search rules in
    let stream_fits : SFits w32 c.read_as_signed-2.result = search rules in
    let needs = any_from_yields_List sees_error _ _ c.any-need_self_correcting.result c.any-need_self_correcting.ensures.ran (YieldsList-from_slice c.deref.result.now cc) (λ x b q k. search (rules, tests)) in
    let named : c.fold-prev_channels_named.result ≡ most_channels c.compile.new.nodes.items = grind (arith, common_steps) in
    let marked : c.mark.result ≡ Ok c.in_ok-marks.marks = c.in_ok-marks.was in
    let same = ok_at _ _ _ marked c.mark.ensures.tree in
    let kept : c.compile.result ≡ Ok c.in_ok-root.root = c.in_ok-root.was in
    let compiles = compiles-as _ _ _ _ _ same (ok_at _ _ _ kept c.compile.ensures) in
    let made = made_of (shape_of c.args.tree.now.root) _ _ _ _ c.args.prev_channels _ c.compile.new.nodes.items _ c.new-nodes.ensures.items (to_z-of_z w32 c.read_as_signed.result channel_fits ∙ c.read_as_signed.ensures) (to_z-of_z w32 c.read_as_signed-2.result stream_fits ∙ c.read_as_signed-2.ensures) compiles in
    let found : c.of.result ≡ Ok c.in_ok-found.found = c.in_ok-found.was in
    let last = c.last_channel-last_alike.ensures in
    record {
      tree = is_compiled _ _ c.compile.new.nodes.items _ _ _ c.requires.multipliers made (needs ∙ ap (list_any sees_error) c.deref.ensures.value) named;
      table = subst (TableAt c.compile.new.nodes.items c.in_ok-root.root) (sym c.in_ok-table.ensures)
          (subst (λ (ns : List FlatNode). TableAt ns c.in_ok-root.root c.in_ok-found.found) c.deref-3.ensures.value (ok_at _ _ _ found c.of.ensures));
      alike = alike-up-to (shape_of c.args.tree.now.root) c.args.channel c.args.stream_idx c.args.prev_channels c.channels_alike.result _ _ _
          (to_z-of_z w32 c.read_as_signed.result channel_fits ∙ c.read_as_signed.ensures) (to_z-of_z w32 c.read_as_signed-2.result stream_fits ∙ c.read_as_signed-2.ensures)
          c.channels_alike.ensures.same last.within last.signed;
      ends = ends-by (shape_of c.args.tree.now.root) c.args.channel c.args.stream_idx c.args.prev_channels c.channels_alike.result _ _ _
          (to_z-of_z w32 c.read_as_signed.result channel_fits ∙ c.read_as_signed.ensures) (to_z-of_z w32 c.read_as_signed-2.result stream_fits ∙ c.read_as_signed-2.ensures)
          c.channels_alike.ensures.ends last.far;
      reaches = last.reaches;
    }
