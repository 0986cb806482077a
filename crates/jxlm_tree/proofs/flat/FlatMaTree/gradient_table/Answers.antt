use Rattle.std.proofs.Common.{◌≡◌, ◌∙◌, Some, sym, ap, subst, rules}
use Rattle.std.specs.Option.{option_map}
use Rattle.std.specs.Rc.{rc_value}
use Rattle.jxlm_tree.specs.Paths.{IsGradientTable, IsOnGradient}
use Rattle.jxlm_ma_tree.specs.TreeShape.{shape_of}
use Rattle.jxlm_tree.proofs.FlatPaths.{table-here}
use Rattle.jxlm_tree.proofs.GradientTables.{kept-table, table-step}
use Rattle.jxlm_tree.proofs.flat.FlatMaTree.gradient_table.Goals as goal

pub returns-in_default-clause-none : goal.returns-in_default-clause-none
returns-in_default-clause-none c = λ _ takes.
    let t = c.self.inside in
    let kept = kept-table (shape_of t.tree.value.root) t.channel t.stream_idx t.prev_channels c.args.self.now c.deref.result.now t.compiled.value c.self.invariant c.deref.ensures c.self.view_is takes in
    let found = sym (ap (option_map rc_value) c.in_default.is) ∙ kept.found in
    cc

pub returns-then-not-is_on_gradient-clause-none : goal.returns-then-not-is_on_gradient-clause-none
returns-then-not-is_on_gradient-clause-none c = λ _ takes.
    let t = c.self.inside in
    let kept = kept-table (shape_of t.tree.value.root) t.channel t.stream_idx t.prev_channels c.args.self.now c.deref.result.now t.compiled.value c.self.invariant c.deref.ensures c.self.view_is takes in
    let both : Some c.in-Some.table.value ≡ Some kept.table = sym (ap (option_map rc_value) c.in-Some.is) ∙ kept.found in
    let same : kept.table ≡ c.deref-2.result.now = cc in
    let on = c.is_on_gradient.ensures.1 (subst IsOnGradient same kept.gradient) in
    let off = c.if-not-is_on_gradient.true in
    cc

pub returns-clause-some : goal.returns-clause-some
returns-clause-some c =
    let t = c.self.inside in
    let found = ap (option_map rc_value) c.in-Some.is in
    let on : IsOnGradient c.in-Some.table.value = subst IsOnGradient c.deref-2.ensures (c.is_on_gradient.ensures.0 (let off = c.if-not-is_on_gradient.false in cc)) in
    let shared : c.in-Some.table.value ≡ c.in_ok-shared.shared.value = search rules in
    subst (IsGradientTable c.args.self.now) shared
    (record {
      table = table-here (shape_of t.tree.value.root) t.channel t.stream_idx t.prev_channels c.args.self.now c.deref.result.now t.compiled.value c.in-Some.table.value c.self.invariant c.deref.ensures found c.self.view_is;
      gradient = on;
      step = table-step (shape_of t.tree.value.root) t.channel t.stream_idx t.prev_channels c.args.self.now c.deref.result.now t.compiled.value c.in-Some.table.value c.self.invariant c.deref.ensures found c.self.view_is;
    })
