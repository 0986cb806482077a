use Rattle.std.proofs.Common.{◌≡◌, ◌&&◌, false}
use Rattle.std.specs.Int.{w32}
use Rattle.std.specs.Prelude.{int_le}
use Rattle.jxlm_lanes.proofs.Tendency.{falls, falls_fit, first_false, le_is, negated_fits, wide, rises, rises_fit, second_false, tendency_turns}
use Rattle.jxlm_kernels.proofs.lines.wide_tendency.Goals as goal
use Rattle.jxlm_kernels.proofs.lines.wide_tendency.Goals.{else-a-b-via-else-a-b, else-a-b-via-then-a-b+else-b-c, else-b-a-via-then-b-a+else-c-b, else-b-a-via-else-b-a}

pub overflow_cast-result : goal.overflow_cast-result
overflow_cast-result c =
    falls_fit w32 2147483648 wide c.args.a c.args.b c.args.c c.ranges.a c.ranges.b c.ranges.c c.abs_diff.result c.abs_diff-2.result c.wide_slope-slope.result c.abs_diff.ensures c.abs_diff-2.ensures c.wide_slope-slope.ensures
    c.if-b-a.true c.if-c-b.true

pub overflow_cast-result-then-b-c : goal.overflow_cast-result-then-b-c
overflow_cast-result-then-b-c c =
    rises_fit w32 2147483648 wide c.args.a c.args.b c.args.c c.ranges.a c.ranges.b c.ranges.c c.abs_diff.result c.abs_diff-2.result c.wide_slope-slope.result c.abs_diff.ensures c.abs_diff-2.ensures c.wide_slope-slope.ensures
    c.if-a-b.true c.if-b-c.true

pub returns-then-c-b : goal.returns-then-c-b
returns-then-c-b c =
    falls w32 2147483648 wide c.args.a c.args.b c.args.c c.ranges.a c.ranges.b c.ranges.c c.abs_diff.result c.abs_diff-2.result c.wide_slope-slope.result c.abs_diff.ensures c.abs_diff-2.ensures c.wide_slope-slope.ensures
    c.if-b-a.true c.if-c-b.true

pub overflow_sub-result : goal.overflow_sub-result
overflow_sub-result c =
    negated_fits w32 2147483648 wide c.args.a c.args.b c.args.c c.ranges.a c.ranges.b c.ranges.c c.abs_diff.result c.abs_diff-2.result c.wide_slope-slope.result c.abs_diff.ensures c.abs_diff-2.ensures c.wide_slope-slope.ensures
    c.if-a-b.true c.if-b-c.true

pub returns-then-b-c : goal.returns-then-b-c
returns-then-b-c c =
    let no_fall : (int_le c.args.b c.args.a && int_le c.args.c c.args.b) ≡ false =
    elim c.else-b-a.branch [
      | else-b-a-via-then-b-a+else-c-b w ↦ second_false _ _ (le_is w32 c.args.c c.args.b false c.ranges.c c.ranges.b w.if-c-b.false)
      | else-b-a-via-else-b-a w ↦ first_false _ _ (le_is w32 c.args.b c.args.a false c.ranges.b c.ranges.a w.if-b-a.false)
    ] in
    rises w32 2147483648 wide c.args.a c.args.b c.args.c c.ranges.a c.ranges.b c.ranges.c c.abs_diff.result c.abs_diff-2.result c.wide_slope-slope.result c.abs_diff.ensures c.abs_diff-2.ensures c.wide_slope-slope.ensures
    c.if-a-b.true c.if-b-c.true no_fall

pub returns-else-a-b : goal.returns-else-a-b
returns-else-a-b c =
    let no_fall : (int_le c.args.b c.args.a && int_le c.args.c c.args.b) ≡ false =
    elim c.else-b-a.branch [
      | else-b-a-via-then-b-a+else-c-b w ↦ second_false _ _ (le_is w32 c.args.c c.args.b false c.ranges.c c.ranges.b w.if-c-b.false)
      | else-b-a-via-else-b-a w ↦ first_false _ _ (le_is w32 c.args.b c.args.a false c.ranges.b c.ranges.a w.if-b-a.false)
    ] in
    let no_rise : (int_le c.args.a c.args.b && int_le c.args.b c.args.c) ≡ false =
    elim c.else-a-b.branch [
      | else-a-b-via-then-a-b+else-b-c w ↦ second_false _ _ (le_is w32 c.args.b c.args.c false c.ranges.b c.ranges.c w.if-b-c.false)
      | else-a-b-via-else-a-b w ↦ first_false _ _ (le_is w32 c.args.a c.args.b false c.ranges.a c.ranges.b w.if-a-b.false)
    ] in
    tendency_turns c.args.a c.args.b c.args.c no_fall no_rise
