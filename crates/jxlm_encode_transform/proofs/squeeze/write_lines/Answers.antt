use Rattle.std.proofs.Common.{◌≡◌, [], ◌∷◌, length, subst, arith}
use Rattle.jxlm_base.proofs.Outside.{keeps_all, keeps_both, lies_still}
use Rattle.jxlm_encode_transform.specs.Inner.Squeezed.{AreLines, number_of}
use Rattle.jxlm_encode_transform.proofs.LineSteps.{no_lines}
use Rattle.jxlm_encode_transform.proofs.Squeezed.{keeps_row, lines_written}
use Rattle.jxlm_encode_transform.proofs.StripSteps.{line_within}
use Rattle.jxlm_encode_transform.proofs.squeeze.write_lines.Goals as goal

pub loop-y-init : goal.loop-y-init
loop-y-init g c = record {
  lines = no_lines g.S.Sealed.to_int c.args.lines.now c.args.strip.width (number_of g.S.Sealed.to_int c.args.strip c.args.store.now);
  keeps = keeps_all (c.args.strip ∷ []) c.args.store.now;
}

pub line_at-requires : goal.line_at-requires
line_at-requires g c =
    line_within c.loop-y.y c.args.strip.height c.args.strip.width (length c.args.lines.now) c.loop-y-test.true c.requires.room

pub region_set_row-requires-clause-lies : goal.region_set_row-requires-clause-lies
region_set_row-requires-clause-lies g c = lies_still (c.args.strip ∷ []) c.args.store.now c.loop-y.store c.args.strip c.loop-y.invariant.keeps c.requires.lies

pub loop-y-preserved : goal.loop-y-preserved
loop-y-preserved g c =
    let strip = c.args.strip in
    let lies = lies_still (strip ∷ []) c.args.store.now c.loop-y.store strip c.loop-y.invariant.keeps c.requires.lies in
    record {
      lines = lines_written g.S.Sealed.to_int strip c.args.lines.now c.line_at.result.now c.loop-y.y c.loop-y.store c.region_set_row.new.store lies c.loop-y-test.true c.line_at.ensures.value c.region_set_row.ensures c.loop-y.invariant.lines;
      keeps = keeps_both (strip ∷ []) c.args.store.now c.loop-y.store c.region_set_row.new.store c.loop-y.invariant.keeps (keeps_row g.S.Sealed.to_int strip c.loop-y.y c.loop-y.store c.region_set_row.new.store c.loop-y-test.true c.region_set_row.ensures.keeps);
    }

pub returns : goal.returns
returns g c =
    let end = c.loop-y.auto.y-end in
    let all : c.loop-y.y ≡ c.args.strip.height = omega (arith, end, c.loop-y-test.false) in
    record {
      lines = subst (AreLines g.S.Sealed.to_int c.args.strip.width c.args.lines.now (number_of g.S.Sealed.to_int c.args.strip c.loop-y.store)) all c.loop-y.invariant.lines;
      keeps = c.loop-y.invariant.keeps;
    }
