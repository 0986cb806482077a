use Rattle.std.proofs.Common.{◌∙◌, ◌+◌, ◌*◌, subst, FitsSigned, arith}
use Rattle.jxlm_encode_transform.proofs.Averaged.{pair_average, row_number, single_average}
use Rattle.jxlm_encode_transform.proofs.squeeze.average_line.Goals as goal

pub returns-then-k-pairs-clause-averages : goal.returns-then-k-pairs-clause-averages
returns-then-k-pairs-clause-averages g c = λ x p.
    let len = c.region_row-first.ensures.len in
    let averages = c.average_lines.ensures.averages in
    averages x (omega (arith, p, len))
    ∙ pair_average g.S.Sealed.to_int g.S.Sealed.width c.args.strip c.args.store.now c.region_row-first.result.now c.region_row-second.result.now x c.args.k p c.if-k-pairs.true c.region_row-first.ensures.cells c.region_row-second.ensures.cells

pub returns-then-k-pairs-clause-first_samples : goal.returns-then-k-pairs-clause-first_samples
returns-then-k-pairs-clause-first_samples g c = λ x p.
    let len = c.region_row-first.ensures.len in
    let samples = c.average_lines.ensures.first_samples in
    subst (FitsSigned g.S.Sealed.width) (row_number g.S.Sealed.to_int g.S.Sealed.width c.args.strip c.args.store.now c.region_row-first.result.now x (2 * c.args.k) p c.region_row-first.ensures.cells) (samples x (omega (arith, p, len)))

pub returns-then-k-pairs-clause-second_samples : goal.returns-then-k-pairs-clause-second_samples
returns-then-k-pairs-clause-second_samples g c = λ x p _.
    let len = c.region_row-first.ensures.len in
    let samples = c.average_lines.ensures.second_samples in
    subst (FitsSigned g.S.Sealed.width) (row_number g.S.Sealed.to_int g.S.Sealed.width c.args.strip c.args.store.now c.region_row-second.result.now x (2 * c.args.k + 1) p c.region_row-second.ensures.cells) (samples x (omega (arith, p, len)))

pub returns-else-k-pairs-clause-averages : goal.returns-else-k-pairs-clause-averages
returns-else-k-pairs-clause-averages g c = λ x p.
    let len = c.region_row-single.ensures.len in
    let same = c.single_line.ensures.same in
    same x (omega (arith, p, len))
    ∙ single_average g.S.Sealed.to_int g.S.Sealed.width c.args.strip c.args.store.now c.region_row-single.result.now x c.args.k p c.if-k-pairs.false c.region_row-single.ensures.cells

pub returns-else-k-pairs-clause-first_samples : goal.returns-else-k-pairs-clause-first_samples
returns-else-k-pairs-clause-first_samples g c = λ x p.
    let len = c.region_row-single.ensures.len in
    let samples = c.single_line.ensures.samples in
    subst (FitsSigned g.S.Sealed.width) (row_number g.S.Sealed.to_int g.S.Sealed.width c.args.strip c.args.store.now c.region_row-single.result.now x (2 * c.args.k) p c.region_row-single.ensures.cells) (samples x (omega (arith, p, len)))

pub returns-else-k-pairs-clause-second_samples : goal.returns-else-k-pairs-clause-second_samples
returns-else-k-pairs-clause-second_samples g c = λ x p q. let none = c.if-k-pairs.false in absurd (omega (arith, none, q))
