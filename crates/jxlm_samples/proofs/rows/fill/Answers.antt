use Rattle.std.proofs.Common.{rules, ◌≡◌, ◌<◌, [], ◌∷◌, ◌++◌, length, take, arith, ap, ◌∙◌, sym, subst}
use Rattle.std.specs.Prelude.{replicate}
use Rattle.std.proofs.lemmas.List.{replicate_more, take_all, take_more_set}
use Rattle.jxlm_samples.proofs.rows.fill.Goals as goal

pub loop-x-preserved : goal.loop-x-preserved
loop-x-preserved g c =
    let row = c.loop-x.row in
    let x = c.loop-x.x in
    let v = c.args.value in
    let same = c.loop-x.invariant.len in
    let inside : x < length row = omega (arith, same, c.loop-x-test.true) in
    record {
      len = search rules;
      filled = take_more_set row x v inside ∙ ap (λ r. r ++ v ∷ []) c.loop-x.invariant.filled ∙ replicate_more x v;
    }

pub returns : goal.returns
returns g c =
    let row = c.loop-x.row in
    let end = c.loop-x.auto.x-end in
    let same = c.loop-x.invariant.len in
    let done : c.loop-x.x ≡ length c.args.row.now = omega (arith, end, same, c.loop-x-test.false) in
    sym (take_all (length c.args.row.now) row (omega (arith, same))) ∙ subst (λ n. take n row ≡ replicate n c.args.value) done c.loop-x.invariant.filled
