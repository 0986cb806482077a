use Rattle.std.proofs.Common.{◌≡◌, ◌+◌, ◌<◌, ◌++◌, ℤ, pos, length, get_or, map, take, drop, set, ap, sym, ◌∙◌, refl, subst, arith, w32, FitsSigned}
use Rattle.std.specs.Int.{int_wrap}
use Rattle.std.proofs.Math.ListN.{length-set}
use Rattle.std.proofs.Math.Seq.{take-length}
use Rattle.std.proofs.lemmas.Int.{to_z-of_z}
use Rattle.std.proofs.lemmas.List.{get_or_default}
use Rattle.jxlm_inverse.proofs.PaletteRows.{written_more, written_none, written_until}
use Rattle.jxlm_inverse.proofs.palette.write_samples.Goals as goal

pub loop-j-init : goal.loop-j-init
loop-j-init g c =
    record {
      len = refl;
      row = sym (written_none (λ n. g.S.Sealed.from_int (int_wrap g.S.Sealed.width n)) c.args.row.now c.args.start c.args.numbers.now);
    }

pub loop-j-preserved : goal.loop-j-preserved
loop-j-preserved g c =
    let from_int = g.S.Sealed.from_int in
    let w = g.S.Sealed.width in
    let f = λ (n : ℤ). from_int (int_wrap w n) in
    let numbers = c.args.numbers.now in
    let j = c.loop-j.j in
    let within : j < length numbers = c.loop-j-test.true in
    let len = c.loop-j.invariant.len in
    let inside = c.requires.inside in
    let is : c.from_i32.result ≡ f (get_or numbers j (pos 0)) =
    c.from_i32.ensures
    ∙ ap f (to_z-of_z w32 _ (subst (FitsSigned w32) (sym (get_or_default numbers j _ (pos 0) within)) (c.requires.numbers j within)) ∙ get_or_default numbers j _ (pos 0) within) in
    record {
      len = length-set c.loop-j.row (c.args.start + j) c.from_i32.result ∙ len;
      row = ap (λ xs. set xs (c.args.start + j) c.from_i32.result) c.loop-j.invariant.row
          ∙ written_more f c.args.row.now c.args.start numbers j c.from_i32.result within (omega (arith, inside, within)) is;
    }

pub returns : goal.returns
returns g c =
    let f = λ (n : ℤ). g.S.Sealed.from_int (int_wrap g.S.Sealed.width n) in
    let numbers = c.args.numbers.now in
    let end = c.loop-j.auto.j-end in
    let all : c.loop-j.j ≡ length numbers = omega (arith, end, c.loop-j-test.false) in
    c.loop-j.invariant.row ∙ ap (written_until f c.args.row.now c.args.start numbers) all
    ∙ ap (λ xs. take c.args.start c.args.row.now ++ (map f xs ++ drop (c.args.start + length numbers) c.args.row.now)) (take-length numbers)
