use Rattle.std.proofs.Common.{◌≡◌, ◌+◌, ◌*◌, ◌/◌, ◌%◌, ◌^◌, arith, subst, sym, ap, ◌∙◌}
use Rattle.std.proofs.lemmas.Nat.{one_shl}
use Rattle.jxlm_encode_tokens.proofs.Inverse.{Undoes, first_undoes, more_undone, stays_undone, undone_at_end}
use Rattle.jxlm_encode_tokens.proofs.token.inverse.Goals.{then-product-k-eq1, else-product-k-eq1}
use Rattle.jxlm_encode_tokens.proofs.token.inverse.Goals as goal

pub loop-k-init : goal.loop-k-init
loop-k-init c = first_undoes c.args.odd c.requires

pub loop-k-preserved : goal.loop-k-preserved
loop-k-preserved c =
    let a = c.from.ensures in
    let b = c.from-in-loop-k.ensures in
    let some = c.loop-k.auto.k in
    elim c.if-product-k-eq1.branch [
      | then-product-k-eq1 w ↦ (
          let bit : c.loop-k.by * c.args.odd / 2 ^ c.loop-k.k % 2 ≡ 1 = rw (a, b) at w.if-product-k-eq1.true in
          let is = w.by-is ∙ ap (λ n. c.loop-k.by + n) (one_shl c.loop-k.k 32 (omega (arith, c.loop-k-test.true))) in
          subst (Undoes c.args.odd (c.loop-k.k + 1)) (sym is) (more_undone c.args.odd c.loop-k.k c.loop-k.by c.requires some c.loop-k.invariant bit))
      | else-product-k-eq1 w ↦ (
          let other = rw (a, b) at w.if-product-k-eq1.false in
          let bit : c.loop-k.by * c.args.odd / 2 ^ c.loop-k.k % 2 ≡ 0 = omega (arith, other) in
          subst (Undoes c.args.odd (c.loop-k.k + 1)) (sym w.by-is) (stays_undone c.args.odd c.loop-k.k c.loop-k.by some c.loop-k.invariant bit))
    ]

pub returns : goal.returns
returns c =
    let all : c.loop-k.k ≡ 32 = let end = c.loop-k.auto.k-end in omega (arith, end, c.loop-k-test.false) in
    undone_at_end c.args.odd c.loop-k.by (subst (λ n. Undoes c.args.odd n c.loop-k.by) all c.loop-k.invariant)
