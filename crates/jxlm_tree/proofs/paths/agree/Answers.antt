use denote.Enum.Bare.{same_true, true_same}
use borrow.Author.Tests.{eq-eqb, eqb-true}
use Rattle.std.proofs.Common.{◌≡◌, ◌∙◌, ℤ, of_z, to_z, w32, SFits, rules, sym, ap}
use Rattle.std.proofs.lemmas.Int.{to_z-of_z}
use Rattle.jxlm_predictor.specs.contracts.predictor.Predictor.{the_type}
use Rattle.jxlm_tree.specs.ClusterTables.{in_cluster}
use Rattle.jxlm_ma_tree.specs.declared.leaf.Leaf.{Leaf}
use Rattle.jxlm_tree.proofs.paths.agree.Goals as goal
use Rattle.jxlm_tree.proofs.paths.agree.Goals.{then-eq, else-eq}

-- offsets whose bits are the same
same_offset : (x y : ℤ) → SFits w32 x → SFits w32 y → of_z w32 x ≡ of_z w32 y → x ≡ y
same_offset x y fits_x fits_y same = sym (to_z-of_z w32 x fits_x) ∙ ap (to_z w32) same ∙ to_z-of_z w32 y fits_y

-- leaves that have all but the cluster in common
same_leaf : (l m : Leaf) → l.predictor ≡ m.predictor → l.offset ≡ m.offset → l.multiplier ≡ m.multiplier → m ≡ in_cluster m.cluster l
same_leaf l m predictor offset multiplier = rw (predictor, offset, multiplier)

pub returns-then-leaf-other : goal.returns-then-leaf-other
returns-then-leaf-other c =
    let l = c.args.leaf.now in
    let m = c.args.other.now in
    let fits_l : SFits w32 l.offset = search rules in
    let fits_m : SFits w32 m.offset = search rules in
    elim c.if-eq.branch [
      | then-eq w ↦
          let predictor = same_true the_type (search rules) l.predictor m.predictor (sym c.eq.ensures ∙ w.if-eq.true) in
          let offset = same_offset l.offset m.offset fits_l fits_m (eqb-true (of_z w32 l.offset) (of_z w32 m.offset) (sym w.value-is ∙ c.if-leaf-other.true)) in
          (λ same. same_leaf l m predictor offset (eqb-true l.multiplier m.multiplier same), λ is. eq-eqb l.multiplier m.multiplier (sym (ap (λ (k : Leaf). k.multiplier) is)))
      | else-eq w ↦ cc
    ]

pub returns-else-leaf-other : goal.returns-else-leaf-other
returns-else-leaf-other c =
    let l = c.args.leaf.now in
    let m = c.args.other.now in
    elim c.if-eq.branch [
      | then-eq w ↦ (λ same. cc, λ is. w.value-is ∙ eq-eqb (of_z w32 l.offset) (of_z w32 m.offset) (ap (of_z w32) (sym (ap (λ (k : Leaf). k.offset) is))))
      | else-eq w ↦ (λ same. cc, λ is. w.value-is ∙ c.eq.ensures ∙ true_same the_type l.predictor m.predictor (sym (ap (λ (k : Leaf). k.predictor) is)))
    ]
