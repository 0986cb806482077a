use Rattle.std.proofs.Common.{arith, ◌≡◌, ◌∙◌, ◌-◌, ℕ, ℤ, true, sym, refl, length, w64}
use Rattle.std.specs.Prelude.{pos, slice_index_or}
use Rattle.std.specs.Int.{trailing_zeros}
use Rattle.jxlm_tree.specs.SetTables.{has, stays}
use Rattle.jxlm_tree.proofs.LeafBits.{Lowest, lowest, lowest-first}
use Rattle.jxlm_tree.proofs.leaf_sets.LeafSets.first_left.Goals as goal

pub index-requires : goal.index-requires
index-requires c =
    let own : ℕ → ℤ = λ k. slice_index_or c.args.own.now k (pos 0) in
    let last : has c.left-left.result (length c.args.self.now.leaves.items - 1) ≡ true =
    c.left-left.ensures.left own (c.values_of-values.ensures own (λ k less. refl)) (length c.args.self.now.leaves.items - 1) ∙ c.args.self.now.last own in
    let k = lowest-first c.left-left.result (length c.args.self.now.leaves.items - 1) c.left-left.type_inv last in
    let s = c.args.self.now.some in
    let n = c.args.self.now.leaves.ok.0 in
    omega (arith, k, s, n)

pub returns-clause-listed : goal.returns-clause-listed
returns-clause-listed c =
    let own : ℕ → ℤ = λ k. slice_index_or c.args.own.now k (pos 0) in
    let last : has c.left-left.result (length c.args.self.now.leaves.items - 1) ≡ true =
    c.left-left.ensures.left own (c.values_of-values.ensures own (λ k less. refl)) (length c.args.self.now.leaves.items - 1) ∙ c.args.self.now.last own in
    let k = lowest-first c.left-left.result (length c.args.self.now.leaves.items - 1) c.left-left.type_inv last in
    let s = c.args.self.now.some in
    record { place = trailing_zeros w64 c.left-left.result; within = omega (arith, k, s); leaf = c.index.ensures }

pub returns-clause-first : goal.returns-clause-first
returns-clause-first c = λ f are.
    let s = c.args.self.now in
    let own : ℕ → ℤ = λ k. slice_index_or c.args.own.now k (pos 0) in
    let last : has c.left-left.result (length c.args.self.now.leaves.items - 1) ≡ true =
    c.left-left.ensures.left own (c.values_of-values.ensures own (λ k less. refl)) (length c.args.self.now.leaves.items - 1) ∙ c.args.self.now.last own in
    let all : (i : ℕ) → has c.left-left.result i ≡ stays s.sets.items f i = c.left-left.ensures.left f (c.values_of-values.ensures f are) in
    let low : Lowest c.left-left.result (trailing_zeros w64 c.left-left.result) = lowest c.left-left.result (length s.leaves.items - 1) c.left-left.type_inv last in
    record {
      place = trailing_zeros w64 c.left-left.result;
      within = low.within;
      left_over = sym (all (trailing_zeros w64 c.left-left.result)) ∙ low.is_set;
      none_before = λ i less. sym (all i) ∙ low.none_before i less;
      leaf = c.index.ensures;
    }
