use Rattle.std.proofs.Common.{◌≡◌, ◌-◌, pos, [], ◌∷◌, List, reverse, vec_len, w32, to_z, of_z, sym, ap, refl, ◌∙◌, arith, SFits, subst, rules, Bool, true, false, if◌then◌else◌, ◌⊎◌, inl, inr}
use Rattle.std.specs.Prelude.{int_lt}
use Rattle.std.proofs.lemmas.Int.{to_z-of_z, ints}
use Rattle.std.proofs.lemmas.List.{length-reverse}
use Rattle.jxlm_tree.specs.Inner.FlatNodes.{Heard, LeadsBelow, go, heard, says, slot}
use Rattle.jxlm_tree.specs.Inner.Walking.{Ended, Walked}
use Rattle.jxlm_tree.specs.declared.flat.Side.{Side}
use Rattle.jxlm_tree.proofs.FlatLooks.{entry-within, read-at, says-below}
use Rattle.jxlm_tree.proofs.FlatSteps.{says-fused, says-table, told, walked-end, walked-none, walked-on}
use Rattle.jxlm_tree.proofs.flat.CompiledTree.leaf.Goals as goal

-- one of two sides, by the answer that chooses
chosen_by : (b : Bool) (left right : Side) → ((b ≡ true) × ((if b then left else right) ≡ left)) ⊎ ((b ≡ false) × ((if b then left else right) ≡ right))
chosen_by true left right = inl (refl, refl)
chosen_by false left right = inr (refl, refl)

pub loop-leaf-init : goal.loop-leaf-init
loop-leaf-init g c = walked-none g.P.PlaceProperties.gives c.args.properties.now (reverse c.args.self.now.nodes.items) c.args.self.now.root c.args.steps.now (let w = c.requires.rooted in let l = length-reverse c.args.self.now.nodes.items in omega arith)

pub returns-in-Leaf : goal.returns-in-Leaf
returns-in-Leaf g c =
    let r = read-at c.args.self.now.nodes.items c.loop-leaf.place c.index.result.now (let w = c.loop-leaf.invariant.within in let l = length-reverse c.args.self.now.nodes.items in omega arith) c.index.ensures c.requires.sound in
    subst (λ k. Ended g.P.PlaceProperties.gives c.args.properties.now (reverse c.args.self.now.nodes.items) c.args.self.now.root c.args.steps.now k c.in-Leaf.leaf) (sym c.tick.ensures)
    (walked-end g.P.PlaceProperties.gives c.args.properties.now (reverse c.args.self.now.nodes.items) c.args.self.now.root c.loop-leaf.place c.args.steps.now c.loop-leaf.steps c.index.result.now c.in-Leaf.leaf c.loop-leaf.invariant r c.in-Leaf.is)

pub overflow_sub-len : goal.overflow_sub-len
overflow_sub-len g c =
    let r = read-at c.args.self.now.nodes.items c.loop-leaf.place c.index.result.now (let w = c.loop-leaf.invariant.within in let l = length-reverse c.args.self.now.nodes.items in omega arith) c.index.ensures c.requires.sound in
    let below = subst (LeadsBelow c.loop-leaf.place) c.in-Table.is r.below in
    let l = c.in-Table.entries.len in
    let some = below.0.0 in
    let n = c.len.ensures in
    omega arith

pub index-requires-in-Table : goal.index-requires-in-Table
index-requires-in-Table g c =
    let r = read-at c.args.self.now.nodes.items c.loop-leaf.place c.index.result.now (let w = c.loop-leaf.invariant.within in let l = length-reverse c.args.self.now.nodes.items in omega arith) c.index.ensures c.requires.sound in
    let below = subst (LeadsBelow c.loop-leaf.place) c.in-Table.is r.below in
    let some = below.0.0 in
    entry-within (to_z w32 (of_z w32 c.in-Table.base)) (to_z w32 (of_z w32 c.property-value.result)) (vec_len c.in-Table.entries) c.len.result c.entry_of.result c.len.ensures c.entry_of.ensures (omega arith)

pub loop-leaf-smaller-in-Table : goal.loop-leaf-smaller-in-Table
loop-leaf-smaller-in-Table g c =
    let r = read-at c.args.self.now.nodes.items c.loop-leaf.place c.index.result.now (let w = c.loop-leaf.invariant.within in let l = length-reverse c.args.self.now.nodes.items in omega arith) c.index.ensures c.requires.sound in
    let below = subst (LeadsBelow c.loop-leaf.place) c.in-Table.is r.below in
    let some = below.0.0 in
    let base : SFits w32 c.in-Table.base = search rules in
    let value : SFits w32 c.property-value.result = search rules in
    let x = c.property-value.result in
    let hs : List Heard = heard c.in-Table.property x ∷ [] in
    let says_it : says c.index.result.now (told x (pos 0)) ≡ go c.index-in-Table.result.now hs =
    ap (λ n. says n (told x (pos 0))) c.in-Table.is
    ∙ says-table c.in-Table.property c.in-Table.base (to_z w32 (of_z w32 c.in-Table.base)) x (pos 0) c.in-Table.entries c.len.result c.entry_of.result c.index-in-Table.result.now (to_z-of_z w32 c.in-Table.base base) (omega (arith, c.len.ensures)) (c.entry_of.ensures ∙ ap (λ z. slot (to_z w32 (of_z w32 c.in-Table.base)) (c.len.result - 1) z) (to_z-of_z w32 x value)) c.index-in-Table.ensures some in
    let smaller = says-below c.loop-leaf.place c.index.result.now (told x (pos 0)) c.index-in-Table.result.now hs r.below says_it in
    smaller

pub loop-leaf-preserved-in-Table : goal.loop-leaf-preserved-in-Table
loop-leaf-preserved-in-Table g c =
    let r = read-at c.args.self.now.nodes.items c.loop-leaf.place c.index.result.now (let w = c.loop-leaf.invariant.within in let l = length-reverse c.args.self.now.nodes.items in omega arith) c.index.ensures c.requires.sound in
    let below = subst (LeadsBelow c.loop-leaf.place) c.in-Table.is r.below in
    let some = below.0.0 in
    let base : SFits w32 c.in-Table.base = search rules in
    let value : SFits w32 c.property-value.result = search rules in
    let x = c.property-value.result in
    let hs : List Heard = heard c.in-Table.property x ∷ [] in
    let says_it : says c.index.result.now (told x (pos 0)) ≡ go c.index-in-Table.result.now hs =
    ap (λ n. says n (told x (pos 0))) c.in-Table.is
    ∙ says-table c.in-Table.property c.in-Table.base (to_z w32 (of_z w32 c.in-Table.base)) x (pos 0) c.in-Table.entries c.len.result c.entry_of.result c.index-in-Table.result.now (to_z-of_z w32 c.in-Table.base base) (omega (arith, c.len.ensures)) (c.entry_of.ensures ∙ ap (λ z. slot (to_z w32 (of_z w32 c.in-Table.base)) (c.len.result - 1) z) (to_z-of_z w32 x value)) c.index-in-Table.ensures some in
    let smaller = says-below c.loop-leaf.place c.index.result.now (told x (pos 0)) c.index-in-Table.result.now hs r.below says_it in
    subst (λ k. Walked g.P.PlaceProperties.gives c.args.properties.now (reverse c.args.self.now.nodes.items) c.args.self.now.root c.index-in-Table.result.now c.args.steps.now k) (sym c.tick.ensures)
    (walked-on g.P.PlaceProperties.gives c.args.properties.now (reverse c.args.self.now.nodes.items) c.args.self.now.root c.loop-leaf.place c.index-in-Table.result.now c.args.steps.now c.loop-leaf.steps c.index.result.now x (pos 0) hs c.loop-leaf.invariant r smaller says_it
    (record { low = λ k. omega (arith, ints); high = λ k. omega (arith, ints) })
    (λ f are. (are c.in-Table.property x c.property-value.ensures, tt)))

pub loop-leaf-smaller : goal.loop-leaf-smaller
loop-leaf-smaller g c =
    let r = read-at c.args.self.now.nodes.items c.loop-leaf.place c.index.result.now (let w = c.loop-leaf.invariant.within in let l = length-reverse c.args.self.now.nodes.items in omega arith) c.index.ensures c.requires.sound in
    let value : SFits w32 c.in-Fused.value = search rules in
    let first : SFits w32 c.property.result = search rules in
    let x = c.property.result in
    let y = c.end_of-place.ensures.answer in
    let v1 = to_z w32 (of_z w32 c.in-Fused.value) in
    let x1 = to_z w32 (of_z w32 x) in
    let side : Side = if int_lt v1 x1 then c.in-Fused.left else c.in-Fused.right in
    let hs : List Heard = heard c.in-Fused.property x ∷ heard side.property y ∷ [] in
    let chosen = chosen_by (int_lt v1 x1) c.in-Fused.left c.in-Fused.right in
    let says_it : says c.index.result.now (told x y) ≡ go c.end_of-place.result hs =
    ap (λ n. says n (told x y)) c.in-Fused.is
    ∙ says-fused c.in-Fused.property c.in-Fused.value v1 x x1 y c.in-Fused.left c.in-Fused.right side c.end_of-place.result (to_z-of_z w32 c.in-Fused.value value) (to_z-of_z w32 x first) chosen c.end_of-place.ensures.end_is in
    let smaller = says-below c.loop-leaf.place c.index.result.now (told x y) c.end_of-place.result hs r.below says_it in
    smaller

pub loop-leaf-preserved : goal.loop-leaf-preserved
loop-leaf-preserved g c =
    let r = read-at c.args.self.now.nodes.items c.loop-leaf.place c.index.result.now (let w = c.loop-leaf.invariant.within in let l = length-reverse c.args.self.now.nodes.items in omega arith) c.index.ensures c.requires.sound in
    let value : SFits w32 c.in-Fused.value = search rules in
    let first : SFits w32 c.property.result = search rules in
    let x = c.property.result in
    let y = c.end_of-place.ensures.answer in
    let v1 = to_z w32 (of_z w32 c.in-Fused.value) in
    let x1 = to_z w32 (of_z w32 x) in
    let side : Side = if int_lt v1 x1 then c.in-Fused.left else c.in-Fused.right in
    let hs : List Heard = heard c.in-Fused.property x ∷ heard side.property y ∷ [] in
    let chosen = chosen_by (int_lt v1 x1) c.in-Fused.left c.in-Fused.right in
    let says_it : says c.index.result.now (told x y) ≡ go c.end_of-place.result hs =
    ap (λ n. says n (told x y)) c.in-Fused.is
    ∙ says-fused c.in-Fused.property c.in-Fused.value v1 x x1 y c.in-Fused.left c.in-Fused.right side c.end_of-place.result (to_z-of_z w32 c.in-Fused.value value) (to_z-of_z w32 x first) chosen c.end_of-place.ensures.end_is in
    let smaller = says-below c.loop-leaf.place c.index.result.now (told x y) c.end_of-place.result hs r.below says_it in
    subst (λ k. Walked g.P.PlaceProperties.gives c.args.properties.now (reverse c.args.self.now.nodes.items) c.args.self.now.root c.end_of-place.result c.args.steps.now k) (sym c.tick.ensures)
    (walked-on g.P.PlaceProperties.gives c.args.properties.now (reverse c.args.self.now.nodes.items) c.args.self.now.root c.loop-leaf.place c.end_of-place.result c.args.steps.now c.loop-leaf.steps c.index.result.now x y hs c.loop-leaf.invariant r smaller says_it
    (record { low = λ k. omega (arith, ints); high = λ k. omega (arith, ints) })
    (λ f are. (are c.in-Fused.property x c.property.ensures, (are side.property y c.end_of-place.ensures.given, tt))))
