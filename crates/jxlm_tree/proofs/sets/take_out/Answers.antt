use Rattle.std.proofs.Common.{◌≡◌, ◌∙◌, ℕ, ◌+◌, ◌-◌, ◌<◌, ◌≤◌, ◌≢◌, ◌^◌, Bool, true, false, length, get_or, set, get_or-set_other, get_or-set_same, sym, ap, ap₂, subst, arith, refl, ◌⊎◌, inl, inr}
use Rattle.std.specs.Int.Bits.{bit_and}
use Rattle.std.specs.Prelude.{◌&&◌, not, slice_index}
use Rattle.std.proofs.lemmas.Bool.{cases_lt}
use Rattle.jxlm_tree.specs.Inner.LeafSets.{is_within}
use Rattle.jxlm_tree.specs.SetTables.{has}
use Rattle.jxlm_tree.proofs.LeafBits.{entry-above, entry-below, entry-inside, has-and, has-not}
use Rattle.jxlm_tree.proofs.sets.take_out.Goals as goal

and-all : (x y : Bool) → (x && not (false && y)) ≡ x
and-all true y = refl
and-all false y = refl

pub loop-entry-init : goal.loop-entry-init
loop-entry-init c = record {
  begun = omega arith;
  done = λ e from less. absurd (omega arith);
  rest = λ e out. refl;
}

pub loop-entry-preserved : goal.loop-entry-preserved
loop-entry-preserved c =
    let sets = c.loop-entry.sets in
    let entry = c.loop-entry.entry in
    let new = bit_and (get_or sets entry 0) (18446744073709551615 - c.args.leaves) in
    let begun = c.loop-entry.invariant.begun in
    let within : entry < length sets = let e = c.loop-entry.auto.sets in let r = c.requires.inside in let t = c.loop-entry-test.true in omega (arith, e, r, t) in
    record {
      begun = omega (arith, begun);
      done = λ e from less. done e from (cases_lt e entry) less;
      rest = λ e out. rest e out;
    }
  where
    done : (e : ℕ) → c.args.from ≤ e → (e < c.loop-entry.entry) ⊎ (c.loop-entry.entry ≤ e) → e < c.loop-entry.entry + 1 → (i : ℕ) → i < 64 →
        has (slice_index (set c.loop-entry.sets c.loop-entry.entry (bit_and (get_or c.loop-entry.sets c.loop-entry.entry 0) (18446744073709551615 - c.args.leaves))) e) i ≡ (has (slice_index c.args.sets.now e) i && not (has c.args.leaves i))
    done e from (inl less) upto i few =
        let ne : e ≢ c.loop-entry.entry = omega arith in
        ap (λ s. has s i) (get_or-set_other c.loop-entry.sets c.loop-entry.entry e (bit_and (get_or c.loop-entry.sets c.loop-entry.entry 0) (18446744073709551615 - c.args.leaves)) 0 ne) ∙ c.loop-entry.invariant.done e from less i few
    done e from (inr more) upto i few =
        let is : c.loop-entry.entry ≡ e = omega arith in
        let fits : c.args.leaves < 2 ^ 64 = c.ranges.leaves.fits in
        let within : c.loop-entry.entry < length c.loop-entry.sets = let h = c.loop-entry.auto.sets in let r = c.requires.inside in let t = c.loop-entry-test.true in omega (arith, h, r, t) in
        subst (λ k. has (slice_index (set c.loop-entry.sets c.loop-entry.entry (bit_and (get_or c.loop-entry.sets c.loop-entry.entry 0) (18446744073709551615 - c.args.leaves))) k) i ≡ (has (slice_index c.args.sets.now k) i && not (has c.args.leaves i))) is
        (ap (λ s. has s i) (get_or-set_same c.loop-entry.sets c.loop-entry.entry (bit_and (get_or c.loop-entry.sets c.loop-entry.entry 0) (18446744073709551615 - c.args.leaves)) 0 within)
        ∙ has-and (get_or c.loop-entry.sets c.loop-entry.entry 0) (18446744073709551615 - c.args.leaves) i
        ∙ ap₂ (λ a b. a && b) (ap (λ s. has s i) (c.loop-entry.invariant.rest c.loop-entry.entry (inr (omega arith)))) (has-not c.args.leaves i fits few))

    rest : (e : ℕ) → (e < c.args.from) ⊎ (c.loop-entry.entry + 1 ≤ e) → slice_index (set c.loop-entry.sets c.loop-entry.entry (bit_and (get_or c.loop-entry.sets c.loop-entry.entry 0) (18446744073709551615 - c.args.leaves))) e ≡ slice_index c.args.sets.now e
    rest e (inl below) =
        let begun = c.loop-entry.invariant.begun in
        let ne : e ≢ c.loop-entry.entry = omega arith in
        get_or-set_other c.loop-entry.sets c.loop-entry.entry e (bit_and (get_or c.loop-entry.sets c.loop-entry.entry 0) (18446744073709551615 - c.args.leaves)) 0 ne ∙ c.loop-entry.invariant.rest e (inl below)
    rest e (inr above) =
        let ne : e ≢ c.loop-entry.entry = omega arith in
        get_or-set_other c.loop-entry.sets c.loop-entry.entry e (bit_and (get_or c.loop-entry.sets c.loop-entry.entry 0) (18446744073709551615 - c.args.leaves)) 0 ne ∙ c.loop-entry.invariant.rest e (inr (omega arith))

pub returns : goal.returns
returns c = λ e i less few. either e i few (cases_lt e c.args.from) (cases_lt e c.args.end) where
  either : (e i : ℕ) → i < 64 → (e < c.args.from) ⊎ (c.args.from ≤ e) → (e < c.args.end) ⊎ (c.args.end ≤ e) →
      has (slice_index c.loop-entry.sets e) i ≡ (has (slice_index c.args.sets.now e) i && not (is_within c.args.from c.args.end e && has c.args.leaves i))
  either e i few (inl below) other =
      ap (λ s. has s i) (c.loop-entry.invariant.rest e (inl below)) ∙ rw (entry-below c.args.from c.args.end e below) (sym (and-all (has (slice_index c.args.sets.now e) i) (has c.args.leaves i)))
  either e i few (inr from) (inl less) =
      let t = c.loop-entry-test.false in
      rw (entry-inside c.args.from c.args.end e from less) (c.loop-entry.invariant.done e from (omega (arith, less, t)) i few)
  either e i few (inr from) (inr above) =
      let t = c.loop-entry.auto.entry-end in
      ap (λ s. has s i) (c.loop-entry.invariant.rest e (inr (omega (arith, above, t)))) ∙ rw (entry-above c.args.from c.args.end e above) (sym (and-all (has (slice_index c.args.sets.now e) i) (has c.args.leaves i)))
