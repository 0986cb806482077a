-- One more cell of a row is read from the row above it.
use Rattle.std.proofs.Common.{◌≡◌, ℕ, zero, suc, ◌+◌, ◌<◌, List, Contains, length, take, map, Ok, Err, Result, Bool, true, false, refl, sym, ap, ◌∙◌, subst, arith, rules, ℤ, pos, ◌+ℤ◌, ◌-ℤ◌, ◌*ℤ◌}
use Rattle.std.specs.Borrow.{Bor}
use Rattle.std.specs.Prelude.{get_or, slice_set}
use Rattle.std.specs.Int.{Width, w32, int_wrap}
use Rattle.std.proofs.Math.IntN.{+ℤ_idr, *ℤ_comm, suc_ℤ-*ℤ, zero-*ℤ, +ℤ_idl}
use Rattle.std.proofs.Math.ListN.{get_or-map}
use Rattle.std.proofs.lemmas.Int.{SFits-int_wrap, int_wrap_fits, int_wrap-add_left, int_wrap-add_right}
use Rattle.std.proofs.lemmas.List.{get_or-set_same, get_or-take, length-map, length-take-le, map-set}
use Rattle.jxlm_bits.specs.Bits.{bytes_of, position_of}
use Rattle.jxlm_bits.specs.Decoding.{IsLawful, Meaning, Taken}
use Rattle.jxlm_bits.specs.Numbers.{clamped_gradient, unpack}
use Rattle.jxlm_bits.specs.declared.decoder.DecoderError.{DecoderError}
use Rattle.jxlm_ma_tree.specs.declared.leaf.Leaf.{Leaf}
use Rattle.jxlm_tree.specs.ClusterTables.{Clusters, table_leaf}
use Rattle.jxlm_samples.specs.Coded.{sample_of}
use Rattle.jxlm_samples.specs.Inner.Paths.{AreGradients, AreLeft, IsPlain, gradient_rule, leaf_by, steps_by}
use Rattle.jxlm_samples.specs.Inner.Rows.{FailsRow, ReadsCells}
use Rattle.jxlm_samples.specs.declared.source.Source.{Source}
use Rattle.jxlm_samples.specs.Rule.{Rule}
use Rattle.jxlm_samples.specs.declared.gradient.Leaves.{Leaves}
use Rattle.jxlm_samples.specs.declared.gradient.Leaves.TheVariants.{Table}
use Rattle.jxlm_samples.proofs.ClampedSums.{sum-fits}
use Rattle.jxlm_samples.proofs.RowReads.{cell_fails, cell_more}
use Rattle.jxlm_samples.specs.RowNeighbours.{gradient_in, north_in, north_west_in, property_9_in, sum_by, west_in}

-- at a leaf that adds nothing more, tokens and predictions are added as samples
pub plain_sample : (w : Width) (l : Leaf) (token : ℕ) (g : ℤ) → IsPlain l → sample_of w l g token ≡ int_wrap w (unpack token +ℤ g)
plain_sample w l token g plain =
    let u : ℤ = unpack token in
    let one : u *ℤ pos 1 ≡ u = *ℤ_comm u (pos 1) ∙ suc_ℤ-*ℤ (pos 0) u ∙ ap (λ z. z +ℤ u) (zero-*ℤ u) ∙ +ℤ_idl u in
    let plainly : u *ℤ pos l.multiplier +ℤ l.offset ≡ u = ap (λ m. u *ℤ pos m +ℤ l.offset) plain.multiplier ∙ ap (λ o. u *ℤ pos 1 +ℤ o) plain.offset ∙ +ℤ_idr (u *ℤ pos 1) ∙ one in
    ap (λ z. int_wrap w (z +ℤ g)) plainly

-- a prediction may be reduced to 32 bits, and the token's number to the width
reduced_sample : (w : Width) (l : Leaf) (token : ℕ) (g : ℤ) → IsPlain l → ((z : ℤ) → int_wrap w (int_wrap w32 z) ≡ int_wrap w z) →
    sample_of w l (int_wrap w32 g) token ≡ int_wrap w (int_wrap w (unpack token) +ℤ g)
reduced_sample w l token g plain after =
    let u : ℤ = unpack token in
    plain_sample w l token (int_wrap w32 g) plain
    ∙ sym (int_wrap-add_right w u (int_wrap w32 g)) ∙ ap (λ z. int_wrap w (u +ℤ z)) (after g) ∙ int_wrap-add_right w u g
    ∙ sym (int_wrap-add_left w u g)

-- what a look-up in a table says of the leaves that it gives
pub by_table : (leaves : Leaves) (c : Bor Clusters) (x : ℤ) (k : ℕ) → leaves ≡ Table c → k ≡ (table_leaf c.now x).cluster → k ≡ (leaf_by leaves x).cluster
by_table leaves c x k is e = e ∙ ap (λ (ls : Leaves). (leaf_by ls x).cluster) (sym is)

pub step_by_table : (leaves : Leaves) (c : Bor Clusters) (before after : ℕ) → leaves ≡ Table c → after ≡ before + 1 → after ≡ before + steps_by leaves
step_by_table leaves c before after is e = e ∙ ap (λ (ls : Leaves). before + steps_by ls) (sym is)

-- ---- neighbours

module _ (above row : List ℤ) where
  -- they depend on the cells before alone
  pub west_before : (x : ℕ) → west_in above (take x row) x ≡ west_in above row x
  west_before zero = refl
  west_before (suc x) = get_or-take (suc x) row x (pos 0) (omega arith)

  gradient_before : (x : ℕ) → gradient_in above (take x row) x ≡ gradient_in above row x
  gradient_before zero = refl
  gradient_before (suc x) = ap (λ z. int_wrap w32 (clamped_gradient (get_or above (suc x) z) z (get_or above x z))) (west_before (suc x))

  gradient_next_is : (x : ℕ) → x < length row → gradient_in above (take x row) (length (take x row)) ≡ gradient_in above row x
  gradient_next_is x inside = ap (gradient_in above (take x row)) (length-take-le x row (omega arith)) ∙ gradient_before x

  pub north_west_before : (x : ℕ) → north_west_in above (take x row) x ≡ north_west_in above row x
  north_west_before zero = refl
  north_west_before (suc x) = ap (get_or above x) (west_before (suc x))

  property_9_before : (b : Bool) (x : ℕ) → property_9_in above (take x row) b x ≡ property_9_in above row b x
  property_9_before b x =
      ap (λ z. sum_by b (z -ℤ north_west_in above (take x row) x +ℤ north_in above (take x row) x)) (west_before x)
      ∙ ap (λ z. sum_by b (west_in above row x -ℤ z +ℤ north_in above (take x row) x)) (north_west_before x)
      ∙ ap (λ z. sum_by b (west_in above row x -ℤ north_west_in above row x +ℤ get_or above x z)) (west_before x)

-- a sample of the row above, or another in the first row, as the code has it
pub sample_above_is : {X : Type 0} (to_int : X → ℤ) (above : List X) (x : ℕ) (n other : X) (e : ℤ) → n ≡ get_or above x other → to_int other ≡ e → to_int n ≡ get_or (map to_int above) x e
sample_above_is to_int above x n other e is at = ap to_int is ∙ sym (get_or-map to_int above x other) ∙ ap (get_or (map to_int above) x) at

-- the sample of 0 stands for 0
pub zero_sample : {X : Type 0} (w : Width) (to_int : X → ℤ) (from_int : ℤ → X) → ((z : ℤ) → to_int (from_int z) ≡ z) → (v : X) → v ≡ from_int (int_wrap w (pos 0)) → to_int v ≡ pos 0
zero_sample w to_int from_int back v is = ap to_int is ∙ back (int_wrap w (pos 0)) ∙ int_wrap_fits w (pos 0) (search rules)

-- before column 0
pub left_first : {X : Type 0} {to_int : X → ℤ} {above row : List X} (w none : X) → w ≡ get_or above 0 none → to_int none ≡ pos 0 → AreLeft to_int above row 0 w w
left_first {to_int = to_int} {above = above} w none is zero_is = let west = sample_above_is to_int above 0 w none (pos 0) is zero_is in record { west = west; north_west = west }

-- ---- the cell in column x of a row: what is to the left of it, and the sample above it

module _ {X : Type 0} {to_int : X → ℤ} {above row : List X} {x : ℕ} {w nw : X} (left : AreLeft to_int above row x w nw) (inside : x < length row) where
  abbrev A : List ℤ
  A = map to_int above

  abbrev R : List ℤ
  R = map to_int row

  in_row : x < length R
  in_row = let m = length-map row to_int in omega (arith, m, inside)

  -- once a sample is in the column, that is to the left of the next one
  pub left_next : (v m : X) → m ≡ get_or above x v → AreLeft to_int above (slice_set row x v) (x + 1) v m
  left_next v m is =
      let next : suc x ≡ x + 1 = omega arith in
      let west : to_int v ≡ west_in A (map to_int (slice_set row x v)) (suc x) = sym (get_or-set_same R x (to_int v) (pos 0) in_row) ∙ ap (λ r. get_or r x (pos 0)) (sym (map-set to_int row x v)) in
      subst (λ k. AreLeft to_int above (slice_set row x v) k v m) next (record { west = west; north_west = sample_above_is to_int above x m v _ is west })

  module _ (n : X) (up : n ≡ get_or above x w) where
    north : to_int n ≡ north_in A R x
    north = sample_above_is to_int above x n w _ up left.west

    -- property 9, as the code computes it
    pub property_9_is : (b : Bool) → sum_by b (to_int w -ℤ to_int nw +ℤ to_int n) ≡ property_9_in A (take x R) b (length (take x R))
    property_9_is b =
        ap (λ z. sum_by b (z -ℤ to_int nw +ℤ to_int n)) left.west
        ∙ ap (λ z. sum_by b (west_in A R x -ℤ z +ℤ to_int n)) left.north_west
        ∙ ap (λ z. sum_by b (west_in A R x -ℤ north_west_in A R x +ℤ z)) north
        ∙ sym (ap (property_9_in A (take x R) b) (length-take-le x R (omega (arith, in_row))) ∙ property_9_before A R b x)

    -- the sample of a token over the clamped gradient, as the code computes it
    pub gradient_sample : (width : Width) (from_int : ℤ → X) → ((z : ℤ) → to_int (from_int z) ≡ z) → ((z : ℤ) → int_wrap width (int_wrap w32 z) ≡ int_wrap width z) → (l : Leaf) → IsPlain l →
        (token : ℕ) (u g v : X) → u ≡ from_int (int_wrap width (unpack token)) → g ≡ from_int (clamped_gradient (to_int n) (to_int w) (to_int nw)) → v ≡ from_int (int_wrap width (to_int u +ℤ to_int g)) →
        to_int v ≡ sample_of width l (gradient_in A (take x R) (length (take x R))) token
    gradient_sample width from_int back after l plain token u g v hu hg hv =
        let iu : to_int u ≡ int_wrap width (unpack token) = ap to_int hu ∙ back (int_wrap width (unpack token)) in
        let ig : to_int g ≡ clamped_gradient (north_in A R x) (west_in A R x) (north_west_in A R x) =
        ap to_int hg ∙ back (clamped_gradient (to_int n) (to_int w) (to_int nw))
        ∙ ap (λ z. clamped_gradient z (to_int w) (to_int nw)) north
        ∙ ap (λ z. clamped_gradient (north_in A R x) z (to_int nw)) left.west
        ∙ ap (λ z. clamped_gradient (north_in A R x) (west_in A R x) z) left.north_west in
        ap to_int hv ∙ back (int_wrap width (to_int u +ℤ to_int g))
        ∙ ap (λ z. int_wrap width (z +ℤ to_int g)) iu ∙ ap (λ z. int_wrap width (int_wrap width (unpack token) +ℤ z)) ig
        ∙ sym (reduced_sample width l token (clamped_gradient (north_in A R x) (west_in A R x) (north_west_in A R x)) plain after)
        ∙ ap (λ z. sample_of width l z token) (sym (gradient_next_is A R x in_row))

-- ---- the loop over the cells of a row

-- The cells before column x of a row were read below the row above, from `start` to `old`; these are to the left of it.
pub record ReadsBelow {D X : Type 0} (d : Meaning D) (width : Width) (to_int : X → ℤ) (clamped : Bool) (leaves : Leaves) (widest : ℕ) (above : List X) (start : Source D) (row : List X) (x : ℕ) (w nw : X)
    (old : Source D) : Type 0 where
  pub reads : ReadsCells d (steps_by leaves) (gradient_rule d width clamped (bytes_of start.bits) widest leaves (map to_int above)) (map to_int row) x start old
  pub left : AreLeft to_int above row x w nw

-- k is the cluster of the cell in that column
module _ {D X : Type 0} {d : Meaning D} {width : Width} {to_int : X → ℤ} {clamped : Bool} {leaves : Leaves} {widest : ℕ} {above row : List X} {start old : Source D} {x : ℕ} {w nw : X} (law : IsLawful d)
    (grads : AreGradients (d.cluster_map start.decoder) leaves) (inside : x < length row) (h : ReadsBelow d width to_int clamped leaves widest above start row x w nw old) (n : X) (up : n ≡ get_or above x w) (k : ℕ)
    (looked_up : k ≡ (leaf_by leaves (sum_by clamped (to_int w -ℤ to_int nw +ℤ to_int n))).cluster) where
  abbrev rule : Rule D
  rule = gradient_rule d width clamped (bytes_of start.bits) widest leaves (map to_int above)

  abbrev cells : List ℤ
  cells = map to_int row

  abbrev property_9 : ℤ
  property_9 = property_9_in (map to_int above) (take x cells) clamped (length (take x cells))

  within : x < length cells
  within = let m = length-map row to_int in omega (arith, m, inside)

  is : k ≡ (leaf_by leaves property_9).cluster
  is = looked_up ∙ ap (λ z. (leaf_by leaves z).cluster) (property_9_is h.left inside n up clamped)

  -- the cluster is one of the decoder's
  pub known_now : Contains (d.cluster_map old.decoder) k
  known_now = rw (is, h.reads.clusters) (grads.known _ (sum-fits clamped _))

  -- so its read is that of the leaf
  read_at_leaf : (r : Result (Taken ℕ D) DecoderError) → d.read old.decoder (bytes_of old.bits) (position_of old.bits) k widest ≡ r → rule.read (take x cells) old.decoder (position_of old.bits) ≡ r
  read_at_leaf r read = rw (← is, ← h.reads.bytes) read

  module _ (new : Source D) (same : bytes_of new.bits ≡ bytes_of old.bits) (step : new.steps ≡ old.steps + steps_by leaves) where
    -- the token of one more was read, and its sample is in the column
    pub below_more : (from_int : ℤ → X) → ((z : ℤ) → to_int (from_int z) ≡ z) → ((z : ℤ) → int_wrap width (int_wrap w32 z) ≡ int_wrap width z) → (token : ℕ) (u g v m : X) →
        d.read old.decoder (bytes_of old.bits) (position_of old.bits) k widest ≡ Ok (record { value = token; state = new.decoder; position = position_of new.bits }) →
        u ≡ from_int (int_wrap width (unpack token)) → g ≡ from_int (clamped_gradient (to_int n) (to_int w) (to_int nw)) → v ≡ from_int (int_wrap width (to_int u +ℤ to_int g)) →
        m ≡ get_or above x v → ReadsBelow d width to_int clamped leaves widest above start (slice_set row x v) (x + 1) v m new
    below_more from_int back after token u g v m read hu hg hv hm =
        let plain = grads.plain property_9 in
        let value = gradient_sample h.left inside n up width from_int back after (leaf_by leaves property_9) (record { offset = plain.1.0; multiplier = plain.1.1 }) token u g v hu hg hv in
        record {
          reads = cell_more d (steps_by leaves) rule start cells x old within h.reads new (map to_int (slice_set row x v)) (record {
            token = token;
            read = read_at_leaf _ read;
            written = map-set to_int row x v ∙ ap (slice_set cells x) value;
            clusters = (law.read_keeps old.decoder (bytes_of old.bits) (position_of old.bits) k widest _ known_now read).clusters;
            bytes = same;
            work = omega (arith, step);
            more = omega (arith, step);
          });
          left = left_next h.left inside v m hm;
        }

    -- its read returned an error
    pub below_ends : (e : DecoderError) → d.read old.decoder (bytes_of old.bits) (position_of old.bits) k widest ≡ Err e → position_of new.bits ≡ position_of old.bits → FailsRow d (steps_by leaves) rule cells start new (record { column = x; error = e })
    below_ends e read place = cell_fails d (steps_by leaves) rule start cells x old within h.reads new cells e (record {
      error = read_at_leaf _ read;
      row_is = refl;
      place_is = place;
      memory = λ out. law.read_memory old.decoder (bytes_of old.bits) (position_of old.bits) k widest known_now (read ∙ ap Err out);
      bytes = same;
      work = omega (arith, step);
      more = omega (arith, step);
    })
