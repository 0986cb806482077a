-- Parts without samples have no region; and what decoding a part gives, by the states before and after.
use Rattle.std.proofs.Common.{zero, suc, ◌↔◌, inl, inr, ℤ, Result, Ok, Err, ◌≡◌, ◌≢◌, ℕ, ◌+◌, ◌*◌, ◌<◌, ◌≤◌, List, [], ◌∷◌, map, Option, None, Some, refl, sym, ap, ◌∙◌, subst, arith}
use Rattle.std.proofs.lemmas.Bool.{ltb-true}
use Rattle.std.proofs.lemmas.List.Sums.{sum_by-cons}
use Rattle.std.proofs.Math.Nat.{mul-le-mul_right}
use Rattle.std.specs.Prelude.{IsTrue, IfOk, IfErr, not, get_or, Bool, true, false, ◌&&◌, ◌==◌, nat_lt, filter_map, sum_by, if◌then◌else◌}
use Rattle.std.specs.List.{cons_option, enumerate_from}
use Rattle.jxlm_base.specs.declared.subgrid.Region.{Region}
use Rattle.jxlm_transform.specs.Channels.{Channel, ChannelList, area}
use Rattle.jxlm_transform.specs.ChannelSteps.{table_channel}
use Rattle.std.specs.Int.{Width}
use Rattle.std.proofs.lemmas.Bool.{lt-ltb}
use Rattle.jxlm_bits.specs.Decoding.{Meaning}
use Rattle.jxlm_bits.specs.ErrorKind.{NoMemory, kind_of as error_kind}
use Rattle.jxlm_bits.specs.declared.error.Error.{Error}
use Rattle.jxlm_base.specs.Regions.{grids_in, store_meanings}
use Rattle.jxlm_base.specs.Grid.{Grid}
use Rattle.jxlm_transform.specs.Channels.{AreGridsOf}
use Rattle.jxlm_groups.specs.declared.pass.Pass.{Pass}
use Rattle.jxlm_groups.specs.declared.part.Kind.{Kind}
use Rattle.jxlm_groups.specs.declared.part.SectionPart.{SectionPart}
use Rattle.jxlm_groups.specs.Cutting.{columns, rows, global_count, kind_of}
use Rattle.jxlm_groups.specs.Pieces.{in_store, channel_in, part_channels, piece, piece_channel, piece_in, piece_of_group, pieces, where_some}
use Rattle.jxlm_groups.specs.declared.part.Kind.TheVariants as kinds
use Rattle.jxlm_groups.specs.declared.part.SectionPart.TheVariants as parts
use Rattle.jxlm_samples.specs.Part.{cell_count}
use Rattle.jxl_modular.specs.declared.groups.Part.{Part}
use Rattle.jxl_modular.specs.declared.groups.Part.TheVariants as groups
use Rattle.jxl_modular.specs.declared.groups.PartState.{PartState}
use Rattle.jxl_modular.specs.declared.groups.PartStates.{PartStates}
use Rattle.jxl_modular.specs.declared.groups.TransformedGlobalModular.{TransformedGlobalModular}
use Rattle.jxl_modular.specs.Groups.{KeepsOtherGrids, PartOfGives, channels_in, held_in}
use Rattle.jxl_modular.specs.GroupParts.{KeepsOtherParts, channels_of, image_of, is_partial, or_new, passes_in, section_part, state_in, state_kept, state_of, steps_of}
use Rattle.jxl_modular.specs.Image.{Image, coded_list}
use Rattle.jxl_modular.specs.NestedTurns.{NestedGives}
use Rattle.jxlm_tree.specs.Tree.{Config}
use Rattle.jxl_modular.specs.SameButCells.{SameButCells}
use Rattle.jxlm_groups.proofs.HeldCells.{none_some, same_some}

-- where no item has an area, there is none
none_kept : {X : Type 0} (f : X → Option Region) (g : Region → Channel) → ((x : X) (r : Region) → f x ≡ Some r → 0 < area (g r)) → (xs : List X) → sum_by area (map g (filter_map f xs)) ≡ 0 → filter_map f xs ≡ []
none_kept f g h [] z = refl
none_kept f g h (x ∷ xs) z = by (f x) refl (none_kept f g h xs) z where
  by : (o : Option Region) → f x ≡ o → (sum_by area (map g (filter_map f xs)) ≡ 0 → filter_map f xs ≡ []) → sum_by area (map g (cons_option o (filter_map f xs))) ≡ 0 → cons_option o (filter_map f xs) ≡ []
  by None e rest z = rest z
  by (Some r) e rest z = let some = h x r e in let sum : area (g r) + sum_by area (map g (filter_map f xs)) ≡ 0 = sym (sum_by-cons area (g r) (map g (filter_map f xs))) ∙ z in absurd (omega (arith, some, sum))

-- a region of which something is kept has cells
some_cells : (b v w : Bool) (r s : Region) → (v ≡ true → 0 < r.width) → (w ≡ true → 0 < r.height) → if◌then◌else◌ {A = Option Region} (b && v && w) (Some r) None ≡ Some s → (0 < s.width) × (0 < s.height)
some_cells true true true r s wide high e = (subst (λ (q : Region). 0 < q.width) (same_some e) (wide refl), subst (λ (q : Region). 0 < q.height) (same_some e) (high refl))
some_cells true true false r s wide high e = absurd (none_some e)
some_cells true false w r s wide high e = absurd (none_some e)
some_cells false v w r s wide high e = absurd (none_some e)

some_area : (b : Bool) (c : Channel) (r s : Region) → where_some b r ≡ Some s → 0 < area (piece_channel c s)
some_area b c r s e =
    let sides = some_cells b (nat_lt 0 r.width) (nat_lt 0 r.height) r s (λ t. ltb-true 0 r.width t) (λ t. ltb-true 0 r.height t) e in
    let wide = sides.0 in let high = sides.1 in let most : 1 * s.height ≤ s.width * s.height = mul-le-mul_right s.height (omega (arith, wide)) in omega (arith, most, high)

module _ (dim : ℕ) where
  lf_area : (kind : Kind) (k n : ℕ) (c d : Channel) (r : Region) → piece_in dim kind (parts.Lf k) n c ≡ Some r → 0 < area (piece_channel d r)
  lf_area kinds.Global k n c d r e = absurd (none_some e)
  lf_area kinds.Lf k n c d r e = some_area (nat_lt k (columns dim c * rows dim c)) d (piece_of_group dim k n c) r e
  lf_area (kinds.Pass q) k n c d r e = absurd (none_some e)

  pass_area : (kind : Kind) (p k n : ℕ) (c d : Channel) (r : Region) → piece_in dim kind (parts.Pass p k) n c ≡ Some r → 0 < area (piece_channel d r)
  pass_area kinds.Global p k n c d r e = absurd (none_some e)
  pass_area kinds.Lf p k n c d r e = absurd (none_some e)
  pass_area (kinds.Pass q) p k n c d r e = some_area ((p == q) && nat_lt k (columns dim c * rows dim c)) d (piece_of_group dim k n c) r e

  -- a group without cells has no region
  no_lf_pieces : (passes : List Pass) (l : ChannelList) (k : ℕ) → sum_by area (part_channels dim passes l (parts.Lf k)) ≡ 0 → pieces dim passes l (parts.Lf k) ≡ []
  no_lf_pieces passes l k z =
      none_kept (piece dim passes (global_count dim l) (parts.Lf k)) (λ r. channel_in (parts.Lf k) (get_or l.channels r.buffer (table_channel 0 0)) r)
      (λ x r e. lf_area (kind_of passes (global_count dim l) x.0 x.1) k x.0 x.1 (get_or l.channels r.buffer (table_channel 0 0)) r e) (enumerate_from 0 l.channels) z

  no_pass_pieces : (passes : List Pass) (l : ChannelList) (p k : ℕ) → sum_by area (part_channels dim passes l (parts.Pass p k)) ≡ 0 → pieces dim passes l (parts.Pass p k) ≡ []
  no_pass_pieces passes l p k z =
      none_kept (piece dim passes (global_count dim l) (parts.Pass p k)) (λ r. channel_in (parts.Pass p k) (get_or l.channels r.buffer (table_channel 0 0)) r)
      (λ x r e. pass_area (kind_of passes (global_count dim l) x.0 x.1) p k x.0 x.1 (get_or l.channels r.buffer (table_channel 0 0)) r e) (enumerate_from 0 l.channels) z

-- what is not shown empty has some
pub not_empty : (b : Bool) (n : ℕ) → IsTrue b ↔ (n ≡ 0) → b ≡ false → 0 < n
not_empty b zero iff is = let yes : b ≡ true = iff.1 refl in absurd (cc)
not_empty b (suc n) iff is = omega arith

module _ {S D : Type 0} (d : Meaning D) (w : Width) (to_int : S → ℤ) (bytes : List ℕ) (stream : ℕ) where
  -- a part without samples
  empty_pieces : (x : Image S D) (passes : List Pass) (part : Part) → cell_count (channels_in x passes (section_part part)) ≡ 0 → pieces x.group_dim passes (coded_list x) (section_part part) ≡ []
  empty_pieces x passes (groups.Lf k) z = no_lf_pieces x.group_dim passes (coded_list x) k z
  empty_pieces x passes (groups.Pass p k) z = no_pass_pieces x.group_dim passes (coded_list x) p k z

  no_grids : (x : Image S D) (passes : List Pass) (part : Part) (store : List (Grid ℤ)) → cell_count (channels_in x passes (section_part part)) ≡ 0 → AreGridsOf (channels_in x passes (section_part part)) (grids_in (held_in x passes (section_part part)) store)
  no_grids x passes part store z =
      subst (λ (ps : List Region). AreGridsOf (map (λ r. channel_in (section_part part) (get_or x.channels r.buffer (table_channel 0 0)) r) ps) (grids_in (in_store x.coded ps) store))
      (sym (empty_pieces x passes part z)) tt

  -- it is decoded whole by no read
  pub empty_gives : (x : TransformedGlobalModular S D) (part : Part) (p : ℕ) (allow : Bool) → cell_count (channels_of x part) ≡ 0 →
      PartOfGives d w to_int bytes stream (passes_in x) (section_part part) (image_of x) p (is_partial x part) (steps_of x part) (image_of x) p (is_partial x part) (steps_of x part) allow (Ok tt)
  empty_gives x part p allow z = (
    0,
    inl (record {
      coded = inr (z, refl);
      fits = no_grids (image_of x) (passes_in x) part (store_meanings to_int (image_of x).store) z;
      whole = ap (λ n. nat_lt 0 n && (state_of x part).partial) z;
      tries = sym z;
    }),
    (omega arith, omega arith),
  )

  -- the same by other names of passes, part and states
  moved : (passes passes2 : List Pass) (name name2 : SectionPart) (x y : Image S D) (p q : ℕ) (a a2 c c2 : Bool) (m m2 n n2 : ℕ) (allow : Bool) (result : Result (Unit {0}) Error) →
      passes ≡ passes2 → name ≡ name2 → a ≡ a2 → m ≡ m2 → c ≡ c2 → n ≡ n2 →
      PartOfGives d w to_int bytes stream passes name x p a m y q c n allow result → PartOfGives d w to_int bytes stream passes2 name2 x p a2 m2 y q c2 n2 allow result
  moved passes passes2 name name2 x y p q a a2 c c2 m m2 n n2 allow result e1 e2 e3 e4 e5 e6 h =
      subst (λ (v : List Pass). PartOfGives d w to_int bytes stream v name2 x p a2 m2 y q c2 n2 allow result) e1
      (subst (λ (v : SectionPart). PartOfGives d w to_int bytes stream passes v x p a2 m2 y q c2 n2 allow result) e2
      (subst (λ (v : Bool). PartOfGives d w to_int bytes stream passes name x p v m2 y q c2 n2 allow result) e3
      (subst (λ (v : ℕ). PartOfGives d w to_int bytes stream passes name x p a v y q c2 n2 allow result) e4
      (subst (λ (v : Bool). PartOfGives d w to_int bytes stream passes name x p a m y q v n2 allow result) e5
      (subst (λ (v : ℕ). PartOfGives d w to_int bytes stream passes name x p a m y q c v allow result) e6 h)))))

  -- what decoding a part with samples gives, from the state that was taken, with that which is put back
  pub full_gives : (x : TransformedGlobalModular S D) (part : Part) (p q : ℕ) (s t : PartState) (y : Image S D) (allow : Bool) (result : Result (Unit {0}) Error) (passes : List Pass) (name : SectionPart) (progress : PartStates) →
      0 < cell_count (channels_of x part) → passes ≡ passes_in x → name ≡ section_part part → s ≡ state_of x part →
      state_kept progress part ≡ Some t → progress.passes.items ≡ passes_in x → SameButCells (image_of x) y →
      PartOfGives d w to_int bytes stream passes name (image_of x) p s.partial s.steps y q t.partial t.steps allow result →
      PartOfGives d w to_int bytes stream (passes_in x) (section_part part) (image_of x) p (is_partial x part) (steps_of x part) y q (nat_lt 0 (cell_count (channels_in y progress.passes.items (section_part part))) && (state_in progress part).partial) (state_in progress part).steps allow result
  full_gives x part p q s t y allow result passes name progress some passes_are name_is taken put kept same h =
      let samples : nat_lt 0 (cell_count (channels_of x part)) ≡ true = lt-ltb 0 (cell_count (channels_of x part)) some in
      let channels : channels_in y progress.passes.items (section_part part) ≡ channels_of x part = rw ((ap (λ (z : Image S D). z.group_dim) same.rest), (ap (λ (z : Image S D). z.channels) same.rest), (ap (λ (z : Image S D). z.nb_meta) same.rest), kept) refl in
      let state : state_in progress part ≡ t = ap or_new put in
      moved passes (passes_in x) name (section_part part) (image_of x) y p q
      s.partial (is_partial x part) t.partial (nat_lt 0 (cell_count (channels_in y progress.passes.items (section_part part))) && (state_in progress part).partial)
      s.steps (steps_of x part) t.steps (state_in progress part).steps allow result passes_are name_is
      (ap (λ (v : PartState). v.partial) taken ∙ sym (ap (λ b. b && (state_of x part).partial) samples))
      (ap (λ (v : PartState). v.steps) taken)
      (sym (ap (λ (v : PartState). v.partial) state) ∙ sym (ap (λ b. b && (state_in progress part).partial) (ap (λ cs. nat_lt 0 (cell_count cs)) channels ∙ samples)))
      (sym (ap (λ (v : PartState). v.steps) state)) h

  -- what decoding a part by a header of its own gives where it is out of memory at once
  pub nested_refused : (x : TransformedGlobalModular S D) (part : Part) (p : ℕ) (nought : S) (global : Option (Config D)) (allow : Bool) (result : Result Bool Error) (e : Error) (progress : PartStates) →
      result ≡ Err e → error_kind e ≡ NoMemory → state_kept progress part ≡ state_kept x.progress part →
      NestedGives d w to_int nought (image_of x) (passes_in x) global bytes p (section_part part) stream allow result (image_of x).store (image_of x).store p (steps_of x part) (state_in progress part).steps
  nested_refused x part p nought global allow result e progress is memory same =
      subst (λ (r : Result Bool Error). NestedGives d w to_int nought (image_of x) (passes_in x) global bytes p (section_part part) stream allow r (image_of x).store (image_of x).store p (steps_of x part) (state_in progress part).steps) (sym is)
      (subst (λ (n : ℕ). NestedGives d w to_int nought (image_of x) (passes_in x) global bytes p (section_part part) stream allow (Err e) (image_of x).store (image_of x).store p (steps_of x part) n)
      (sym (ap (λ (o : Option PartState). (or_new o).steps) same)) (
        record { position = p; partial = false; tried = 0; tree = (image_of x).config.tree },
        inl (record { because = rw memory tt; unchanged = refl; tries = refl }),
        refl,
        (omega arith, omega arith),
      ))

and_all : (a b c : Bool) → (a && (b && c)) ≡ ((a && b) && c)
and_all true b c = refl
and_all false b c = refl

module _ {S D : Type 0} (x : TransformedGlobalModular S D) (part : Part) (s t : PartState) (y : Image S D) (progress : PartStates) (result : Result Bool Error)
    (taken : s ≡ state_of x part) (put : state_kept progress part ≡ Some t) (kept : progress.passes.items ≡ passes_in x) (same : SameButCells (image_of x) y) where
  abbrev has_cells : Bool
  has_cells = nat_lt 0 (cell_count (channels_of x part))

  abbrev partial_then : Bool
  partial_then = nat_lt 0 (cell_count (channels_in y progress.passes.items (section_part part))) && (state_in progress part).partial

  -- whether the part is partial by the state that is put back
  by_state : partial_then ≡ (has_cells && t.partial)
  by_state =
      let channels : channels_in y progress.passes.items (section_part part) ≡ channels_of x part = rw ((ap (λ (z : Image S D). z.group_dim) same.rest), (ap (λ (z : Image S D). z.channels) same.rest), (ap (λ (z : Image S D). z.nb_meta) same.rest), kept) refl in
      let state : state_in progress part ≡ t = ap or_new put in
      rw (channels, state) refl

  -- it is whole where all samples were decoded, or where it was so before
  pub nested_whole : IfOk result (λ whole. t.partial ≡ (s.partial && not whole)) → IfOk result (λ whole. partial_then ≡ (is_partial x part && not whole))
  nested_whole h = go result h where
    go : (r : Result Bool Error) → IfOk r (λ whole. t.partial ≡ (s.partial && not whole)) → IfOk r (λ whole. partial_then ≡ (is_partial x part && not whole))
    go (Err e) h = tt
    go (Ok whole) h =
        by_state ∙ ap (λ b. has_cells && b) (h ∙ ap (λ (v : PartState). v.partial && not whole) taken) ∙ and_all has_cells (state_of x part).partial (not whole)

  pub nested_same : IfErr result (λ _. t.partial ≡ s.partial) → IfErr result (λ _. partial_then ≡ is_partial x part)
  nested_same h = go result h where
    go : (r : Result Bool Error) → IfErr r (λ _. t.partial ≡ s.partial) → IfErr r (λ _. partial_then ≡ is_partial x part)
    go (Ok whole) h = tt
    go (Err e) h = by_state ∙ ap (λ b. has_cells && b) (h ∙ ap (λ (v : PartState). v.partial) taken)

-- the other parts are decoded as far as before, and have the same grids, where what is kept of them, the passes, the
-- channels and the grids stay
pub others_kept : {S D : Type 0} (to_int : S → ℤ) (x new : TransformedGlobalModular S D) (part : Part) →
    ((other : Part) → other ≢ part → state_kept new.progress other ≡ state_kept x.progress other) → passes_in new ≡ passes_in x → SameButCells (image_of x) (image_of new) →
    KeepsOtherGrids to_int (passes_in x) (section_part part) (image_of x) (image_of new) → KeepsOtherParts to_int part x new
others_kept {S = S} {D = D} to_int x new part states passes same grids = record {
  partial = λ other unlike.
      let channels : channels_of new other ≡ channels_of x other = rw ((ap (λ (z : Image S D). z.group_dim) same.rest), (ap (λ (z : Image S D). z.channels) same.rest), (ap (λ (z : Image S D). z.nb_meta) same.rest), passes) refl in
      let state : state_of new other ≡ state_of x other = ap or_new (states other unlike) in
      rw (channels, state) refl;
  steps = λ other unlike. ap (λ (o : Option PartState). (or_new o).steps) (states other unlike);
  grids = grids;
}
