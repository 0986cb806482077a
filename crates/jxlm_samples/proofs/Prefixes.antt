-- A prefix depends on its own cells alone, it grows at its end, and there is one; so no part is both whole and failed.
use Rattle.std.proofs.Common.{◌≡◌, ℕ, zero, suc, ◌+◌, ◌<◌, ◌≤◌, inl, inr, List, [], ◌∷◌, ◌++◌, length, Some, Result, Ok, Err, take, refl, sym, ap, ◌∙◌, subst, arith, add-one, ℤ}
use Rattle.std.specs.Prelude.{slice_get}
use Rattle.std.specs.Int.{Width}
use Rattle.std.proofs.Math.Seq.{take-append-add}
use Rattle.std.proofs.lemmas.Bool.{cases_lt}
use Rattle.std.proofs.lemmas.List.{take-take, take_more_same}
use Rattle.std.proofs.lemmas.Option.{slice_get_within, get_or_from_slice_get}
use Rattle.jxlm_bits.specs.declared.decoder.DecoderError.{DecoderError}
use Rattle.jxlm_bits.specs.Decoding.{Taken, Meaning}
use Rattle.jxlm_base.specs.Grid.{Grid}
use Rattle.jxlm_samples.specs.Part.{Part, cell_count, cells_of}
use Rattle.jxlm_samples.specs.Rule.{Rule, CodedPrefix}
use Rattle.jxlm_samples.specs.Inner.Rows.{rule_after}
use Rattle.jxlm_samples.specs.Coded.{part_rule, IsCodedToTheEnd}
use Rattle.jxlm_samples.specs.Decode.{Standing, Fails}

take_less : (f g : List ℤ) (k : ℕ) → take (suc k) f ≡ take (suc k) g → take k f ≡ take k g
take_less f g k h =
    let l : k ≤ suc k = omega arith in
    sym (take-take k (suc k) f l) ∙ ap (take k) h ∙ take-take k (suc k) g l

get_take : (f : List ℤ) (k : ℕ) → slice_get (take (suc k) f) k ≡ slice_get f k
get_take [] k = refl
get_take (x ∷ f) zero = refl
get_take (x ∷ f) (suc k) = get_take f k

take_same : (f g : List ℤ) (k : ℕ) (v : ℤ) → take k f ≡ take k g → slice_get f k ≡ Some v → slice_get g k ≡ Some v → take (suc k) f ≡ take (suc k) g
take_same f g k v h a b =
    rw (← add-one) (take_more_same f g k v (slice_get_within f k v a) (slice_get_within g k v b) h (get_or_from_slice_get f k v v a ∙ sym (get_or_from_slice_get g k v v b)))

get_after : (xs ys : List ℤ) (n : ℕ) → slice_get (xs ++ ys) (length xs + n) ≡ slice_get ys n
get_after [] ys n = let same : 0 + n ≡ n = omega arith in ap (slice_get ys) same
get_after (x ∷ xs) ys n = let same : suc (length xs) + n ≡ suc (length xs + n) = omega arith in ap (slice_get (x ∷ xs ++ ys)) same ∙ get_after xs ys n

one_result : {A : Type 0} (x y : A) (r : Result A DecoderError) → r ≡ Ok x → r ≡ Ok y → x ≡ y
one_result x y r h k = cc

module _ {S : Type 0} (rule : Rule S) (s0 : S) (p0 : ℕ) where
  -- a prefix depends on its own cells alone
  pub prefix_same : (f g : List ℤ) (k : ℕ) (s : S) (p : ℕ) → take k f ≡ take k g → CodedPrefix rule f s0 p0 k s p → CodedPrefix rule g s0 p0 k s p
  prefix_same f g zero s p same h = h
  prefix_same f g (suc k) s p same h =
      let before = take_less f g k same in
      let cell : slice_get g k ≡ slice_get f k = sym (get_take g k) ∙ ap (λ xs. slice_get xs k) (sym same) ∙ get_take f k in
      (h.0, h.1, h.2, prefix_same f g k h.0 h.1 before h.3, rw (← before) h.4, cell ∙ rw (← before) h.5)

  -- one cell more
  pub prefix_more : (f g : List ℤ) (k : ℕ) (s : S) (p token : ℕ) (t : S) (q : ℕ) → take k f ≡ take k g → CodedPrefix rule f s0 p0 k s p →
      rule.read (take k g) s p ≡ Ok (record { value = token; state = t; position = q }) → slice_get g k ≡ Some (rule.value (take k g) token) → CodedPrefix rule g s0 p0 (suc k) t q
  prefix_more f g k s p token t q same h read value = (s, p, token, prefix_same f g k s p same h, read, value)

  -- the cells of a row after those before it
  pub prefix_after : (before row : List ℤ) (s : S) (p : ℕ) → CodedPrefix rule (before ++ row) s0 p0 (length before) s p → (n : ℕ) (t : S) (q : ℕ) → CodedPrefix (rule_after rule before) row s p n t q →
      CodedPrefix rule (before ++ row) s0 p0 (length before + n) t q
  prefix_after before row s p h zero t q k =
      let none : length before ≡ length before + zero = omega arith in
      rw (k.0, k.1) (subst (λ n. CodedPrefix rule (before ++ row) s0 p0 n s p) none h)
  prefix_after before row s p h (suc n) t q k =
      let next : suc (length before + n) ≡ length before + suc n = omega arith in
      let first : take (length before + n) (before ++ row) ≡ before ++ take n row = take-append-add before row n in
      subst (λ m. CodedPrefix rule (before ++ row) s0 p0 m t q) next (
        k.0,
        k.1,
        k.2,
        prefix_after before row s p h n k.0 k.1 k.3,
        ap (λ f. rule.read f k.0 k.1) first ∙ k.4,
        get_after before row n ∙ k.5 ∙ ap (λ f. Some (rule.value f k.2)) (sym first),
      )

  -- two prefixes of one length are one
  pub record One (k : ℕ) (f g : List ℤ) (s t : S) (p q : ℕ) : Type 0 where
    pub state : s ≡ t
    pub place : p ≡ q
    pub cells : take k f ≡ take k g

  pub prefix_one : (f g : List ℤ) (k : ℕ) (s t : S) (p q : ℕ) → CodedPrefix rule f s0 p0 k s p → CodedPrefix rule g s0 p0 k t q → One k f g s t p q
  prefix_one f g zero s t p q h i = record { state = h.0 ∙ sym i.0; place = h.1 ∙ sym i.1; cells = refl }
  prefix_one f g (suc k) s t p q h i =
      let before = prefix_one f g k h.0 i.0 h.1 i.1 h.3 i.3 in
      let other : rule.read (take k f) h.0 h.1 ≡ Ok (record { value = i.2; state = t; position = q }) = rw (before.state, before.place, before.cells) i.4 in
      let same = one_result _ _ (rule.read (take k f) h.0 h.1) h.4 other in
      let token : h.2 ≡ i.2 = ap (λ (x : Taken ℕ S). x.value) same in
      let cell : slice_get g k ≡ Some (rule.value (take k f) h.2) = rw (token, before.cells) i.5 in
      record {
        state = ap (λ (x : Taken ℕ S). x.state) same;
        place = ap (λ (x : Taken ℕ S). x.position) same;
        cells = take_same f g k (rule.value (take k f) h.2) before.cells h.5 cell;
      }

  -- a shorter prefix is part of a longer one
  pub prefix_part : (f : List ℤ) (n k : ℕ) (s : S) (p : ℕ) → k < n → CodedPrefix rule f s0 p0 n s p →
      (t : S) × (q : ℕ) × (x : Taken ℕ S) × CodedPrefix rule f s0 p0 k t q × (rule.read (take k f) t q ≡ Ok x)
  prefix_part f zero k s p l h = absurd (omega arith)
  prefix_part f (suc n) k s p l h =
      elim (cases_lt k n) [
        | inl w ↦ prefix_part f n k h.0 h.1 w h.3
        | inr w ↦ (let i : k ≡ n = omega arith in rw i (h.0, h.1, record { value = h.2; state = s; position = p }, h.3, h.4))
      ]

clash : {A : Type 0} (r : Result A DecoderError) (x : A) (e : DecoderError) → r ≡ Ok x → r ≡ Err e → ⊥
clash r x e h k = cc

-- Where some grids are coded to the end, decoding returns no error: begin, each read and finalize have one result.
pub coded_or_fails : {S : Type 0} (d : Meaning S) (w : Width) (part : Part) (bytes : List ℕ) (decoder : S) (old new : Standing) (e : DecoderError) (tried : ℕ) (grids : List (Grid ℤ)) (r : ℕ) →
    IsCodedToTheEnd d w part bytes decoder old.position grids r → Fails d w part bytes decoder old new e tried → ⊥
coded_or_fails {S} d w part bytes decoder old new e tried grids r whole (cells, inl f) = clash (d.begin decoder bytes old.position) _ _ whole.coded.begins f.error
coded_or_fails {S} d w part bytes decoder old new e tried grids r whole (cells, inr later) =
    let f = later.fails in
    let n = later.count in
    let x = one_result _ _ (d.begin decoder bytes old.position) whole.coded.begins f.coded.begins in
    let rule = part_rule d w part bytes in
    elim f.error [
      | inl read ↦
          let shorter = prefix_part rule whole.coded.start.value whole.coded.start.position (cells_of grids) (cell_count part.channels) n whole.state r read.0 whole.coded.joined in
          let one = prefix_one rule whole.coded.start.value whole.coded.start.position (cells_of grids) (cells_of new.grids) n shorter.0 f.state shorter.1 new.position shorter.3 (rw x f.coded.joined) in
          let ok : rule.read (take n (cells_of new.grids)) f.state new.position ≡ Ok shorter.2 = rw (← one.state, ← one.place, ← one.cells) shorter.4 in
          clash (rule.read (take n (cells_of new.grids)) f.state new.position) _ _ ok read.2
      | inr end ↦
          let joined = subst (λ k. CodedPrefix rule (cells_of new.grids) f.coded.start.value f.coded.start.position k f.state new.position) end.0 f.coded.joined in
          let one = prefix_one rule whole.coded.start.value whole.coded.start.position (cells_of grids) (cells_of new.grids) (cell_count part.channels) whole.state f.state r new.position whole.coded.joined (rw x joined) in
          clash (d.finalize f.state) _ _ (ap d.finalize (sym one.state) ∙ whole.accepts) end.2
    ]
