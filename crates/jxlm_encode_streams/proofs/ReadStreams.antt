-- Samples whose tokens are read one after another are coded.
use Rattle.std.proofs.Common.{◌≡◌, ℕ, zero, suc, ◌<◌, ◌≤◌, ℤ, pos, List, [], ◌∷◌, length, take, get_or, Result, Ok, Err, Some, refl, sym, ap, ◌∙◌, subst, arith}
use Rattle.std.specs.Int.{Width}
use Rattle.std.proofs.lemmas.Option.{slice_get-get_or}
use Rattle.jxlm_bits.specs.Decoding.{Asked, Meaning, Taken, reads}
use Rattle.jxlm_bits.specs.ErrorKind.{◌>>=◌}
use Rattle.jxlm_bits.specs.declared.decoder.DecoderError.{DecoderError}
use Rattle.jxlm_samples.specs.Coded.{part_rule}
use Rattle.jxlm_samples.specs.Part.{Part, next_leaf, cells_of, cell_count, max_width}
use Rattle.jxlm_samples.specs.Rule.{CodedPrefix}
use Rattle.jxlm_encode_tokens.specs.Tokens.{AreTokensOf}
use Rattle.jxlm_encode_streams.specs.Streams.{AsksFor, ReadStreamIsCoded}

abbrev ok : {A : Type 0} → A → Result A DecoderError
ok x = Ok x

ok_same : {A : Type 0} (x y : A) → ok x ≡ ok y → x ≡ y
ok_same x y e = cc

abbrev taken : {X S : Type 0} → X → S → ℕ → Taken X S
taken v s p = record { value = v; state = s; position = p }

module _ {S : Type 0} (d : Meaning S) (bytes : List ℕ) where
  -- reads one by one
  abbrev pub Chain : List Asked → List ℕ → S → ℕ → S → ℕ → Type 0
  Chain [] values s p t q = (values ≡ []) × (s ≡ t) × (p ≡ q)
  Chain (a ∷ asked) [] s p t q = ⊥
  Chain (a ∷ asked) (v ∷ values) s p t q =
      (u : S) × (r : ℕ) × (d.read s bytes p a.cluster a.multiplier ≡ ok (taken v u r)) × Chain asked values u r t q

  more : (a : Asked) (asked : List Asked) (values : List ℕ) (s : S) (p : ℕ) (t : S) (q : ℕ) → ((vs : List ℕ) (u : S) (r : ℕ) → reads d u bytes r asked ≡ ok (taken vs t q) → Chain asked vs u r t q) →
      (one : Result (Taken ℕ S) DecoderError) → d.read s bytes p a.cluster a.multiplier ≡ one →
      (one >>= λ first. reads d first.state bytes first.position asked >>= λ rest. Ok (taken (first.value ∷ rest.value) rest.state rest.position)) ≡ ok (taken values t q) → Chain (a ∷ asked) values s p t q
  more a asked values s p t q others (Err e) is h = cc
  more a asked values s p t q others (Ok first) is h = last (reads d first.state bytes first.position asked) refl h
    where
      last : (rest : Result (Taken (List ℕ) S) DecoderError) → reads d first.state bytes first.position asked ≡ rest →
          (rest >>= λ x. Ok (taken (first.value ∷ x.value) x.state x.position)) ≡ ok (taken values t q) → Chain (a ∷ asked) values s p t q
      last (Err e) are k = cc
      last (Ok rest) are k =
          let same : taken (first.value ∷ rest.value) rest.state rest.position ≡ taken values t q = ok_same _ _ k in
          let v : first.value ∷ rest.value ≡ values = ap (λ (x : Taken (List ℕ) S). x.value) same in
          let u : rest.state ≡ t = ap (λ (x : Taken (List ℕ) S). x.state) same in
          let r : rest.position ≡ q = ap (λ (x : Taken (List ℕ) S). x.position) same in
          let rest_is : reads d first.state bytes first.position asked ≡ ok (taken rest.value t q) =
          are ∙ ap (λ (x : S). ok (taken rest.value x rest.position)) u ∙ ap (λ (x : ℕ). ok (taken rest.value t x)) r in
          subst (λ (xs : List ℕ). Chain (a ∷ asked) xs s p t q) v (first.state, first.position, is, others rest.value first.state first.position rest_is)

  pub chain_of : (asked : List Asked) (values : List ℕ) (s : S) (p : ℕ) (t : S) (q : ℕ) → reads d s bytes p asked ≡ ok (taken values t q) → Chain asked values s p t q
  chain_of [] values s p t q h =
      let same : taken [] s p ≡ taken values t q = ok_same _ _ h in
      (sym (ap (λ (x : Taken (List ℕ) S). x.value) same), ap (λ (x : Taken (List ℕ) S). x.state) same, ap (λ (x : Taken (List ℕ) S). x.position) same)
  chain_of (a ∷ asked) values s p t q h = more a asked values s p t q (λ vs u r k. chain_of asked vs u r t q k) (d.read s bytes p a.cluster a.multiplier) refl h

  -- the state before read k, and where it stands
  abbrev state_at : (k : ℕ) (asked : List Asked) (values : List ℕ) (s : S) (p : ℕ) (t : S) (q : ℕ) → Chain asked values s p t q → S
  state_at zero asked values s p t q c = s
  state_at (suc k) [] values s p t q c = s
  state_at (suc k) (a ∷ asked) [] s p t q c = s
  state_at (suc k) (a ∷ asked) (v ∷ values) s p t q c = state_at k asked values c.0 c.1 t q c.3

  abbrev place_at : (k : ℕ) (asked : List Asked) (values : List ℕ) (s : S) (p : ℕ) (t : S) (q : ℕ) → Chain asked values s p t q → ℕ
  place_at zero asked values s p t q c = p
  place_at (suc k) [] values s p t q c = p
  place_at (suc k) (a ∷ asked) [] s p t q c = p
  place_at (suc k) (a ∷ asked) (v ∷ values) s p t q c = place_at k asked values c.0 c.1 t q c.3

  read_one : (k : ℕ) (asked : List Asked) (values : List ℕ) (s : S) (p : ℕ) (t : S) (q : ℕ) (c : Chain asked values s p t q) (e : Asked) → k < length asked →
      d.read (state_at k asked values s p t q c) bytes (place_at k asked values s p t q c) (get_or asked k e).cluster (get_or asked k e).multiplier
      ≡ ok (taken (get_or values k 0) (state_at (suc k) asked values s p t q c) (place_at (suc k) asked values s p t q c))
  read_one k [] values s p t q c e lt = absurd (omega (arith, lt))
  read_one k (a ∷ asked) [] s p t q c e lt = absurd c
  read_one zero (a ∷ asked) (v ∷ values) s p t q c e lt = c.2
  read_one (suc k) (a ∷ asked) (v ∷ values) s p t q c e lt = read_one k asked values c.0 c.1 t q c.3 e (omega (arith, lt))

  end_state_is : (asked : List Asked) (values : List ℕ) (s : S) (p : ℕ) (t : S) (q : ℕ) (c : Chain asked values s p t q) → state_at (length asked) asked values s p t q c ≡ t
  end_state_is [] values s p t q c = c.1
  end_state_is (a ∷ asked) [] s p t q c = absurd c
  end_state_is (a ∷ asked) (v ∷ values) s p t q c = end_state_is asked values c.0 c.1 t q c.3

  end_place_is : (asked : List Asked) (values : List ℕ) (s : S) (p : ℕ) (t : S) (q : ℕ) (c : Chain asked values s p t q) → place_at (length asked) asked values s p t q c ≡ q
  end_place_is [] values s p t q c = c.2
  end_place_is (a ∷ asked) [] s p t q c = absurd c
  end_place_is (a ∷ asked) (v ∷ values) s p t q c = end_place_is asked values c.0 c.1 t q c.3

module _ {S : Type 0} (d : Meaning S) (w : Width) (part : Part) (bytes : List ℕ) (s t : S) (p q : ℕ) (cells : List ℤ) (asked : List Asked) (tokens : List ℕ)
    (are : AreTokensOf w part cells tokens) (asks : AsksFor part cells asked) (chain : Chain d bytes asked tokens s p t q) where
  abbrev state : ℕ → S
  state k = state_at d bytes k asked tokens s p t q chain

  abbrev place : ℕ → ℕ
  place k = place_at d bytes k asked tokens s p t q chain

  abbrev asked_at : ℕ → Asked
  asked_at k = record { cluster = (next_leaf part (take k cells)).cluster; multiplier = max_width part.channels }

  prefix : (k : ℕ) → k ≤ length cells → CodedPrefix (part_rule d w part bytes) cells s p k (state k) (place k)
  prefix zero le = (refl, refl)
  prefix (suc k) le =
      let n = asks.0 in
      let here = read_one d bytes k asked tokens s p t q chain (asked_at k) (omega (arith, le, n)) in
      let is : get_or asked k (asked_at k) ≡ asked_at k = asks.1 k (asked_at k) (omega (arith, le)) in (
        state k,
        place k,
        get_or tokens k 0,
        prefix k (omega (arith, le)),
        ap (λ (a : Asked). d.read (state k) bytes (place k) a.cluster a.multiplier) (sym is) ∙ here,
        slice_get-get_or cells k (pos 0) (omega (arith, le)) ∙ ap Some (sym (are.each k (omega (arith, le))).stands),
      )

pub read_streams_coded : {S : Type 0} (d : Meaning S) → ReadStreamIsCoded d
read_streams_coded {S} d w part bytes s p q grids asked tokens are count asks r =
    let cells : List ℤ = cells_of grids in
    let chain = chain_of d bytes asked tokens r.first r.start r.last q r.all in
    let n : length asked ≡ cell_count part.channels = asks.0 ∙ sym count in
    let all = prefix d w part bytes r.first r.last r.start q (cells_of grids) asked tokens are asks chain (length asked) (let m = asks.0 in omega (arith, m)) in
    let to_state = subst (λ (x : S). CodedPrefix (part_rule d w part bytes) (cells_of grids) r.first r.start (length asked) x (place_at d bytes (length asked) asked tokens r.first r.start r.last q chain))
    (end_state_is d bytes asked tokens r.first r.start r.last q chain) all in
    let to_place = subst (λ (x : ℕ). CodedPrefix (part_rule d w part bytes) (cells_of grids) r.first r.start (length asked) r.last x)
    (end_place_is d bytes asked tokens r.first r.start r.last q chain) to_state in
    record {
      state = r.last;
      coded = record {
        start = record { value = r.first; position = r.start };
        begins = r.begins;
        joined = subst (λ (k : ℕ). CodedPrefix (part_rule d w part bytes) (cells_of grids) r.first r.start k r.last q) n to_place;
      };
      accepts = r.accepts;
    }
