-- Tokens of bytes are read back as these bytes.
use Rattle.std.proofs.Common.{◌≡◌, ℕ, suc, ◌%◌, ◌<◌, List, [], ◌∷◌, length, Bool, Result, Ok, Err, refl, ap, ◌∙◌, arith}
use Rattle.std.specs.Prelude.{slice_index}
use Rattle.std.specs.List.{Contains}
use Rattle.std.proofs.lemmas.List.Elements.{Contains-get_or}
use Rattle.jxlm_bits.specs.Decoding.{Asked, Found, IsLawful, Meaning, Taken, reads}
use Rattle.jxlm_bits.specs.ErrorKind as reading
use Rattle.jxlm_bits.specs.Tokens.{After, token_value}
use Rattle.jxlm_bits.specs.Turns.{chain}
use Rattle.jxlm_bits.specs.declared.decoder.DecoderError.{DecoderError}
use Rattle.jxl_codestream.specs.Profiles.{context_of, one_byte}
use Rattle.jxl_codestream.proofs.ProfileBytes.{byte_ok}
use Rattle.jxl_profile_write.specs.Inner.Tokens.{clusters_in, onto}
use Rattle.jxl_profile_write.proofs.TokenLists.{asked_after, context_below, many_clusters}

then_ok : {A B : Type 0} (r : Result A DecoderError) (next : A → Result B DecoderError) (b : B) → reading.◌>>=◌ r next ≡ Ok b → (a : A) × (r ≡ Ok a) × (next a ≡ Ok b)
then_ok (Ok a) next b e = (a, refl, e)
then_ok (Err x) next b e = absurd (cc)

same_ok : {A : Type 0} (a b : A) → ◌≡◌ {A = Result A DecoderError} (Ok a) (Ok b) → a ≡ b
same_ok a b e = cc

same_head : (a b : ℕ) (xs ys : List ℕ) → a ∷ xs ≡ b ∷ ys → a ≡ b
same_head a b xs ys e = cc

same_tail : (a b : ℕ) (xs ys : List ℕ) → a ∷ xs ≡ b ∷ ys → xs ≡ ys
same_tail a b xs ys e = cc

module _ {S : Type 0} (d : Meaning S) where
  -- the first of reads that gave these values, and the others
  record First (s : S) (bytes : List ℕ) (p : ℕ) (a : Asked) (others : List Asked) (v : ℕ) (vs : List ℕ) (t : S) (q : ℕ) : Type 0 where
    pub one : Taken ℕ S
    pub value : one.value ≡ v
    pub read : d.read s bytes p a.cluster a.multiplier ≡ Ok one
    pub rest : reads d one.state bytes one.position others ≡ Ok (record { value = vs; state = t; position = q })

  first_of : (s : S) (bytes : List ℕ) (p : ℕ) (a : Asked) (others : List Asked) (v : ℕ) (vs : List ℕ) (t : S) (q : ℕ) →
      reads d s bytes p (a ∷ others) ≡ Ok (record { value = v ∷ vs; state = t; position = q }) → First s bytes p a others v vs t q
  first_of s bytes p a others v vs t q e =
      let all : Taken (List ℕ) S = record { value = v ∷ vs; state = t; position = q } in
      let next : Taken ℕ S → Result (Taken (List ℕ) S) DecoderError =
      λ one. reading.◌>>=◌ (reads d one.state bytes one.position others) (λ rest. Ok (record { value = one.value ∷ rest.value; state = rest.state; position = rest.position })) in
      let x = then_ok (d.read s bytes p a.cluster a.multiplier) next all e in
      let one : Taken ℕ S = x.0 in
      let y = then_ok (reads d one.state bytes one.position others) (λ rest. Ok (record { value = one.value ∷ rest.value; state = rest.state; position = rest.position })) all x.2 in
      let rest : Taken (List ℕ) S = y.0 in
      let same = same_ok (record { value = one.value ∷ rest.value; state = rest.state; position = rest.position }) all y.2 in
      let values : one.value ∷ rest.value ≡ v ∷ vs = ap (λ (r : Taken (List ℕ) S). r.value) same in
      let state : rest.state ≡ t = ap (λ (r : Taken (List ℕ) S). r.state) same in
      let position : rest.position ≡ q = ap (λ (r : Taken (List ℕ) S). r.position) same in
      record {
        one = one;
        value = same_head one.value v rest.value vs values;
        read = x.1;
        rest =
            y.1 ∙ ap (λ (r : List ℕ). Ok (record { value = r; state = rest.state; position = rest.position })) (same_tail one.value v rest.value vs values)
            ∙ ap (λ (r : S). Ok (record { value = vs; state = r; position = rest.position })) state ∙ ap (λ (r : ℕ). Ok (record { value = vs; state = t; position = r })) position;
      }

  -- a token that was read, as a field
  token_there : (s : S) (bytes : List ℕ) (p context : ℕ) (one : Taken ℕ S) → d.read s bytes p (slice_index (d.cluster_map s) context) 0 ≡ Ok one →
      (token_value d context s).read bytes p ≡ Ok (record { value = record { value = one.value; state = one.state }; position = one.position })
  token_there s bytes p context one e = rw e refl

  chain_there : (n : ℕ) (all more : List ℕ) (s t : S) (bytes : List ℕ) (p q : ℕ) (found : Found (After S (List ℕ))) →
      (one_byte d all s).read bytes p ≡ Ok (record { value = record { value = more; state = t }; position = q }) → (chain (one_byte d) n more t).read bytes q ≡ Ok found →
      (chain (one_byte d) (suc n) all s).read bytes p ≡ Ok found
  unfolding chain
  chain_there n all more s t bytes p q found first rest = rw first rest

  chain_none : (all : List ℕ) (s : S) (bytes : List ℕ) (p : ℕ) → (chain (one_byte d) 0 all s).read bytes p ≡ Ok (record { value = record { value = all; state = s }; position = p })
  unfolding chain
  chain_none all s bytes p = refl

  module _ (lawful : IsLawful d) (separate : Bool) (bytes : List ℕ) where
    -- reads that gave bytes are those of the bytes of a profile
    pub bytes_there : (vs before : List ℕ) (s t : S) (p q : ℕ) → ((k : ℕ) → k < length vs → slice_index vs k < 256) → d.cluster_map s ≡ clusters_in separate →
        reads d s bytes p (asked_after separate before vs) ≡ Ok (record { value = vs; state = t; position = q }) →
        (chain (one_byte d) (length vs) before s).read bytes p ≡ Ok (record { value = record { value = onto vs before; state = t }; position = q })
    unfolding asked_after
    bytes_there [] before s t p q below map e =
        let same = same_ok (record { value = []; state = s; position = p }) (record { value = []; state = t; position = q }) e in
        chain_none before s bytes p ∙ ap (λ (r : Taken (List ℕ) S). Ok (record { value = record { value = before; state = r.state }; position = r.position })) same
    bytes_there (v ∷ vs) before s t p q below map e =
        let context : ℕ = context_of before in
        let asked : Asked = record { cluster = slice_index (clusters_in separate) context; multiplier = 0 } in
        let f = first_of s bytes p asked (asked_after separate (v ∷ before) vs) v vs t q e in
        let one : Taken ℕ S = f.one in
        let here : d.read s bytes p (slice_index (d.cluster_map s) context) 0 ≡ Ok one = ap (λ (cs : List ℕ). d.read s bytes p (slice_index cs context) 0) map ∙ f.read in
        let inside : context < length (d.cluster_map s) = let n = ap length map ∙ many_clusters separate in let lt = context_below before in omega (arith, n, lt) in
        let contains : Contains (d.cluster_map s) (slice_index (d.cluster_map s) context) = Contains-get_or (d.cluster_map s) context 0 inside in
        let keeps = lawful.read_keeps s bytes p (slice_index (d.cluster_map s) context) 0 one contains here in
        let v_below : v < 256 = below 0 (omega arith) in
        let low : one.value % 256 ≡ v = let w = f.value in omega (arith, w, v_below) in
        let byte : (one_byte d before s).read bytes p ≡ Ok (record { value = record { value = v ∷ before; state = one.state }; position = one.position }) =
        byte_ok d bytes p one.position s before one.value one.state (token_there s bytes p context one here)
        ∙ ap (λ (x : ℕ). Ok (record { value = record { value = x ∷ before; state = one.state }; position = one.position })) low in
        chain_there (length vs) before (v ∷ before) s one.state bytes p one.position (record { value = record { value = onto vs (v ∷ before); state = t }; position = q }) byte
        (bytes_there vs (v ∷ before) one.state t one.position q (λ k lt. below (suc k) (omega (arith, lt))) (keeps.clusters ∙ map) f.rest)
