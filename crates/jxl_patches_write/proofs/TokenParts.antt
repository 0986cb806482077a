-- Reads of tokens, one part after another, and what a grammar makes of them.
use Rattle.std.proofs.Common.{◌≡◌, ℕ, ◌<◌, List, [], ◌∷◌, ◌++◌, length, map, Result, Ok, Err, refl, ap, ◌∙◌, subst, arith}
use Rattle.std.specs.Prelude.{slice_index}
use Rattle.std.specs.List.{Contains}
use Rattle.std.proofs.lemmas.List.Elements.{Contains-get_or}
use Rattle.jxlm_bits.specs.Decoding.{Asked, Taken, reads}
use Rattle.jxlm_bits.specs.ErrorKind as reading
use Rattle.jxlm_bits.specs.Grammar.{Grammar}
use Rattle.jxlm_bits.specs.Tokens.{Tokens, token}
use Rattle.jxlm_bits.specs.Turns.{◌>>=◌}
use Rattle.jxlm_bits.specs.declared.decoder.DecoderError.{DecoderError}
use Rattle.jxlm_bit_writer.specs.declared.token.Token.{Token}
use Rattle.jxl_coding.specs.Parse.{decoder_at}
use Rattle.jxl_coding.specs.Tokens.{Entropy, entropy}
use Rattle.jxl_coding.proofs.DecoderLaw.{entropy_is_lawful}
use Rattle.jxl_patches_write.specs.Inner.Given.{Give, asked_of, value_of}
use Rattle.jxl_patches_write.specs.Inner.Tokens.{clusters_in, token_in}

then_ok : {A B : Type 0} (r : Result A DecoderError) (next : A → Result B DecoderError) (b : B) → reading.◌>>=◌ r next ≡ Ok b → (a : A) × (r ≡ Ok a) × (next a ≡ Ok b)
then_ok (Ok a) next b e = (a, refl, e)
then_ok (Err x) next b e = absurd (cc)

same_ok : {A : Type 0} (a b : A) → ◌≡◌ {A = Result A DecoderError} (Ok a) (Ok b) → a ≡ b
same_ok a b e = cc

same_head : (a b : ℕ) (xs ys : List ℕ) → a ∷ xs ≡ b ∷ ys → a ≡ b
same_head a b xs ys e = cc

same_tail : (a b : ℕ) (xs ys : List ℕ) → a ∷ xs ≡ b ∷ ys → xs ≡ ys
same_tail a b xs ys e = cc

-- the first of reads that gave these values, and the others
record First (s : Entropy) (bytes : List ℕ) (p : ℕ) (a : Asked) (others : List Asked) (v : ℕ) (vs : List ℕ) (t : Entropy) (q : ℕ) : Type 0 where
  pub state : Entropy
  pub position : ℕ
  pub read : (entropy decoder_at).read s bytes p a.cluster a.multiplier ≡ Ok (record { value = v; state = state; position = position })
  pub rest : reads (entropy decoder_at) state bytes position others ≡ Ok (record { value = vs; state = t; position = q })

first_of : (s : Entropy) (bytes : List ℕ) (p : ℕ) (a : Asked) (others : List Asked) (v : ℕ) (vs : List ℕ) (t : Entropy) (q : ℕ) →
    reads (entropy decoder_at) s bytes p (a ∷ others) ≡ Ok (record { value = v ∷ vs; state = t; position = q }) → First s bytes p a others v vs t q
first_of s bytes p a others v vs t q e =
    let all : Taken (List ℕ) Entropy = record { value = v ∷ vs; state = t; position = q } in
    let next : Taken ℕ Entropy → Result (Taken (List ℕ) Entropy) DecoderError =
    λ one. reading.◌>>=◌ (reads (entropy decoder_at) one.state bytes one.position others) (λ rest. Ok (record { value = one.value ∷ rest.value; state = rest.state; position = rest.position })) in
    let x = then_ok ((entropy decoder_at).read s bytes p a.cluster a.multiplier) next all e in
    let one : Taken ℕ Entropy = x.0 in
    let y = then_ok (reads (entropy decoder_at) one.state bytes one.position others) (λ rest. Ok (record { value = one.value ∷ rest.value; state = rest.state; position = rest.position })) all x.2 in
    let rest : Taken (List ℕ) Entropy = y.0 in
    let same = same_ok (record { value = one.value ∷ rest.value; state = rest.state; position = rest.position }) all y.2 in
    let values : one.value ∷ rest.value ≡ v ∷ vs = ap (λ (r : Taken (List ℕ) Entropy). r.value) same in
    let state : rest.state ≡ t = ap (λ (r : Taken (List ℕ) Entropy). r.state) same in
    let position : rest.position ≡ q = ap (λ (r : Taken (List ℕ) Entropy). r.position) same in
    record {
      state = one.state;
      position = one.position;
      read = x.1 ∙ ap (λ (n : ℕ). Ok (record { value = n; state = one.state; position = one.position })) (same_head one.value v rest.value vs values);
      rest =
          y.1 ∙ ap (λ (r : List ℕ). Ok (record { value = r; state = rest.state; position = rest.position })) (same_tail one.value v rest.value vs values)
          ∙ ap (λ (r : Entropy). Ok (record { value = vs; state = r; position = rest.position })) state ∙ ap (λ (r : ℕ). Ok (record { value = vs; state = t; position = r })) position;
    }

-- reads of these tokens, from one state and position to others
abbrev AreRead : Entropy → List ℕ → ℕ → List Token → Entropy → ℕ → Type 0
AreRead s bytes p tokens t q = reads (entropy decoder_at) s bytes p (map asked_of tokens) ≡ Ok (record { value = map value_of tokens; state = t; position = q })

-- tokens that are read in two parts
record Halves (s : Entropy) (bytes : List ℕ) (p : ℕ) (xs ys : List Token) (t : Entropy) (q : ℕ) : Type 0 where
  pub state : Entropy
  pub position : ℕ
  pub first : AreRead s bytes p xs state position
  pub second : AreRead state bytes position ys t q

reads_more : (s m t : Entropy) (bytes : List ℕ) (p r q : ℕ) (x : Token) (xs : List Token) →
    (entropy decoder_at).read s bytes p x.cluster 0 ≡ Ok (record { value = x.value; state = m; position = r }) → AreRead m bytes r xs t q → AreRead s bytes p (x ∷ xs) t q
reads_more s m t bytes p r q x xs one rest = rw (one, rest) refl

halves_of : (xs ys : List Token) (s t : Entropy) (bytes : List ℕ) (p q : ℕ) → AreRead s bytes p (xs ++ ys) t q → Halves s bytes p xs ys t q
halves_of [] ys s t bytes p q e = record { state = s; position = p; first = refl; second = e }
halves_of (x ∷ xs) ys s t bytes p q e =
    let f = first_of s bytes p (asked_of x) (map asked_of (xs ++ ys)) x.value (map value_of (xs ++ ys)) t q e in
    let h = halves_of xs ys f.state t bytes f.position q f.rest in
    record { state = h.state; position = h.position; first = reads_more s f.state h.state bytes p f.position h.position x xs f.read h.first; second = h.second }

-- a grammar that takes no bits
pub tells_nothing : {X : Type 0} (g : Tokens Entropy X) (x : X) → ((s : Entropy) (bytes : List ℕ) (p : ℕ) → (g s).read bytes p ≡ Ok (record { value = record { value = x; state = s }; position = p })) → Give g [] x
tells_nothing {X} g x gives = record {
  read = λ s t bytes p q clusters e.
      let same = same_ok (record { value = []; state = s; position = p }) (record { value = []; state = t; position = q }) e in
      let state : s ≡ t = ap (λ (r : Taken (List ℕ) Entropy). r.state) same in
      let position : p ≡ q = ap (λ (r : Taken (List ℕ) Entropy). r.position) same in
      gives s bytes p ∙ ap (λ (u : Entropy). Ok (record { value = record { value = x; state = u }; position = p })) state ∙ ap (λ (n : ℕ). Ok (record { value = record { value = x; state = t }; position = n })) position;
  keeps = λ s t bytes p q clusters e.
      let same = same_ok (record { value = []; state = s; position = p }) (record { value = []; state = t; position = q }) e in
      let state : s ≡ t = ap (λ (r : Taken (List ℕ) Entropy). r.state) same in
      subst (λ (u : Entropy). u.codes.clusters ≡ clusters_in) state clusters;
}

both_there : {X Y : Type 0} (f : Tokens Entropy X) (g : X → Tokens Entropy Y) (s m t : Entropy) (bytes : List ℕ) (p r q : ℕ) (x : X) (y : Y) →
    (f s).read bytes p ≡ Ok (record { value = record { value = x; state = m }; position = r }) → (g x m).read bytes r ≡ Ok (record { value = record { value = y; state = t }; position = q }) →
    ((f >>= g) s).read bytes p ≡ Ok (record { value = record { value = y; state = t }; position = q })
both_there f g s m t bytes p r q x y first second = rw (first, second) refl

-- one grammar, and after it one that depends on its value
pub tells_both : {X Y : Type 0} (f : Tokens Entropy X) (g : X → Tokens Entropy Y) (xs ys : List Token) (x : X) (y : Y) → Give f xs x → Give (g x) ys y → Give (f >>= g) (xs ++ ys) y
tells_both {X} {Y} f g xs ys x y first second = record {
  read = λ s t bytes p q clusters e.
      let h = halves_of xs ys s t bytes p q e in
      both_there f g s h.state t bytes p h.position q x y (first.read s h.state bytes p h.position clusters h.first)
      (second.read h.state t bytes h.position q (first.keeps s h.state bytes p h.position clusters h.first) h.second);
  keeps = λ s t bytes p q clusters e.
      let h = halves_of xs ys s t bytes p q e in
      second.keeps h.state t bytes h.position q (first.keeps s h.state bytes p h.position clusters h.first) h.second;
}

token_there : {X : Type 0} (context v : ℕ) (means : ℕ → Grammar X) (x : X) (s m : Entropy) (bytes : List ℕ) (p r : ℕ) →
    (entropy decoder_at).read s bytes p (slice_index s.codes.clusters context) 0 ≡ Ok (record { value = v; state = m; position = r }) →
    (means v).read bytes r ≡ Ok (record { value = x; position = r }) →
    (token (entropy decoder_at) context means s).read bytes p ≡ Ok (record { value = record { value = x; state = m }; position = r })
token_there context v means x s m bytes p r one meant = rw (one, meant) refl

-- a token of a context, in its cluster
pub tells_token : {X : Type 0} (context cluster v : ℕ) (means : ℕ → Grammar X) (x : X) → context < 10 → slice_index clusters_in context ≡ cluster →
    ((bytes : List ℕ) (p : ℕ) → (means v).read bytes p ≡ Ok (record { value = x; position = p })) → Give (token (entropy decoder_at) context means) (token_in cluster v ∷ []) x
tells_token {X} context cluster v means x below is meant = record {
  read = λ s t bytes p q clusters e.
      let f = first_of s bytes p (asked_of (token_in cluster v)) [] v [] t q e in
      let same = same_ok (record { value = []; state = f.state; position = f.position }) (record { value = []; state = t; position = q }) f.rest in
      let state : f.state ≡ t = ap (λ (r : Taken (List ℕ) Entropy). r.state) same in
      let position : f.position ≡ q = ap (λ (r : Taken (List ℕ) Entropy). r.position) same in
      let c : slice_index s.codes.clusters context ≡ cluster = ap (λ (cs : List ℕ). slice_index cs context) clusters ∙ is in
      token_there context v means x s f.state bytes p f.position (ap (λ (n : ℕ). (entropy decoder_at).read s bytes p n 0) c ∙ f.read) (meant bytes f.position)
      ∙ ap (λ (u : Entropy). Ok (record { value = record { value = x; state = u }; position = f.position })) state
      ∙ ap (λ (n : ℕ). Ok (record { value = record { value = x; state = t }; position = n })) position;
  keeps = λ s t bytes p q clusters e.
      let f = first_of s bytes p (asked_of (token_in cluster v)) [] v [] t q e in
      let same = same_ok (record { value = []; state = f.state; position = f.position }) (record { value = []; state = t; position = q }) f.rest in
      let state : f.state ≡ t = ap (λ (r : Taken (List ℕ) Entropy). r.state) same in
      let c : slice_index s.codes.clusters context ≡ cluster = ap (λ (cs : List ℕ). slice_index cs context) clusters ∙ is in
      let inside : context < length s.codes.clusters = let n = ap length clusters in omega (arith, n, below) in
      let contains : Contains s.codes.clusters cluster = subst (λ (n : ℕ). Contains s.codes.clusters n) c (Contains-get_or s.codes.clusters context 0 inside) in
      let k = entropy_is_lawful.read_keeps s bytes p cluster 0 (record { value = v; state = f.state; position = f.position }) contains f.read in
      subst (λ (u : Entropy). u.codes.clusters ≡ clusters_in) state (k.clusters ∙ clusters);
}
