-- The entropy decoder meets the laws of decoders. Proofs alone: nothing here has to be believed.
use Rattle.std.specs.Prelude.{◌≡◌, ◌≢◌, ℕ, ◌+◌, ◌-◌, ◌*◌, ◌%◌, ◌^◌, List, [], ◌∷◌, length, Bool, true, false, cond, nat_lt, ◌==◌, ◌⊎◌, Option, Some, None, Result, Ok, Err, refl}
use Rattle.std.proofs.Common.{ap, inl, inr}
use Rattle.jxlm_bits.specs.Decoding.{Found, Taken, Keeps, IsLawful}
use Rattle.jxlm_bits.specs.ErrorKind.{◌>>=◌}
use Rattle.jxlm_bits.specs.declared.decoder.DecoderError.{DecoderError}
use Rattle.jxlm_bits.specs.declared.decoder.DecoderError.TheVariants.{OutOfMemory}
use Rattle.jxl_coding_codes.specs.Fields.{number_at}
use Rattle.jxl_coding_codes.specs.IntegerConfigs.{token_at, width_of}
use Rattle.jxl_coding.specs.Symbols.{Codes, cluster_code, symbol_at, symbol_with, coded_symbol}
use Rattle.jxl_coding_codes.specs.PrefixCodes.{codeword_at}
use Rattle.jxl_coding_codes.specs.Ans.{refilled_at}
use Rattle.jxl_coding.specs.Tokens.{Entropy, first_state, begin_at, plain_token, copy_length, first_token, lz77_token, token_with, read_at, end_state, end_of, only_below, single_with, entropy}
use Rattle.jxl_coding.specs.declared.codes.Lz77.{Lz77}
use Rattle.jxl_coding.specs.declared.codes.ClusterCode.{ClusterCode}
use Rattle.jxl_coding.specs.declared.codes.Coder.{Coder}
use Rattle.jxl_coding.specs.declared.codes.Coder.TheVariants.{Prefix, Ans}
use Rattle.jxl_coding_codes.specs.declared.config.IntegerConfig.{IntegerConfig}

-- what follows a result, where it is Ok
bind_ok : {A B : Type 0} (r : Result A DecoderError) (f : A → Result B DecoderError) (y : B) → (r >>= f) ≡ Ok y → (x : A) × (r ≡ Ok x) × (f x ≡ Ok y)
bind_ok (Ok x) f y h = (x, refl, h)
bind_ok (Err e) f y h = cc

abbrev ok : {A : Type 0} → A → Result A DecoderError
ok x = Ok x

ok_same : {A : Type 0} (x y : A) → ok x ≡ ok y → y ≡ x
ok_same x y h = cc

chosen : {A : Type 0} (b : Bool) (x y z : A) → cond b x y ≡ z → ((b ≡ true) × (x ≡ z)) ⊎ ((b ≡ false) × (y ≡ z))
chosen true x y z h = inl (refl, h)
chosen false x y z h = inr (refl, h)

-- a result that holds: Q of its value; and it is not out of memory
abbrev Holds : {A : Type 0} → Result A DecoderError → (A → Type 0) → Type 0
Holds (Ok x) Q = Q x
Holds (Err e) Q = e ≢ OutOfMemory

bind_holds : {A B : Type 0} (r : Result A DecoderError) (f : A → Result B DecoderError) (P : A → Type 0) (Q : B → Type 0) → Holds r P → ((x : A) → P x → Holds (f x) Q) → Holds (r >>= f) Q
bind_holds (Ok x) f P Q h k = k x h
bind_holds (Err e) f P Q h k = h

cond_holds : {A : Type 0} (b : Bool) (x y : Result A DecoderError) (Q : A → Type 0) → Holds x Q → Holds y Q → Holds (cond b x y) Q
cond_holds true x y Q h k = h
cond_holds false x y Q h k = k

holds_ok : {A : Type 0} (r : Result A DecoderError) (Q : A → Type 0) (x : A) → Holds r Q → r ≡ Ok x → Q x
holds_ok (Ok y) Q x h e = rw (ok_same _ _ e) h
holds_ok (Err f) Q x h e = cc

holds_memory : {A : Type 0} (r : Result A DecoderError) (Q : A → Type 0) → Holds r Q → r ≢ Err OutOfMemory
holds_memory (Ok y) Q h = λ e. cc
holds_memory (Err f) Q h = λ e. h cc

abbrev Any : {A : Type 0} → A → Type 0
Any x = Unit {0}

number_holds : (bytes : List ℕ) (p n : ℕ) → Holds (number_at bytes p n) Any
unfolding number_at
number_holds bytes p n = cond_holds (nat_lt (8 * length bytes) (p + n)) _ _ Any (λ e. cc) tt

token_holds : (h : IntegerConfig) (symbol : ℕ) (bytes : List ℕ) (p : ℕ) → Holds (token_at h symbol bytes p) Any
unfolding token_at
token_holds h symbol bytes p = cond_holds (nat_lt symbol (2 ^ h.split_exponent)) _ _ Any tt
    (bind_holds (number_at bytes p (width_of h symbol)) _ Any Any (number_holds bytes p (width_of h symbol)) (λ x k. tt))

codeword_holds : (counts symbols : List ℕ) (code place : ℕ) (bytes : List ℕ) (p : ℕ) → Holds (codeword_at counts symbols code place bytes p) Any
unfolding codeword_at
codeword_holds [] symbols code place bytes p = λ e. cc
codeword_holds (count ∷ counts) symbols code place bytes p =
    bind_holds (number_at bytes p 1) _ Any Any (number_holds bytes p 1)
    (λ x k. cond_holds (nat_lt ((2 * code + x.value) % 2 ^ 32) count) _ _ Any tt (codeword_holds counts symbols _ _ bytes x.position))

refilled_holds : (symbol ans_state : ℕ) (bytes : List ℕ) (p : ℕ) → Holds (refilled_at symbol ans_state bytes p) Any
refilled_holds symbol ans_state bytes p = cond_holds (nat_lt ans_state (2 ^ 16)) _ _ Any (bind_holds (number_at bytes p 16) _ Any Any (number_holds bytes p 16) (λ x k. tt)) tt

coded_holds : (codes : Codes) (coder : Coder) (counts : List ℕ) (start ans_state : ℕ) (bytes : List ℕ) (p : ℕ) → Holds (coded_symbol codes coder counts start ans_state bytes p) Any
unfolding coded_symbol
coded_holds codes Prefix counts start ans_state bytes p = bind_holds (codeword_at _ codes.symbols 0 start bytes p) _ Any Any (codeword_holds _ codes.symbols 0 start bytes p) (λ x k. tt)
coded_holds codes Ans counts start ans_state bytes p = refilled_holds _ _ bytes p

symbol_with_holds : (codes : Codes) (only : Option ℕ) (code : ClusterCode) (ans_state : ℕ) (bytes : List ℕ) (p : ℕ) → Holds (symbol_with codes only code ans_state bytes p) Any
unfolding symbol_with
symbol_with_holds codes (Some only) code ans_state bytes p = tt
symbol_with_holds codes None code ans_state bytes p = coded_holds codes codes.coder code.counts code.start ans_state bytes p

symbol_holds : (codes : Codes) (c ans_state : ℕ) (bytes : List ℕ) (p : ℕ) → Holds (symbol_at codes c ans_state bytes p) Any
symbol_holds codes c ans_state bytes p = symbol_with_holds codes _ (cluster_code codes.cluster_codes c) ans_state bytes p

-- what was filled stays
abbrev KeepsCodes : Entropy → Taken ℕ Entropy → Type 0
KeepsCodes s x = x.state.codes ≡ s.codes

plain_holds : (s : Entropy) (bytes : List ℕ) (p c : ℕ) → Holds (plain_token s bytes p c) (KeepsCodes s)
unfolding plain_token
plain_holds s bytes p c =
    bind_holds (symbol_at s.codes c s.ans_state bytes p) _ Any (KeepsCodes s) (symbol_holds s.codes c s.ans_state bytes p)
    (λ x k. bind_holds (token_at (cluster_code s.codes.cluster_codes c).config x.symbol bytes x.position) _ Any (KeepsCodes s) (token_holds _ x.symbol bytes x.position) (λ y l. refl))

length_holds : (n : ℕ) → Holds (copy_length n) Any
length_holds n = cond_holds (nat_lt n (2 ^ 32)) _ _ Any tt (λ e. cc)

first_holds : (lz77 : Lz77) (s : Entropy) (bytes : List ℕ) (p c m : ℕ) → Holds (first_token lz77 s bytes p c m) (KeepsCodes s)
unfolding first_token
first_holds lz77 s bytes p c m =
    bind_holds (symbol_at s.codes c s.ans_state bytes p) _ Any (KeepsCodes s) (symbol_holds s.codes c s.ans_state bytes p)
    (λ x k. cond_holds (nat_lt x.symbol lz77.min_symbol) _ _ (KeepsCodes s)
    (bind_holds (token_at (cluster_code s.codes.cluster_codes c).config x.symbol bytes x.position) _ Any (KeepsCodes s) (token_holds _ x.symbol bytes x.position) (λ y l. refl))
    (bind_holds (token_at lz77.length_config (x.symbol - lz77.min_symbol) bytes x.position) _ Any (KeepsCodes s) (token_holds _ _ bytes x.position)
    (λ y l. bind_holds (copy_length (y.value + lz77.min_length)) _ Any (KeepsCodes s) (length_holds _)
    (λ n i. bind_holds (symbol_at s.codes lz77.cluster x.ans_state bytes y.position) _ Any (KeepsCodes s) (symbol_holds s.codes lz77.cluster x.ans_state bytes y.position)
    (λ z j. bind_holds (token_at (cluster_code s.codes.cluster_codes lz77.cluster).config z.symbol bytes z.position) _ Any (KeepsCodes s) (token_holds _ z.symbol bytes z.position) (λ w g. refl))))))

lz77_holds : (lz77 : Lz77) (s : Entropy) (bytes : List ℕ) (p c m : ℕ) → Holds (lz77_token lz77 s bytes p c m) (KeepsCodes s)
unfolding lz77_token
lz77_holds lz77 s bytes p c m = cond_holds (s.left == 0) _ _ (KeepsCodes s) (first_holds lz77 s bytes p c m) refl

with_holds : (lz77 : Option Lz77) (s : Entropy) (bytes : List ℕ) (p c m : ℕ) → Holds (token_with lz77 s bytes p c m) (KeepsCodes s)
unfolding token_with
with_holds None s bytes p c m = plain_holds s bytes p c
with_holds (Some lz77) s bytes p c m = lz77_holds lz77 s bytes p c m

first_holds_state : (coder : Coder) (ans_state : ℕ) (bytes : List ℕ) (p : ℕ) → Holds (first_state coder ans_state bytes p) Any
first_holds_state Prefix ans_state bytes p = tt
first_holds_state Ans ans_state bytes p = bind_holds (number_at bytes p 32) _ Any Any (number_holds bytes p 32) (λ x k. cond_holds (nat_lt x.value (2 ^ 16)) _ _ Any (λ e. cc) tt)

begin_holds : (s : Entropy) (bytes : List ℕ) (p : ℕ) → Holds (begin_at s bytes p) (λ x. x.value.codes ≡ s.codes)
unfolding begin_at
begin_holds s bytes p = bind_holds (first_state s.codes.coder s.ans_state bytes p) _ Any (λ x. x.value.codes ≡ s.codes) (first_holds_state s.codes.coder s.ans_state bytes p) (λ x k. refl)

-- an only symbol that is a token
below_some : (symbol v : ℕ) (b : Bool) → cond b (Some symbol) None ≡ Some v → (symbol ≡ v) × (b ≡ true)
below_some symbol v true h = (cc, refl)
below_some symbol v false h = cc

below : (only : Option ℕ) (split v : ℕ) → only_below only split ≡ Some v → (only ≡ Some v) × (nat_lt v (2 ^ split) ≡ true)
below None split v h = cc
below (Some symbol) split v h =
    let k = below_some symbol v (nat_lt symbol (2 ^ split)) h in
    (ap (λ (n : ℕ). Some n) k.0, rw (← k.0) k.1)

plain_single : (s : Entropy) (bytes : List ℕ) (p c v : ℕ) → (cluster_code s.codes.cluster_codes c).only ≡ Some v → nat_lt v (2 ^ (cluster_code s.codes.cluster_codes c).config.split_exponent) ≡ true →
    plain_token s bytes p c ≡ Ok (record { value = v; state = s; position = p })
unfolding plain_token symbol_with token_at
plain_single s bytes p c v h lt = rw (h, lt) refl

single_gives : (lz77 : Option Lz77) (s : Entropy) (bytes : List ℕ) (p c m v : ℕ) → single_with lz77 s.codes c ≡ Some v →
    token_with lz77 s bytes p c m ≡ Ok (record { value = v; state = s; position = p })
unfolding token_with
single_gives None s bytes p c m v h = let k = below _ _ v h in plain_single s bytes p c v k.0 k.1
single_gives (Some lz77) s bytes p c m v h = cc

end_memory : (coder : Coder) (ans_state : ℕ) → end_of coder ans_state ≢ Err OutOfMemory
end_memory Prefix ans_state = λ e. cc
end_memory Ans ans_state = holds_memory _ Any (cond_holds (ans_state == end_state) _ _ Any tt (λ e. cc))

module _ (parse : List ℕ → ℕ → ℕ → Result (Found Entropy) DecoderError) where
  keeps : (s t : Entropy) → t.codes ≡ s.codes → Keeps (entropy parse) s t
  keeps s t e = record {
    clusters = ap (λ (codes : Codes). codes.clusters) e;
    single = λ c within. ap (λ (codes : Codes). single_with codes.lz77 codes c) e;
    rle = refl;
  }

  -- The laws hold of every parse that gives a cluster for each context.
  pub entropy_lawful : ((bytes : List ℕ) (p n : ℕ) (x : Found Entropy) → parse bytes p n ≡ Ok x → length x.value.codes.clusters ≡ n) → IsLawful (entropy parse)
  entropy_lawful many = record {
    parse_clusters = many;
    begin_keeps = λ s bytes p x h. keeps s x.value (holds_ok (begin_at s bytes p) (λ y. y.value.codes ≡ s.codes) x (begin_holds s bytes p) h);
    read_keeps = λ s bytes p c m x within h. keeps s x.state (holds_ok (read_at s bytes p c m) (KeepsCodes s) x (with_holds s.codes.lz77 s bytes p c m) h);
    next_keeps = λ s r h. cc;
    single_read = λ s bytes p c m v within h. single_gives s.codes.lz77 s bytes p c m v h;
    begin_owes = λ s bytes p x r h. cc;
    read_last = λ s bytes p c m x within r h. cc;
    owed_read = λ s bytes p c m within r h. cc;
    owed_next = λ s r h. cc;
    rle_finalize = λ s r. cc;
    rle_single = λ s c within r. cc;
    begin_memory = λ s bytes p. holds_memory (begin_at s bytes p) _ (begin_holds s bytes p);
    read_memory = λ s bytes p c m within. holds_memory (read_at s bytes p c m) _ (with_holds s.codes.lz77 s bytes p c m);
    finalize_memory = λ s. end_memory s.codes.coder s.ans_state;
  }
