-- The laws of the whole decoder. Proofs alone: nothing here has to be believed.
use Rattle.std.specs.Prelude.{◌≡◌, ℕ, zero, suc, ◌+◌, ◌-◌, ◌≤◌, List, [], ◌∷◌, ◌++◌, length, Bool, true, false, cond, nat_lt, ◌==◌, Option, Some, None, Result, Ok, Err, IfOk, slice_index, refl}
use Rattle.std.proofs.Common.{arith, ap, ◌∙◌}
use Rattle.std.proofs.lemmas.List.{length-append, length-take-le, length-replicate}
use Rattle.jxlm_bits.specs.Decoding.{Found, IsLawful}
use Rattle.jxlm_bits.specs.ErrorKind.{◌>>=◌}
use Rattle.jxlm_bits.specs.declared.decoder.DecoderError.{DecoderError}
use Rattle.jxl_coding_codes.specs.Fields.{number_at}
use Rattle.jxl_coding_codes.specs.Reading.{steps, list_and_one}
use Rattle.jxl_coding.specs.Clusters.{moved_first, clusters_of_places, Listed, cluster_step, stream_clusters_at, coded_clusters_at, plain_clusters_at, count_of}
use Rattle.jxl_coding.specs.Tokens.{Entropy, entropy, read_at, begin_at, end_of}
use Rattle.jxl_coding.specs.Parse.{start_of, lz77_at, nothing_coded, prefix_codes_at, log_at, ans_codes_at, clusters_codes_at, of_contexts, with_distances, contexts_with, codes_at, clusters_or_one, map_codes_at, clusters_at, decoder_codes_at, decoder_at, prefix_step, distribution_step}
use Rattle.jxl_coding.specs.Inner.TokenLaws.{entropy_lawful}
use Rattle.jxl_coding.specs.declared.codes.Lz77.{Lz77}

if_bind : {A B : Type 0} (r : Result A DecoderError) (f : A → Result B DecoderError) (P : A → Type 0) (Q : B → Type 0) → IfOk r P → ((x : A) → P x → IfOk (f x) Q) → IfOk (r >>= f) Q
if_bind (Ok x) f P Q h k = k x h
if_bind (Err e) f P Q h k = tt

if_cond : {A : Type 0} (b : Bool) (x y : Result A DecoderError) (Q : A → Type 0) → IfOk x Q → IfOk y Q → IfOk (cond b x y) Q
if_cond true x y Q h k = h
if_cond false x y Q h k = k

if_weaker : {A : Type 0} (r : Result A DecoderError) (P Q : A → Type 0) → ((x : A) → P x → Q x) → IfOk r P → IfOk r Q
if_weaker (Ok x) P Q f h = f x h
if_weaker (Err e) P Q f h = tt

abbrev Any : {A : Type 0} → A → Type 0
Any x = Unit {0}

if_any : {A : Type 0} (r : Result A DecoderError) → IfOk r Any
if_any (Ok x) = tt
if_any (Err e) = tt

abbrev ok : {A : Type 0} → A → Result A DecoderError
ok x = Ok x

ok_same : {A : Type 0} (x y : A) → ok x ≡ ok y → y ≡ x
ok_same x y h = cc

if_ok : {A : Type 0} (r : Result A DecoderError) (Q : A → Type 0) (x : A) → IfOk r Q → r ≡ Ok x → Q x
if_ok (Ok y) Q x h e = rw (ok_same y x e) h
if_ok (Err f) Q x h e = cc

-- steps that each add one
grown : {X : Type 0} (step : X → List ℕ → ℕ → Result (Found X) DecoderError) (size : X → ℕ) → ((x : X) (bytes : List ℕ) (p : ℕ) → IfOk (step x bytes p) (λ f. size f.value ≡ size x + 1)) →
    (n : ℕ) (x : X) (bytes : List ℕ) (p : ℕ) → IfOk (steps step n x bytes p) (λ f. size f.value ≡ size x + n)
unfolding steps
grown step size each zero x bytes p = let e : size x ≡ size x + 0 = omega arith in e
grown {X} step size each (suc n) x bytes p =
    if_bind (step x bytes p) (λ f. steps step n f.value bytes f.position) (λ f. size f.value ≡ size x + 1) (λ f. size f.value ≡ size x + suc n) (each x bytes p)
    (λ f h. if_weaker (steps step n f.value bytes f.position) (λ g. size g.value ≡ size f.value + n) (λ g. size g.value ≡ size x + suc n)
    (λ g k. let e : size g.value ≡ size x + suc n = omega arith in e) (grown step size each n f.value bytes f.position))

one_longer : (xs : List ℕ) (x : ℕ) → length (xs ++ x ∷ []) ≡ length xs + 1
one_longer xs x = simp length-append

push_grows : (read : List ℕ → ℕ → Result (Found ℕ) DecoderError) (xs bytes : List ℕ) (p : ℕ) → IfOk (list_and_one read xs bytes p) (λ f. length f.value ≡ length xs + 1)
push_grows read xs bytes p = if_bind (read bytes p) _ Any (λ f. length f.value ≡ length xs + 1) (if_any (read bytes p)) (λ x h. one_longer xs x.value)

cluster_grows : (s : Listed) (bytes : List ℕ) (p : ℕ) → IfOk (cluster_step s bytes p) (λ f. length f.value.clusters ≡ length s.clusters + 1)
unfolding cluster_step
cluster_grows s bytes p =
    if_bind (read_at s.decoder bytes p (slice_index s.decoder.codes.clusters 0) 0) _ Any (λ f. length f.value.clusters ≡ length s.clusters + 1) (if_any _)
    (λ t h. if_cond (nat_lt t.value 256) _ _ (λ f. length f.value.clusters ≡ length s.clusters + 1) (one_longer s.clusters t.value) tt)

moved_many : (n : ℕ) (places : List ℕ) → length (moved_first n places).clusters ≡ n
unfolding moved_first
moved_many zero places = refl
moved_many (suc n) places =
    let e = moved_many n places in
    let k : length ((moved_first n places).clusters ++ slice_index (moved_first n places).list (slice_index places n) ∷ []) ≡ length (moved_first n places).clusters + 1 = one_longer _ _ in
    let m : length (moved_first n places).clusters + 1 ≡ suc n = omega arith in
    k ∙ m

either_many : (b : Bool) (cs : List ℕ) (n : ℕ) → length cs ≡ n → length (cond b (clusters_of_places cs) cs) ≡ n
either_many true cs n h = moved_many (length cs) cs ∙ h
either_many false cs n h = h

stream_many : (d : Entropy) (n : ℕ) (bytes : List ℕ) (p : ℕ) → IfOk (stream_clusters_at d n bytes p) (λ f. length f.value ≡ n)
unfolding stream_clusters_at
stream_many d n bytes p =
    if_bind (begin_at d bytes p) _ Any (λ f. length f.value ≡ n) (if_any _)
    (λ b h. if_bind (steps cluster_step n (record { decoder = b.value; clusters = [] }) bytes b.position) _ (λ f. length f.value.clusters ≡ 0 + n) (λ f. length f.value ≡ n)
    (grown cluster_step (λ s. length s.clusters) cluster_grows n (record { decoder = b.value; clusters = [] }) bytes b.position)
    (λ all k. if_bind (end_of all.value.decoder.codes.coder all.value.decoder.ans_state) _ Any (λ f. length f.value ≡ n) (if_any _)
    (λ u i. let e : length all.value.clusters ≡ n = omega arith in e)))

coded_many : (d : Entropy) (moves : Bool) (n : ℕ) (bytes : List ℕ) (p : ℕ) → IfOk (coded_clusters_at d moves n bytes p) (λ f. length f.value ≡ n)
unfolding coded_clusters_at
coded_many d moves n bytes p =
    if_bind (stream_clusters_at d n bytes p) _ (λ f. length f.value ≡ n) (λ f. length f.value ≡ n) (stream_many d n bytes p)
    (λ all k. either_many moves all.value n k)

plain_many : (n : ℕ) (bytes : List ℕ) (p : ℕ) → IfOk (plain_clusters_at n bytes p) (λ f. length f.value ≡ n)
unfolding plain_clusters_at
plain_many n bytes p =
    if_bind (number_at bytes p 2) _ Any (λ f. length f.value ≡ n) (if_any _)
    (λ w h. if_weaker (steps (list_and_one (λ all q. number_at all q w.value)) n [] bytes w.position) (λ f. length f.value ≡ 0 + n) (λ f. length f.value ≡ n)
    (λ f k. let e : length f.value ≡ n = omega arith in e)
    (grown (list_and_one (λ all q. number_at all q w.value)) length (push_grows (λ all q. number_at all q w.value)) n [] bytes w.position))

clusters_many : (n : ℕ) (bytes : List ℕ) (p : ℕ) → IfOk (clusters_at n bytes p) (λ f. length f.value ≡ n)
unfolding clusters_at
clusters_many n bytes p =
    if_bind (number_at bytes p 1) _ Any (λ f. length f.value ≡ n) (if_any _)
    (λ plain h. if_cond (plain.value == 1) _ _ (λ f. length f.value ≡ n) (plain_many n bytes plain.position)
    (if_bind (number_at bytes plain.position 1) _ Any (λ f. length f.value ≡ n) (if_any _)
    (λ moves k. if_bind (map_codes_at n bytes moves.position) _ Any (λ f. length f.value ≡ n) (if_any _)
    (λ codes i. coded_many (start_of codes.value) (moves.value == 1) n bytes codes.position))))

all_many : (n : ℕ) (bytes : List ℕ) (p : ℕ) → IfOk (clusters_or_one (clusters_at n) n bytes p) (λ f. length f.value ≡ n)
all_many n bytes p = if_cond (nat_lt 1 n) _ _ (λ f. length f.value ≡ n) (clusters_many n bytes p) (length-replicate n 0)

kept_prefix : (clusters : List ℕ) (lz77 : Option Lz77) (n : ℕ) (bytes : List ℕ) (p : ℕ) → IfOk (prefix_codes_at clusters lz77 n bytes p) (λ f. f.value.clusters ≡ clusters)
unfolding prefix_codes_at
kept_prefix clusters lz77 n bytes p =
    if_bind (steps _ n [] bytes p) _ Any (λ f. f.value.clusters ≡ clusters) (if_any _)
    (λ configs i. if_bind (steps _ n [] bytes configs.position) _ Any (λ f. f.value.clusters ≡ clusters) (if_any _)
    (λ sizes k. if_bind (steps (prefix_step configs.value sizes.value) n nothing_coded bytes sizes.position) _ Any (λ f. f.value.clusters ≡ clusters) (if_any _) (λ all l. refl)))

kept_ans : (clusters : List ℕ) (lz77 : Option Lz77) (n : ℕ) (bytes : List ℕ) (p : ℕ) → IfOk (ans_codes_at clusters lz77 n bytes p) (λ f. f.value.clusters ≡ clusters)
unfolding ans_codes_at
kept_ans clusters lz77 n bytes p =
    if_bind (log_at bytes p) _ Any (λ f. f.value.clusters ≡ clusters) (if_any _)
    (λ log i. if_bind (steps _ n [] bytes log.position) _ Any (λ f. f.value.clusters ≡ clusters) (if_any _)
    (λ configs k. if_bind (steps (distribution_step configs.value log.value) n nothing_coded bytes configs.position) _ Any (λ f. f.value.clusters ≡ clusters) (if_any _) (λ all l. refl)))

kept_clusters : (clusters : List ℕ) (lz77 : Option Lz77) (n : ℕ) (bytes : List ℕ) (p : ℕ) → IfOk (clusters_codes_at clusters lz77 n bytes p) (λ f. f.value.clusters ≡ clusters)
unfolding clusters_codes_at
kept_clusters clusters lz77 n bytes p =
    if_bind (number_at bytes p 1) _ Any (λ f. f.value.clusters ≡ clusters) (if_any _)
    (λ prefix h. if_cond (prefix.value == 1) _ _ (λ f. f.value.clusters ≡ clusters)
    (kept_prefix clusters lz77 n bytes prefix.position) (kept_ans clusters lz77 n bytes prefix.position))

contexts_many : (lz77 : Option Lz77) (clusters : List ℕ) (n : ℕ) → length clusters ≡ contexts_with lz77 n → length (of_contexts lz77 clusters) ≡ n
contexts_many None clusters n h = h
contexts_many (Some lz77) clusters n h = let le : length clusters - 1 ≤ length clusters = omega arith in
    let e : length clusters - 1 ≡ n = omega arith in
    length-take-le (length clusters - 1) clusters le ∙ e

of_codes : (lz77 : Option Lz77) (clusters : List ℕ) (n : ℕ) (bytes : List ℕ) (p : ℕ) → length clusters ≡ contexts_with lz77 n → IfOk (codes_at lz77 clusters bytes p) (λ f. length f.value.clusters ≡ n)
unfolding codes_at
of_codes lz77 clusters n bytes p h =
    if_bind (count_of clusters) _ Any (λ f. length f.value.clusters ≡ n) (if_any _)
    (λ m k. if_weaker (clusters_codes_at (of_contexts lz77 clusters) (with_distances lz77 clusters) m bytes p) (λ f. f.value.clusters ≡ of_contexts lz77 clusters) (λ f. length f.value.clusters ≡ n)
    (λ f e. ap length e ∙ contexts_many lz77 clusters n h) (kept_clusters (of_contexts lz77 clusters) (with_distances lz77 clusters) m bytes p))

codes_many : (n : ℕ) (bytes : List ℕ) (p : ℕ) → IfOk (decoder_codes_at n bytes p) (λ f. length f.value.clusters ≡ n)
unfolding decoder_codes_at
codes_many n bytes p =
    if_bind (lz77_at true bytes p) _ Any (λ f. length f.value.clusters ≡ n) (if_any _)
    (λ lz77 h. if_bind (clusters_or_one (clusters_at (contexts_with lz77.value n)) (contexts_with lz77.value n) bytes lz77.position) _ (λ f. length f.value ≡ contexts_with lz77.value n) (λ f. length f.value.clusters ≡ n)
    (all_many (contexts_with lz77.value n) bytes lz77.position)
    (λ clusters k. of_codes lz77.value clusters.value n bytes clusters.position k))

decoder_many : (n : ℕ) (bytes : List ℕ) (p : ℕ) → IfOk (decoder_at bytes p n) (λ f. length f.value.codes.clusters ≡ n)
unfolding decoder_at
decoder_many n bytes p = if_bind (decoder_codes_at n bytes p) _ (λ f. length f.value.clusters ≡ n) (λ f. length f.value.codes.clusters ≡ n) (codes_many n bytes p) (λ f h. h)

many : (bytes : List ℕ) (p n : ℕ) (x : Found Entropy) → decoder_at bytes p n ≡ Ok x → length x.value.codes.clusters ≡ n
many bytes p n x h = if_ok (decoder_at bytes p n) (λ f. length f.value.codes.clusters ≡ n) x (decoder_many n bytes p) h

pub decoder_lawful : IsLawful (entropy decoder_at)
decoder_lawful = entropy_lawful decoder_at many
