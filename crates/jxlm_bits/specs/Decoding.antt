-- What the calls of an entropy decoder mean, and the laws that tie them together.
use Rattle.std.specs.Prelude.{◌≡◌, ◌≢◌, ℕ, zero, suc, ◌+◌, ◌<◌, ◌≤◌, List, [], ◌∷◌, length, slice_index, replicate, All, Contains, Bool, true, Option, Some, None, Result, Ok, Err}
use Rattle.jxlm_bits.specs.ErrorKind.{◌>>=◌}
use Rattle.jxlm_bits.specs.declared.decoder.DecoderError.{DecoderError}
use Rattle.jxlm_bits.specs.declared.decoder.DecoderError.TheVariants.{UnexpectedEof, Invalid, OutOfMemory}
use Rattle.jxlm_bits.specs.declared.decoder.RleToken.{RleToken}
use Rattle.jxlm_bits.specs.declared.decoder.TokensError.{TokensError}
use Rattle.jxlm_bits.specs.declared.decoder.RleToken.TheVariants.{Value, Repeat}

-- what was found in the input, and the bit position after it
pub record Found (X : Type 0) : Type 0 where
  pub value : X
  pub position : ℕ

-- what a decoder's reads gave, and its state and the bit position after it
pub record Taken (X S : Type 0) : Type 0 where
  pub value : X
  pub state : S
  pub position : ℕ

-- The error is the one that the meaning gives; out of memory may come at any time.
abbrev pub Fails : {Y : Type 0} → DecoderError → Result Y DecoderError → Type 0
Fails UnexpectedEof meaning = meaning ≡ Err UnexpectedEof
Fails (Invalid k) meaning = meaning ≡ Err (Invalid k)
Fails OutOfMemory meaning = Unit {0}

-- What a function returned, seen by view, and the position where it left the reader, are what its meaning gives.
abbrev pub Gives : {X Y : Type 0} → (X → Y) → Result X DecoderError → ℕ → Result (Found Y) DecoderError → Type 0
Gives view (Ok x) q meaning = meaning ≡ Ok (record { value = view x; position = q })
Gives view (Err e) q meaning = Fails e meaning

-- begin from state s at position p left state t and position q, as its meaning says; an error leaves the position
abbrev pub BeginGives : {S : Type 0} → Result (Unit {0}) DecoderError → S → S → ℕ → ℕ → Result (Found S) DecoderError → Type 0
BeginGives (Ok u) s t p q meaning = meaning ≡ Ok (record { value = t; position = q })
BeginGives (Err e) s t p q meaning = (meaning ≡ Err e) × (q ≡ p)

-- a read from state s at position p returned this and left state t and position q, as its meaning says
abbrev pub ReadGives : {S : Type 0} → Result ℕ DecoderError → S → S → ℕ → ℕ → Result (Taken ℕ S) DecoderError → Type 0
ReadGives (Ok v) s t p q meaning = meaning ≡ Ok (record { value = v; state = t; position = q })
ReadGives (Err e) s t p q meaning = (meaning ≡ Err e) × (t ≡ s) × (q ≡ p)

-- What a read returns from a state, at a bit position.
abbrev pub Reading : Type 0 → Type 0
Reading S = S → ℕ → Result (Taken ℕ S) DecoderError

-- one read after another, each from the state and the position that the one before left: the first k of these tokens,
-- from state s0 and position p0 to state s and position p
abbrev pub TakesTokens : {S : Type 0} → Reading S → List ℕ → S → ℕ → ℕ → S → ℕ → Type 0
TakesTokens reading tokens s0 p0 zero s p = (s ≡ s0) × (p ≡ p0)
TakesTokens {S} reading tokens s0 p0 (suc k) s p = (t : S) × (q : ℕ) × TakesTokens reading tokens s0 p0 k t q ×
    (reading t q ≡ Ok (record { value = slice_index tokens k; state = s; position = p }))

-- Some tokens were read, from state s and position p to state t and position q; there the next read returned an error.
-- The others are as they were.
pub record FailsTokens {S : Type 0} (reading : Reading S) (old new : List ℕ) (s t : S) (p q : ℕ) (e : TokensError) : Type 0 where
  pub inside : e.read < length new
  pub tokens : TakesTokens reading new s p e.read t q
  pub error : reading t q ≡ Err e.error
  pub rest : (k : ℕ) → e.read ≤ k → slice_index new k ≡ slice_index old k

-- reads of as many tokens as a list holds returned this, and left state t and position q
abbrev pub TokensGive : {S : Type 0} → Result (Unit {0}) TokensError → List ℕ → List ℕ → S → S → ℕ → ℕ → Reading S → Type 0
TokensGive (Ok u) old new s t p q reading = TakesTokens reading new s p (length new) t q
TokensGive (Err e) old new s t p q reading = FailsTokens reading old new s t p q e

-- f applied n times
abbrev pub iterate : {S : Type 0} → (S → S) → ℕ → S → S
iterate f zero s = s
iterate f (suc n) s = iterate f n (f s)

-- What a decoder means: what its calls return by its state, a list of bytes and a bit position in it, and nothing else.
pub record Meaning (S : Type 0) : Type 0 where
  -- the decoder at a bit position of the input, for n contexts, and the position after it
  pub parse : List ℕ → ℕ → ℕ → Result (Found S) DecoderError
  -- the state and the position from which tokens are read
  pub begin : S → List ℕ → ℕ → Result (Found S) DecoderError
  -- the token of a cluster, under a multiplier, with the state and the position after it
  pub read : S → List ℕ → ℕ → ℕ → ℕ → Result (Taken ℕ S) DecoderError
  -- what the end of the tokens returns
  pub finalize : S → Result (Unit {0}) DecoderError
  -- the cluster of each context
  pub cluster_map : S → List ℕ
  -- the only token of a cluster
  pub single_token : S → ℕ → Option ℕ
  -- tokens may come in runs
  pub as_rle : S → Bool
  -- where tokens may come in runs: how many tokens an open run still owes
  pub owed : S → ℕ
  -- where tokens may come in runs: the last token read since begin, or 0
  pub last : S → ℕ
  -- where a token is owed: the state after it
  pub next : S → S

-- the clusters, their only tokens and whether there are runs stay
pub record Keeps {S : Type 0} (d : Meaning S) (s t : S) : Type 0 where
  pub clusters : d.cluster_map t ≡ d.cluster_map s
  pub single : (c : ℕ) → Contains (d.cluster_map s) c → d.single_token t c ≡ d.single_token s c
  pub rle : d.as_rle t ≡ d.as_rle s

-- The laws of a decoder, at every input, position and multiplier, also where no call can come and any meaning will do.
pub record IsLawful {S : Type 0} (d : Meaning S) : Type 0 where
  -- there is a cluster for each context that was asked for
  pub parse_clusters : (bytes : List ℕ) (p n : ℕ) (x : Found S) → d.parse bytes p n ≡ Ok x → length (d.cluster_map x.value) ≡ n
  -- nothing but parse changes the clusters, their only tokens and whether there are runs
  pub begin_keeps : (s : S) (bytes : List ℕ) (p : ℕ) (x : Found S) → d.begin s bytes p ≡ Ok x → Keeps d s x.value
  pub read_keeps : (s : S) (bytes : List ℕ) (p c m : ℕ) (x : Taken ℕ S) → Contains (d.cluster_map s) c → d.read s bytes p c m ≡ Ok x → Keeps d s x.state
  pub next_keeps : (s : S) → d.as_rle s ≡ true → 0 < d.owed s → Keeps d s (d.next s)
  -- a single token is what each read of its cluster returns, and state and position stay
  pub single_read : (s : S) (bytes : List ℕ) (p c m v : ℕ) → Contains (d.cluster_map s) c → d.single_token s c ≡ Some v →
      d.read s bytes p c m ≡ Ok (record { value = v; state = s; position = p })
  -- begin leaves no run open, and no token before
  pub begin_owes : (s : S) (bytes : List ℕ) (p : ℕ) (x : Found S) → d.as_rle s ≡ true → d.begin s bytes p ≡ Ok x → (d.owed x.value ≡ 0) × (d.last x.value ≡ 0)
  -- the token that was read is the last
  pub read_last : (s : S) (bytes : List ℕ) (p c m : ℕ) (x : Taken ℕ S) → Contains (d.cluster_map s) c → d.as_rle s ≡ true → d.read s bytes p c m ≡ Ok x → d.last x.state ≡ x.value
  -- an owed token is the last once more, of whatever cluster and under whatever multiplier, and no bit is read
  pub owed_read : (s : S) (bytes : List ℕ) (p c m : ℕ) → Contains (d.cluster_map s) c → d.as_rle s ≡ true → 0 < d.owed s →
      d.read s bytes p c m ≡ Ok (record { value = d.last s; state = d.next s; position = p })
  pub owed_next : (s : S) → d.as_rle s ≡ true → 0 < d.owed s → d.owed (d.next s) + 1 ≡ d.owed s
  -- where tokens may come in runs, their end is never an error, and no cluster has a single token
  pub rle_finalize : (s : S) → d.as_rle s ≡ true → d.finalize s ≡ Ok tt
  pub rle_single : (s : S) (c : ℕ) → Contains (d.cluster_map s) c → d.as_rle s ≡ true → d.single_token s c ≡ None
  -- parse and try_clone alone may be out of memory
  pub begin_memory : (s : S) (bytes : List ℕ) (p : ℕ) → d.begin s bytes p ≢ Err OutOfMemory
  pub read_memory : (s : S) (bytes : List ℕ) (p c m : ℕ) → Contains (d.cluster_map s) c → d.read s bytes p c m ≢ Err OutOfMemory
  pub finalize_memory : (s : S) → d.finalize s ≢ Err OutOfMemory

-- A run of n tokens begins: the read gives the last token and a state which owes the others; all of them end in t.
pub record Begins {S : Type 0} (d : Meaning S) (n : ℕ) (s t : S) (q : ℕ) (meaning : Result (Taken ℕ S) DecoderError) : Type 0 where
  pub first : S
  pub read : meaning ≡ Ok (record { value = d.last s; state = first; position = q })
  pub owes : d.owed first + 1 ≡ n
  pub ends : t ≡ iterate d.next (d.owed first) first

-- a clustered read from state s at position p returned this and left state t and position q
abbrev pub RunGives : {S : Type 0} → Meaning S → Result RleToken DecoderError → S → S → ℕ → ℕ → Result (Taken ℕ S) DecoderError → Type 0
RunGives d (Ok (Value v)) s t p q meaning = (meaning ≡ Ok (record { value = v; state = t; position = q })) × (d.owed t ≡ 0)
RunGives d (Ok (Repeat n)) s t p q meaning = Begins d n s t q meaning
RunGives d (Err e) s t p q meaning = (meaning ≡ Err e) × (t ≡ s) × (q ≡ p)

-- a read that is asked for: of which cluster, under which multiplier
pub record Asked : Type 0 where
  pub cluster : ℕ
  pub multiplier : ℕ

-- reads one after another, each from the state and the position that the one before left; the first error ends them
abbrev pub reads : {S : Type 0} → Meaning S → S → List ℕ → ℕ → List Asked → Result (Taken (List ℕ) S) DecoderError
reads d s bytes p [] = Ok (record { value = []; state = s; position = p })
reads d s bytes p (asked ∷ others) = do
  first ← d.read s bytes p asked.cluster asked.multiplier
  rest ← reads d first.state bytes first.position others
  Ok (record { value = first.value ∷ rest.value; state = rest.state; position = rest.position })

-- A run of n tokens stands for n reads: the first of the cluster that was asked for, the others of any clusters, each
-- under any multiplier. Each gives the token before, only the first moves the position, and they end where the run
-- ends, with no run open.
abbrev pub RunIsReads : {S : Type 0} → Meaning S → Type 0
RunIsReads {S} d = (s t : S) (bytes : List ℕ) (p q c m n : ℕ) (others : List Asked) → d.as_rle s ≡ true → Contains (d.cluster_map s) c →
    All (λ asked. Contains (d.cluster_map s) asked.cluster) others → length others + 1 ≡ n → Begins d n s t q (d.read s bytes p c m) →
    (reads d s bytes p (record { cluster = c; multiplier = m } ∷ others) ≡ Ok (record { value = replicate n (d.last s); state = t; position = q })) × (d.owed t ≡ 0)
