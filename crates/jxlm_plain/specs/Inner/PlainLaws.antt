-- The plain decoder meets the laws of decoders. Proofs alone: nothing here has to be believed. They are here since the
-- decoder's impl names the last of them, and an impl can name no file of proofs/.
use Rattle.std.specs.Prelude.{◌≡◌, ◌≢◌, ℕ, zero, suc, ◌+◌, ◌-◌, ◌*◌, ◌<◌, List, length, Contains, Bool, true, false, cond, nat_lt, ◌==◌, ◌&&◌, ◌⊎◌, Some, None, Result, Ok, Err, refl}
use Rattle.std.proofs.Common.{arith, ap, inl, inr}
use Rattle.jxlm_bits.specs.Bits.{bits_at}
use Rattle.jxlm_bits.specs.Decoding.{Found, Taken, Keeps, RunGives, IsLawful}
use Rattle.jxlm_bits.specs.ErrorKind.{◌>>=◌}
use Rattle.jxlm_plain.specs.Plain.{PlainState, number_at, zeros_at, zeros_end, low_bits, gamma_at, own_at, mode_at, items_at, cluster_at, code_at, code2_at, code_of, run_at, first_of_run, is_runs, single_of, owed_in, last_in, next_mode, begin_mode, token_at, finalize_mode, plain_parse, plain_begin, plain_read, plain_finalize, plain_clusters, plain_single, plain_runs, plain_owed, plain_last, plain_next, plain, fields_at, plain2_parse, plain2}
use Rattle.jxlm_bits.specs.declared.decoder.DecoderError.{DecoderError}
use Rattle.jxlm_bits.specs.declared.decoder.DecoderError.TheVariants.{OutOfMemory}
use Rattle.jxlm_bits.specs.declared.decoder.RleToken.{RleToken}
use Rattle.jxlm_bits.specs.declared.decoder.RleToken.TheVariants.{Value, Repeat}
use Rattle.jxlm_plain.specs.declared.plain.Code.{Code}
use Rattle.jxlm_plain.specs.declared.plain.Code.TheVariants.{Constant, Fixed, Gamma}
use Rattle.jxlm_plain.specs.declared.plain.Mode.{Mode}
use Rattle.jxlm_plain.specs.declared.plain.Mode.TheVariants.{Unsealed, Sealed, Runs}

pub bind_ok : {A B : Type 0} (r : Result A DecoderError) (f : A → Result B DecoderError) (y : B) → (r >>= f) ≡ Ok y → (x : A) × (r ≡ Ok x) × (f x ≡ Ok y)
bind_ok (Ok x) f y h = (x, refl, h)
bind_ok (Err e) f y h = cc

abbrev pub ok : {A : Type 0} → A → Result A DecoderError
ok x = Ok x

pub ok_same : {A : Type 0} (x y : A) → ok x ≡ ok y → y ≡ x
ok_same x y h = cc

pub chosen : {A : Type 0} (b : Bool) (x y z : A) → cond b x y ≡ z → ((b ≡ true) × (x ≡ z)) ⊎ ((b ≡ false) × (y ≡ z))
chosen true x y z h = inl (refl, h)
chosen false x y z h = inr (refl, h)

-- a read or a beginning keeps what kind of mode it is
abbrev SameKind : Mode → Mode → Type 0
SameKind s t = (is_runs t ≡ is_runs s) × ((k : Code) → single_of t k ≡ single_of s k)

begin_kind : (mode : Mode) (bytes : List ℕ) (p : ℕ) (x : Found Mode) → begin_mode mode bytes p ≡ Ok x → SameKind mode x.value
begin_kind Unsealed bytes p x h = rw (ok_same _ _ h) (refl, λ k. refl)
begin_kind (Sealed sum) bytes p x h =
    let b = bind_ok (number_at bytes p 8) _ x h in
    rw (ok_same _ _ b.2) (refl, λ k. refl)
begin_kind (Runs last left) bytes p x h = rw (ok_same _ _ h) (refl, λ k. refl)

run_kind : (last : ℕ) (run : RleToken) (q : ℕ) → SameKind (Runs last 0) (first_of_run last run q).state
run_kind last (Value token) q = (refl, λ k. refl)
run_kind last (Repeat n) q = (refl, λ k. refl)

token_kind : (mode : Mode) (code : Code) (bytes : List ℕ) (p : ℕ) (x : Taken ℕ Mode) → token_at mode code bytes p ≡ Ok x → SameKind mode x.state
unfolding token_at
token_kind Unsealed (Constant token) bytes p x h = rw (ok_same _ _ h) (refl, λ k. refl)
token_kind Unsealed (Fixed width) bytes p x h =
    let b = bind_ok (number_at bytes p width) _ x h in
    rw (ok_same _ _ b.2) (refl, λ k. refl)
token_kind Unsealed Gamma bytes p x h =
    let b = bind_ok (gamma_at bytes p) _ x h in
    rw (ok_same _ _ b.2) (refl, λ k. refl)
token_kind (Sealed sum) (Constant token) bytes p x h = rw (ok_same _ _ h) (refl, λ k. refl)
token_kind (Sealed sum) (Fixed width) bytes p x h =
    let b = bind_ok (number_at bytes p width) _ x h in
    rw (ok_same _ _ b.2) (refl, λ k. refl)
token_kind (Sealed sum) Gamma bytes p x h =
    let b = bind_ok (gamma_at bytes p) _ x h in
    rw (ok_same _ _ b.2) (refl, λ k. refl)
token_kind (Runs last (suc left)) code bytes p x h = rw (ok_same _ _ h) (refl, λ k. refl)
token_kind (Runs last zero) code bytes p x h =
    let b = bind_ok (run_at code bytes p) _ x h in
    rw (ok_same _ _ b.2) (run_kind last b.0.value b.0.position)

pub plain_begin_keeps : (s : PlainState) (bytes : List ℕ) (p : ℕ) (x : Found PlainState) → plain_begin s bytes p ≡ Ok x → Keeps plain s x.value
unfolding plain_begin
plain_begin_keeps s bytes p x h =
    let b = bind_ok (begin_mode s.mode bytes p) _ x h in
    let k = begin_kind s.mode bytes p b.0 b.1 in
    rw (ok_same _ _ b.2) (record { clusters = refl; single = λ c within. k.1 (code_of s.codes c); rle = k.0 })

pub plain_read_keeps : (s : PlainState) (bytes : List ℕ) (p c m : ℕ) (x : Taken ℕ PlainState) → Contains s.clusters c → plain_read s bytes p c m ≡ Ok x → Keeps plain s x.state
unfolding plain_read
plain_read_keeps s bytes p c m x within h =
    let b = bind_ok (token_at s.mode (code_of s.codes c) bytes p) _ x h in
    let k = token_kind s.mode (code_of s.codes c) bytes p b.0 b.1 in
    rw (ok_same _ _ b.2) (record { clusters = refl; single = λ c within. k.1 (code_of s.codes c); rle = k.0 })

next_kind : (mode : Mode) → SameKind mode (next_mode mode)
next_kind Unsealed = (refl, λ k. refl)
next_kind (Sealed sum) = (refl, λ k. refl)
next_kind (Runs last left) = (refl, λ k. refl)

pub plain_next_keeps : (s : PlainState) → plain_runs s ≡ true → 0 < plain_owed s → Keeps plain s (plain_next s)
plain_next_keeps s r owes = let k = next_kind s.mode in record { clusters = refl; single = λ c within. k.1 (code_of s.codes c); rle = k.0 }

token_single : (mode : Mode) (code : Code) (bytes : List ℕ) (p v : ℕ) → single_of mode code ≡ Some v → token_at mode code bytes p ≡ Ok (record { value = v; state = mode; position = p })
unfolding token_at
token_single Unsealed (Constant token) bytes p v h = let e : token ≡ v = cc in rw e refl
token_single Unsealed (Fixed width) bytes p v h = cc
token_single Unsealed Gamma bytes p v h = cc
token_single (Sealed sum) (Constant token) bytes p v h = let e : token ≡ v = cc in rw e refl
token_single (Sealed sum) (Fixed width) bytes p v h = cc
token_single (Sealed sum) Gamma bytes p v h = cc
token_single (Runs last left) code bytes p v h = cc

pub plain_single_read : (s : PlainState) (bytes : List ℕ) (p c m v : ℕ) → Contains s.clusters c → plain_single s c ≡ Some v → plain_read s bytes p c m ≡ Ok (record { value = v; state = s; position = p })
unfolding plain_read
plain_single_read s bytes p c m v within h = rw (token_single s.mode (code_of s.codes c) bytes p v h) refl

begin_mode_owes : (mode : Mode) (bytes : List ℕ) (p : ℕ) (x : Found Mode) → begin_mode mode bytes p ≡ Ok x → (owed_in x.value ≡ 0) × (last_in x.value ≡ 0)
begin_mode_owes Unsealed bytes p x h = rw (ok_same _ _ h) (refl, refl)
begin_mode_owes (Sealed sum) bytes p x h =
    let b = bind_ok (number_at bytes p 8) _ x h in
    rw (ok_same _ _ b.2) (refl, refl)
begin_mode_owes (Runs last left) bytes p x h = rw (ok_same _ _ h) (refl, refl)

pub plain_begin_owes : (s : PlainState) (bytes : List ℕ) (p : ℕ) (x : Found PlainState) → plain_runs s ≡ true → plain_begin s bytes p ≡ Ok x → (plain_owed x.value ≡ 0) × (plain_last x.value ≡ 0)
unfolding plain_begin
plain_begin_owes s bytes p x r h =
    let b = bind_ok (begin_mode s.mode bytes p) _ x h in
    rw (ok_same _ _ b.2) (begin_mode_owes s.mode bytes p b.0 b.1)

run_last : (last : ℕ) (run : RleToken) (q : ℕ) → last_in (first_of_run last run q).state ≡ (first_of_run last run q).value
run_last last (Value token) q = refl
run_last last (Repeat n) q = refl

token_last : (mode : Mode) (code : Code) (bytes : List ℕ) (p : ℕ) (x : Taken ℕ Mode) → is_runs mode ≡ true → token_at mode code bytes p ≡ Ok x → last_in x.state ≡ x.value
unfolding token_at
token_last Unsealed code bytes p x r h = cc
token_last (Sealed sum) code bytes p x r h = cc
token_last (Runs last (suc left)) code bytes p x r h = rw (ok_same _ _ h) refl
token_last (Runs last zero) code bytes p x r h =
    let b = bind_ok (run_at code bytes p) _ x h in
    rw (ok_same _ _ b.2) (run_last last b.0.value b.0.position)

pub plain_read_last : (s : PlainState) (bytes : List ℕ) (p c m : ℕ) (x : Taken ℕ PlainState) → Contains s.clusters c → plain_runs s ≡ true → plain_read s bytes p c m ≡ Ok x → plain_last x.state ≡ x.value
unfolding plain_read
plain_read_last s bytes p c m x within r h =
    let b = bind_ok (token_at s.mode (code_of s.codes c) bytes p) _ x h in
    rw (ok_same _ _ b.2) (token_last s.mode (code_of s.codes c) bytes p b.0 r b.1)

token_owed : (mode : Mode) (code : Code) (bytes : List ℕ) (p : ℕ) → is_runs mode ≡ true → 0 < owed_in mode → token_at mode code bytes p ≡ Ok (record { value = last_in mode; state = next_mode mode; position = p })
unfolding token_at
token_owed Unsealed code bytes p r h = cc
token_owed (Sealed sum) code bytes p r h = cc
token_owed (Runs last (suc left)) code bytes p r h = let e : suc left - 1 ≡ left = omega arith in rw e refl
token_owed (Runs last zero) code bytes p r h = absurd (omega arith)

pub plain_owed_read : (s : PlainState) (bytes : List ℕ) (p c m : ℕ) → Contains s.clusters c → plain_runs s ≡ true → 0 < plain_owed s → plain_read s bytes p c m ≡ Ok (record { value = plain_last s; state = plain_next s; position = p })
unfolding plain_read
plain_owed_read s bytes p c m within r h = rw (token_owed s.mode (code_of s.codes c) bytes p r h) refl

mode_owed_next : (mode : Mode) → is_runs mode ≡ true → 0 < owed_in mode → owed_in (next_mode mode) + 1 ≡ owed_in mode
mode_owed_next Unsealed r h = cc
mode_owed_next (Sealed sum) r h = cc
mode_owed_next (Runs last left) r h = omega arith

pub plain_owed_next : (s : PlainState) → plain_runs s ≡ true → 0 < plain_owed s → plain_owed (plain_next s) + 1 ≡ plain_owed s
plain_owed_next s r h = mode_owed_next s.mode r h

mode_finalize : (mode : Mode) → is_runs mode ≡ true → finalize_mode mode ≡ Ok tt
mode_finalize Unsealed r = refl
mode_finalize (Sealed sum) r = cc
mode_finalize (Runs last left) r = refl

pub plain_rle_finalize : (s : PlainState) → plain_runs s ≡ true → plain_finalize s ≡ Ok tt
plain_rle_finalize s r = mode_finalize s.mode r

mode_single : (mode : Mode) (code : Code) → is_runs mode ≡ true → single_of mode code ≡ None
mode_single Unsealed code r = cc
mode_single (Sealed sum) code r = cc
mode_single (Runs last left) code r = refl

pub plain_rle_single : (s : PlainState) (c : ℕ) → Contains s.clusters c → plain_runs s ≡ true → plain_single s c ≡ None
plain_rle_single s c within r = mode_single s.mode (code_of s.codes c) r

-- no part of the meaning is out of memory
abbrev pub NoMemory : {A : Type 0} → Result A DecoderError → Type 0
NoMemory r = r ≢ Err OutOfMemory

pub bind_memory : {A B : Type 0} (r : Result A DecoderError) (f : A → Result B DecoderError) → NoMemory r → ((x : A) → NoMemory (f x)) → NoMemory (r >>= f)
bind_memory (Ok x) f h k = k x
bind_memory (Err e) f h k = λ w. let g : e ≡ OutOfMemory = cc in h (ap (λ (d : DecoderError). Err d) g)

pub ok_memory : {A : Type 0} (x : A) → NoMemory (ok x)
ok_memory x = λ w. cc

pub cond_memory : {A : Type 0} (b : Bool) (x y : Result A DecoderError) → NoMemory x → NoMemory y → NoMemory (cond b x y)
cond_memory true x y h k = h
cond_memory false x y h k = k

number_memory : (bytes : List ℕ) (p n : ℕ) → NoMemory (number_at bytes p n)
unfolding number_at
number_memory bytes p n = cond_memory (nat_lt (8 * length bytes) (p + n)) _ _ (λ w. cc) (ok_memory _)

zeros_memory : (bytes : List ℕ) (p : ℕ) → NoMemory (zeros_end bytes p)
unfolding zeros_end
zeros_memory bytes p = cond_memory (nat_lt 32 (zeros_at bytes p)) _ _ (bind_memory (number_at bytes p 33) _ (number_memory bytes p 33) (λ x w. cc))
    (bind_memory (number_at bytes p (zeros_at bytes p + 1)) _ (number_memory bytes p (zeros_at bytes p + 1)) (λ x. ok_memory _))

low_memory : (bytes : List ℕ) (p n : ℕ) → NoMemory (low_bits bytes p n)
unfolding low_bits
low_memory bytes p n = cond_memory ((n == 32) && nat_lt 0 (bits_at bytes p n)) _ _ (λ w. cc) (number_memory bytes p n)

gamma_memory : (bytes : List ℕ) (p : ℕ) → NoMemory (gamma_at bytes p)
unfolding gamma_at
gamma_memory bytes p = bind_memory (zeros_end bytes p) _ (zeros_memory bytes p)
    (λ x. bind_memory (low_bits bytes x.position x.value) _ (low_memory bytes x.position x.value) (λ y. ok_memory _))

own_memory : (code : Code) (bytes : List ℕ) (p : ℕ) → NoMemory (own_at code bytes p)
own_memory (Constant token) bytes p = number_memory bytes p 0
own_memory (Fixed width) bytes p = number_memory bytes p width
own_memory Gamma bytes p = gamma_memory bytes p

begin_mode_memory : (mode : Mode) (bytes : List ℕ) (p : ℕ) → NoMemory (begin_mode mode bytes p)
begin_mode_memory Unsealed bytes p = ok_memory _
begin_mode_memory (Sealed sum) bytes p = bind_memory (number_at bytes p 8) _ (number_memory bytes p 8) (λ x. ok_memory _)
begin_mode_memory (Runs last left) bytes p = ok_memory _

pub plain_begin_memory : (s : PlainState) (bytes : List ℕ) (p : ℕ) → plain_begin s bytes p ≢ Err OutOfMemory
unfolding plain_begin
plain_begin_memory s bytes p = bind_memory (begin_mode s.mode bytes p) _ (begin_mode_memory s.mode bytes p) (λ x. ok_memory _)

run_memory : (code : Code) (bytes : List ℕ) (p : ℕ) → NoMemory (run_at code bytes p)
unfolding run_at
run_memory code bytes p =
    bind_memory (number_at bytes p 1) _ (number_memory bytes p 1) (λ x. cond_memory (x.value == 0) _ _
    (bind_memory (own_at code bytes x.position) _ (own_memory code bytes x.position) (λ y. ok_memory _))
    (bind_memory (number_at bytes x.position 8) _ (number_memory bytes x.position 8) (λ y. ok_memory _)))

token_memory : (mode : Mode) (code : Code) (bytes : List ℕ) (p : ℕ) → NoMemory (token_at mode code bytes p)
unfolding token_at
token_memory Unsealed (Constant token) bytes p = ok_memory _
token_memory Unsealed (Fixed width) bytes p = bind_memory (number_at bytes p width) _ (number_memory bytes p width) (λ x. ok_memory _)
token_memory Unsealed Gamma bytes p = bind_memory (gamma_at bytes p) _ (gamma_memory bytes p) (λ x. ok_memory _)
token_memory (Sealed sum) (Constant token) bytes p = ok_memory _
token_memory (Sealed sum) (Fixed width) bytes p = bind_memory (number_at bytes p width) _ (number_memory bytes p width) (λ x. ok_memory _)
token_memory (Sealed sum) Gamma bytes p = bind_memory (gamma_at bytes p) _ (gamma_memory bytes p) (λ x. ok_memory _)
token_memory (Runs last (suc left)) code bytes p = ok_memory _
token_memory (Runs last zero) code bytes p = bind_memory (run_at code bytes p) _ (run_memory code bytes p) (λ x. ok_memory _)

pub plain_read_memory : (s : PlainState) (bytes : List ℕ) (p c m : ℕ) → Contains s.clusters c → plain_read s bytes p c m ≢ Err OutOfMemory
unfolding plain_read
plain_read_memory s bytes p c m within = bind_memory (token_at s.mode (code_of s.codes c) bytes p) _ (token_memory s.mode (code_of s.codes c) bytes p) (λ x. ok_memory _)

mode_finalize_memory : (mode : Mode) → NoMemory (finalize_mode mode)
mode_finalize_memory Unsealed = ok_memory _
mode_finalize_memory (Sealed sum) = cond_memory (sum == 0) _ _ (ok_memory _) (λ w. cc)
mode_finalize_memory (Runs last left) = ok_memory _

pub plain_finalize_memory : (s : PlainState) → plain_finalize s ≢ Err OutOfMemory
plain_finalize_memory s = mode_finalize_memory s.mode

-- n items were read
items_length : {X : Type 0} (item : ℕ → Result (Found X) DecoderError) (n p : ℕ) (x : Found (List X)) → items_at item n p ≡ Ok x → length x.value ≡ n
items_length item zero p x h = rw (ok_same _ _ h) refl
items_length item (suc n) p x h =
    let a = bind_ok (item p) _ x h in
    let b = bind_ok (items_at item n a.0.position) _ x a.2 in
    rw (ok_same _ _ b.2) (let e = items_length item n a.0.position b.0 b.1 in omega (arith, e))

pub plain_parse_clusters : (bytes : List ℕ) (p n : ℕ) (x : Found PlainState) → plain_parse bytes p n ≡ Ok x → length (plain_clusters x.value) ≡ n
unfolding fields_at
plain_parse_clusters bytes p n x h =
    let a = bind_ok (mode_at bytes p) _ x h in
    let b = bind_ok (number_at bytes a.0.position 4) _ x a.2 in
    let c = bind_ok (items_at (cluster_at bytes (1 + b.0.value)) n b.0.position) _ x b.2 in
    let d = bind_ok (items_at (code_at bytes (is_runs a.0.value)) (1 + b.0.value) c.0.position) _ x c.2 in
    rw (ok_same _ _ d.2) (items_length (cluster_at bytes (1 + b.0.value)) n b.0.position c.0 c.1)

pub plain_lawful : IsLawful plain
plain_lawful = record {
  parse_clusters = plain_parse_clusters;
  begin_keeps = plain_begin_keeps;
  read_keeps = plain_read_keeps;
  next_keeps = plain_next_keeps;
  single_read = plain_single_read;
  begin_owes = plain_begin_owes;
  read_last = plain_read_last;
  owed_read = plain_owed_read;
  owed_next = plain_owed_next;
  rle_finalize = plain_rle_finalize;
  rle_single = plain_rle_single;
  begin_memory = plain_begin_memory;
  read_memory = plain_read_memory;
  finalize_memory = plain_finalize_memory;
}

-- what the second format keeps is what the first keeps
pub keeps2 : (s t : PlainState) → Keeps plain s t → Keeps plain2 s t
keeps2 s t k = record { clusters = k.clusters; single = k.single; rle = k.rle }

chosen_ok : {A : Type 0} (is : Bool) (r : Result A DecoderError) (e : DecoderError) (x : A) → cond is r (Err e) ≡ Ok x → r ≡ Ok x
chosen_ok true r e x h = h
chosen_ok false r e x h = cc

plain2_parse_clusters : (bytes : List ℕ) (p n : ℕ) (x : Found PlainState) → plain2_parse bytes p n ≡ Ok x → length (plain_clusters x.value) ≡ n
unfolding plain2_parse fields_at
plain2_parse_clusters bytes p n x h =
    let v = bind_ok (number_at bytes p 4) _ x h in
    let a = bind_ok (mode_at bytes v.0.position) _ x (chosen_ok (v.0.value == 2) _ _ x v.2) in
    let b = bind_ok (number_at bytes a.0.position 4) _ x a.2 in
    let c = bind_ok (items_at (cluster_at bytes (1 + b.0.value)) n b.0.position) _ x b.2 in
    let d = bind_ok (items_at (code2_at bytes (is_runs a.0.value)) (1 + b.0.value) c.0.position) _ x c.2 in
    rw (ok_same _ _ d.2) (items_length (cluster_at bytes (1 + b.0.value)) n b.0.position c.0 c.1)

pub plain2_lawful : IsLawful plain2
plain2_lawful = record {
  parse_clusters = plain2_parse_clusters;
  begin_keeps = λ s bytes p x h. keeps2 s x.value (plain_begin_keeps s bytes p x h);
  read_keeps = λ s bytes p c m x within h. keeps2 s x.state (plain_read_keeps s bytes p c m x within h);
  next_keeps = λ s r owes. keeps2 s (plain_next s) (plain_next_keeps s r owes);
  single_read = plain_single_read;
  begin_owes = plain_begin_owes;
  read_last = plain_read_last;
  owed_read = plain_owed_read;
  owed_next = plain_owed_next;
  rle_finalize = plain_rle_finalize;
  rle_single = plain_rle_single;
  begin_memory = plain_begin_memory;
  read_memory = plain_read_memory;
  finalize_memory = plain_finalize_memory;
}

-- what is read of a run is so for the second format too
pub runs2 : (r : Result RleToken DecoderError) (s t : PlainState) (p q : ℕ) (meaning : Result (Taken ℕ PlainState) DecoderError) →
    RunGives plain r s t p q meaning → RunGives plain2 r s t p q meaning
runs2 (Ok (Value v)) s t p q meaning h = h
runs2 (Ok (Repeat n)) s t p q meaning h = record { first = h.first; read = h.read; owes = h.owes; ends = h.ends }
runs2 (Err e) s t p q meaning h = h
