-- The decoder with errors meets the laws of decoders. Proofs alone: nothing here has to be believed. They are here since
-- the decoder's impl names the last of them, and an impl can name no file of proofs/.
use Rattle.std.specs.Prelude.{◌≡◌, ◌≢◌, ℕ, List, length, Contains, Bool, true, false, cond, ◌==◌, Result, Ok, Err, refl}
use Rattle.std.proofs.Common.{ap}
use Rattle.jxlm_bits.specs.Decoding.{Found, Taken, Keeps, IsLawful}
use Rattle.jxlm_bits.specs.ErrorKind.{◌>>=◌}
use Rattle.jxlm_bits.specs.declared.decoder.DecoderError.{DecoderError}
use Rattle.jxlm_bits.specs.declared.decoder.DecoderError.TheVariants.{OutOfMemory}
use Rattle.jxlm_plain.specs.Plain.{number_at, plain_parse, plain_begin, plain_read, plain}
use Rattle.jxlm_plain.specs.contracts.plain.PlainDecoderDecoder.TheImpl.Laws as impl
use Rattle.jxlm_fault.specs.Fault.{FaultState, fault_parse, fault_begin, fault_read, fault_finalize, fault_clusters, is_due, faulty}

-- the plain decoder meets them
plain_lawful : IsLawful plain
plain_lawful = impl.lawful.lawful

bind_ok : {A B : Type 0} (r : Result A DecoderError) (f : A → Result B DecoderError) (y : B) → (r >>= f) ≡ Ok y → (x : A) × (r ≡ Ok x) × (f x ≡ Ok y)
bind_ok (Ok x) f y h = (x, refl, h)
bind_ok (Err e) f y h = cc

abbrev ok : {A : Type 0} → A → Result A DecoderError
ok x = Ok x

ok_same : {A : Type 0} (x y : A) → ok x ≡ ok y → y ≡ x
ok_same x y h = cc

-- no part of the meaning is out of memory
abbrev NoMemory : {A : Type 0} → Result A DecoderError → Type 0
NoMemory r = r ≢ Err OutOfMemory

bind_memory : {A B : Type 0} (r : Result A DecoderError) (f : A → Result B DecoderError) → NoMemory r → ((x : A) → NoMemory (f x)) → NoMemory (r >>= f)
bind_memory (Ok x) f h k = k x
bind_memory (Err e) f h k = λ w. let g : e ≡ OutOfMemory = cc in h (ap (λ (d : DecoderError). Err d) g)

ok_memory : {A : Type 0} (x : A) → NoMemory (ok x)
ok_memory x = λ w. cc

cond_memory : {A : Type 0} (b : Bool) (x y : Result A DecoderError) → NoMemory x → NoMemory y → NoMemory (cond b x y)
cond_memory true x y h k = h
cond_memory false x y h k = k

-- a choice that is no error was not the error
pub not_due : {A : Type 0} (due : Bool) (e : DecoderError) (r : Result A DecoderError) (x : A) → cond due (Err e) r ≡ Ok x → r ≡ Ok x
not_due true e r x h = cc
not_due false e r x h = h

-- the same clusters are all that is kept
kept : (s t : FaultState) → fault_clusters t ≡ fault_clusters s → Keeps faulty s t
kept s t h = record { clusters = h; single = λ c within. refl; rle = refl }

pub fault_begin_keeps : (s : FaultState) (bytes : List ℕ) (p : ℕ) (x : Found FaultState) → fault_begin s bytes p ≡ Ok x → Keeps faulty s x.value
unfolding fault_begin
fault_begin_keeps s bytes p x h =
    let b = bind_ok (plain_begin s.plain bytes p) _ x (not_due (s.fault == 4) _ _ x h) in
    let k = plain_lawful.begin_keeps s.plain bytes p b.0 b.1 in
    rw (ok_same _ _ b.2) (kept s _ k.clusters)

pub fault_read_keeps : (s : FaultState) (bytes : List ℕ) (p c m : ℕ) (x : Taken ℕ FaultState) → Contains (fault_clusters s) c → fault_read s bytes p c m ≡ Ok x → Keeps faulty s x.state
unfolding fault_read
fault_read_keeps s bytes p c m x within h =
    let b = bind_ok (plain_read s.plain bytes p c m) _ x (not_due (is_due s) _ _ x h) in
    let k = plain_lawful.read_keeps s.plain bytes p c m b.0 within b.1 in
    rw (ok_same _ _ b.2) (kept s _ k.clusters)

pub fault_parse_clusters : (bytes : List ℕ) (p n : ℕ) (x : Found FaultState) → fault_parse bytes p n ≡ Ok x → length (fault_clusters x.value) ≡ n
unfolding fault_parse
fault_parse_clusters bytes p n x h =
    let a = bind_ok (number_at bytes p 3) _ x h in
    let b = bind_ok (number_at bytes a.0.position 1) _ x a.2 in
    let d = bind_ok (plain_parse bytes a.0.position n) _ x (not_due (b.0.value == 1) _ _ x b.2) in
    let k = plain_lawful.parse_clusters bytes a.0.position n d.0 d.1 in
    rw (ok_same _ _ d.2) k

pub fault_begin_memory : (s : FaultState) (bytes : List ℕ) (p : ℕ) → fault_begin s bytes p ≢ Err OutOfMemory
unfolding fault_begin
fault_begin_memory s bytes p = cond_memory (s.fault == 4) _ _ (λ w. cc)
    (bind_memory (plain_begin s.plain bytes p) _ (plain_lawful.begin_memory s.plain bytes p) (λ x. ok_memory _))

pub fault_read_memory : (s : FaultState) (bytes : List ℕ) (p c m : ℕ) → Contains (fault_clusters s) c → fault_read s bytes p c m ≢ Err OutOfMemory
unfolding fault_read
fault_read_memory s bytes p c m within = cond_memory (is_due s) _ _ (λ w. cc)
    (bind_memory (plain_read s.plain bytes p c m) _ (plain_lawful.read_memory s.plain bytes p c m within) (λ x. ok_memory _))

pub fault_finalize_memory : (s : FaultState) → fault_finalize s ≢ Err OutOfMemory
fault_finalize_memory s = cond_memory (s.fault == 5) _ _ (λ w. cc) (plain_lawful.finalize_memory s.plain)

pub fault_lawful : IsLawful faulty
fault_lawful = record {
  parse_clusters = fault_parse_clusters;
  begin_keeps = fault_begin_keeps;
  read_keeps = fault_read_keeps;
  next_keeps = λ s r owes. kept s s refl;
  single_read = λ s bytes p c m v within h. cc;
  begin_owes = λ s bytes p x r h. (refl, refl);
  read_last = λ s bytes p c m x within r h. cc;
  owed_read = λ s bytes p c m within r owes. cc;
  owed_next = λ s r owes. cc;
  rle_finalize = λ s r. cc;
  rle_single = λ s c within r. refl;
  begin_memory = fault_begin_memory;
  read_memory = fault_read_memory;
  finalize_memory = fault_finalize_memory;
}
