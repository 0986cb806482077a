-- Proofs that the decoder of two fields keeps the laws of decoders.
use Rattle.std.specs.Prelude.{◌≡◌, ◌≢◌, ℕ, ◌+◌, ◌*◌, List, length, replicate, Bool, true, false, cond, nat_lt, Result, Ok, Err, refl}
use Rattle.std.proofs.lemmas.List.{length-replicate}
use Rattle.jxl_modular.specs.ErrorKind.{◌>>=◌}
use Rattle.jxl_modular.specs.Decoding.{Found, Taken, Keeps, IsLawful}
use Rattle.jxl_modular.specs.Types.DecoderError.{DecoderError}
use Rattle.jxl_modular.specs.Types.DecoderError.TheVariants.{UnexpectedEof, OutOfMemory}
use Rattle.check_examples.specs.Prefixed.{number_at, prefixed}

same : (s : List ℕ) → Keeps prefixed s s
same s = record { clusters = refl; single = λ c within. refl; rle = refl }

-- the token of what was read of the second field
abbrev taken : List ℕ → Found ℕ → Taken ℕ (List ℕ)
taken s token = record { value = token.value; state = s; position = token.position }

-- a read that returned a token left the state
kept_second : (s : List ℕ) (second : Result (Found ℕ) DecoderError) (x : Taken ℕ (List ℕ)) → (second >>= λ token. Ok (taken s token)) ≡ Ok x → x.state ≡ s
kept_second s (Ok token) x h = let g : x ≡ taken s token = cc in rw g refl
kept_second s (Err e) x h = cc

kept : (s : List ℕ) (bytes : List ℕ) (first : Result (Found ℕ) DecoderError) (x : Taken ℕ (List ℕ)) →
    (first >>= λ width. number_at bytes width.position width.value >>= λ token. Ok (taken s token)) ≡ Ok x → x.state ≡ s
kept s bytes (Ok width) x h = kept_second s (number_at bytes width.position width.value) x h
kept s bytes (Err e) x h = cc

-- the end of the input is the only error
refused_number : (short : Bool) (y : Found ℕ) → cond short (Err UnexpectedEof) (Ok y) ≢ Err OutOfMemory
refused_number true y = λ h. cc
refused_number false y = λ h. cc

refused_second : (s : List ℕ) (second : Result (Found ℕ) DecoderError) → second ≢ Err OutOfMemory → (second >>= λ token. Ok (taken s token)) ≢ Err OutOfMemory
refused_second s (Ok token) never = λ h. cc
refused_second s (Err e) never = λ h. never (cc)

refused : (s : List ℕ) (bytes : List ℕ) (first : Result (Found ℕ) DecoderError) → first ≢ Err OutOfMemory →
    (first >>= λ width. number_at bytes width.position width.value >>= λ token. Ok (taken s token)) ≢ Err OutOfMemory
refused s bytes (Ok width) never =
    refused_second s (number_at bytes width.position width.value) (refused_number (nat_lt (8 * length bytes) (width.position + width.value)) _)
refused s bytes (Err e) never = λ h. never (cc)

pub prefixed_lawful : IsLawful prefixed
prefixed_lawful = record {
  parse_clusters = λ bytes p n x h. let e : x.value ≡ replicate n 0 = cc in rw e (length-replicate n 0);
  begin_keeps = λ s bytes p x h. let e : x.value ≡ s = cc in rw e (same s);
  read_keeps = λ s bytes p c m x within h. rw (kept s bytes (number_at bytes p 4) x h) (same s);
  next_keeps = λ s r owes. same s;
  single_read = λ s bytes p c m v within h. cc;
  begin_owes = λ s bytes p x r h. (refl, refl);
  read_last = λ s bytes p c m x within r h. cc;
  owed_read = λ s bytes p c m within r owes. cc;
  owed_next = λ s r owes. cc;
  rle_finalize = λ s r. refl;
  rle_single = λ s c within r. refl;
  begin_memory = λ s bytes p h. cc;
  read_memory = λ s bytes p c m within. refused s bytes (number_at bytes p 4) (refused_number (nat_lt (8 * length bytes) (p + 4)) _);
  finalize_memory = λ s h. cc;
}
