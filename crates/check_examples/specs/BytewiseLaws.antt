-- Proofs that the decoder of bytes keeps the laws of decoders.
use Rattle.std.specs.Prelude.{◌≡◌, ◌≢◌, ℕ, ◌+◌, ◌*◌, List, length, replicate, Bool, true, false, cond, nat_lt, Ok, Err, refl}
use Rattle.std.proofs.lemmas.List.{length-replicate}
use Rattle.jxl_modular.specs.Decoding.{Taken, Keeps, IsLawful}
use Rattle.jxl_modular.specs.Types.DecoderError.TheVariants.{UnexpectedEof, OutOfMemory}
use Rattle.check_examples.specs.Bytewise.{bytewise}

same : (s : List ℕ) → Keeps bytewise s s
same s = record { clusters = refl; single = λ c within. refl; rle = refl }

-- a read that returned a token left the state
kept : (s : List ℕ) (cut : Bool) (x y : Taken ℕ (List ℕ)) → y.state ≡ s → cond cut (Err UnexpectedEof) (Ok y) ≡ Ok x → x.state ≡ s
kept s true x y e h = cc
kept s false x y e h = let g : x ≡ y = cc in rw g e

refused : (cut : Bool) (y : Taken ℕ (List ℕ)) → cond cut (Err UnexpectedEof) (Ok y) ≢ Err OutOfMemory
refused true y = λ h. cc
refused false y = λ h. cc

pub bytewise_lawful : IsLawful bytewise
bytewise_lawful = record {
  parse_clusters = λ bytes p n x h. let e : x.value ≡ replicate n 0 = cc in rw e (length-replicate n 0);
  begin_keeps = λ s bytes p x h. let e : x.value ≡ s = cc in rw e (same s);
  read_keeps = λ s bytes p c m x within h. rw (kept s (nat_lt (8 * length bytes) (p + 8)) x _ refl h) (same s);
  next_keeps = λ s r owes. same s;
  single_read = λ s bytes p c m v within h. cc;
  begin_owes = λ s bytes p x r h. (refl, refl);
  read_last = λ s bytes p c m x within r h. cc;
  owed_read = λ s bytes p c m within r owes. cc;
  owed_next = λ s r owes. cc;
  rle_finalize = λ s r. refl;
  rle_single = λ s c within r. refl;
  begin_memory = λ s bytes p h. cc;
  read_memory = λ s bytes p c m within. refused (nat_lt (8 * length bytes) (p + 8)) _;
  finalize_memory = λ s h. cc;
}
