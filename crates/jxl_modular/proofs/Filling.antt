-- Decoding all samples of an image that was read, and undoing its transforms: what comes of it, from what comes of
-- the two.
use Rattle.std.proofs.Common.{◌≡◌, ℕ, ◌*◌, ◌≤◌, List, length, Ok, Err, inl, inr, Bool, false, refl, ap, subst, arith, ◌∙◌, ℤ}
use Rattle.std.proofs.Math.Nat.{mul-le-mul_right}
use Rattle.std.specs.Int.{Width}
use Rattle.std.specs.Prelude.{Result}
use Rattle.std.specs.Result.{OnOk}
use Rattle.jxlm_bits.specs.Decoding.{Meaning}
use Rattle.jxlm_bits.specs.ErrorKind.{UnlessMemory, kind_of}
use Rattle.jxlm_base.specs.Grid.{Grid}
use Rattle.jxlm_bits.specs.declared.decoder.DecoderError.{DecoderError}
use Rattle.jxlm_bits.specs.declared.decoder.DecoderError.TheVariants.{UnexpectedEof, Invalid, OutOfMemory}
use Rattle.jxlm_bits.specs.declared.error.Error.{Error}
use Rattle.jxlm_bits.specs.declared.error.Error.TheVariants as errors
use Rattle.jxlm_chain.specs.Chain as chain
use Rattle.jxlm_transform.specs.Channels.{Channel}
use Rattle.jxlm_transform.specs.ChannelSteps.{Step}
use Rattle.jxlm_samples.specs.Coded.{DecodingFails, IsCodedWhole}
use Rattle.jxlm_samples.specs.Decode.{DecodeGives, Standing, Fails, MovesWithin}
use Rattle.jxl_modular.specs.Inner.Filled.{IsFilled, FillFails, samples_in, whole_part}
use Rattle.jxl_modular.specs.Image.{Image, IsOnlyImage, coded_grids, cost_of, image_grids}
use Rattle.jxlm_samples.specs.Part.{Part, cell_count}
use Rattle.jxl_modular.specs.SameButCells.{SameButCells}
use Rattle.jxl_modular.specs.Inner.Laid.{IsLaidOut}
use Rattle.jxl_modular.specs.Parts.{FrontGives}
use Rattle.jxl_modular.proofs.PartLaws.{WholeGives, whole_gives}

-- no more reads are tried than there are samples
tried_within : {D : Type 0} (d : Meaning D) (w : Width) (part : Part) (bytes : List ℕ) (decoder : D) (old new : Standing) (e : DecoderError) (tried : ℕ) → Fails d w part bytes decoder old new e tried → tried ≤ cell_count part.channels
tried_within d w part bytes decoder old new e tried h = elim h.1 [
  | inl begin ↦ let t = begin.tries in omega (arith, t)
  | inr later ↦ elim later.fails.error [
    | inl read ↦ let n = read.0 in let t = read.1 in omega (arith, t, n)
    | inr end ↦ let n = end.0 in let t = end.1 in omega (arith, t, n)
  ]
]

-- that no grid is left to be seen does not change that decoding fails
fails_so : {D : Type 0} (d : Meaning D) (w : Width) (part : Part) (bytes : List ℕ) (decoder : D) (old new : Standing) (e : DecoderError) (tried : ℕ) → Fails d w part bytes decoder old new e tried →
    DecodingFails d w part bytes decoder old.position e new.position tried
fails_so d w part bytes decoder old new e tried h = elim h.1 [
  | inl begin ↦ (h.0, inl (begin.error, ap (λ (s : Standing). s.position) begin.unchanged, begin.tries))
  | inr later ↦ (h.0, inr (later.count, new.grids, later.fails))
]

-- the only image of the same steps and channels
pub only_of : {S D : Type 0} (w : Width) (old new : Image S D) (grids samples : List (Grid ℤ)) → new.bit_depth ≡ old.bit_depth → new.steps ≡ old.steps → new.given ≡ old.given → IsOnlyImage w new grids samples → IsOnlyImage w old grids samples
only_of w old new grids samples deep steps given h =
    subst (λ (k : ℕ). chain.IsOnlyImage w k old.steps (record { channels = old.given; nb_meta = 0 }) grids samples) deep
    (subst (λ (ss : List Step). chain.IsOnlyImage w new.bit_depth ss (record { channels = old.given; nb_meta = 0 }) grids samples) steps
    (subst (λ (cs : List Channel). chain.IsOnlyImage w new.bit_depth new.steps (record { channels = cs; nb_meta = 0 }) grids samples) given h))

-- what follows from two facts of an Ok
both_ok : {T E : Type 0} (r : Result T E) (P Q R : Type 0) → OnOk r P → OnOk r Q → (P → Q → R) → OnOk r R
both_ok (Ok x) P Q R p q f = f p q
both_ok (Err e) P Q R p q f = tt

-- nor where decoding returns anything else
answers_within : {D : Type 0} (d : Meaning D) (w : Width) (part : Part) (bytes : List ℕ) (decoder : D) (old new : Standing) (allow : Bool) (result : Result (Unit {0}) Error) (tried : ℕ) →
    DecodeGives d w part bytes decoder old new allow result tried → tried ≤ cell_count part.channels
answers_within d w part bytes decoder old new allow (Ok u) tried h = elim h [
  | inl whole ↦ let t = whole.tries in omega (arith, t)
  | inr cut ↦ tried_within d w part bytes decoder old new UnexpectedEof tried cut.1
]
answers_within d w part bytes decoder old new allow (Err (errors.Decoder UnexpectedEof)) tried h = tried_within d w part bytes decoder old new UnexpectedEof tried h.1
answers_within d w part bytes decoder old new allow (Err (errors.Decoder (Invalid k))) tried h = tried_within d w part bytes decoder old new (Invalid k) tried h
answers_within d w part bytes decoder old new allow (Err (errors.Decoder OutOfMemory)) tried h = let t = h.tries in omega (arith, t)
answers_within d w part bytes decoder old new allow (Err (errors.Buffer m)) tried h = let t = h.tries in omega (arith, t)
answers_within d w part bytes decoder old new allow (Err errors.InvalidMaTree) tried h = absurd h
answers_within d w part bytes decoder old new allow (Err errors.GlobalMaTreeNotAvailable) tried h = absurd h
answers_within d w part bytes decoder old new allow (Err errors.InvalidRctParams) tried h = absurd h
answers_within d w part bytes decoder old new allow (Err errors.InvalidPaletteParams) tried h = absurd h
answers_within d w part bytes decoder old new allow (Err errors.InvalidSqueezeParams) tried h = absurd h
answers_within d w part bytes decoder old new allow (Err (errors.Bitstream b)) tried h = absurd h

module _ {S D : Type 0} (d : Meaning D) (w : Width) (to_int : S → ℤ) (bytes : List ℕ) (stream : ℕ) (old : Image S D) (p : ℕ) (partial : Bool) (before : ℕ)
    (mid : Image S D) (q : ℕ) (still : Bool) (after n : ℕ) (is : n ≡ length old.channels) (laid : IsLaidOut old) where
  abbrev Gives : Result (Unit {0}) Error → Type 0
  Gives r = FrontGives d w to_int bytes stream n old p partial before mid q still after false r

  whole : (r : Result (Unit {0}) Error) → Gives r → WholeGives d w to_int bytes stream old p partial before mid q still after false r
  whole r h = whole_gives d w to_int bytes stream old p partial before mid q still after false r n is laid h

  -- no more steps were taken than for all samples
  pub work_within : (r : Result (Unit {0}) Error) → Gives r → MovesWithin before after (samples_in old * cost_of old)
  work_within r g =
      let h = whole r g in
      let tried = answers_within d w (whole_part old stream) bytes old.config.decoder _ _ false r h.0 h.1 in
      let most = mul-le-mul_right (cost_of old) tried in
      let cost = h.2.1 in
      (h.2.0, omega (arith, cost, most))

  -- decoding fails
  not_filled_so : (e : Error) → WholeGives d w to_int bytes stream old p partial before mid q still after false (Err e) → UnlessMemory (kind_of e) (FillFails d w to_int bytes stream old p (kind_of e) q before after)
  not_filled_so errors.InvalidMaTree h = absurd h.1
  not_filled_so errors.GlobalMaTreeNotAvailable h = absurd h.1
  not_filled_so errors.InvalidRctParams h = absurd h.1
  not_filled_so errors.InvalidPaletteParams h = absurd h.1
  not_filled_so errors.InvalidSqueezeParams h = absurd h.1
  not_filled_so (errors.Bitstream b) h = absurd h.1
  not_filled_so (errors.Decoder UnexpectedEof) h = record { cause = UnexpectedEof; tried = h.0; fails = fails_so d w (whole_part old stream) bytes old.config.decoder _ _ UnexpectedEof h.0 h.1.1; cause_is = refl; steps = h.2.1 }
  not_filled_so (errors.Decoder (Invalid k)) h = record { cause = Invalid k; tried = h.0; fails = fails_so d w (whole_part old stream) bytes old.config.decoder _ _ (Invalid k) h.0 h.1; cause_is = refl; steps = h.2.1 }
  not_filled_so (errors.Decoder OutOfMemory) h = tt
  not_filled_so (errors.Buffer m) h = tt

  pub not_filled : (e : Error) → Gives (Err e) → UnlessMemory (kind_of e) (FillFails d w to_int bytes stream old p (kind_of e) q before after)
  not_filled e g = not_filled_so e (whole (Err e) g)

  -- all samples were decoded
  coded_whole : Gives (Ok tt) → SameButCells old mid → IsCodedWhole d w (whole_part old stream) bytes old.config.decoder p (coded_grids to_int mid) q
  coded_whole h kept = elim (whole (Ok tt) h).1 [
    | inl all ↦ rw (ap (λ (z : Image S D). z.coded) kept.rest) all.coded
    | inr cut ↦ (let no = cut.0 in cc)
  ]

  filled : (new : Image S D) → Gives (Ok tt) → SameButCells old mid → IsOnlyImage w new (image_grids to_int new) (coded_grids to_int mid) → SameButCells mid new →
      IsFilled d w to_int bytes stream old p new q
  filled new h kept only same = record {
    samples = coded_grids to_int mid;
    coded = coded_whole h kept;
    only = only_of w old new (image_grids to_int new) (coded_grids to_int mid) ((ap (λ (z : Image S D). z.bit_depth) same.rest) ∙ (ap (λ (z : Image S D). z.bit_depth) kept.rest)) ((ap (λ (z : Image S D). z.steps) same.rest) ∙ (ap (λ (z : Image S D). z.steps) kept.rest)) ((ap (λ (z : Image S D). z.given) same.rest) ∙ (ap (λ (z : Image S D). z.given) kept.rest)) only;
  }

  -- and their transforms are undone
  pub filled_then : {T E : Type 0} (r : Result T E) (new : Image S D) → Gives (Ok tt) → SameButCells old mid → OnOk r (IsOnlyImage w new (image_grids to_int new) (coded_grids to_int mid)) →
      OnOk r (SameButCells mid new) → OnOk r (IsFilled d w to_int bytes stream old p new q)
  filled_then r new h kept only same = both_ok r _ _ _ only same (λ o s. filled new h kept o s)
