-- A picture from its bits: reading and filling put together.
use Rattle.std.proofs.Common.{◌≡◌, ◌≢◌, ℕ, ◌*◌, ◌≤◌, List, [], ◌∷◌, sum_by, Some, None, Ok, Err, inl, inr, refl, sym, ap, subst, ℤ}
use Rattle.std.specs.Prelude.{Option}
use Rattle.std.specs.Option.{option_copied}
use Rattle.std.specs.Int.{Width}
use Rattle.jxlm_bits.specs.Decoding.{Meaning}
use Rattle.jxlm_bits.specs.ErrorKind.{ErrorKind, NoMemory, UnlessMemory, kind_of}
use Rattle.jxlm_base.specs.Grid.{Grid}
use Rattle.jxlm_bits.specs.declared.error.Error.{Error}
use Rattle.jxlm_chain.specs.Chain.{Chain}
use Rattle.jxlm_ma_tree.proofs.Memory.{unless_so}
use Rattle.jxlm_transform.specs.Channels.{AreGridsOf, Channel, ChannelList, area, image_list}
use Rattle.jxlm_transform.specs.ChannelSteps.{Step}
use Rattle.jxlm_transform.specs.declared.param.ModularChannelParams.{ModularChannelParams}
use Rattle.jxlm_transform.specs.declared.param.ModularParams.{ModularParams}
use Rattle.jxlm_samples.specs.Decode.{MovesWithin}
use Rattle.jxlm_tree.specs.Tree.{Config}
use Rattle.jxl_modular.specs.Inner.Filled.{IsFilled, FillFails, samples_in}
use Rattle.jxl_modular.specs.Fresh.{fresh}
use Rattle.jxl_modular.specs.Image.{Image, cost_of, image_grids}
use Rattle.jxl_modular.specs.Parsing.{ParseGives, IsImageAt, image_of}
use Rattle.jxl_modular.specs.Picture.{IsPicture, IsPictureRead, PictureFails, SamplesFail, StepsWithin}
use Rattle.jxl_modular.specs.declared.root.Modular.{Modular}

-- it was out of memory
pub no_memory : (error : ErrorKind) (P : Type 0) → error ≡ NoMemory → UnlessMemory error P
no_memory error P is = subst (λ (f : ErrorKind). UnlessMemory f P) (sym is) tt

-- an image that becomes others has its channels' sides
chain_sides : (w : Width) (bit_depth : ℕ) (steps : List Step) (given : ChannelList) (grids samples : List (Grid ℤ)) → Chain w bit_depth steps given grids samples → AreGridsOf given.channels grids
chain_sides w bit_depth [] given grids samples h = h.0
chain_sides w bit_depth (s ∷ steps) given grids samples h = h.0

pub picture_sides : {D : Type 0} (d : Meaning D) (w : Width) (global : Option (Config D)) (bytes : List ℕ) (stream : ℕ) (given : ChannelList) (p bit_depth : ℕ) (grids : List (Grid ℤ)) (q : ℕ) →
    IsPicture d w global bytes stream given p bit_depth grids q → AreGridsOf given.channels grids
picture_sides d w global bytes stream given p bit_depth grids q h = chain_sides w bit_depth h.head.coded.steps given grids h.samples h.only.chain

-- ---- what reading gives

module _ {S D : Type 0} (d : Meaning D) (z : S) (bytes : List ℕ) (p : ℕ) (params : ModularParams D) where
  same_image : (x y : Image S D) (o : Option (Image S D)) → o ≡ Some x → o ≡ Some y → x ≡ y
  same_image x y o h k = cc

  no_image : (x : Image S D) (o : Option (Image S D)) → o ≡ None → o ≡ Some x → ⊥
  no_image x o h k = cc

  not_empty : (c : ModularChannelParams) (cs : List ModularChannelParams) → c ∷ cs ≢ []
  not_empty c cs h = cc

  -- an error, where there are channels
  pub error_read : (list : List ModularChannelParams) (e : Error) (q : ℕ) → ParseGives d z bytes p params list (Err e) q → list ≢ []
  error_read [] e q h = absurd h
  error_read (c ∷ cs) e q h = not_empty c cs

  -- no image, where there are none
  pub none_read : (list : List ModularChannelParams) (m : Modular S D) (q : ℕ) → ParseGives d z bytes p params list (Ok m) q → image_of m ≡ None → (list ≡ []) × (q ≡ p)
  none_read [] m q h none = (refl, h.1)
  none_read (c ∷ cs) m q h none = absurd (no_image h.0 (image_of m) none h.1)

  -- else the image that the bits code
  pub image_read : (list : List ModularChannelParams) (m : Modular S D) (read : Image S D) (q : ℕ) → ParseGives d z bytes p params list (Ok m) q → image_of m ≡ Some read → (list ≢ []) × IsImageAt d z bytes p params read q
  image_read [] m read q h is = absurd (no_image read (image_of m) h.0 is)
  image_read (c ∷ cs) m read q h is = (not_empty c cs, subst (λ (x : Image S D). IsImageAt d z bytes p params x q) (same_image h.0 read (image_of m) h.1 is) h.2)

  -- an error of reading is one of the picture
  pub fails_read : (w : Width) (stream : ℕ) (list : List ModularChannelParams) (e : Error) (q before : ℕ) → ParseGives d z bytes p params list (Err e) q →
      PictureFails d w (option_copied params.ma_config) bytes stream (image_list params.channels.items) p (kind_of e) q before before
  fails_read w stream [] e q before h = absurd h
  fails_read w stream (c ∷ cs) e q before h = unless_so (kind_of e) (λ either. inl (either, refl)) h

-- ---- an image that was read, and then filled

module _ {S D : Type 0} (d : Meaning D) (w : Width) (to_int : S → ℤ) (bytes : List ℕ) (stream : ℕ) (z : S) (p : ℕ) (params : ModularParams D) (read : Image S D) (place : ℕ)
    (stands : IsImageAt d z bytes p params read place) where
  abbrev given : ChannelList
  given = image_list params.channels.items

  abbrev global : Option (Config D)
  global = option_copied params.ma_config

  abbrev coded : List Channel
  coded = stands.head.coded.list.channels

  -- the image before any sample is decoded
  abbrev begun : Image S D
  begun = fresh z given stands.head read.config params.group_dim params.bit_depth

  -- what holds of steps for its samples
  steps_for : (before after : ℕ) → MovesWithin before after (samples_in read * cost_of read) → MovesWithin before after (sum_by area coded * cost_of read)
  steps_for before after h =
      let same : samples_in read ≡ sum_by area coded = ap (λ (x : Image S D). samples_in x) stands.cells in
      subst (λ n. MovesWithin before after (n * cost_of read)) same h

  pub steps_within : (before after : ℕ) → MovesWithin before after (samples_in read * cost_of read) → StepsWithin d global bytes given p before after
  steps_within before after h = inr (stands.head, read.config, place, stands.start, steps_for before after h)

  abbrev picture_stands : (picture : Image S D) (q : ℕ) → IsFilled d w to_int bytes stream read place picture q → IsPicture d w global bytes stream given p params.bit_depth (image_grids to_int picture) q
  picture_stands picture q h =
      let f : IsFilled d w to_int bytes stream begun place picture q = subst (λ (x : Image S D). IsFilled d w to_int bytes stream x place picture q) stands.cells h in
      record {
        head = stands.head;
        config = read.config;
        samples_at = place;
        samples = f.samples;
        start = stands.start;
        coded = f.coded;
        only = f.only;
      }

  pub picture_read : (picture : Image S D) (q before after : ℕ) → IsFilled d w to_int bytes stream read place picture q → MovesWithin before after (samples_in read * cost_of read) →
      IsPictureRead d w global bytes stream given p params.bit_depth (image_grids to_int picture) q before after
  picture_read picture q before after h work = record { picture = picture_stands picture q h; steps = steps_for before after work }

  module _ (error : ErrorKind) (q before after : ℕ) (more : before ≤ after) where
    samples_fail : FillFails d w to_int bytes stream read place error q before after → SamplesFail d w global bytes stream given p error q before after
    samples_fail h =
        let f : FillFails d w to_int bytes stream begun place error q before after = subst (λ (x : Image S D). FillFails d w to_int bytes stream x place error q before after) stands.cells h in
        record {
          head = stands.head;
          config = read.config;
          samples_at = place;
          start = stands.start;
          cause = f.cause;
          tried = f.tried;
          fails = f.fails;
          cause_is = f.cause_is;
          steps = (more, f.steps);
        }

    -- an error of filling is one of the picture
    pub fails_filling : UnlessMemory error (FillFails d w to_int bytes stream read place error q before after) → PictureFails d w global bytes stream given p error q before after
    fails_filling h = unless_so error (λ f. inr (samples_fail f)) h
