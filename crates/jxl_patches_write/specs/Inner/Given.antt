-- What tokens give a reader: the value of a grammar of tokens, whatever state it is in.
use Rattle.std.specs.Prelude.{◌≡◌, ℕ, ◌+◌, ◌-◌, ◌*◌, ◌<◌, ◌≤◌, nat_le, nat_lt, codes, List, [], ◌++◌, length, map, get_or, replicate, Option, Some, Ok}
use Rattle.std.specs.List.{All}
use Rattle.jxlm_bits.specs.Decoding.{Asked, reads}
use Rattle.jxlm_bits.specs.Tokens.{Tokens, token}
use Rattle.jxlm_bits.specs.Turns.{◌>>=◌, chain}
use Rattle.jxlm_bit_writer.specs.declared.token.Token.{Token}
use Rattle.jxl_coding.specs.Parse.{decoder_at}
use Rattle.jxl_coding.specs.Tokens.{Entropy, entropy}
use Rattle.jxl_image_header.specs.Fields.{number_meant}
use Rattle.jxl_image_header.specs.declared.size.Size.{Size}
use Rattle.jxl_patches.specs.Patches.{Patches, coordinate_of, nowhere, most_rectangles, one_place, one_rectangle}
use Rattle.jxl_patches.specs.declared.dictionary.Place.{Place}
use Rattle.jxl_patches.specs.declared.dictionary.PatchMode.TheVariants.{Add}
use Rattle.jxl_patches.specs.declared.dictionary.Rectangle.{Rectangle}
use Rattle.jxl_patches_write.specs.Written.{HaveRoom}
use Rattle.jxl_patches_write.specs.Inner.Tokens.{clusters_in, place_tokens}

-- each token is in one of the seven clusters
abbrev pub AreInClusters : List Token → Type 0
AreInClusters tokens = All (λ (t : Token). t.cluster < 7) tokens

-- the new tokens are the old ones and others, of which this holds
pub record AddsTokens (old new : List Token) (Holds : List Token → Type 0) : Type 0 where
  pub more : List Token
  pub added : new ≡ old ++ more
  pub clusters : AreInClusters more
  pub holds : Holds more

-- a token is asked for
abbrev pub asked_of : Token → Asked
asked_of t = record { cluster = t.cluster; multiplier = 0 }

abbrev pub value_of : Token → ℕ
value_of t = t.value

-- A decoder with these clusters that reads these tokens gives the grammar this value, and keeps the clusters.
pub record Give {X : Type 0} (grammar : Tokens Entropy X) (tokens : List Token) (x : X) : Type 0 where
  pub read : (s t : Entropy) (bytes : List ℕ) (p q : ℕ) → s.codes.clusters ≡ clusters_in →
      reads (entropy decoder_at) s bytes p (map asked_of tokens) ≡ Ok (record { value = map value_of tokens; state = t; position = q }) →
      (grammar s).read bytes p ≡ Ok (record { value = record { value = x; state = t }; position = q })
  pub keeps : (s t : Entropy) (bytes : List ℕ) (p q : ℕ) → s.codes.clusters ≡ clusters_in →
      reads (entropy decoder_at) s bytes p (map asked_of tokens) ≡ Ok (record { value = map value_of tokens; state = t; position = q }) → t.codes.clusters ≡ clusters_in

-- Tokens give n steps of a chain, from one value to another: with those of the steps after them they give all.
abbrev pub GiveSteps : {X : Type 0} → (X → Tokens Entropy X) → ℕ → X → List Token → X → Type 0
GiveSteps {X} step n x tokens y = (m : ℕ) (others : List Token) (z : X) → Give (chain step m y) others z → Give (chain step (n + m) x) (tokens ++ others) z

-- places of one rectangle
abbrev pub HaveSource : List Place → Type 0
HaveSource places = (k : ℕ) → k < length places → (get_or places k nowhere).source ≡ (get_or places 0 nowhere).source

-- Tokens give place n of a run: each coordinate by one, from that of the place before on, and this number of modes.
pub record IsNthPlace (run : List Place) (n kinds : ℕ) (tokens : List Token) : Type 0 where
  pub x : ℕ
  pub y : ℕ
  pub column : coordinate_of (nat_lt 0 n) (get_or run (n - 1) nowhere).x x ≡ Some (get_or run n nowhere).x
  pub row : coordinate_of (nat_lt 0 n) (get_or run (n - 1) nowhere).y y ≡ Some (get_or run n nowhere).y
  pub are : tokens ≡ place_tokens (nat_lt 0 n) x y kinds

-- patches, and after them others of one rectangle at these places, all of which are added
abbrev pub with_places : ℕ → Patches → List Place → Patches
with_places kinds a places = record { places = a.places ++ places; modes = a.modes ++ replicate (length places * kinds) Add }

-- places lie in a frame of this size
abbrev pub LieIn : Size → List Place → Type 0
LieIn size places = (k : ℕ) → k < length places → ((get_or places k nowhere).x + (get_or places k nowhere).source.width ≤ size.width)
    × ((get_or places k nowhere).y + (get_or places k nowhere).source.height ≤ size.height)

-- tokens give n places of a rectangle, after any patches
abbrev pub GivePlaces : ℕ → Rectangle → ℕ → List Place → List Token → Type 0
GivePlaces kinds r n places tokens = (size : Size) (a : Patches) → LieIn size places →
    GiveSteps (one_place (entropy decoder_at) size kinds (length a.places) r) n a tokens (with_places kinds a places)

-- no patches
abbrev pub no_patches : Patches
no_patches = record { places = []; modes = [] }

-- patches at these places, with this number of modes each
abbrev pub sums : ℕ → List Place → Patches
sums kinds places = record { places = places; modes = replicate (length places * kinds) Add }

-- Tokens give a rectangle and its places, wherever they are among all, for which there is room.
abbrev pub GiveRectangle : ℕ → List Place → List Token → Type 0
GiveRectangle kinds run tokens = (extra : ℕ) (size : Size) (slots : List (Option Size)) (limit : ℕ) (before others : List Place) → kinds ≡ 1 + extra →
    HaveRoom size extra slots limit (sums kinds (before ++ (run ++ others))) →
    Give (one_rectangle (entropy decoder_at) size kinds slots limit (sums kinds before)) tokens (sums kinds (before ++ run))

-- tokens give n rectangles, whose places are these of all
abbrev pub GiveRectangles : ℕ → ℕ → List Place → List Place → List Token → Type 0
GiveRectangles kinds n places all tokens = (extra : ℕ) (size : Size) (slots : List (Option Size)) (limit : ℕ) → kinds ≡ 1 + extra →
    HaveRoom size extra slots limit (sums kinds all) →
    GiveSteps (one_rectangle (entropy decoder_at) size kinds slots limit) n no_patches tokens (sums kinds places)

-- rectangles, and before them how many there are
abbrev pub counted : Size → ℕ → List (Option Size) → ℕ → Tokens Entropy Patches
counted size kinds slots limit = token (entropy decoder_at) 0 (λ v. number_meant (codes "count of patches") (nat_le v (most_rectangles size)) v) >>= λ n.
    chain (one_rectangle (entropy decoder_at) size kinds slots limit) n no_patches

-- tokens give the rectangles of these places
abbrev pub GiveAll : ℕ → List Place → List Token → Type 0
GiveAll kinds places tokens = (extra : ℕ) (size : Size) (slots : List (Option Size)) (limit : ℕ) → kinds ≡ 1 + extra →
    HaveRoom size extra slots limit (sums kinds places) → Give (counted size kinds slots limit) tokens (sums kinds places)
