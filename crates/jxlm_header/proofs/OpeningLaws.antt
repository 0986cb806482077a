-- What is returned before a tree, from what its steps return.
use Rattle.std.proofs.Common.{◌≡◌, ℕ, ◌≤◌, Bool, true, false, List, length, Some, Result, Ok, Err, refl, sym, ap, ◌∙◌}
use Rattle.std.specs.Prelude.{codes, nat_lt, not, ◌&&◌, if◌then◌else◌}
use Rattle.std.proofs.lemmas.Bool.{ltb-false}
use Rattle.jxlm_bits.specs.ErrorKind.{ErrorKind, BadProfile, NoGlobalTree, UnlessNoMemory}
use Rattle.jxlm_bits.specs.Grammar.{IsErrorAt, from_result}
use Rattle.jxlm_transform.specs.Channels.{ChannelList, tables_for}
use Rattle.jxlm_transform.specs.ChannelSteps.{CodedList, coded_list}
use Rattle.jxlm_transform.specs.Transforms.{Transform, OfRct, OfPalette, OfSqueeze, HasChannels, IsTransform}
use Rattle.std.specs.List.{All}
use Rattle.std.proofs.lemmas.List.Elements.{All-weaker}
use Rattle.jxlm_transform.proofs.Failures.{unless_so}
use Rattle.jxlm_header.specs.Header.{Header, header_by}
use Rattle.jxlm_header.specs.Opening.{Opening, conditions, resolve, opening, opening_of}

-- palettes that were read have channels
has_channels : (t : Transform) → IsTransform t → HasChannels t
has_channels (OfRct t) is = tt
has_channels (OfPalette t) is = is.some_channels
has_channels (OfSqueeze steps) is = tt

pub have_channels : (ts : List Transform) → All IsTransform ts → All HasChannels ts
have_channels ts are = All-weaker IsTransform HasChannels has_channels ts are

abbrev first_of_two : Bool → Bool → ErrorKind → ErrorKind → Result (Unit {0}) ErrorKind
first_of_two a b e f = if a then Err e else if b then Err f else Ok tt

first_not : (a b : Bool) (e f : ErrorKind) → first_of_two a b e f ≡ Ok tt → a ≡ false
first_not true b e f h = cc
first_not false b e f h = refl

second_not : (a b : Bool) (e f : ErrorKind) → first_of_two a b e f ≡ Ok tt → b ≡ false
second_not true b e f h = cc
second_not false true e f h = cc
second_not false false e f h = refl

there_if_used : (used there : Bool) → (used && not there) ≡ false → used ≡ true → there ≡ true
there_if_used used true h k = refl
there_if_used true false h k = cc
there_if_used false false h k = cc

module _ (has_global : Bool) (list : ChannelList) where
  -- where they hold, a global tree that is used is there
  pub global_there : (h : Header) → conditions has_global h list ≡ Ok tt → h.use_global_tree ≡ true → has_global ≡ true
  global_there h holds used =
      there_if_used h.use_global_tree has_global
      (second_not (nat_lt 65536 (length list.channels)) (h.use_global_tree && not has_global) (BadProfile (codes "nb_channels_tr too large")) NoGlobalTree holds) used

  -- the conditions look at the flag of the global tree alone
  pub conditions_alike : (h k : Header) → h.use_global_tree ≡ k.use_global_tree → conditions has_global h list ≡ conditions has_global k list
  conditions_alike h k flags = rw flags refl

  -- where they hold, the channels are not too many
  pub few_channels : (h : Header) → conditions has_global h list ≡ Ok tt → length list.channels ≤ 65536
  few_channels h holds =
      ltb-false 65536 (length list.channels) (first_not (nat_lt 65536 (length list.channels)) (h.use_global_tree && not has_global) (BadProfile (codes "nb_channels_tr too large")) NoGlobalTree holds)

module _ (has_global : Bool) (list : ChannelList) (bytes : List ℕ) (p : ℕ) where
  -- where the header gives an error, so does all
  pub header_fails : (error : ErrorKind) (q : ℕ) → UnlessNoMemory error (IsErrorAt ((header_by (tables_for list.channels)).read bytes p) error q) → UnlessNoMemory error (IsErrorAt ((opening has_global list).read bytes p) error q)
  header_fails error q refused =
      unless_so error (IsErrorAt ((header_by (tables_for list.channels)).read bytes p) error q) (IsErrorAt ((opening has_global list).read bytes p) error q)
      (λ r. record { place = r.place; refuses = rw r.refuses refl; stands = r.stands }) refused

  module _ (h : Header) (m : ℕ) (reads : (header_by (tables_for list.channels)).read bytes p ≡ Ok (record { value = h; position = m })) where
    reads_on : (opening has_global list).read bytes p ≡ (from_result (resolve has_global list h)).read bytes m
    reads_on = rw reads refl

    fails_after : (error : ErrorKind) → resolve has_global list h ≡ Err error → IsErrorAt ((opening has_global list).read bytes p) error m
    fails_after error e = record { place = Some m; refuses = reads_on ∙ ap (λ (r : Result Opening ErrorKind). (from_result r).read bytes m) e; stands = refl }

    -- so it is where a transform does
    pub transforms_fail : (error : ErrorKind) → UnlessNoMemory error (coded_list h.transform list ≡ Err error) → UnlessNoMemory error (IsErrorAt ((opening has_global list).read bytes p) error m)
    transforms_fail error refused =
        unless_so error (coded_list h.transform list ≡ Err error) (IsErrorAt ((opening has_global list).read bytes p) error m)
        (λ e. fails_after error (rw e refl)) refused

    module _ (coded : CodedList) (found : coded_list h.transform list ≡ Ok coded) where
      -- and where a condition fails, by the header as its transforms list their steps
      pub condition_fails : (k : Header) (error : ErrorKind) → k.use_global_tree ≡ h.use_global_tree → conditions has_global k coded.list ≡ Err error →
          IsErrorAt ((opening has_global list).read bytes p) error m
      condition_fails k error flags fails =
          let here : conditions has_global h coded.list ≡ Err error = sym (conditions_alike has_global coded.list k h flags) ∙ fails in
          fails_after error (rw (found, here) refl)

      -- where all hold, it is opened
      pub is_opened : (k : Header) → k.use_global_tree ≡ h.use_global_tree → conditions has_global k coded.list ≡ Ok tt →
          (opening has_global list).read bytes p ≡ Ok (record { value = opening_of h coded; position = m })
      is_opened k flags holds =
          let here : conditions has_global h coded.list ≡ Ok tt = sym (conditions_alike has_global coded.list k h flags) ∙ holds in
          let all : resolve has_global list h ≡ Ok (opening_of h coded) = rw (found, here) refl in
          reads_on ∙ ap (λ (r : Result Opening ErrorKind). (from_result r).read bytes m) all
