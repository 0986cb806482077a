-- Headers of files whose palettes have no differences: what they come to.
use Rattle.std.proofs.Common.{◌≡◌, ℕ, zero, suc, ◌≤◌, Bool, true, false, if◌then◌else◌, List, [], ◌∷◌, length, Some, Result, Ok, refl, sym, ap, ◌∙◌, subst}
use Rattle.std.specs.Prelude.{◌==◌, Any}
use Rattle.std.specs.List.{All}
use Rattle.std.proofs.lemmas.Bool.{le-ltb}
use Rattle.std.proofs.lemmas.List.Elements.{All-nil}
use Rattle.jxlm_bits.specs.Decoding.{Found}
use Rattle.jxlm_bits.specs.ErrorKind.{ErrorAt}
use Rattle.jxlm_bits.specs.Grammar.{flag, repeated}
use Rattle.jxlm_bits.proofs.GrammarLaws.{exact-flag}
use Rattle.jxlm_header.specs.Header.{Header, file_header, header_by}
use Rattle.jxlm_header.specs.Opening.{opening, opening_of, resolve}
use Rattle.jxlm_header.proofs.HeaderLaws.{exact-header, exact-opening}
use Rattle.jxlm_predictor.specs.declared.predictor.Predictor.TheVariants.{SelfCorrecting, West, Zero}
use Rattle.jxlm_nested.specs.Starts.{opening_at}
use Rattle.jxlm_transform.specs.Channels.{ChannelList, tables_for}
use Rattle.jxlm_transform.specs.ChannelSteps.{CodedList, coded_list}
use Rattle.jxlm_transform.specs.Transforms.{Transform, OfPalette, transform_by}
use Rattle.jxlm_transform.specs.declared.param.PaletteTables.{PaletteTables}
use Rattle.jxlm_transform.specs.declared.param.PaletteTables.TheVariants.{OfDeltasToo}
use Rattle.jxlm_transform.specs.declared.transform.Palette.{Palette}
use Rattle.jxlm_tree.specs.Tree.{Config}
use Rattle.jxlm_weighted.specs.WeightsHeader.{default_weights}
use Rattle.jxlm_weighted.specs.declared.weights.WpHeader.{WpHeader}
use Rattle.jxl_encode_image.specs.Preparations.{IsPlainPalette, IsSpelled}
use Rattle.jxl_lossless.specs.Codewords.{UsesGlobalAt}
use Rattle.jxl_lossless.specs.Stills.{IsWeightedAt}

-- ---- without transforms the tables of palettes do not matter

nil_cons : {X : Type 0} (x : X) (xs : List X) → ◌≡◌ {A = List X} [] (x ∷ xs) → ⊥
nil_cons x xs e = cc

none_any : (a b : PaletteTables) (weights : WpHeader) (n : ℕ) (bytes : List ℕ) (p q : ℕ) → (repeated n (transform_by a weights)).Stands bytes p [] q → (repeated n (transform_by b weights)).Stands bytes p [] q
none_any a b weights zero bytes p q s = s
none_any a b weights (suc n) bytes p q s =
    let (t, m, first, rest) = s in
    let (us, r, others, last) = rest in
    absurd (nil_cons t us last.0)

-- ---- what such a header comes to

same_found : (x y : Found Header) → ◌≡◌ {A = Result (Found Header) ErrorAt} (Ok x) (Ok y) → x ≡ y
same_found x y e = cc

-- a header that uses the frame's tree, or has one of its own, with the default weights and these transforms
abbrev pub plain_header : Bool → List Transform → Header
plain_header shared ts = record { use_global_tree = shared; wp_params = default_weights; transform = ts }

any_tables : (a b : PaletteTables) (bytes : List ℕ) (p : ℕ) (shared : Bool) (q : ℕ) → (header_by a).Stands bytes p (plain_header shared []) q → (header_by b).Stands bytes p (plain_header shared []) q
any_tables a b bytes p shared q s =
    let (global, i, first, after_flag) = s in
    let (weights, j, second, after_weights) = after_flag in
    let (count, k, third, rest) = after_weights in
    let (ts, m, fourth, last) = rest in
    let none : ts ≡ [] = sym (ap (λ (h : Header). h.transform) last.0) in
    let fifth : (repeated count (transform_by b weights)).Stands bytes k ts m =
    subst (λ (us : List Transform). (repeated count (transform_by b weights)).Stands bytes k us m) (sym none)
    (none_any a b weights count bytes k m (subst (λ (us : List Transform). (repeated count (transform_by a weights)).Stands bytes k us m) none fourth)) in
    (global, i, first, (weights, j, second, (count, k, third, (ts, m, fifth, last))))

module _ (ts : List Transform) (given : ChannelList) (coded : CodedList) (come : coded_list ts given ≡ Ok coded) (count : length coded.list.channels ≤ 65536) where
  resolves : (shared : Bool) → resolve true given (plain_header shared ts) ≡ Ok (opening_of (plain_header shared ts) coded)
  resolves true = rw (come, le-ltb 65536 (length coded.list.channels) count) refl
  resolves false = rw (come, le-ltb 65536 (length coded.list.channels) count) refl

module _ (shared : Bool) (ts : List Transform) (written : All IsSpelled ts) (bytes : List ℕ) (p q : ℕ) (stands : file_header.Stands bytes p (plain_header shared ts) q) where
  -- none of its palettes is of the weighted predictor
  other_predictor : (one : Bool) → (if one then West else Zero) ≡ SelfCorrecting → ⊥
  other_predictor true e = cc
  other_predictor false e = cc

  pub not_weighted : ¬ (IsWeightedAt bytes p)
  not_weighted h =
      let (found, read, palette, some, weighted) = h in
      let own : Found Header = record { value = plain_header shared ts; position = q } in
      let is : own ≡ found = same_found own found (sym ((exact-header OfDeltasToo).stands_read bytes p (plain_header shared ts) q stands) ∙ read) in
      let (k, t, lt, at, same) = subst (λ (f : Found Header). Any (λ t. t ≡ OfPalette palette) f.value.transform) (sym is) some in
      let own : IsPlainPalette palette = subst IsSpelled (at ∙ same) (written k t lt) in
      other_predictor (palette.num_c == 1) (sym (ap (λ (u : Palette). u.d_pred) own.is) ∙ weighted)

  -- its first field says which tree it uses
  flag_is : (i : ℕ) × (flag.read bytes p ≡ Ok (record { value = shared; position = i }))
  flag_is =
      let (global, i, first, after_flag) = stands in
      let (weights, j, second, after_weights) = after_flag in
      let (count, k, third, after_count) = after_weights in
      let (list, m, fourth, last) = after_count in
      let is : global ≡ shared = sym (ap (λ (h : Header). h.use_global_tree) last.0) in
      (i, subst (λ (b : Bool). flag.read bytes p ≡ Ok (record { value = b; position = i })) is (exact-flag.stands_read bytes p global i first))

  module _ (given : ChannelList) (coded : CodedList) (there : (header_by (tables_for given.channels)).Stands bytes p (plain_header shared ts) q) where
    opens_by : (has_global : Bool) → resolve has_global given (plain_header shared ts) ≡ Ok (opening_of (plain_header shared ts) coded) →
        (opening has_global given).read bytes p ≡ Ok (record { value = opening_of (plain_header shared ts) coded; position = q })
    opens_by has_global comes =
        let whole : (opening has_global given).Stands bytes p (opening_of (plain_header shared ts) coded) q = (plain_header shared ts, q, there, rw comes (refl, refl)) in
        (exact-opening has_global given).stands_read bytes p (opening_of (plain_header shared ts) coded) q whole

    -- it comes to the coded channels
    comes_to : coded_list ts given ≡ Ok coded → length coded.list.channels ≤ 65536 → {D : Type 0} (config : Config D) →
        opening_at (Some config) bytes given p ≡ Ok (record { value = opening_of (plain_header shared ts) coded; position = q })
    comes_to come count config = opens_by true (resolves ts given coded come count shared)

  -- where channels have the tables of files
  pub opens : (given : ChannelList) (coded : CodedList) → tables_for given.channels ≡ OfDeltasToo → coded_list ts given ≡ Ok coded → length coded.list.channels ≤ 65536 → {D : Type 0} (config : Config D) →
      opening_at (Some config) bytes given p ≡ Ok (record { value = opening_of (plain_header shared ts) coded; position = q })
  opens given coded files = comes_to given coded (subst (λ (tables : PaletteTables). (header_by tables).Stands bytes p (plain_header shared ts) q) (sym files) stands)

-- and without transforms whatever tables they have
pub opens_any : (shared : Bool) (bytes : List ℕ) (p q : ℕ) → file_header.Stands bytes p (plain_header shared []) q → (given : ChannelList) (coded : CodedList) →
    coded_list [] given ≡ Ok coded → length coded.list.channels ≤ 65536 → {D : Type 0} (config : Config D) →
    opening_at (Some config) bytes given p ≡ Ok (record { value = opening_of (plain_header shared []) coded; position = q })
opens_any shared bytes p q stands given coded =
    comes_to shared [] (All-nil IsSpelled) bytes p q stands given coded (any_tables OfDeltasToo (tables_for given.channels) bytes p shared q stands)

-- one that uses the frame's tree
pub uses_global : (ts : List Transform) (written : All IsSpelled ts) (bytes : List ℕ) (p q : ℕ) → file_header.Stands bytes p (plain_header true ts) q → UsesGlobalAt bytes p
uses_global ts written bytes p q stands = flag_is true ts written bytes p q stands
