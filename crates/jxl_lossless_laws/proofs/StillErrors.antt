-- Where the sections of a frame have an image, decoding them returns no error.
use Rattle.std.proofs.Common.{◌≡◌, ◌≢◌, ◌⊎◌, ◌∙◌, inl, inr, ℕ, zero, suc, ◌<◌, ◌≤◌, ℤ, Bool, true, false, List, [], ◌∷◌, ◌++◌, length, get_or, take, Option, Some, None, refl, sym, ap, subst, arith}
use Rattle.std.specs.Prelude.{IsFalse, MatchBool, sum}
use Rattle.std.specs.Int.{Width}
use Rattle.std.specs.List.{AllZip}
use Rattle.jxlm_bits.specs.Bits.{bytes_of, position_of}
use Rattle.jxlm_bits.specs.Decoding.{Meaning}
use Rattle.jxlm_bits.specs.ErrorKind.{ErrorKind, kind_of}
use Rattle.jxlm_base.specs.Grid.{Grid}
use Rattle.jxlm_groups.specs.Cutting.{can_cut}
use Rattle.jxlm_groups.specs.declared.part.SectionPart.{SectionPart}
use Rattle.jxlm_groups.specs.declared.part.SectionPart.TheVariants as parts
use Rattle.jxlm_groups.specs.declared.pass.Pass.{Pass}
use Rattle.jxlm_header.specs.Opening.{Opening}
use Rattle.jxlm_nested.specs.Starts.{Start, coded_part}
use Rattle.jxlm_samples.specs.Part.{Part, cell_count}
use Rattle.jxlm_transform.specs.Channels.{ChannelList}
use Rattle.jxlm_ma_tree.proofs.Memory.{unless_so}
use Rattle.jxlm_tree.specs.Tree.{Config, depth}
use Rattle.jxl_coding.specs.Parse.{decoder_at}
use Rattle.jxl_coding.specs.Tokens.{Entropy, entropy}
use Rattle.jxl_modular.specs.Groups.{channels_in, part_in}
use Rattle.jxl_modular.specs.Image.{Image}
use Rattle.jxl_modular.specs.Sections.{CodesWhole, list_in}
use Rattle.jxl_modular.specs.declared.sections.Section.{Section}
use Rattle.jxlm_encode_roundtrip.proofs.TwoPictures.{one_start}
use Rattle.jxlm_encode_roundtrip.proofs.WithoutErrors.{samples_without_error, start_without_error}
use Rattle.jxl_picture.specs.declared.limits.TreeLimits.{TreeLimits}
use Rattle.jxl_lossless.specs.Codewords.{HasCodewords, OwnTreeIs, codewords_of}
use Rattle.jxl_lossless.specs.Parts.{groups_in_order}
use Rattle.jxl_lossless.specs.Stills.{CanDecode, HasSections, HaveManyCodewords, HeaderFails, HeaderStands, IsDeepAt, IsShallowAt, IsStill, IsWeightedAt, OneIsDeep, PartFails, SectionFails, StillFails}
use Rattle.jxl_lossless.proofs.Codewords.{sum_first}
use Rattle.jxl_lossless.specs.declared.still.error.FrameError.{FrameError}
use Rattle.jxl_lossless.specs.declared.still.error.FrameError.TheVariants as errors
use Rattle.jxl_lossless_laws.proofs.OneStill.{CodesGroup, CodesImage, IsNested, codes_image, same_head, x_by}
use Rattle.jxl_lossless_laws.specs.Errors.{IsFrameMemory}

-- an element of a list by what comes before and after it
pub among : {X : Type 0} (xs ys : List X) (y : X) (zs : List X) → xs ≡ ys ++ y ∷ zs → (k : ℕ) × (k < length xs) × (get_or xs k y ≡ y)
among [] [] y zs e = cc
among [] (z ∷ ys) y zs e = cc
among (x ∷ xs) [] y zs e = (0, omega arith, cc)
among (x ∷ xs) (z ∷ ys) y zs e =
    let rest : xs ≡ ys ++ y ∷ zs = cc in
    let (k, lt, at) = among xs ys y zs rest in
    (suc k, omega (arith, lt), at)

-- a header is not read and has an error
header_of : (given : ChannelList) (bytes : List ℕ) (p : ℕ) (s : Start (entropy decoder_at) None bytes given p) (error : ErrorKind) → HeaderFails (entropy decoder_at) None given bytes p error → ⊥
header_of given bytes p s error (q, fails) = start_without_error (entropy decoder_at) None bytes given p s.head s.config s.samples_at s.start error q fails

-- the codes of a header's own tree have one number of codewords
one_tree : (given : ChannelList) (bytes : List ℕ) (p : ℕ) (t u : Option (Config Entropy)) → OwnTreeIs (entropy decoder_at) None given bytes p t → OwnTreeIs (entropy decoder_at) None given bytes p u → codewords_of t ≡ codewords_of u
one_tree given bytes p None None x y = refl
one_tree given bytes p None (Some b) (inl uses) y = absurd (y.0 uses)
one_tree given bytes p None (Some b) (inr (error, fails)) y = absurd (header_of given bytes p y.1.0 error fails)
one_tree given bytes p (Some a) None x (inl uses) = absurd (x.0 uses)
one_tree given bytes p (Some a) None x (inr (error, fails)) = absurd (header_of given bytes p x.1.0 error fails)
one_tree given bytes p (Some a) (Some b) x y =
    let s = x.1.0 in
    let t = y.1.0 in
    let same = one_start (entropy decoder_at) None bytes given p s.head t.head s.config t.config s.samples_at t.samples_at s.start t.start in
    let equal : a ≡ b = sym x.1.1 ∙ same.1 ∙ y.1.1 in
    ap (λ (c : Config Entropy). c.decoder.codes.alphabets) equal

one_codewords : (given : ChannelList) (bytes : List ℕ) (p m n : ℕ) → HasCodewords given bytes p m → HasCodewords given bytes p n → m ≡ n
one_codewords given bytes p m n (t, is, has) (u, also, other) = has ∙ one_tree given bytes p t u is also ∙ sym other

-- the first numbers of a list sum up to no more than all
first_most : (R : SectionPart → ℕ → Type 0) → ((x : SectionPart) (m n : ℕ) → R x m → R x n → m ≡ n) → (xs : List SectionPart) (k : ℕ) (ns ms : List ℕ) → AllZip R xs ns → AllZip R (take k xs) ms → sum ms ≤ sum ns
first_most R one xs zero ns [] a b = omega arith
first_most R one xs zero ns (m ∷ ms) a b = absurd b
first_most R one [] (suc k) ns [] a b = omega arith
first_most R one [] (suc k) ns (m ∷ ms) a b = absurd b
first_most R one (x ∷ xs) (suc k) [] ms a b = absurd a
first_most R one (x ∷ xs) (suc k) (n ∷ ns) [] a b = absurd b
first_most R one (x ∷ xs) (suc k) (n ∷ ns) (m ∷ ms) a b =
    let same = one x m n b.0 a.0 in
    let rest = first_most R one xs k ns ms a.1 b.1 in
    let first_sum = sum_first m ms in
    let all_sum = sum_first n ns in
    omega (arith, same, rest, first_sum, all_sum)

module _ {D : Type 0} (d : Meaning D) (w : Width) where
  part_well : (part : Part) (bytes : List ℕ) (decoder : D) (p : ℕ) (grids : List (Grid ℤ)) (n : ℕ) → CodesWhole d w part bytes decoder p grids n → (error : ErrorKind) → PartFails d w part bytes decoder p error → ⊥
  part_well part bytes decoder p grids n c error (e, q, tried, fails, is) = samples_without_error d w part bytes decoder p grids c.end c.coded e q tried fails

  module _ (global : Option (Config D)) where
    header_well : (given : ChannelList) (bytes : List ℕ) (p : ℕ) (s : Start d global bytes given p) (error : ErrorKind) → HeaderFails d global given bytes p error → ⊥
    header_well given bytes p s error (q, fails) = start_without_error d global bytes given p s.head s.config s.samples_at s.start error q fails

    -- a tree is not deep and shallow
    not_deep : (given : ChannelList) (deepest : ℕ) (bytes : List ℕ) (p : ℕ) → IsShallowAt d global given deepest bytes p → IsDeepAt d global given deepest bytes p → ⊥
    not_deep given deepest bytes p (inl global_used) (own_used, deep) = own_used global_used
    not_deep given deepest bytes p (inr (inl (other, low))) (own_used, (own, deep)) =
        let same = one_start d global bytes given p own.head other.head own.config other.config own.samples_at other.samples_at own.start other.start in
        let here : depth own.config.tree ≤ deepest = subst (λ (x : Config D). depth x.tree ≤ deepest) (sym same.1) low in
        absurd (omega (arith, here, deep))
    not_deep given deepest bytes p (inr (inr (error, fails))) (own_used, (own, deep)) = header_well given bytes p own error fails

    -- what decoding the section of a group returns
    abbrev NestedFails : ChannelList → List ℕ → ℕ → ErrorKind → Type 0
    NestedFails list bytes stream error = HeaderFails d global list bytes 0 error
        ⊎ ((own : Start d global bytes list 0) × PartFails d w (coded_part stream own.head own.config) bytes own.config.decoder own.samples_at error)

    nested_well : (bit_depth : ℕ) (list : ChannelList) (bytes : List ℕ) (stream : ℕ) (grids : List (Grid ℤ)) → IsNested d w global bit_depth list bytes stream grids → (error : ErrorKind) → NestedFails list bytes stream error → ⊥
    nested_well bit_depth list bytes stream grids c error (inl fails) = header_well list bytes 0 c.start error fails
    nested_well bit_depth list bytes stream grids c error (inr (own, fails)) =
        let s = c.start in
        let same = one_start d global bytes list 0 s.head own.head s.config own.config s.samples_at own.samples_at s.start own.start in
        let placed = subst (λ n. PartFails d w (coded_part stream own.head own.config) bytes own.config.decoder n error) (sym same.2) fails in
        let configured = subst (λ (x : Config D). PartFails d w (coded_part stream own.head x) bytes x.decoder s.samples_at error) (sym same.1) placed in
        let headed = subst (λ (h : Opening). PartFails d w (coded_part stream h s.config) bytes s.config.decoder s.samples_at error) (sym same.0) configured in
        part_well (coded_part stream s.head s.config) bytes s.config.decoder s.samples_at c.samples c.nodes c.coded error headed

module _ {D : Type 0} (d : Meaning D) (w : Width) (global : Option (Config D)) (given : ChannelList) (group_dim bit_depth : ℕ) (bytes : List ℕ) (p : ℕ)
    (passes : List Pass) (section_of : SectionPart → Option (List ℕ × ℕ)) (trees : TreeLimits) (gs : List (Grid ℤ)) (before after : ℕ) (s : IsStill d w global given group_dim bit_depth bytes p passes section_of trees gs before after) where
  abbrev Stands : Type 0
  Stands = HeaderStands d w global given group_dim bit_depth bytes p passes section_of

  abbrev Has : Type 0
  Has = HasSections d w global given group_dim bit_depth bytes p passes section_of

  abbrev Can : Type 0
  Can = CanDecode d w global given group_dim bit_depth bytes p passes section_of

  abbrev Fails : FrameError → Type 0
  Fails e = StillFails d w global given group_dim bit_depth bytes p passes section_of trees e

  abbrev own : Stands
  own = s.can.has.stands

  abbrev head : Opening
  head = own.start.head

  abbrev config : Config D
  config = own.start.config

  abbrev image : CodesImage d w global given group_dim bit_depth bytes p passes section_of head config own.start.samples_at gs
  image = codes_image d w global given group_dim bit_depth bytes p passes section_of trees gs before after s

  -- what holds of a header at the bit holds of the own one
  to_own : (P : Opening → Config D → ℕ → Type 0) (t : Stands) → P t.start.head t.start.config t.start.samples_at → P head config own.start.samples_at
  to_own P t h = same_head d w global given group_dim bit_depth bytes p passes section_of P own t h

  abbrev x_of : Opening → Config D → Image ℤ D
  x_of o c = x_by d w global given group_dim bit_depth bytes p passes section_of o c

  abbrev CellsIn : SectionPart → Opening → Config D → ℕ → Type 0
  CellsIn part o c n = 0 < cell_count (channels_in (x_of o c) passes part)

  abbrev Group : SectionPart → Type 0
  Group part = (grids : List (Grid ℤ)) × CodesGroup d w global given group_dim bit_depth bytes p passes section_of head config part grids

  -- a group with samples codes them
  group_of : (t : Stands) (part : SectionPart) → part ≢ parts.Global → CellsIn part t.start.head t.start.config t.start.samples_at → Group part
  group_of t part other some = (_, image.group part other (to_own (CellsIn part) t some))

  same_some : (o : Option (List ℕ × ℕ)) (b c : List ℕ) (m n : ℕ) → o ≡ Some (b, m) → o ≡ Some (c, n) → (b ≡ c) × (m ≡ n)
  same_some o b c m n h k = let same : ◌≡◌ {A = List ℕ × ℕ} (b, m) (c, n) = cc in (ap (λ (s : List ℕ × ℕ). s.0) same, ap (λ (s : List ℕ × ℕ). s.1) same)

  there_or_not : (o : Option (List ℕ × ℕ)) (b : List ℕ × ℕ) → o ≡ Some b → o ≡ None → ⊥
  there_or_not o b h k = cc

  true_or_false : (b : Bool) → b ≡ true → b ≡ false → ⊥
  true_or_false b h k = cc

  abbrev OfGroup : Section → Type 0
  OfGroup t = (section_of t.part ≡ Some (bytes_of t.bits, t.stream_index)) × (position_of t.bits ≡ 0) × (t.nested ≡ true)

  -- the section of a group is plain
  plain_group : (h : Has) (k : ℕ) (t : Section) → k < length h.groups → get_or h.groups k t ≡ t → ¬ (IsWeightedAt (bytes_of t.bits) 0)
  plain_group h k t lt at weighted =
      let is : OfGroup t = subst OfGroup at (h.are k t lt) in
      let one = (h.each t.part).1 (k, t, lt, at, refl) in
      let (j, u, within, there, same) = (s.can.has.each t.part).0 (one.0, to_own (CellsIn t.part) h.stands one.1) in
      let has : OfGroup u = subst OfGroup there (s.can.has.are j u within) in
      let found = subst (λ (q : SectionPart). section_of q ≡ Some (bytes_of u.bits, u.stream_index)) same has.0 in
      let bytes_same = (same_some (section_of t.part) (bytes_of t.bits) (bytes_of u.bits) t.stream_index u.stream_index is.0 found).0 in
      subst (λ (v : Section). ¬ (IsWeightedAt (bytes_of v.bits) 0)) there (s.can.plain j u within) (subst (λ (b : List ℕ). IsWeightedAt b 0) bytes_same weighted)

  abbrev DeepGroup : SectionPart → List ℕ → Opening → Config D → ℕ → Type 0
  DeepGroup part b o c n = IsDeepAt d global (list_in (x_of o c) passes part) trees.depth b 0

  abbrev ShallowGroup : Section → Type 0
  ShallowGroup t = IsShallowAt d global (list_in (x_of head config) passes t.part) trees.depth (bytes_of t.bits) 0

  -- no tree is too deep
  shallow_group : (h : Has) (k : ℕ) (t : Section) → k < length h.groups → get_or h.groups k t ≡ t → DeepGroup t.part (bytes_of t.bits) h.stands.start.head h.stands.start.config h.stands.start.samples_at → ⊥
  shallow_group h k t lt at deep =
      let is : OfGroup t = subst OfGroup at (h.are k t lt) in
      let one = (h.each t.part).1 (k, t, lt, at, refl) in
      let (j, u, within, there, same) = (s.can.has.each t.part).0 (one.0, to_own (CellsIn t.part) h.stands one.1) in
      let has : OfGroup u = subst OfGroup there (s.can.has.are j u within) in
      let found = subst (λ (q : SectionPart). section_of q ≡ Some (bytes_of u.bits, u.stream_index)) same has.0 in
      let bytes_same = (same_some (section_of t.part) (bytes_of t.bits) (bytes_of u.bits) t.stream_index u.stream_index is.0 found).0 in
      let low : ShallowGroup u = subst ShallowGroup there (s.shallow.groups j u within) in
      let placed = subst (λ (q : SectionPart). IsShallowAt d global (list_in (x_of head config) passes q) trees.depth (bytes_of u.bits) 0) same low in
      let here = subst (λ (b : List ℕ). IsShallowAt d global (list_in (x_of head config) passes t.part) trees.depth b 0) (sym bytes_same) placed in
      not_deep d w global (list_in (x_of head config) passes t.part) trees.depth (bytes_of t.bits) 0 here (to_own (DeepGroup t.part (bytes_of t.bits)) h.stands deep)

  all_shallow : (c : Can) → OneIsDeep d w global given group_dim bit_depth bytes p passes section_of trees.depth c → ⊥
  all_shallow c (inl deep) = not_deep d w global given trees.depth bytes p s.shallow.image deep
  all_shallow c (inr (k, t, lt, at, deep)) = shallow_group c.has k t lt at deep

  abbrev GroupHas : Opening → Config D → SectionPart → ℕ → Type 0
  GroupHas o c part n = (section : List ℕ) × (stream : ℕ) × (section_of part ≡ Some (section, stream)) × HasCodewords (list_in (x_of o c) passes part) section 0 n

  abbrev FirstHave : ℕ → List ℕ → Opening → Config D → ℕ → Type 0
  FirstHave k ns o c n = AllZip (GroupHas o c) (take k (groups_in_order (x_of o c) passes)) ns

  one_group : (part : SectionPart) (m n : ℕ) → GroupHas head config part m → GroupHas head config part n → m ≡ n
  one_group part m n (section, stream, there, has) (other, index, found, own) =
      let same = (same_some (section_of part) section other stream index there found).0 in
      one_codewords (list_in (x_of head config) passes part) section 0 m n has (subst (λ (b : List ℕ). HasCodewords (list_in (x_of head config) passes part) b 0 n) (sym same) own)

  -- no group's codes have too many codewords
  never_many : (c : Can) → HaveManyCodewords d w global given group_dim bit_depth bytes p passes section_of trees.codewords c → ⊥
  never_many c (k, m, (other, header, ms, have, is), much) =
      let (n, (m_own, here, ns, has, sum_is), low) = s.few in
      let mine : FirstHave k ms head config own.start.samples_at = to_own (FirstHave k ms) c.has.stands have in
      let same = one_codewords given bytes p m_own other here header in
      let most = first_most (GroupHas head config) one_group (groups_in_order (x_of head config) passes) k ns ms has mine in
      omega (arith, same, most, sum_is, is, low, much)

  -- decoding the first section returns no error
  abbrev FirstFails : ErrorKind → Opening → Config D → ℕ → Type 0
  FirstFails error o c n = PartFails d w (part_in (x_of o c) passes parts.Global 0) bytes c.decoder n error

  abbrev FailsBy : Stands → ErrorKind → Section → Type 0
  FailsBy h error t = SectionFails d w global given group_dim bit_depth bytes p passes section_of h t error

  first_well : (c : Can) (error : ErrorKind) → FailsBy c.has.stands error c.first → ⊥
  first_well c error fails =
      let h = c.has.stands in
      let it : Section = record { part = parts.Global; bits = c.first.bits; stream_index = 0; nested = false } in
      let plain : PartFails d w (part_in (x_of h.start.head h.start.config) passes parts.Global 0) (bytes_of c.first.bits) h.start.config.decoder (position_of c.first.bits) error = subst (FailsBy h error) c.is fails in
      let here = subst (λ (b : List ℕ). PartFails d w (part_in (x_of h.start.head h.start.config) passes parts.Global 0) b h.start.config.decoder (position_of c.first.bits) error) c.bytes_are plain in
      let there = subst (λ n. FirstFails error h.start.head h.start.config n) c.goes_on here in
      part_well d w (part_in (x_of head config) passes parts.Global 0) bytes config.decoder own.start.samples_at _ image.nodes image.global_part error (to_own (FirstFails error) h there)

  abbrev GroupFails : SectionPart → List ℕ → ℕ → ErrorKind → Opening → Config D → ℕ → Type 0
  GroupFails part b stream error o c n = HeaderFails d global (list_in (x_of o c) passes part) b 0 error
      ⊎ ((own : Start d global b (list_in (x_of o c) passes part) 0) × PartFails d w (coded_part stream own.head own.config) b own.config.decoder own.samples_at error)

  -- nor does that of a group
  section_well : (h : Has) (t : Section) → OfGroup t → t.part ≢ parts.Global → CellsIn t.part h.stands.start.head h.stands.start.config h.stands.start.samples_at → (error : ErrorKind) → FailsBy h.stands error t → ⊥
  section_well h t is other some error fails = by t.nested is.2 fails where
    at_start : (q : ℕ) → q ≡ 0 → HeaderFails d global (list_in (x_of h.stands.start.head h.stands.start.config) passes t.part) (bytes_of t.bits) q error
        ⊎ ((own : Start d global (bytes_of t.bits) (list_in (x_of h.stands.start.head h.stands.start.config) passes t.part) q) × PartFails d w (coded_part t.stream_index own.head own.config) (bytes_of t.bits) own.config.decoder own.samples_at error) →
        GroupFails t.part (bytes_of t.bits) t.stream_index error h.stands.start.head h.stands.start.config h.stands.start.samples_at
    at_start q zero_is fails = subst (λ n. HeaderFails d global (list_in (x_of h.stands.start.head h.stands.start.config) passes t.part) (bytes_of t.bits) n error
        ⊎ ((own : Start d global (bytes_of t.bits) (list_in (x_of h.stands.start.head h.stands.start.config) passes t.part) n) × PartFails d w (coded_part t.stream_index own.head own.config) (bytes_of t.bits) own.config.decoder own.samples_at error)) zero_is fails

    by : (b : Bool) → b ≡ true → MatchBool b (HeaderFails d global (list_in (x_of h.stands.start.head h.stands.start.config) passes t.part) (bytes_of t.bits) (position_of t.bits) error
        ⊎ ((own : Start d global (bytes_of t.bits) (list_in (x_of h.stands.start.head h.stands.start.config) passes t.part) (position_of t.bits)) × PartFails d w (coded_part t.stream_index own.head own.config) (bytes_of t.bits) own.config.decoder own.samples_at error))
        (PartFails d w (part_in (x_of h.stands.start.head h.stands.start.config) passes t.part t.stream_index) (bytes_of t.bits) h.stands.start.config.decoder (position_of t.bits) error) → ⊥
    by true e fails =
        let here = to_own (GroupFails t.part (bytes_of t.bits) t.stream_index error) h.stands (at_start (position_of t.bits) is.1 fails) in
        let (grids, group) = group_of h.stands t.part other some in
        let same = same_some (section_of t.part) (bytes_of t.bits) group.section t.stream_index group.stream is.0 group.there in
        let at_stream = subst (λ n. GroupFails t.part (bytes_of t.bits) n error head config own.start.samples_at) same.1 here in
        let at_bytes = subst (λ (b : List ℕ). GroupFails t.part b group.stream error head config own.start.samples_at) same.0 at_stream in
        nested_well d w global bit_depth (list_in (x_of head config) passes t.part) group.section group.stream grids group.nested error at_bytes
    by false e fails = cc

  failing_well : (c : Can) (k : ℕ) (t : Section) → k < length (c.first ∷ c.has.groups) → get_or (c.first ∷ c.has.groups) k t ≡ t → (error : ErrorKind) → FailsBy c.has.stands error t → ⊥
  failing_well c zero t lt at error fails = first_well c error (subst (FailsBy c.has.stands error) (sym at) fails)
  failing_well c (suc k) t lt at error fails =
      let within : k < length c.has.groups = omega (arith, lt) in
      let is : OfGroup t = subst OfGroup at (c.has.are k t within) in
      let one = (c.has.each t.part).1 (k, t, within, at, refl) in
      section_well c.has t is one.0 one.1 error fails

  -- an error is out of memory
  pub still_without_error : (e : FrameError) → Fails e → IsFrameMemory e
  still_without_error (errors.Header e) f = unless_so (kind_of e) (λ k. header_well d w global given bytes p own.start (kind_of e) k.1) f
  still_without_error errors.WeightedPalette f = own.plain f
  still_without_error errors.NoGroups f = true_or_false (can_cut group_dim head.coded.list) s.can.has.cut (to_own (λ o c n. IsFalse (can_cut group_dim o.coded.list)) f.0 f.1)
  still_without_error errors.NoSection f =
      let (grids, group) = group_of f.0 f.2 f.3.0 f.3.1 in
      there_or_not (section_of f.2) (group.section, group.stream) group.there f.4
  still_without_error errors.GroupWeightedPalette f = let (k, t, lt, at, weighted) = f.1 in plain_group f.0 k t lt at weighted
  still_without_error errors.TooManyCodewords f = never_many f.0 f.1
  still_without_error errors.TooManyDecisions f = all_shallow f.0 f.2
  still_without_error (errors.Samples e) f = unless_so (kind_of e) (λ k.
      let (place, lt, at) = among (k.0.first ∷ k.0.has.groups) k.3 k.4 k.5 k.6 in
      failing_well k.0 place k.4 lt at (kind_of e) k.8) f
  still_without_error errors.OutOfMemory f = tt
