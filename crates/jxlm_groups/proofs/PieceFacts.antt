-- Each piece lies inside its channel, and is as large as the part's channel of it; parts with cells exist.
use Rattle.std.proofs.Common.{◌≡◌, ◌≢◌, ℕ, zero, suc, ◌+◌, ◌*◌, ◌-◌, ◌<◌, ◌≤◌, min, ◌==◌, ◌&&◌, ◌||◌, max, if◌then◌else◌, inl, inr, Bool, true, false, nat_lt, List, [], ◌∷◌, map, length, get_or, Option, Some, None, refl, sym, ap, ◌∙◌, subst, arith}
use Rattle.std.specs.List.{All, AllPairs, filter_map, enumerate_from, cons_option, list_any, slice_get}
use Rattle.std.proofs.lemmas.Bool.{cases_lt, le-ltb, lt-ltb, ltb-true, or_left, or_right}
use Rattle.std.specs.Int.{div_ceil}
use Rattle.std.proofs.lemmas.List.Elements.{All-cons, All-head, All-tail, All-map}
use Rattle.jxlm_base.specs.Grid.{Grid}
use Rattle.jxlm_base.specs.Regions.{AllLie, AreApart, LieApart, Lies}
use Rattle.jxlm_base.specs.declared.subgrid.Region.{Region}
use Rattle.jxlm_transform.specs.Layout.{no_region}
use Rattle.jxlm_base.proofs.Regions.{apart_at}
use Rattle.jxlm_chain.proofs.ListsApart.{pairs_cons}
use Rattle.jxlm_transform.specs.Channels.{AreRegionsOf, Channel, ChannelList}
use Rattle.jxlm_transform.specs.ChannelSteps.{table_channel}
use Rattle.jxlm_groups.proofs.Apart.{IsInside, outer_cell}
use Rattle.jxlm_groups.proofs.Cover.{HasIn, some_in}
use Rattle.jxlm_groups.proofs.Parts.{get_of}
use Rattle.jxlm_groups.proofs.Pictured.{IsOfPicture}
use Rattle.jxlm_groups.proofs.HeldCells.{into, own_piece, same_some, none_some}
use Rattle.jxlm_groups.specs.Passes.{Pass}
use Rattle.jxlm_groups.specs.Cutting.{Kind, columns, rows, is_low_frequency, span, cell_width, cell_height, global_count, kind_of}
use Rattle.jxlm_groups.specs.Pieces.{SectionPart, piece, piece_in, piece_of_group, pieces, where_some, channel_in, part_channels, within, in_store}
use Rattle.jxlm_groups.specs.Counts.{is_kind, maximum, groups_of, group_count, exists, has_group}
use Rattle.jxlm_groups.specs.Parts.{HaveCell}
use Rattle.jxlm_groups.specs.declared.part.Kind.TheVariants as kinds
use Rattle.jxlm_groups.specs.declared.part.SectionPart.TheVariants as parts

-- ---- what holds of each piece

module _ (f : ℕ × Channel → Option Region) (P : Region → Type 0) where
  with_first : (o : Option Region) (rs : List Region) → ((r : Region) → o ≡ Some r → P r) → All P rs → All P (cons_option o rs)
  with_first None rs h all = all
  with_first (Some r) rs h all = All-cons P r rs (h r refl) all

  each_kept : (m : ℕ) (cs : List Channel) → ((i : ℕ) (c : Channel) (r : Region) → slice_get cs i ≡ Some c → f (m + i, c) ≡ Some r → P r) → All P (filter_map f (enumerate_from m cs))
  each_kept m [] h = λ k d l. absurd (omega arith)
  each_kept m (c ∷ cs) h =
      with_first (f (m, c)) (filter_map f (enumerate_from (m + 1) cs))
      (λ r e. let same : m ≡ m + 0 = omega arith in h 0 c r refl (subst (λ n. f (n, c) ≡ Some r) same e))
      (each_kept (m + 1) cs (λ i d r k e. let same : m + 1 + i ≡ m + suc i = omega arith in h (suc i) d r k (subst (λ n. f (n, d) ≡ Some r) same e)))

-- where there is a region, all tests are true
record Tested (a b c : Bool) (r s : Region) : Type 0 where
  pub first : a ≡ true
  pub second : b ≡ true
  pub third : c ≡ true
  pub same : r ≡ s

tested : (a b c : Bool) (r s : Region) → if◌then◌else◌ {A = Option Region} (a && b && c) (Some r) None ≡ Some s → Tested a b c r s
tested true true true r s e = record { first = refl; second = refl; third = refl; same = same_some e }
tested true true false r s e = absurd (none_some e)
tested true false c r s e = absurd (none_some e)
tested false b c r s e = absurd (none_some e)

-- a piece of channel c lies inside it, and the part's channel is as large
pub record IsPieceOf (name : SectionPart) (c : Channel) (r : Region) : Type 0 where
  pub wide : r.x + r.width ≤ c.width
  pub high : r.y + r.height ≤ c.height
  pub same_width : (channel_in name c r).width ≡ r.width
  pub same_height : (channel_in name c r).height ≡ r.height

module _ (dim : ℕ) where
  fits : (w a m : ℕ) → 0 < min m (w - a) → a + min m (w - a) ≤ w
  fits w a m h = omega arith

  group_piece : (b : Bool) (k n : ℕ) (c : Channel) (r : Region) → where_some b (piece_of_group dim k n c) ≡ Some r → (r.x + r.width ≤ c.width) × (r.y + r.height ≤ c.height)
  group_piece b k n c r e =
      let p : Region = piece_of_group dim k n c in
      let t = tested b (nat_lt 0 p.width) (nat_lt 0 p.height) p r e in (
        subst (λ (q : Region). q.x + q.width ≤ c.width) t.same (fits c.width p.x (cell_width dim c) (ltb-true 0 p.width t.second)),
        subst (λ (q : Region). q.y + q.height ≤ c.height) t.same (fits c.height p.y (cell_height dim c) (ltb-true 0 p.height t.third)),
      )

  is_piece : (kind : Kind) (name : SectionPart) (n : ℕ) (c : Channel) (r : Region) → piece_in dim kind name n c ≡ Some r → IsPieceOf name c r
  is_piece kinds.Global parts.Global n c r e = subst (IsPieceOf parts.Global c) (same_some e) (record { wide = omega arith; high = omega arith; same_width = refl; same_height = refl })
  is_piece kinds.Lf (parts.Lf k) n c r e = let b = group_piece (nat_lt k (columns dim c * rows dim c)) k n c r e in record { wide = b.0; high = b.1; same_width = refl; same_height = refl }
  is_piece (kinds.Pass q) (parts.Pass p k) n c r e = let b = group_piece ((p == q) && nat_lt k (columns dim c * rows dim c)) k n c r e in record { wide = b.0; high = b.1; same_width = refl; same_height = refl }
  is_piece kinds.Global (parts.Lf k) n c r e = absurd (none_some e)
  is_piece kinds.Global (parts.Pass p k) n c r e = absurd (none_some e)
  is_piece kinds.Lf parts.Global n c r e = absurd (none_some e)
  is_piece kinds.Lf (parts.Pass p k) n c r e = absurd (none_some e)
  is_piece (kinds.Pass q) parts.Global n c r e = absurd (none_some e)
  is_piece (kinds.Pass q) (parts.Lf k) n c r e = absurd (none_some e)

-- the piece's channel is one of the list
pub record IsPiece (l : ChannelList) (name : SectionPart) (r : Region) : Type 0 where
  pub c : Channel
  pub channel : slice_get l.channels r.buffer ≡ Some c
  pub is : IsPieceOf name c r

module _ (dim : ℕ) (passes : List Pass) (l : ChannelList) where
  pub each_piece : (name : SectionPart) → All (IsPiece l name) (pieces dim passes l name)
  each_piece name =
      each_kept (piece dim passes (global_count dim l) name) (IsPiece l name) 0 l.channels (λ i c r k e.
      let zero_more : 0 + i ≡ i = omega arith in
      let e : piece dim passes (global_count dim l) name (i, c) ≡ Some r = subst (λ n. piece dim passes (global_count dim l) name (n, c) ≡ Some r) zero_more e in
      let own : r.buffer ≡ i = own_piece dim passes l name (i, c) r e in
      record { c = c; channel = subst (λ n. slice_get l.channels n ≡ Some c) (sym own) k; is = is_piece dim (kind_of passes (global_count dim l) i c) name i c r e })

  -- ---- in the store

  side_at : (cs : List Channel) (rs : List Region) (n : ℕ) (c : Channel) → AreRegionsOf cs rs → slice_get cs n ≡ Some c → (n < length rs) × ((get_or rs n no_region).width ≡ c.width) × ((get_or rs n no_region).height ≡ c.height)
  side_at [] rs n c zip e = absurd (none_some e)
  side_at (d ∷ cs) [] n c zip e = absurd zip
  side_at (d ∷ cs) (r ∷ rs) zero c zip e = let same : d ≡ c = same_some e in (omega arith, zip.0.0 ∙ ap (λ (c : Channel). c.width) same, zip.0.1 ∙ ap (λ (c : Channel). c.height) same)
  side_at (d ∷ cs) (r ∷ rs) (suc n) c zip e = let (lt, w, h) = side_at cs rs n c zip.1 e in (omega (arith, lt), w, h)

  -- each piece lies inside its channel's region
  pub each_inside : (coded : List Region) → AreRegionsOf l.channels coded → (name : SectionPart) → All (IsInside coded) (pieces dim passes l name)
  each_inside coded zip name = λ k d lt.
      let r : Region = get_or (pieces dim passes l name) k d in
      let p = each_piece name k d lt in
      let (there, w, h) = side_at l.channels coded r.buffer p.c zip p.channel in
      record { there = there; wide = subst (λ n. r.x + r.width ≤ n) (sym w) p.is.wide; high = subst (λ n. r.y + r.height ≤ n) (sym h) p.is.high }

  -- the part's channels have the sides of their regions in the store
  pub channels_sides : (coded : List Region) (name : SectionPart) → AreRegionsOf (part_channels dim passes l name) (in_store coded (pieces dim passes l name))
  channels_sides coded name = all_sides (pieces dim passes l name) (each_piece name) where
    all_sides : (ps : List Region) → All (IsPiece l name) ps → AreRegionsOf (map (λ r. channel_in name (get_or l.channels r.buffer (table_channel 0 0)) r) ps) (in_store coded ps)
    all_sides [] all = tt
    all_sides (p ∷ ps) all =
        let i = All-head (IsPiece l name) p ps all in
        let is : get_or l.channels p.buffer (table_channel 0 0) ≡ i.c = (get_of l.channels p.buffer i.c (table_channel 0 0) i.channel).1 in
        ((sym i.is.same_width ∙ ap (λ (c : Channel). (channel_in name c p).width) (sym is), sym i.is.same_height ∙ ap (λ (c : Channel). (channel_in name c p).height) (sym is)), all_sides ps (All-tail (IsPiece l name) p ps all))

-- pieces of different channels lie apart in the store
pub held_apart : (coded ps : List Region) → LieApart coded → All (IsInside coded) ps → AllPairs (λ a b. a.buffer ≢ b.buffer) ps → LieApart (in_store coded ps)
held_apart coded [] apart all pairs = λ i j d lt l. absurd (omega arith)
held_apart coded (p ∷ ps) apart all pairs =
    let f : Region → Region = λ q. within (get_or coded q.buffer no_region) q in
    let first = All-head (IsInside coded) p ps all in
    let rest = All-tail (IsInside coded) p ps all in
    pairs_cons AreApart (f p) (map f ps) (All-map (AreApart (f p)) f ps (λ k d lt.
    let q : Region = get_or ps k d in
    let other = rest k d lt in
    λ b x y h i. two p.buffer q.buffer first.there other.there (pairs 0 (suc k) d (omega arith) (omega (arith, lt))) b x y
    (outer_cell (get_or coded p.buffer no_region) p b x y first.wide first.high h) (outer_cell (get_or coded q.buffer no_region) q b x y other.wide other.high i)))
    (held_apart coded ps apart rest (λ i j d lt l. pairs (suc i) (suc j) d (omega (arith, lt)) (omega (arith, l)))) where
      two : (i j : ℕ) → i < length coded → j < length coded → i ≢ j → AreApart (get_or coded i no_region) (get_or coded j no_region)
      two i j li lj ne = apart_at coded i j no_region apart li lj ne

-- a region of a region that lies in a store lies there
pub pieces_lie : {S : Type 0} (store : List (Grid S)) (coded ps : List Region) → AllLie coded store → All (IsInside coded) ps → AllLie (in_store coded ps) store
pieces_lie store coded ps lie inside =
    All-map (λ r. Lies r store) (λ p. within (get_or coded p.buffer no_region) p) ps (λ k d lt.
    let p : Region = get_or ps k d in
    let is = inside k d lt in
    let r = lie p.buffer no_region is.there in
    let wide = is.wide in
    let high = is.high in
    let columns = r.columns in
    let rows = r.rows in
    record { there = r.there; full = r.full; columns = omega (arith, wide, columns); rows = omega (arith, high, rows) })

-- ---- counts

-- a channel of which a test holds is found
found_from : (test : ℕ × Channel → Bool) (m : ℕ) (cs : List Channel) (i : ℕ) (c : Channel) → slice_get cs i ≡ Some c → test (m + i, c) ≡ true → list_any test (enumerate_from m cs) ≡ true
found_from test m [] i c e h = absurd (none_some e)
found_from test m (d ∷ cs) zero c e h =
    let same : m + 0 ≡ m = omega arith in
    or_left (test (m, d)) _ (subst (λ z. test (m, z) ≡ true) (sym (same_some e)) (subst (λ n. test (n, c) ≡ true) same h))
found_from test m (d ∷ cs) (suc i) c e h =
    let same : m + suc i ≡ m + 1 + i = omega arith in
    or_right (test (m, d)) _ (found_from test (m + 1) cs i c e (subst (λ n. test (n, c) ≡ true) same h))

-- some count is above k where the maximum is
module _ (k : ℕ) (f : ℕ × Channel → ℕ) (test : ℕ × Channel → Bool) (same : (p : ℕ × Channel) → test p ≡ nat_lt k (f p)) where
  above : (m n : ℕ) → (nat_lt k m || nat_lt k n) ≡ nat_lt k (max m n)
  above m n = elim (cases_lt k m) [
    | inl lt ↦ or_left (nat_lt k m) (nat_lt k n) (lt-ltb k m lt) ∙ sym (lt-ltb k (max m n) (omega (arith, lt)))
    | inr ge ↦
        ap (λ b. b || nat_lt k n) (le-ltb k m ge)
        ∙ elim (cases_lt k n) [
          | inl lt ↦ lt-ltb k n lt ∙ sym (lt-ltb k (max m n) (omega (arith, lt)))
          | inr low ↦ le-ltb k n low ∙ sym (le-ltb k (max m n) (omega (arith, ge, low)))
        ]
  ]

  any_counted : (ps : List (ℕ × Channel)) → list_any test ps ≡ nat_lt k (maximum (map f ps))
  any_counted [] = sym (le-ltb k 0 (omega arith))
  any_counted (p ∷ ps) = ap (λ b. b || list_any test ps) (same p) ∙ ap (λ b. nat_lt k (f p) || b) (any_counted ps) ∙ above (f p) (maximum (map f ps))

module _ (dim : ℕ) (passes : List Pass) (l : ChannelList) where
  -- a group that has a cell of a channel is one that the channel is cut into
  group_held : (kind : Kind) (name : SectionPart) (n x y : ℕ) (c : Channel) → name ≢ parts.Global → HasIn (piece_in dim kind name n c) n x y → has_group dim kind name c ≡ true
  group_held kinds.Lf (parts.Lf k) n x y c group h = (some_in (nat_lt k (columns dim c * rows dim c)) (piece_of_group dim k n c) n x y h).0
  group_held (kinds.Pass q) (parts.Pass p k) n x y c group h = (some_in ((p == q) && nat_lt k (columns dim c * rows dim c)) (piece_of_group dim k n c) n x y h).0
  group_held kind parts.Global n x y c group h = absurd (group refl)
  group_held kinds.Global (parts.Lf k) n x y c group h = absurd h
  group_held kinds.Global (parts.Pass p k) n x y c group h = absurd h
  group_held kinds.Lf (parts.Pass p k) n x y c group h = absurd h
  group_held (kinds.Pass q) (parts.Lf k) n x y c group h = absurd h

  group_there : (name : SectionPart) (n x y : ℕ) → name ≢ parts.Global → HaveCell (pieces dim passes l name) n x y →
      list_any (λ p. has_group dim (kind_of passes (global_count dim l) p.0 p.1) name p.1) (enumerate_from 0 l.channels) ≡ true
  group_there name n x y group h =
      let test : ℕ × Channel → Bool = λ p. has_group dim (kind_of passes (global_count dim l) p.0 p.1) name p.1 in
      let r = into (piece dim passes (global_count dim l) name) (own_piece dim passes l name) 0 l.channels n x y h in
      let p = r.place in
      let same : r.i ≡ n = omega (arith, p) in
      let more : n ≡ 0 + n = omega arith in
      found_from test 0 l.channels n r.c (subst (λ k. slice_get l.channels k ≡ Some r.c) same r.channel)
      (subst (λ i. test (i, r.c) ≡ true) more (group_held (kind_of passes (global_count dim l) n r.c) name n x y r.c group r.has))

  -- A part that holds a cell exists.
  pub held_exists : (name : SectionPart) (n x y : ℕ) → HaveCell (pieces dim passes l name) n x y → exists dim passes l name ≡ true
  held_exists parts.Global n x y h = refl
  held_exists (parts.Lf k) n x y h = group_there (parts.Lf k) n x y (λ e. cc) h
  held_exists (parts.Pass p k) n x y h = group_there (parts.Pass p k) n x y (λ e. cc) h

  -- A group exists where its number is below the count of them.
  gate : (b : Bool) (k n : ℕ) → (b && nat_lt k n) ≡ nat_lt k (if b then n else 0)
  gate true k n = refl
  gate false k n = sym (le-ltb k 0 (omega arith))

  lf_by : (kind : Kind) (k : ℕ) (c : Channel) → has_group dim kind (parts.Lf k) c ≡ nat_lt k (if is_kind kinds.Lf kind then columns dim c * rows dim c else 0)
  lf_by kinds.Global k c = gate false k 0
  lf_by kinds.Lf k c = refl
  lf_by (kinds.Pass q) k c = gate false k 0

  pass_by : (p : ℕ) (kind : Kind) (k : ℕ) (c : Channel) → has_group dim kind (parts.Pass p k) c ≡ nat_lt k (if is_kind (kinds.Pass p) kind then columns dim c * rows dim c else 0)
  pass_by p kinds.Global k c = gate false k 0
  pass_by p kinds.Lf k c = gate false k 0
  pass_by p (kinds.Pass q) k c = gate (p == q) k (columns dim c * rows dim c)

  pub lf_exists : (k : ℕ) → exists dim passes l (parts.Lf k) ≡ nat_lt k (group_count dim passes l kinds.Lf)
  lf_exists k = any_counted k (groups_of dim passes (global_count dim l) kinds.Lf) _ (λ p. lf_by (kind_of passes (global_count dim l) p.0 p.1) k p.1) (enumerate_from 0 l.channels)

  pub pass_exists : (p k : ℕ) → exists dim passes l (parts.Pass p k) ≡ nat_lt k (group_count dim passes l (kinds.Pass p))
  pass_exists p k =
      any_counted k (groups_of dim passes (global_count dim l) (kinds.Pass p)) _ (λ i. pass_by p (kind_of passes (global_count dim l) i.0 i.1) k i.1) (enumerate_from 0 l.channels)

-- ---- a count is that of some channel, and all channels of a kind have it

maximum_of : (f : ℕ × Channel → ℕ) (m : ℕ) (cs : List Channel) (k : ℕ) → k < maximum (map f (enumerate_from m cs)) → (i : ℕ) × (c : Channel) × (slice_get cs i ≡ Some c) × (k < f (m + i, c))
maximum_of f m [] k h = absurd (omega (arith, h))
maximum_of f m (c ∷ cs) k h = elim (cases_lt k (f (m, c))) [
  | inl lt ↦ let same : m ≡ m + 0 = omega arith in (0, c, refl, subst (λ n. k < f (n, c)) same lt)
  | inr ge ↦
      let (i, d, e, lt) = maximum_of f (m + 1) cs k (omega (arith, ge, h)) in
      let same : m + 1 + i ≡ m + suc i = omega arith in
      (suc i, d, e, subst (λ n. k < f (n, d)) same lt)
]

module _ (dim : ℕ) (passes : List Pass) (l : ChannelList) where
  of_kind : (b : Bool) (k n : ℕ) → k < (if b then n else 0) → (b ≡ true) × (k < n)
  of_kind true k n h = (refl, h)
  of_kind false k n h = absurd (omega (arith, h))

  -- A group exists exactly where some channel of its kind is cut into more groups.
  pub counted_of : (kind : Kind) (k : ℕ) → k < group_count dim passes l kind → (n : ℕ) × (c : Channel) × (slice_get l.channels n ≡ Some c) × (is_kind kind (kind_of passes (global_count dim l) n c) ≡ true) × (k < columns dim c * rows dim c)
  counted_of kind k h =
      let (i, c, e, lt) = maximum_of (groups_of dim passes (global_count dim l) kind) 0 l.channels k h in
      let same : 0 + i ≡ i = omega arith in
      let mine = kind_of passes (global_count dim l) i c in
      let r = of_kind (is_kind kind mine) k (columns dim c * rows dim c) (subst (λ n. k < groups_of dim passes (global_count dim l) kind (n, c)) same lt) in
      (i, c, e, r.0, r.1)

  -- Channels of one picture that are cut alike have as many groups.
  pub counts_agree : (w h : ℕ) (a b : Channel) → IsOfPicture w h a → IsOfPicture w h b → is_low_frequency a ≡ is_low_frequency b → columns dim a * rows dim a ≡ columns dim b * rows dim b
  counts_agree w h a b p q same =
      let spans : span dim a ≡ span dim b = ap (λ (t : Bool). if t then 8 * dim else dim) same in
      let across : columns dim a ≡ columns dim b = ap (λ n. div_ceil n (span dim a)) (p.width ∙ sym q.width) ∙ ap (λ n. div_ceil b.original_width n) spans in
      let down : rows dim a ≡ rows dim b = ap (λ n. div_ceil n (span dim a)) (p.height ∙ sym q.height) ∙ ap (λ n. div_ceil b.original_height n) spans in
      ap (λ n. n * rows dim a) across ∙ ap (λ n. columns dim b * n) down
