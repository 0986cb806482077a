-- Two pictures at one bit are one.
use Rattle.jxlm_bits.specs.Grammar.{from_result}
use Rattle.std.proofs.Common.{◌≡◌, inl, inr, ℕ, ◌*◌, ℤ, List, [], ◌∷◌, length, Bool, true, false, Option, Some, Result, Ok, Err, refl, sym, ap, ◌∙◌, subst, arith}
use Rattle.std.specs.Prelude.{MatchBool, is_some}
use Rattle.std.specs.Int.{Width}
use Rattle.std.proofs.lemmas.List.{take_all}
use Rattle.jxlm_bits.specs.Decoding.{Found, Meaning, Taken}
use Rattle.jxlm_bits.specs.ErrorKind.{ErrorAt, ErrorKind}
use Rattle.jxlm_base.specs.Grid.{Grid}
use Rattle.jxlm_bits.specs.declared.decoder.DecoderError.{DecoderError}
use Rattle.jxlm_chain.specs.Chain.{Chain}
use Rattle.jxlm_header.specs.Header.{Header}
use Rattle.jxlm_header.specs.Opening.{Opening, conditions, depth_limit, node_limit, resolve}
use Rattle.jxlm_header.proofs.HeaderLaws.{exact-opening}
use Rattle.jxlm_tree.specs.Tree.{Config, Node}
use Rattle.jxlm_ma_tree.specs.declared.leaf.Leaf.{Leaf}
use Rattle.jxlm_ma_tree.proofs.Listing.{levels-injective}
use Rattle.jxlm_tree.specs.TreeReading.{IsTreeAt, listing_at}
use Rattle.jxlm_nested.specs.Starts.{IsStartAt, coded_part, opening_at}
use Rattle.jxlm_samples.specs.Coded.{IsCodedWhole, part_rule}
use Rattle.jxlm_samples.specs.Part.{Part, cell_count, cells_of}
use Rattle.jxlm_samples.proofs.Loops.{all_cells}
use Rattle.jxlm_samples.proofs.Prefixes.{prefix_one}
use Rattle.jxlm_transform.specs.Channels.{AreGridsOf, Channel, ChannelList}
use Rattle.jxlm_transform.specs.ChannelSteps.{Step, coded_list, list_after_all}
use Rattle.jxlm_transform.proofs.SideBounds.{came}
use Rattle.jxlm_transform.proofs.StepLaws.{steps_list}
use Rattle.jxl_modular.specs.Picture.{IsPicture}
use Rattle.jxlm_encode.proofs.OneWriting.{same_front}

-- ---- coded samples

same_list : (x y : ChannelList) → ◌≡◌ {A = Result ChannelList ErrorKind} (Ok x) (Ok y) → x ≡ y
same_list x y e = cc

-- the list that a chain ends with
chain_ends : (w : Width) (depth : ℕ) (steps : List Step) (l : ChannelList) (image coded : List (Grid ℤ)) → Chain w depth steps l image coded → (m : ChannelList) × (list_after_all steps l ≡ Ok m) × AreGridsOf m.channels coded
chain_ends w depth [] l image coded h = (l, refl, subst (AreGridsOf l.channels) (sym h.1) h.0)
chain_ends w depth (s ∷ steps) l image coded h =
    let rest = chain_ends w depth steps h.1 h.2 coded h.5 in
    (rest.0, rw h.3 rest.1, rest.2)

-- grids of the same channels are those of their cells
cells_same : (cs : List Channel) (gs hs : List (Grid ℤ)) → AreGridsOf cs gs → AreGridsOf cs hs → cells_of gs ≡ cells_of hs → gs ≡ hs
cells_same [] [] [] a b e = refl
cells_same [] [] (h ∷ hs) a b e = absurd b
cells_same [] (g ∷ gs) hs a b e = absurd a
cells_same (c ∷ cs) [] hs a b e = absurd a
cells_same (c ∷ cs) (g ∷ gs) [] a b e = absurd b
cells_same (c ∷ cs) (g ∷ gs) (h ∷ hs) a b e =
    let wide : g.width ≡ h.width = a.0.same_width ∙ sym b.0.same_width in
    let high : g.height ≡ h.height = a.0.same_height ∙ sym b.0.same_height in
    let long : length g.cells ≡ length h.cells = a.0.full ∙ ap (λ n. n * g.height) wide ∙ ap (λ n. h.width * n) high ∙ sym b.0.full in
    let parts = same_front g.cells h.cells (cells_of gs) (cells_of hs) long e in
    let one : g ≡ h = ap (λ n. record { width = n; height = g.height; cells = g.cells }) wide ∙ ap (λ n. record { width = h.width; height = n; cells = g.cells }) high ∙ ap (λ xs. record { width = h.width; height = h.height; cells = xs }) parts.0 in
    ap (λ (x : Grid ℤ). x ∷ gs) one ∙ ap (λ (xs : List (Grid ℤ)). h ∷ xs) (cells_same cs gs hs a.1 b.1 parts.1)

pub same_found : {S : Type 0} (x y : Found S) (r : Result (Found S) DecoderError) → r ≡ Ok x → r ≡ Ok y → x ≡ y
same_found x y r h k = cc

none_of : (xs : List ℤ) → length xs ≡ 0 → xs ≡ []
none_of [] h = refl
none_of (x ∷ xs) h = absurd (omega (arith, h))

module _ {D : Type 0} (d : Meaning D) (w : Width) (part : Part) (bytes : List ℕ) (decoder : D) (p : ℕ) where
  -- samples that are coded from one position on
  pub one_coded : (gs hs : List (Grid ℤ)) (q r : ℕ) → AreGridsOf part.channels gs → AreGridsOf part.channels hs → IsCodedWhole d w part bytes decoder p gs q → IsCodedWhole d w part bytes decoder p hs r → (gs ≡ hs) × (q ≡ r)
  one_coded gs hs q r a b (inl x) (inl y) =
      let start = same_found _ _ (d.begin decoder bytes p) x.1.coded.begins y.1.coded.begins in
      let one = prefix_one (part_rule d w part bytes) x.1.coded.start.value x.1.coded.start.position (cells_of gs) (cells_of hs) (cell_count part.channels) x.1.state y.1.state q r x.1.coded.joined (rw start y.1.coded.joined) in
      let g = all_cells part.channels gs a in
      let h = all_cells part.channels hs b in
      (cells_same part.channels gs hs a b (sym (take_all (cell_count part.channels) (cells_of gs) (omega (arith, g))) ∙ one.cells ∙ take_all (cell_count part.channels) (cells_of hs) (omega (arith, h))), one.place)
  one_coded gs hs q r a b (inl x) (inr y) = let some = x.0 in let none = y.0 in absurd (omega (arith, some, none))
  one_coded gs hs q r a b (inr x) (inl y) = let none = x.0 in let some = y.0 in absurd (omega (arith, some, none))
  one_coded gs hs q r a b (inr x) (inr y) =
      let none = x.0 in
      let g = all_cells part.channels gs a in
      let h = all_cells part.channels hs b in
      (cells_same part.channels gs hs a b (none_of (cells_of gs) (omega (arith, g, none)) ∙ sym (none_of (cells_of hs) (omega (arith, h, none)))), x.1 ∙ sym y.1)

-- ---- where it starts

pub same_opening : (x y : Found Opening) (r : Result (Found Opening) ErrorAt) → r ≡ Ok x → r ≡ Ok y → x ≡ y
same_opening x y r h k = cc

same_config : {D : Type 0} (x y : Config D) (o : Option (Config D)) → o ≡ Some x → o ≡ Some y → x ≡ y
same_config x y o h k = cc

pub same_listing : {D : Type 0} (x y : Taken (List (Node Leaf)) D) (r : Result (Taken (List (Node Leaf)) D) ErrorAt) → r ≡ Ok x → r ≡ Ok y → x ≡ y
same_listing x y r h k = cc

both : {D : Type 0} (x y : Config D) → x.tree ≡ y.tree → x.decoder ≡ y.decoder → x ≡ y
both x y h k = ap (λ t. record { tree = t; decoder = x.decoder }) h ∙ ap (λ s. record { tree = y.tree; decoder = s }) k

module _ {D : Type 0} (d : Meaning D) (global : Option (Config D)) (bytes : List ℕ) where
  -- the tree after a header, or the global one
  abbrev TreeAfter : Found Opening → Config D → ℕ → Type 0
  TreeAfter found config q = MatchBool found.value.uses_global ((global ≡ Some config) × (q ≡ found.position)) (IsTreeAt d bytes (node_limit found.value.coded.list.channels) depth_limit found.position config q)

  pub one_tree : (b : Bool) (limit place : ℕ) (x y : Config D) (q r : ℕ) → MatchBool b ((global ≡ Some x) × (q ≡ place)) (IsTreeAt d bytes limit depth_limit place x q) → MatchBool b ((global ≡ Some y) × (r ≡ place)) (IsTreeAt d bytes limit depth_limit place y r) →
      (x ≡ y) × (q ≡ r)
  one_tree true limit place x y q r h k = (same_config x y global h.0 k.0, h.1 ∙ sym k.1)
  one_tree false limit place x y q r h k =
      let same = same_listing _ _ (listing_at d bytes limit place) h.reads k.reads in
      (both x y (levels-injective x.tree y.tree (ap (λ (t : Taken (List (Node Leaf)) D). t.value) same)) (ap (λ (t : Taken (List (Node Leaf)) D). t.state) same), ap (λ (t : Taken (List (Node Leaf)) D). t.position) same)

  pub one_start : (given : ChannelList) (p : ℕ) (head other : Opening) (x y : Config D) (q r : ℕ) → IsStartAt d global bytes given p head x q → IsStartAt d global bytes given p other y r → (head ≡ other) × (x ≡ y) × (q ≡ r)
  one_start given p head other x y q r h k =
      let same = same_opening _ _ (opening_at global bytes given p) h.header k.header in
      let tree = one_tree head.uses_global (node_limit head.coded.list.channels) h.tree_at x y q r h.tree (subst (λ (f : Found Opening). TreeAfter f y r) (sym same) k.tree) in
      (ap (λ (f : Found Opening). f.value) same, tree.0, tree.1)

-- ---- two pictures

given_by : (r : Result Opening ErrorKind) (head : Opening) (bytes : List ℕ) (p q : ℕ) → (from_result r).Stands bytes p head q → r ≡ Ok head
given_by (Ok x) head bytes p q s = let made : Opening → Result Opening ErrorKind = Ok in ap made (sym s.0)
given_by (Err e) head bytes p q s = absurd s

same_head : (x y : Opening) → ◌≡◌ {A = Result Opening ErrorKind} (Ok x) (Ok y) → x ≡ y
same_head x y e = cc

module _ {D : Type 0} (d : Meaning D) (w : Width) (global : Option (Config D)) (bytes : List ℕ) (stream : ℕ) (given : ChannelList) (p bit_depth : ℕ) where
  -- the steps of a header lead to its channels
  leads : (head : Opening) (tree_at : ℕ) → opening_at global bytes given p ≡ Ok (record { value = head; position = tree_at }) → list_after_all head.coded.steps given ≡ Ok head.coded.list
  leads head tree_at e =
      let stands = (exact-opening (is_some global) given).read_stands bytes p (record { value = head; position = tree_at }) e in
      let h : Header = stands.0 in
      let comes : resolve (is_some global) given h ≡ Ok head = given_by (resolve (is_some global) given h) head bytes stands.1 tree_at stands.3 in
      let (coded, found, rest) = came (coded_list h.transform given) _ head comes in
      let (u, fine, last) = came (conditions (is_some global) h coded.list) _ head rest in
      subst (λ (o : Opening). list_after_all o.coded.steps given ≡ Ok o.coded.list) (same_head _ head last) (steps_list h.transform given coded found)

  -- so the coded samples have their sides
  sides : (grids : List (Grid ℤ)) (q : ℕ) (a : IsPicture d w global bytes stream given p bit_depth grids q) → AreGridsOf a.head.coded.list.channels a.samples
  sides grids q a =
      let last = chain_ends w bit_depth a.head.coded.steps given grids a.samples a.only.chain in
      let list : last.0 ≡ a.head.coded.list = same_list last.0 a.head.coded.list (sym last.1 ∙ leads a.head a.start.tree_at a.start.header) in
      subst (λ (l : ChannelList). AreGridsOf l.channels a.samples) list last.2

  pub one_picture : (grids others : List (Grid ℤ)) (q r : ℕ) (a : IsPicture d w global bytes stream given p bit_depth grids q) (b : IsPicture d w global bytes stream given p bit_depth others r) →
      (a.head ≡ b.head) × (a.config ≡ b.config) × (a.samples ≡ b.samples) × (grids ≡ others) × (q ≡ r)
  one_picture grids others q r a b =
      let starts = one_start d global bytes given p a.head b.head a.config b.config a.samples_at b.samples_at a.start b.start in
      let placed : IsCodedWhole d w (coded_part stream b.head b.config) bytes b.config.decoder a.samples_at b.samples r =
      subst (λ n. IsCodedWhole d w (coded_part stream b.head b.config) bytes b.config.decoder n b.samples r) (sym starts.2) b.coded in
      let configured : IsCodedWhole d w (coded_part stream b.head a.config) bytes a.config.decoder a.samples_at b.samples r =
      subst (λ (c : Config D). IsCodedWhole d w (coded_part stream b.head c) bytes c.decoder a.samples_at b.samples r) (sym starts.1) placed in
      let coded : IsCodedWhole d w (coded_part stream a.head a.config) bytes a.config.decoder a.samples_at b.samples r =
      subst (λ (h : Opening). IsCodedWhole d w (coded_part stream h a.config) bytes a.config.decoder a.samples_at b.samples r) (sym starts.0) configured in
      let own = subst (λ (h : Opening). AreGridsOf h.coded.list.channels b.samples) (sym starts.0) (sides others r b) in
      let samples = one_coded d w (coded_part stream a.head a.config) bytes a.config.decoder a.samples_at a.samples b.samples q r (sides grids q a) own a.coded coded in
      let moved : Chain w bit_depth a.head.coded.steps given others b.samples = subst (λ (h : Opening). Chain w bit_depth h.coded.steps given others b.samples) (sym starts.0) b.only.chain in
      let chain : Chain w bit_depth a.head.coded.steps given others a.samples = subst (Chain w bit_depth a.head.coded.steps given others) (sym samples.0) moved in
      (starts.0, starts.1, samples.0, sym (a.only.only others chain), samples.1)
