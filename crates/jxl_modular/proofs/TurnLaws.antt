-- One section after another: what the loop over sections keeps, how it goes on by one turn, and how it ends.
use Rattle.std.proofs.Common.{◌≡◌, ◌↔◌, ℕ, Bool, true, false, not, ◌&&◌, ◌+◌, ◌<◌, inl, inr, List, [], ◌∷◌, ◌++◌, map, take, drop, length, get_or, Result, Ok, Err, ℤ, refl, sym, ap, ◌∙◌, subst, arith, append_assoc}
use Rattle.std.specs.Prelude.{sum, IsTrue, MatchBool, Option}
use Rattle.std.specs.List.{All}
use Rattle.std.specs.Int.{Width}
use Rattle.std.proofs.lemmas.List.{take_more, take-append-drop, append-nil}
use Rattle.std.proofs.lemmas.List.Sums.{sum-map, sum_by_push}
use Rattle.std.proofs.lemmas.List.Elements.{All-append, All-cons, All-head, All-tail}
use Rattle.jxlm_bits.specs.Bits.{bytes_of, position_of}
use Rattle.jxlm_bits.specs.Decoding.{Meaning}
use Rattle.jxlm_bits.specs.ErrorKind.{NoMemory, kind_of}
use Rattle.jxlm_base.specs.Grid.{Grid}
use Rattle.jxlm_base.specs.Outside.{KeepsOutside}
use Rattle.jxlm_base.specs.Regions.{grids_in, store_meanings}
use Rattle.jxlm_bits.specs.declared.error.Error.{Error}
use Rattle.jxlm_chain.proofs.ShapeLaws.{shape_both, shape_same}
use Rattle.jxlm_groups.specs.declared.pass.Pass.{Pass}
use Rattle.jxlm_samples.specs.Decode.{MovesWithin}
use Rattle.jxlm_samples.specs.Part.{cell_count}
use Rattle.jxlm_tree.specs.Tree.{Config}
use Rattle.jxl_modular.specs.Image.{Image, IsOnlyImage, coded_grids, image_grids}
use Rattle.jxl_modular.specs.Inner.Turns.{HasStopped, HasTurned, PlainGives, PlainTurn, TurnGives}
use Rattle.jxl_modular.specs.SameButCells.{SameButCells}
use Rattle.jxl_modular.proofs.Filling.{only_of}
use Rattle.jxl_modular.proofs.Laid.{same_but_store}
use Rattle.jxl_modular.proofs.PartLaws.{by_depth}
use Rattle.jxlm_nested.proofs.PartFacts.{as_test}
use Rattle.jxl_modular.specs.Groups.{PartOfGives, channels_in, held_in}
use Rattle.jxl_modular.specs.NestedTurns.{NestedGives}
use Rattle.jxl_modular.specs.Sections.{AllTurn, IsComplete, Section, SectionTurn, SectionsLeave, SectionsStop, Turn, most}

-- ---- images that differ in cells alone

module _ {S D : Type 0} where
  pub same_both : (x y z : Image S D) → SameButCells x y → SameButCells y z → SameButCells x z
  same_both x y z a b = record {
    rest = b.rest ∙ ap (λ (i : Image S D). record i { store = z.store }) a.rest;
    shape = shape_both x.store y.store z.store a.shape b.shape;
  }

  pub same_here : (x : Image S D) → SameButCells x x
  same_here x = same_but_store x x.store (shape_same x.store)

-- ---- counts and flags

moves_both : (a b c m n : ℕ) → MovesWithin a b m → MovesWithin b c n → MovesWithin a c (m + n)
moves_both a b c m n h k = let (h0, h1) = h in let (k0, k1) = k in (omega (arith, h0, k0), omega (arith, h1, k1))

moves_next : (before now after : ℕ) (ts : List Turn) (t : Turn) → MovesWithin before now (sum (map most ts)) → MovesWithin now after (most t) → MovesWithin before after (sum (map most (ts ++ t ∷ [])))
moves_next before now after ts t h k =
    let same : sum (map most (ts ++ t ∷ [])) ≡ sum (map most ts) + most t = sum-map most (ts ++ t ∷ []) ∙ sum_by_push most ts t ∙ ap (λ n. n + most t) (sym (sum-map most ts)) in
    subst (MovesWithin before after) (sym same) (moves_both before now after (sum (map most ts)) (most t) h k)

whole_next : (ts : List Turn) (t : Turn) → All (λ t. t.partial ≡ false) ts → t.partial ≡ false → All (λ t. t.partial ≡ false) (ts ++ t ∷ [])
whole_next ts t all one = let P : Turn → Type 0 = λ t. t.partial ≡ false in All-append P ts (t ∷ []) all (All-cons P t [] one (λ k d l. absurd (omega (arith, l))))

whole_parts : (ts : List Turn) (t : Turn) → All (λ t. t.partial ≡ false) (ts ++ t ∷ []) → All (λ t. t.partial ≡ false) ts × (t.partial ≡ false)
whole_parts [] t all = (λ k d l. absurd (omega (arith, l)), All-head (λ (t : Turn). t.partial ≡ false) t [] all)
whole_parts (u ∷ ts) t all =
    let rest = whole_parts ts t (All-tail (λ (t : Turn). t.partial ≡ false) u (ts ++ t ∷ []) all) in
    (All-cons (λ (t : Turn). t.partial ≡ false) u ts (All-head (λ (t : Turn). t.partial ≡ false) u (ts ++ t ∷ []) all) rest.0, rest.1)

both_true : (a b : Bool) → a ≡ true → b ≡ true → (a && b) ≡ true
both_true a b h k = rw (h, k) refl

parts_true : (a b : Bool) → (a && b) ≡ true → (a ≡ true) × (b ≡ true)
parts_true true b h = (refl, h)
parts_true false b h = absurd cc

whole_is : (a p : Bool) → a ≡ not p → a ≡ true → p ≡ false
whole_is a true h k = cc
whole_is a false h k = refl

is_whole : (a p : Bool) → a ≡ not p → p ≡ false → a ≡ true
is_whole a p h k = h ∙ ap not k

pub falls : (now whole b : Bool) → now ≡ false → b ≡ false → now ≡ (whole && b)
falls now true b h k = h ∙ sym k
falls now false b h k = h

pub stays : (now whole b : Bool) → now ≡ whole → b ≡ true → now ≡ (whole && b)
stays now true b h k = h ∙ sym k
stays now false b h k = h

-- ---- a section without a header of its own: what decoding its part gives is its turn

module _ {S D : Type 0} (d : Meaning D) (w : Width) (to_int : S → ℤ) (x : Image S D) (passes : List Pass) (partly : Bool)
    (s : Section) (p : ℕ) (new : Image S D) (begins still : Bool) (before after : ℕ) (there : IsTrue begins ↔ (0 < cell_count (channels_in x passes s.part)))
    (outside : KeepsOutside (held_in x passes s.part) x.store new.store) where
  abbrev Gives : Result (Unit {0}) Error → Type 0
  Gives r = PartOfGives d w to_int (bytes_of s.bits) s.stream_index passes s.part x (position_of s.bits) begins before new p still after partly r

  abbrev turn_with : ℕ → Turn
  turn_with tried = record { position = p; partial = still; tried = tried; tree = x.config.tree }

  turn_of : (r : Result (Unit {0}) Error) (gives : Gives r) → PlainTurn d w to_int x passes partly s r (turn_with gives.0) x.store new.store
  turn_of r gives = record {
    answers = rw (as_test begins (cell_count (channels_in x passes s.part)) there) at gives.1;
    outside = outside;
    tree = refl;
  }

  pub plain_ok : Gives (Ok tt) → PlainGives d w to_int x passes partly s (Ok (not still)) x.store new.store before after
  plain_ok gives = (turn_with gives.0, (turn_of (Ok tt) gives, refl), by_depth before after gives.0 x.config.tree gives.2)

  pub plain_err : (e : Error) → Gives (Err e) → PlainGives d w to_int x passes partly s (Err e) x.store new.store before after
  plain_err e gives = (turn_with gives.0, turn_of (Err e) gives, by_depth before after gives.0 x.config.tree gives.2)

-- ---- one turn more

module _ {S D : Type 0} (d : Meaning D) (w : Width) (to_int : S → ℤ) (zero : S) (x : Image S D) (passes : List Pass) (global : Option (Config D)) (partly : Bool) where
  abbrev Left : List Section → List Turn → List (Grid S) → List (Grid S) → Type 0
  Left = AllTurn d w to_int zero x passes global partly

  -- the turn of an image that differs in cells alone is one of the earlier image
  of_image : (y : Image S D) (s : Section) (r : Result (Unit {0}) Error) (t : Turn) (old new : List (Grid S)) → SameButCells x y →
      SectionTurn d w to_int zero y passes global partly s r t old new → SectionTurn d w to_int zero x passes global partly s r t old new
  of_image y s r t old new same = subst (λ (z : Image S D). SectionTurn d w to_int zero z passes global partly s r t old new) same.rest

  -- a section with a header of its own: what decoding its part gives is its turn
  match_true : {P : Type 0} (Q : Type 0) (b : Bool) → b ≡ true → P → MatchBool b P Q
  match_true Q true is h = h
  match_true Q false is h = absurd cc

  pub nested_turn : (s : Section) (r : Result Bool Error) (old new : List (Grid S)) (q before after : ℕ) → s.nested ≡ true →
      NestedGives d w to_int zero x passes global (bytes_of s.bits) (position_of s.bits) s.part s.stream_index partly r old new q before after →
      TurnGives d w to_int zero x passes global partly s r old new before after
  nested_turn s (Ok whole) old new q before after is (t, turn, at, moves) = (t, (match_true _ s.nested is turn.0, turn.1), by_depth before after t.tried t.tree moves)
  nested_turn s (Err e) old new q before after is (t, turn, at, moves) = (t, match_true _ s.nested is turn, by_depth before after t.tried t.tree moves)

  left_next : (ss : List Section) (ts : List Turn) (s : Section) (t : Turn) (old between new : List (Grid S)) → Left ss ts old between →
      SectionTurn d w to_int zero x passes global partly s (Ok tt) t between new → Left (ss ++ s ∷ []) (ts ++ t ∷ []) old new
  left_next [] [] s t old between new left turn =
      (new, subst (λ (store : List (Grid S)). SectionTurn d w to_int zero x passes global partly s (Ok tt) t store new) left turn, refl)
  left_next [] (u ∷ ts) s t old between new left turn = absurd left
  left_next (r ∷ ss) [] s t old between new left turn = absurd left
  left_next (r ∷ ss) (u ∷ ts) s t old between new left turn = (left.0, left.1, left_next ss ts s t left.0 between new left.2 turn)

  pub turned_none : (old : List (Grid S)) (n : ℕ) → HasTurned d w to_int zero x passes global partly [] true old old n n
  turned_none old n = record {
    turns = [];
    left = refl;
    says = (λ _ k e l. absurd (omega (arith, l)), λ _. refl);
    counted = (omega arith, omega arith);
  }

  module _ (y : Image S D) (same : SameButCells x y) (ss : List Section) (i : ℕ) (s : Section) (here : s ≡ get_or ss i s) (lt : i < length ss) (whole : Bool) (old new : List (Grid S)) (before now after : ℕ)
      (turned : HasTurned d w to_int zero x passes global partly (take i ss) whole old y.store before now) where
    more : take (i + 1) ss ≡ take i ss ++ s ∷ []
    more = take_more ss i s lt ∙ ap (λ (r : Section). take i ss ++ r ∷ []) (sym here)

    pub turned_next : (b then : Bool) → then ≡ (whole && b) → TurnGives d w to_int zero y passes global partly s (Ok b) y.store new now after →
        HasTurned d w to_int zero x passes global partly (take (i + 1) ss) then old new before after
    turned_next b then is (t, turn, moves) = record {
      turns = turned.turns ++ t ∷ [];
      left = subst (λ (rs : List Section). Left rs (turned.turns ++ t ∷ []) old new) (sym more)
          (left_next (take i ss) turned.turns s t old y.store new turned.left (of_image y s (Ok tt) t y.store new same turn.0));
      says = (
        λ so. let both = parts_true whole b (sym is ∙ so) in whole_next turned.turns t (turned.says.0 both.0) (whole_is b t.partial turn.1 both.1),
        λ all. let parts = whole_parts turned.turns t all in is ∙ both_true whole b (turned.says.1 parts.0) (is_whole b t.partial turn.1 parts.1),
      );
      counted = moves_next before now after turned.turns t turned.counted moves;
    }

    pub stops_here : (error : Error) → TurnGives d w to_int zero y passes global partly s (Err error) y.store new now after →
        HasStopped d w to_int zero x passes global partly ss error old new before after
    stops_here error (t, turn, moves) = record {
      done = take i ss;
      next = s;
      rest = drop (i + 1) ss;
      in_order = sym (take-append-drop (i + 1) ss) ∙ ap (λ (rs : List Section). rs ++ drop (i + 1) ss) more ∙ append_assoc (take i ss) (s ∷ []) (drop (i + 1) ss);
      turns = turned.turns;
      between = y.store;
      left = turned.left;
      last = t;
      ends = of_image y s (Err error) t y.store new same turn;
      counted = moves_both before now after (sum (map most turned.turns)) (most t) turned.counted moves;
    }

  -- ---- the end

  -- all sections had their turn, and the transforms are undone
  pub leaves : (ss : List Section) (whole complete answer : Bool) (mid new : Image S D) (before after : ℕ) → answer ≡ (whole && complete) → SameButCells x mid → SameButCells mid new →
      HasTurned d w to_int zero x passes global partly ss whole x.store mid.store before after → IsTrue complete ↔ IsComplete x passes ss →
      IsOnlyImage w new (image_grids to_int new) (coded_grids to_int mid) → SectionsLeave d w to_int zero x passes global partly ss answer x.store (image_grids to_int new) before after
  leaves ss whole complete answer mid new before after is same last turned all only = record {
    turns = turned.turns;
    between = mid.store;
    left = turned.left;
    only = only_of w x new (image_grids to_int new) (grids_in x.coded (store_meanings to_int mid.store)) ((ap (λ (z : Image S D). z.bit_depth) last.rest) ∙ (ap (λ (z : Image S D). z.bit_depth) same.rest)) ((ap (λ (z : Image S D). z.steps) last.rest) ∙ (ap (λ (z : Image S D). z.steps) same.rest)) ((ap (λ (z : Image S D). z.given) last.rest) ∙ (ap (λ (z : Image S D). z.given) same.rest))
        (rw (ap (λ (z : Image S D). z.coded) same.rest) at only);
    says = (
      λ so. let both = parts_true whole complete (sym is ∙ so) in (turned.says.0 both.0, all.0 both.1),
      λ h. is ∙ both_true whole complete (turned.says.1 h.0) (all.1 h.1),
    );
    counted = turned.counted;
  }

  -- a turn in which nothing is done
  abbrev no_turn : Turn
  no_turn = record { position = 0; partial = false; tried = 0; tree = x.config.tree }

  -- out of memory before the first section
  pub stops_first : (ss : List Section) (e : Error) (old : List (Grid S)) (n : ℕ) → kind_of e ≡ NoMemory → SectionsStop d w to_int zero x passes global partly ss e old old n n
  stops_first ss e old n memory = record {
    done = [];
    rest = ss;
    in_order = refl;
    turns = [];
    between = old;
    left = refl;
    last = no_turn;
    ends = inl (record { because = memory; unchanged = refl; tries = refl });
    counted = (omega arith, omega arith);
  }

  -- an error of a section
  pub stops_at : (ss : List Section) (e : Error) (old new : List (Grid S)) (before after : ℕ) → HasStopped d w to_int zero x passes global partly ss e old new before after →
      SectionsStop d w to_int zero x passes global partly ss e old new before after
  stops_at ss e old new before after h = record {
    done = h.done;
    rest = h.next ∷ h.rest;
    in_order = h.in_order;
    turns = h.turns;
    between = h.between;
    left = h.left;
    last = h.last;
    ends = inr (h.next, h.rest, refl, h.ends);
    counted = h.counted;
  }

  -- out of memory after the last section
  pub stops_last : (ss : List Section) (e : Error) (whole : Bool) (old new : List (Grid S)) (before after : ℕ) → kind_of e ≡ NoMemory →
      HasTurned d w to_int zero x passes global partly ss whole old new before after → SectionsStop d w to_int zero x passes global partly ss e old new before after
  stops_last ss e whole old new before after memory turned = record {
    done = ss;
    rest = [];
    in_order = sym (append-nil ss);
    turns = turned.turns;
    between = new;
    left = turned.left;
    last = no_turn;
    ends = inl (record { because = memory; unchanged = refl; tries = refl });
    counted = let (a, b) = turned.counted in (a, omega (arith, b));
  }
