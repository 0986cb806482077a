-- Where samples may not be missing, each section is whole once it was decoded.
use Rattle.std.proofs.Common.{◌≡◌, ℕ, Bool, true, false, inl, inr, List, [], ◌∷◌, Ok, ℤ}
use Rattle.std.specs.Prelude.{MatchBool, Option}
use Rattle.std.specs.Int.{Width}
use Rattle.std.specs.List.{All}
use Rattle.std.proofs.lemmas.List.Elements.{All-cons, All-nil}
use Rattle.jxlm_bits.specs.Bits.{bytes_of, position_of}
use Rattle.jxlm_bits.specs.Decoding.{Meaning}
use Rattle.jxlm_base.specs.Grid.{Grid}
use Rattle.jxlm_tree.specs.Tree.{Config}
use Rattle.jxlm_groups.specs.declared.pass.Pass.{Pass}
use Rattle.jxlm_samples.specs.Decode.{DecodeGives, Standing}
use Rattle.jxlm_samples.specs.Part.{Part}
use Rattle.jxl_modular.specs.Groups.{held_in, part_in}
use Rattle.jxl_modular.specs.Image.{Image}
use Rattle.jxl_modular.specs.Sections.{AllTurn, SectionTurn, list_in}
use Rattle.jxl_modular.specs.Nested.{NestedDone, PartTurn, Turn}
use Rattle.jxl_modular.specs.declared.sections.Section.{Section}

never : {X : Type 0} → false ≡ true → X
never e = cc

whole_answer : {D : Type 0} (d : Meaning D) (w : Width) (part : Part) (bytes : List ℕ) (decoder : D) (old new : Standing) (tried : ℕ) → DecodeGives d w part bytes decoder old new false (Ok tt) tried → new.partial ≡ false
whole_answer d w part bytes decoder old new tried (inl whole) = whole.whole
whole_answer d w part bytes decoder old new tried (inr fails) = never fails.0

either_of : {R P Q : Type 0} (b : Bool) → (P → R) → (Q → R) → MatchBool b P Q → R
either_of true f g h = f h
either_of false f g h = g h

module _ {S D : Type 0} (d : Meaning D) (w : Width) (to_int : S → ℤ) (zero : S) (x : Image S D) (passes : List Pass) (global : Option (Config D)) where
  whole_turn : (s : Section) (t : Turn) (old new : List (Grid S)) → SectionTurn d w to_int zero x passes global false s (Ok tt) t old new → t.partial ≡ false
  whole_turn s t old new h =
      either_of {P = NestedDone d w to_int zero x.bit_depth global (bytes_of s.bits) (position_of s.bits) (list_in x passes s.part) (held_in x passes s.part) s.stream_index false t old new} {Q = PartTurn d w to_int (part_in x passes s.part s.stream_index) (bytes_of s.bits) x.config.decoder (position_of s.bits) (held_in x passes s.part) false (Ok tt) t old new} s.nested
      (λ n. whole_answer d w _ _ n.start.config.decoder _ _ t.tried n.decoded.answers)
      (λ p. whole_answer d w _ _ x.config.decoder _ _ t.tried p.answers) h

  pub all_whole : (ss : List Section) (ts : List Turn) (old new : List (Grid S)) → AllTurn d w to_int zero x passes global false ss ts old new → All (λ t. t.partial ≡ false) ts
  all_whole [] [] old new h = All-nil (λ (t : Turn). t.partial ≡ false)
  all_whole [] (t ∷ ts) old new h = absurd h
  all_whole (s ∷ ss) [] old new h = absurd h
  all_whole (s ∷ ss) (t ∷ ts) old new h =
      let (between, turn, rest) = h in
      All-cons (λ (t : Turn). t.partial ≡ false) t ts (whole_turn s t old between turn) (all_whole ss ts between new rest)
