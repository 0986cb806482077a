-- Words are for one command at most.
use Rattle.std.proofs.Common.{◌≡◌, ℕ, List, get_or, length, codes, refl, sym, ap, ◌∙◌, arith}
use Rattle.std.proofs.lemmas.List.{length-append}
use Rattle.jxlmod_commands.specs.declared.arguments.Format.{Format}
use Rattle.jxlmod_commands.specs.declared.arguments.Format.TheVariants.{First, Second}
use Rattle.jxlmod_commands.specs.declared.arguments.Samples.{Samples}
use Rattle.jxlmod_commands.specs.declared.arguments.Samples.TheVariants.{I16, I32}
use Rattle.jxlmod_commands.specs.declared.arguments.Command.{Command}
use Rattle.jxlmod_commands.specs.declared.arguments.Command.TheVariants.{Decode, Sections, Encode}
use Rattle.jxlmod_commands.specs.Arguments.{AreFor, AreWrong, AskForNoDecode, AskForNoEncode, AskForNoSections, AsksPicture, name_in, samples_word}

samples_word-one : (s t : Samples) → samples_word s ≡ samples_word t → s ≡ t
samples_word-one I16 I16 e = refl
samples_word-one I16 I32 e = absurd (omega (arith, ap (λ xs. get_or xs 1 0) e))
samples_word-one I32 I16 e = absurd (omega (arith, ap (λ xs. get_or xs 1 0) e))
samples_word-one I32 I32 e = refl

-- a word is for one format: that of the second is longer
format-one : (name : List ℕ) (f f' : Format) → name_in name f ≡ name_in name f' → f ≡ f'
format-one name First First e = refl
format-one name First Second e = absurd (omega (arith, ap length e, length-append name (codes "2")))
format-one name Second First e = absurd (omega (arith, ap length e, length-append name (codes "2")))
format-one name Second Second e = refl

-- the same words name one picture
pub record SamePicture (f : Format) (w h n b : ℕ) (s : Samples) (f' : Format) (w' h' n' b' : ℕ) (s' : Samples) : Type 0 where
  pub format : f ≡ f'
  pub wide : w ≡ w'
  pub high : h ≡ h'
  pub many : n ≡ n'
  pub deep : b ≡ b'
  pub typed : s ≡ s'

picture-one : (words : List (List ℕ)) (name : List ℕ) (more : ℕ) (f f' : Format) (w h n b : ℕ) (s : Samples) (w' h' n' b' : ℕ) (s' : Samples) →
    AsksPicture words name more f w h n b s → AsksPicture words name more f' w' h' n' b' s' → SamePicture f w h n b s f' w' h' n' b' s'
picture-one words name more f f' w h n b s w' h' n' b' s' p q = record {
  format = format-one name f f' (sym p.named ∙ q.named);
  wide = sym p.wide.value ∙ q.wide.value;
  high = sym p.high.value ∙ q.high.value;
  many = sym p.many.value ∙ q.many.value;
  deep = sym p.deep.value ∙ q.deep.value;
  typed = samples_word-one s s' (sym p.typed ∙ q.typed);
}

pub AreFor-one : (words : List (List ℕ)) (c d : Command) → AreFor words c → AreFor words d → c ≡ d
AreFor-one words (Decode f w h n b s) (Decode f' w' h' n' b' s') p q =
    let same = picture-one words (codes "decode") 0 f f' w h n b s w' h' n' b' s' p.0 q.0 in
    cc
AreFor-one words (Sections f w h n b s g) (Sections f' w' h' n' b' s' g') p q =
    let same = picture-one words (codes "sections") 1 f f' w h n b s w' h' n' b' s' p.0.0 q.0.0 in
    let side : g ≡ g' = sym p.0.1.value ∙ q.0.1.value in
    cc
AreFor-one words (Decode f w h n b s) (Sections f' w' h' n' b' s' g') p q = absurd (omega (arith, p.0.count, q.0.0.count))
AreFor-one words (Sections f w h n b s g) (Decode f' w' h' n' b' s') p q = absurd (omega (arith, p.0.0.count, q.0.count))
AreFor-one words (Encode f s) (Encode f' s') p q =
    let format : f ≡ f' = format-one (codes "encode") f f' (sym p.0.named ∙ q.0.named) in
    let same : s ≡ s' = samples_word-one s s' (sym p.0.typed ∙ q.0.typed) in
    cc
AreFor-one words (Encode f s) (Decode f' w h n b s') p q = absurd (omega (arith, p.0.count, q.0.count))
AreFor-one words (Encode f s) (Sections f' w h n b s' g) p q = absurd (omega (arith, p.0.count, q.0.0.count))
AreFor-one words (Decode f w h n b s) (Encode f' s') p q = absurd (omega (arith, p.0.count, q.0.count))
AreFor-one words (Sections f w h n b s g) (Encode f' s') p q = absurd (omega (arith, p.0.0.count, q.0.count))

-- words of which a command was not read are for no other
pub no_encode : (words : List (List ℕ)) → length words ≡ 2 → AskForNoEncode words → AreWrong words
no_encode words count none (Encode f s) p = none f s p.0
no_encode words count none (Decode f w h n b s) p = absurd (omega (arith, count, p.0.count))
no_encode words count none (Sections f w h n b s g) p = absurd (omega (arith, count, p.0.0.count))

pub no_decode : (words : List (List ℕ)) → length words ≡ 6 → AskForNoDecode words → AreWrong words
no_decode words count none (Encode f s) p = absurd (omega (arith, count, p.0.count))
no_decode words count none (Decode f w h n b s) p = none f w h n b s p.0
no_decode words count none (Sections f w h n b s g) p = absurd (omega (arith, count, p.0.0.count))

pub no_sections : (words : List (List ℕ)) → (length words ≡ 2 → ⊥) → (length words ≡ 6 → ⊥) → AskForNoSections words → AreWrong words
no_sections words two six none (Encode f s) p = absurd (two p.0.count)
no_sections words two six none (Decode f w h n b s) p = absurd (six p.0.count)
no_sections words two six none (Sections f w h n b s g) p = none f w h n b s g p.0
