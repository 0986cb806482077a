-- An image that was encoded, by its numbers.
use Rattle.std.proofs.Common.{◌≡◌, ℕ, ℤ, List, [], ◌∷◌, refl, ap}
use Rattle.std.specs.Prelude.{◌≢◌}
use Rattle.std.specs.Int.{Width}
use Rattle.jxlm_base.specs.Grid.{Grid}
use Rattle.jxlm_base.specs.Regions.{store_meanings}
use Rattle.jxlmod_commands.specs.Encoding.{IsEncodedIn}
use Rattle.jxlmod_commands.specs.declared.arguments.Format.{Format}
use Rattle.jxlbench.specs.Encoding.{IsEncodedAs}

none_of_meanings : {S : Type 0} (f : S → ℤ) (grids : List (Grid S)) → store_meanings f grids ≡ [] → grids ≡ []
none_of_meanings f [] h = refl
none_of_meanings f (g ∷ gs) h = cc

pub encoded_as : {S : Type 0} (f : S → ℤ) (format : Format) (w : Width) (grids : List (Grid S)) (bytes : List ℕ) →
    (grids ≡ [] → bytes ≡ []) → (grids ≢ [] → IsEncodedIn format (store_meanings f grids) w bytes) → IsEncodedAs format w (store_meanings f grids) bytes
encoded_as f format w grids bytes none some = record {
  none = λ e. none (none_of_meanings f grids e);
  some = λ other. some (λ e. other (ap (store_meanings f) e));
}
