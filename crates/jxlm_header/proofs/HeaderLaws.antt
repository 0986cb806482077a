-- The laws of the fields that come before an image's tree.
use Rattle.std.proofs.Common.{◌≡◌, ℕ, List, Bool, Ok, refl, ap, ◌∙◌}
use Rattle.jxlm_bits.specs.ErrorKind as reading
use Rattle.jxlm_bits.specs.ErrorKind.{ErrorKind, UnlessNoMemory}
use Rattle.jxlm_bits.specs.Grammar.{Grammar, IsExact, IsErrorAt, flag, repeated, u32, ◌>>=◌}
use Rattle.jxlm_bits.specs.declared.bits.U32Spec.TheVariants.{Const, Offset}
use Rattle.jxlm_bits.proofs.GrammarLaws.{exact-give, exact-bind, exact-repeated, exact-flag, exact-u32}
use Rattle.jxlm_transform.specs.Channels.{ChannelList, tables_for}
use Rattle.jxlm_transform.specs.Transforms.{transform_by}
use Rattle.jxlm_transform.specs.declared.param.PaletteTables.{PaletteTables}
use Rattle.jxlm_transform.proofs.TransformLaws.{exact-checked, exact-transform}
use Rattle.jxlm_weighted.proofs.WeightsLaws.{exact-wp_header}
use Rattle.jxlm_transform.proofs.Failures.{unless_so}
use Rattle.jxlm_weighted.specs.WeightsHeader.{wp_header}
use Rattle.jxlm_weighted.specs.declared.weights.WpHeader.{WpHeader}
use Rattle.jxlm_header.specs.Header.{header_by}
use Rattle.jxlm_header.specs.Opening.{resolve, opening}

bind : {X Y : Type 0} {field : Grammar X} {next : X → Grammar Y} → IsExact field → ((x : X) → IsExact (next x)) → IsExact (field >>= next)
bind {field} {next} first rest = exact-bind field next first rest

-- the parser returns exactly what the bits at its position code
pub exact-header : (tables : PaletteTables) → IsExact (header_by tables)
exact-header tables =
    bind exact-flag λ use_global_tree. bind exact-wp_header λ weights.
    bind (exact-u32 (Const 0) (Const 1) (Offset 2 4) (Offset 18 8)) λ count.
    bind (exact-repeated count (transform_by tables weights) (exact-transform tables weights)) λ transforms.
    exact-give (record { use_global_tree = use_global_tree; wp_params = weights; transform = transforms })

-- and so is all that comes before the tree
pub exact-opening : (has_global : Bool) (list : ChannelList) → IsExact (opening has_global list)
exact-opening has_global list = bind (exact-header (tables_for list.channels)) λ h. exact-checked (resolve has_global list h)

-- where one of the transforms gives an error, so does the header
pub listed_fails : (tables : PaletteTables) (bytes : List ℕ) (p : ℕ) (global : Bool) (a : ℕ) (weights : WpHeader) (b n m : ℕ) (error : ErrorKind) (q : ℕ) → flag.read bytes p ≡ Ok (record { value = global; position = a }) →
    wp_header.read bytes a ≡ Ok (record { value = weights; position = b }) → (u32 (Const 0) (Const 1) (Offset 2 4) (Offset 18 8)).read bytes b ≡ Ok (record { value = n; position = m }) →
    UnlessNoMemory error (IsErrorAt ((repeated n (transform_by tables weights)).read bytes m) error q) → UnlessNoMemory error (IsErrorAt ((header_by tables).read bytes p) error q)
listed_fails tables bytes p global a weights b n m error q first second third refused =
    let rest : (header_by tables).read bytes p ≡ reading.◌>>=◌ ((repeated n (transform_by tables weights)).read bytes m) (λ found. Ok (record { value = record { use_global_tree = global; wp_params = weights; transform = found.value }; position = found.position })) =
    rw (first, second, third) refl in
    unless_so error (IsErrorAt ((repeated n (transform_by tables weights)).read bytes m) error q) (IsErrorAt ((header_by tables).read bytes p) error q)
    (λ r. record {
      place = r.place;
      refuses = rest ∙ ap (λ all. reading.◌>>=◌ all (λ found. Ok (record { value = record { use_global_tree = global; wp_params = weights; transform = found.value }; position = found.position }))) r.refuses;
      stands = r.stands;
    }) refused
