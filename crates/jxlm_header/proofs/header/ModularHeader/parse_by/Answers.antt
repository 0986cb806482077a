use Rattle.std.proofs.Common.{◌≡◌, ◌∙◌, Ok}
use Rattle.std.proofs.lemmas.Result.{err_from_is_err_and}
use Rattle.jxlm_bits.specs.Bits.{bytes_of, position_of}
use Rattle.jxlm_bits.specs.ErrorKind.{kind_of, UnlessNoMemory}
use Rattle.jxlm_bits.specs.Grammar.{IsErrorAt, repeated, u32}
use Rattle.jxlm_bits.specs.declared.bits.U32Spec.TheVariants.{Const, Offset}
use Rattle.jxlm_transform.specs.Transforms.{transform_by}
use Rattle.jxlm_weighted.specs.WeightsHeader.{wp_header}
use Rattle.jxlm_header.proofs.HeaderLaws.{listed_fails}
use Rattle.jxlm_header.proofs.header.ModularHeader.parse_by.Goals as goal

pub returns-in_err-transform-clause-gives : goal.returns-in_err-transform-clause-gives
returns-in_err-transform-clause-gives c =
    let p = err_from_is_err_and c.from_residual-in_err-transform.result c.from_residual-in_err-transform.ensures.1 in
    let error = kind_of c.in_err-transform.field-0.0 in
    let bytes = bytes_of c.args.bits.now in
    let a = position_of c.read_bool.new.self in
    let b = position_of c.parse.new.bits in
    let m = position_of c.read_u32.new.self in
    let q = position_of c.read_transforms.new.bits in
    let weights = c.in_ok-wp_params.wp_params in
    let n = c.in_ok-nb_transforms.nb_transforms in
    let to_weights = c.parse.ensures.bytes ∙ c.read_bool.ensures.bytes in
    let second : wp_header.read bytes a ≡ Ok (record { value = weights; position = b }) = rw c.read_bool.ensures.bytes at c.in_ok-wp_params.ensures.gives in
    let third : (u32 (Const 0) (Const 1) (Offset 2 4) (Offset 18 8)).read bytes b ≡ Ok (record { value = n; position = m }) = rw to_weights at c.in_ok-nb_transforms.ensures.gives in
    let gives : UnlessNoMemory error (IsErrorAt ((repeated n (transform_by c.args.tables weights)).read bytes m) error q) = rw (c.read_u32.ensures.bytes ∙ to_weights) at c.in_err-transform.ensures.gives in
    rw (p.1, p.2) (listed_fails c.args.tables bytes (position_of c.args.bits.now) c.in_ok-use_global_tree.use_global_tree a weights b n m error q c.in_ok-use_global_tree.ensures.gives second third gives)
