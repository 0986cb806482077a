use Rattle.std.proofs.Common.{ℕ, List, Result, Ok, Err, arith}
use Rattle.std.specs.Prelude.{IfOk}
use Rattle.jxlm_bits.specs.Bits.{bytes_of, position_of}
use Rattle.jxlm_bits.specs.Grammar.{Reads, u32}
use Rattle.jxlm_bits.specs.declared.bits.BitstreamError.{BitstreamError}
use Rattle.jxlm_bits.specs.declared.bits.U32Spec.TheVariants.{Const, Offset}
use Rattle.jxlm_bits.proofs.FieldRanges.{u32-between}
use Rattle.jxl_frame_header.specs.Passes.{IsPassCount}
use Rattle.jxl_frame_header.proofs.passes.pass_count.Goals as goal

counted : (bytes : List ℕ) (p q : ℕ) (r : Result ℕ BitstreamError) → Reads (λ (v : ℕ). v) r q ((u32 (Const 1) (Const 2) (Const 3) (Offset 4 3)).read bytes p) → IfOk r IsPassCount
counted bytes p q (Ok v) reads =
    let between = u32-between (Const 1) (Const 2) (Const 3) (Offset 4 3) bytes p (record { value = v; position = q }) reads in
    record { some = omega (arith, between.0); few = omega (arith, between.1) }
counted bytes p q (Err e) reads = tt

pub returns-clause-counted : goal.returns-clause-counted
returns-clause-counted c = counted (bytes_of c.args.bits.now) (position_of c.args.bits.now) (position_of c.read_u32.new.self) _ c.read_u32.ensures.gives
