use Rattle.std.proofs.Common.{◌≡◌, ◌-◌, ◌∙◌, Ok, Some, true, rules, arith}
use Rattle.std.proofs.lemmas.Result.{err_from_is_err_and}
use Rattle.jxlm_bits.specs.Bits.{bytes_of, position_of}
use Rattle.jxlm_bits.specs.ErrorKind.{bitstream_kind}
use Rattle.jxlm_bits.specs.Grammar.{flag, number}
use Rattle.jxl_image_header.proofs.GroupLaws.{no_group, no_rest, all_groups, none_there, no_flag, last_group, bound_some, bound_before, bound_most}
use Rattle.jxl_image_header.proofs.fields.+groups.Goals as goal

pub returns-in_err-more-clause-reads : goal.returns-in_err-more-clause-reads
returns-in_err-more-clause-reads t c =
    let p = err_from_is_err_and c.from_residual.result c.from_residual.ensures.1 in
    record {
      gives = rw (p.1, p.2) (no_flag (bytes_of c.args.bits.now) c.args.n (position_of c.args.bits.now)
          (record { error = bitstream_kind c.in_err-more.field-0.0; position = Some (position_of c.read_bool.new.self) }) c.in_err-more.ensures.gives);
      bytes = search rules;
    }

pub returns-in_err-number-clause-reads : goal.returns-in_err-number-clause-reads
returns-in_err-number-clause-reads t c =
    let p = err_from_is_err_and c.from_residual-in_err-number.result c.from_residual-in_err-number.ensures.1 in
    let a = position_of c.read_bool.new.self in
    let there : flag.read (bytes_of c.args.bits.now) (position_of c.args.bits.now) ≡ Ok (record { value = true; position = a }) = rw c.if-more.true at c.in_ok-more.ensures.gives in
    record {
      gives = rw (p.1, p.2) (last_group (bytes_of c.args.bits.now) c.args.n (position_of c.args.bits.now) a c.if-n-eq0.true there
          ∙ (rw c.read_bool.ensures.bytes at c.in_err-number.ensures.reads.gives));
      bytes = search rules;
    }

pub returns-then-n-eq0-clause-reads : goal.returns-then-n-eq0-clause-reads
returns-then-n-eq0-clause-reads t c =
    let same : c.from.result ≡ c.in_ok-number.field-0 = search rules in
    let a = position_of c.read_bool.new.self in
    let there : flag.read (bytes_of c.args.bits.now) (position_of c.args.bits.now) ≡ Ok (record { value = true; position = a }) = rw c.if-more.true at c.in_ok-more.ensures.gives in
    record {
      gives = rw same (last_group (bytes_of c.args.bits.now) c.args.n (position_of c.args.bits.now) a c.if-n-eq0.true there
          ∙ (rw c.read_bool.ensures.bytes at c.in_ok-number.ensures.reads.gives));
      bytes = search rules;
    }

pub returns-in_err-value-clause-reads : goal.returns-in_err-value-clause-reads
returns-in_err-value-clause-reads t c =
    let p = err_from_is_err_and c.from_residual-in_err-value.result c.from_residual-in_err-value.ensures.1 in
    let a = position_of c.read_bool.new.self in
    let there : flag.read (bytes_of c.args.bits.now) (position_of c.args.bits.now) ≡ Ok (record { value = true; position = a }) = rw c.if-more.true at c.in_ok-more.ensures.gives in
    record {
      gives = rw (p.1, p.2) (no_group (bytes_of c.args.bits.now) c.args.n (position_of c.args.bits.now) a c.if-n-eq0.false there
          (record { error = bitstream_kind c.in_err-value.field-0.0; position = Some (position_of c.number-then-more.new.bits) })
          (rw c.read_bool.ensures.bytes at c.in_err-value.ensures.reads.gives));
      bytes = search rules;
    }

pub returns-in_err-rest-clause-reads : goal.returns-in_err-rest-clause-reads
returns-in_err-rest-clause-reads t c =
    let p = err_from_is_err_and c.from_residual-in_err-rest.result c.from_residual-in_err-rest.ensures.1 in
    let a = position_of c.read_bool.new.self in
    let b = position_of c.number-then-more.new.bits in
    let there : flag.read (bytes_of c.args.bits.now) (position_of c.args.bits.now) ≡ Ok (record { value = true; position = a }) = rw c.if-more.true at c.in_ok-more.ensures.gives in
    let value : (number 8).read (bytes_of c.args.bits.now) a ≡ Ok (record { value = c.in_ok-value.value; position = b }) = rw c.read_bool.ensures.bytes at c.in_ok-value.ensures.reads.gives in
    record {
      gives = rw (p.1, p.2) (no_rest (bytes_of c.args.bits.now) c.args.n (position_of c.args.bits.now) a c.if-n-eq0.false there c.in_ok-value.value b value
          (record { error = bitstream_kind c.in_err-rest.field-0.0; position = Some (position_of c.groups.new.bits) })
          (rw (c.number-then-more.ensures.reads.bytes ∙ c.read_bool.ensures.bytes) at c.in_err-rest.ensures.reads.gives));
      bytes = search rules;
    }

pub overflow_mul-result : goal.overflow_mul-result
overflow_mul-result t c =
    let most = bound_most (c.args.n - 1) (omega (arith, c.requires)) in
    omega (arith, most, c.in_ok-rest.ensures.below)

pub overflow_add-result : goal.overflow_add-result
overflow_add-result t c =
    let most = bound_most (c.args.n - 1) (omega (arith, c.requires)) in
    let same : c.from-then-more.result ≡ c.in_ok-value.value = search rules in
    omega (arith, most, same, c.in_ok-value.ensures.below, c.in_ok-rest.ensures.below)

pub returns-then-more-clause-reads : goal.returns-then-more-clause-reads
returns-then-more-clause-reads t c =
    let same : c.from-then-more.result ≡ c.in_ok-value.value = search rules in
    let a = position_of c.read_bool.new.self in
    let b = position_of c.number-then-more.new.bits in
    let there : flag.read (bytes_of c.args.bits.now) (position_of c.args.bits.now) ≡ Ok (record { value = true; position = a }) = rw c.if-more.true at c.in_ok-more.ensures.gives in
    let value : (number 8).read (bytes_of c.args.bits.now) a ≡ Ok (record { value = c.in_ok-value.value; position = b }) = rw c.read_bool.ensures.bytes at c.in_ok-value.ensures.reads.gives in
    record {
      gives = rw same (all_groups (bytes_of c.args.bits.now) c.args.n (position_of c.args.bits.now) a c.if-n-eq0.false there c.in_ok-value.value b value
          c.in_ok-rest.rest (position_of c.groups.new.bits) (rw (c.number-then-more.ensures.reads.bytes ∙ c.read_bool.ensures.bytes) at c.in_ok-rest.ensures.reads.gives));
      bytes = search rules;
    }

pub returns-then-more-clause-below : goal.returns-then-more-clause-below
returns-then-more-clause-below t c =
    let same : c.from-then-more.result ≡ c.in_ok-value.value = search rules in
    let bound = bound_before c.args.n c.if-n-eq0.false in
    omega (arith, bound, same, c.in_ok-value.ensures.below, c.in_ok-rest.ensures.below)

pub returns-clause-reads : goal.returns-clause-reads
returns-clause-reads t c =
    record { gives = none_there (bytes_of c.args.bits.now) c.args.n (position_of c.args.bits.now) (position_of c.read_bool.new.self) (rw c.if-more.false at c.in_ok-more.ensures.gives); bytes = search rules }

pub returns-clause-below : goal.returns-clause-below
returns-clause-below t c = bound_some c.args.n
