use Rattle.std.proofs.Common.{arith, ◌≤◌, ◌∙◌, List, ℕ, length, sym, subst}
use Rattle.jxl_icc_write.proofs.Literals.{few_commands, literals_decode, literals_long, stream_is}
use Rattle.jxl_icc_write.proofs.encode.encode_literally.Goals as goal

pub joined-requires : goal.joined-requires
joined-requires c =
    let few : length c.deref.result.now ≤ 7 = subst (λ (xs : List ℕ). length xs ≤ 7) (sym (c.deref.ensures.value ∙ c.in_ok-commands.ensures)) (few_commands (length c.args.icc.now)) in
    omega (arith, few)

pub returns-clause-gives : goal.returns-clause-gives
returns-clause-gives c =
    literals_decode c.args.icc.now c.in_ok-header.header.items c.in_ok-encoded.encoded.items c.requires c.in_ok-header.ensures.each c.in_ok-header.ensures.count
    (stream_is c.in_ok-encoded.encoded.items c.args.icc.now c.deref.result.now c.deref-2.result.now c.in_ok-header.header.items c.after_header.result.now c.in_ok-header.ensures.count
    c.in_ok-encoded.ensures (c.deref.ensures.value ∙ c.in_ok-commands.ensures) c.deref-2.ensures.value c.after_header.ensures)

pub returns-clause-long : goal.returns-clause-long
returns-clause-long c =
    literals_long c.args.icc.now c.in_ok-header.header.items c.in_ok-encoded.encoded.items c.requires c.in_ok-header.ensures.each c.in_ok-header.ensures.count
    (stream_is c.in_ok-encoded.encoded.items c.args.icc.now c.deref.result.now c.deref-2.result.now c.in_ok-header.header.items c.after_header.result.now c.in_ok-header.ensures.count
    c.in_ok-encoded.ensures (c.deref.ensures.value ∙ c.in_ok-commands.ensures) c.deref-2.ensures.value c.after_header.ensures)
