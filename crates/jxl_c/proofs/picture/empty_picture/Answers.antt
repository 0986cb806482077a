use Rattle.jxl_c.proofs.Encodings.{refused_by}
use Rattle.jxl_c.proofs.picture.empty_picture.Goals as goal

pub returns-then-not-is_codable-clause-err : goal.returns-then-not-is_codable-clause-err
returns-then-not-is_codable-clause-err c = λ _.
    refused_by c.args.info.now c.args.extra.now c.args.profile.now (record { header = c.in-Ok.header; channels = c.new.result; profile = c.in_ok-profile_of.field-0 }) c.is_codable.result c.in-Ok.ensures.ok c.in_ok-profile_of.ensures
    c.is_codable.ensures c.if-not-is_codable.true
