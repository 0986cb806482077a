use Rattle.std.proofs.Common.{List, ◌≡◌, ◌++◌, ◌∷◌, [], ◌∙◌, ap, map, rules}
use Rattle.std.proofs.lemmas.List.{map_push}
use Rattle.std.proofs.lemmas.List.Elements.{All-push}
use Rattle.std.proofs.lemmas.Result.{err_from_is_err_and}
use Rattle.jxlm_bits.specs.Bits.{bytes_of, position_of}
use Rattle.jxlm_bits.specs.ErrorKind.{kind_of, UnlessNoMemory}
use Rattle.jxlm_bits.specs.Grammar.{IsErrorAt, repeated}
use Rattle.jxlm_transform.proofs.Failures.{unless_so}
use Rattle.jxlm_bits.proofs.RepeatedLoop.{goes_on, stops}
use Rattle.jxlm_transform.specs.Transforms.{IsTransform, KeepsWeights, transform_by, transform_of}
use Rattle.jxlm_transform.specs.declared.transform.TransformInfo.{TransformInfo}
use Rattle.jxlm_header.proofs.header.read_transforms.Goals as goal

pub returns-in_err-transform-clause-gives : goal.returns-in_err-transform-clause-gives
returns-in_err-transform-clause-gives c =
    let p = err_from_is_err_and c.from_residual.result c.from_residual.ensures.1 in
    let error = kind_of c.in_err-transform.field-0.0 in
    let field = transform_by c.args.tables c.args.wp_params.now in
    let bytes = bytes_of c.args.bits.now in
    let q = position_of c.parse_by.new.bits in
    let all = (repeated c.args.count field).read bytes (position_of c.args.bits.now) in
    let gives : UnlessNoMemory error (IsErrorAt (field.read bytes (position_of c.loop.bits)) error q) = rw c.loop.invariant.bytes at c.in_err-transform.ensures.gives in
    let refused : UnlessNoMemory error (IsErrorAt all error q) =
    unless_so error (IsErrorAt (field.read bytes (position_of c.loop.bits)) error q) (IsErrorAt all error q)
    (λ r. record {
      place = r.place;
      refuses = stops field bytes (map transform_of c.loop.transforms.items) c.args.count c.loop.counter (position_of c.loop.bits) (record { error = error; position = r.place }) all c.loop-test.true r.refuses c.loop.invariant.read;
      stands = r.stands;
    }) gives in
    rw (p.1, p.2) refused

pub loop-preserved : goal.loop-preserved
loop-preserved c =
    let t = c.in_ok-transform.transform in
    let pushed : c.push.new.self.items ≡ c.loop.transforms.items ++ t ∷ [] = search rules in
    let seen : map transform_of c.push.new.self.items ≡ map transform_of c.loop.transforms.items ++ transform_of t ∷ [] = ap (λ (ts : List TransformInfo). map transform_of ts) pushed ∙ map_push transform_of c.loop.transforms.items t in
    record {
      bytes = search rules;
      each = rw seen (All-push IsTransform (map transform_of c.loop.transforms.items) (transform_of t) c.loop.invariant.each c.in_ok-transform.ensures.ranges);
      weights = rw seen (All-push (KeepsWeights c.args.wp_params.now) (map transform_of c.loop.transforms.items) (transform_of t) c.loop.invariant.weights c.in_ok-transform.ensures.weights);
      read = rw seen (goes_on (transform_by c.args.tables c.args.wp_params.now) (bytes_of c.args.bits.now) (map transform_of c.loop.transforms.items) c.args.count c.loop.counter (position_of c.loop.bits) (transform_of t) (position_of c.parse_by.new.bits) _
          c.loop-test.true (rw c.loop.invariant.bytes at c.in_ok-transform.ensures.gives) c.loop.invariant.read);
    }
