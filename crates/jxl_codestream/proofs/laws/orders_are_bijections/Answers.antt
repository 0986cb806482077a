use Rattle.jxl_codestream.proofs.Bijections.{is_bijection, one_order}
use Rattle.jxl_codestream.proofs.laws.orders_are_bijections.Goals as goal

pub returns : goal.returns
returns c = record { places = is_bijection; one = one_order }
