use Rattle.jxl_image_header.proofs.HeaderLaws.{exact-long, exact-extensions, exact-name, exact-zero_pad_to_byte, exact-depth, exact-channel, exact-colours}
use Rattle.jxl_image_header.proofs.laws.header_fields_are_read_exactly.Goals as goal

pub returns : goal.returns
returns c = record { long = exact-long; extensions = exact-extensions; name = exact-name; zero_pad_to_byte = exact-zero_pad_to_byte; depth = exact-depth; channel = exact-channel; colours = exact-colours }
