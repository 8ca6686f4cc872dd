use Rattle.std.proofs.Common.{refl}
use Rattle.module_listing.specs.Listing.{string_byte, quoted}
use Rattle.sexp_text.specs.Bytes.{is_plain}
use Rattle.listing_laws.proofs.laws.listed_strings.Goals as goal

pub returns : goal.returns
unfolding quoted string_byte is_plain
returns c bytes = refl
