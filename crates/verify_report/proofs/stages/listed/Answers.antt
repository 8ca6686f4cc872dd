use Rattle.verify_report.proofs.ListingLaws.{marked_places}
use Rattle.verify_report.proofs.stages.listed.Goals as goal

pub listing-requires : goal.listing-requires
listing-requires c = marked_places c.args.decoded.now.module c.args.decoded.now.marks c.requires
