use Rattle.validity_laws.proofs.MarkLaws.{spelled_marked}
use Rattle.wasm_link.proofs.Loads.{told_checked, told_undecoded}
use Rattle.wasm_link.proofs.loading.decoded.Goals as goal

pub checked_parts-requires : goal.checked_parts-requires
checked_parts-requires c = spelled_marked c.args.bytes.now c.in-Ok.decoded.module c.in-Ok.decoded.marks c.in-Ok.ensures.found.0

pub returns-in-Ok : goal.returns-in-Ok
returns-in-Ok c =
    told_checked c.args.load.now c.args.bytes.now c.in-Ok.decoded.module c.in-Ok.decoded.marks c.checked_parts.result c.in-Ok.ensures.found.0 c.in-Ok.ensures.found.1 c.checked_parts.ensures

pub returns-in-Err : goal.returns-in-Err
returns-in-Err c = told_undecoded c.args.load.now c.args.bytes.now c.in-Err.fault c.undecoded.result c.undecoded.ensures c.in-Err.ensures.fault
