use Rattle.type_safety.proofs.Lists.{same_some}
use Rattle.std.proofs.Common.{slice_get}
use Rattle.module_instances.proofs.StoringLemmas.{constant_elems, constant_segments, instance_read, fitting_elems, fitting_segments, initialized_is}
use Rattle.module_instances.proofs.storing.initialize.Goals as goal

pub write_elems-requires-clause-constant : goal.write_elems-requires-clause-constant
write_elems-requires-clause-constant c = constant_elems c.args.module.now c.as_slice-3.result.now c.as_slice-3.ensures c.requires.elems

pub write_elems-requires-clause-fits : goal.write_elems-requires-clause-fits
write_elems-requires-clause-fits c =
    let r = c.index-as_slice-number.result in
    let here = instance_read c.args.store.now.instances c.as_slice.result.now c.args.number r c.requires.there c.as_slice.ensures c.index-as_slice-number.is in
    fitting_elems c.args.store.now r c.args.module.now c.as_slice-2.result.now c.as_slice-3.result.now c.as_slice-2.ensures c.as_slice-3.ensures (c.requires.fits r here)

pub write_segments-requires-clause-constant : goal.write_segments-requires-clause-constant
write_segments-requires-clause-constant c = constant_segments c.args.module.now c.as_slice-5.result.now c.as_slice-5.ensures c.requires.segments

pub write_segments-requires-clause-fits : goal.write_segments-requires-clause-fits
write_segments-requires-clause-fits c =
    let r = c.index-as_slice-number.result in
    let here = instance_read c.args.store.now.instances c.as_slice.result.now c.args.number r c.requires.there c.as_slice.ensures c.index-as_slice-number.is in
    fitting_segments c.args.store.now r c.args.module.now c.as_slice-4.result.now c.as_slice-5.result.now c.as_slice-4.ensures c.as_slice-5.ensures (c.requires.fits r here)

pub returns : goal.returns
returns c = λ i there.
    let s = c.args.store.now in
    let r = c.index-as_slice-number.result in
    let here = instance_read s.instances c.as_slice.result.now c.args.number r c.requires.there c.as_slice.ensures c.index-as_slice-number.is in
    initialized_is s i r c.args.module.now c.as_slice-2.result.now c.as_slice-4.result.now c.as_slice-3.result.now c.as_slice-5.result.now c.write_elems.new.tables c.write_segments.new.memories
    (same_some (slice_get s.instances c.args.number) i r there here) c.as_slice-2.ensures c.as_slice-3.ensures c.as_slice-4.ensures c.as_slice-5.ensures c.write_elems.ensures c.write_segments.ensures
