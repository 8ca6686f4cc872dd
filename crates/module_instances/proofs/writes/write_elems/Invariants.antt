use Rattle.std.proofs.Common.{◌≡◌, take, true}
use Rattle.std.specs.Prelude.{fold}
use Rattle.std.specs.List.{list_all}
use Rattle.module_instances.specs.words.Building.{elem_fits_in, tables_written}
use Rattle.module_instances.proofs.writes.write_elems.Given as goal

abbrev pub invariant-loop-elem : goal.invariant-loop-elem
invariant-loop-elem l = record {
  written : l.tables ≡ fold (tables_written l.instance l.globals) l.initial.tables (take l.elem-index l.elems);
  fits : list_all (elem_fits_in l.tables l.globals l.instance.tables l.instance.globals) l.elems ≡ true;
}
