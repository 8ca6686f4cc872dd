use Rattle.integer_rules.proofs.TakenRows.{takes_range, takes_add, takes_addwrap, takes_sub, takes_subwrap, takes_mul, takes_divu, takes_divs, takes_test, takes_zero, takes_tests, takes_sgn, takes_shift, takes_mask, takes_changed, takes_low, takes_sext}
use Rattle.integer_rules.proofs.laws.rows_are_instances.Goals as goal

pub returns : goal.returns
returns c = record {
  range = takes_range;
  add = takes_add;
  addwrap = takes_addwrap;
  sub = takes_sub;
  subwrap = takes_subwrap;
  mul = takes_mul;
  divu = takes_divu;
  divs = takes_divs;
  test = takes_test;
  zero = takes_zero;
  tests = takes_tests;
  sgn = takes_sgn;
  shift = takes_shift;
  mask = takes_mask;
  widen = takes_changed;
  low = takes_low;
  sext = takes_sext;
}
